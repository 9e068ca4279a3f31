-- The key and the rank of each kind of row, and when two keys are the same.
use Rattle.std.specs.Prelude.{ℕ, Bool, ◌&&◌, ◌==◌}
use Rattle.rows.specs.declared.TestKey.{TestKey}
use Rattle.rows.specs.declared.running_test.RunningTest.{RunningTest}
use Rattle.rows.specs.declared.waiting_test.WaitingTest.{WaitingTest}
use Rattle.rows.specs.declared.running_script.RunningScript.{RunningScript}
use Rattle.rows.specs.declared.known_binary.KnownBinary.{KnownBinary}
use Rattle.rows.specs.declared.named_process.NamedProcess.{NamedProcess}
use Rattle.rows.specs.declared.named_lane.NamedLane.{NamedLane}

abbrev pub same_test : TestKey → TestKey → Bool
same_test a b = a.binary == b.binary && a.test == b.test

-- a process and the number of a lane in it
abbrev pub same_lane : ℕ × ℕ → ℕ × ℕ → Bool
same_lane a b = a.0 == b.0 && a.1 == b.1

abbrev pub running_key : RunningTest → TestKey
running_key r = r.key

abbrev pub running_rank : RunningTest → ℕ
running_rank r = r.slot

abbrev pub waiting_key : WaitingTest → TestKey
waiting_key r = r.key

abbrev pub script_key : RunningScript → ℕ
script_key r = r.index

abbrev pub binary_key : KnownBinary → ℕ
binary_key r = r.binary

abbrev pub process_key : NamedProcess → ℕ
process_key r = r.process

abbrev pub lane_key : NamedLane → ℕ × ℕ
lane_key r = (r.process, r.lane)

-- rows whose order is that of their arrival
abbrev pub unranked : {R : Type 0} → R → ℕ
unranked _ = 0
