-- The laws of a table at each of the six kinds.
use Rattle.std.proofs.Common.{ℕ, eqb}
use Rattle.std.specs.Cmp.{nat_eq_equiv}
use Rattle.table.specs.Law.{Stands}
use Rattle.table.proofs.Laws.{stands}
use Rattle.rows.specs.Keys.{same_test, same_lane, running_key, running_rank, waiting_key, script_key, binary_key, process_key, lane_key, unranked}
use Rattle.rows.specs.Alike.{test_equiv, lane_equiv}

by_number : {R : Type 0} (key : R → ℕ) (rank : R → ℕ) → Stands eqb key rank
by_number key rank = stands eqb key rank nat_eq_equiv

pub running_tests : Stands same_test running_key running_rank
running_tests = stands same_test running_key running_rank test_equiv

pub waiting_tests : Stands same_test waiting_key unranked
waiting_tests = stands same_test waiting_key unranked test_equiv

pub running_scripts : Stands eqb script_key script_key
running_scripts = by_number script_key script_key

pub known_binaries : Stands eqb binary_key unranked
known_binaries = by_number binary_key unranked

pub named_processes : Stands eqb process_key unranked
named_processes = by_number process_key unranked

pub named_lanes : Stands same_lane lane_key unranked
named_lanes = stands same_lane lane_key unranked lane_equiv
