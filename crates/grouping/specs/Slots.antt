-- By slot: every binary stands in process 2.
use Rattle.std.specs.Prelude.{◌≡◌, ℕ, Some, Option}
use Rattle.std.proofs.Common.{arith}
use Rattle.grouping.specs.Asked.{InRange}

abbrev pub all_tests : ℕ
all_tests = 2

pub two_ranged : (p : ℕ) → ◌≡◌ {A = Option ℕ} (Some all_tests) (Some p) → InRange p
two_ranged p e = let q : 2 ≡ p = cc in (omega arith, omega arith)
