-- By binary: each binary has the process of its row.
use Rattle.std.specs.Prelude.{◌≡◌, ℕ, ◌+◌, ◌<◌, ◌≤◌, Bool, true, false, cond, List, [], ◌∷◌, Some, None, Option, nat_eq, nat_lt, refl}
use Rattle.std.proofs.Common.{arith, ltb-true}
use Rattle.table.specs.Count.{pick}
use Rattle.table.specs.Keyed.{of}
use Rattle.rows.specs.Keys.{binary_key}
use Rattle.rows.specs.declared.known_binary.KnownBinary.{KnownBinary}
use Rattle.grouping.specs.Asked.{InRange}

abbrev pub first_process : List KnownBinary → Option ℕ
first_process [] = None
first_process (r ∷ rs) = Some r.process

-- the process of the binary's row
abbrev pub process_in : List KnownBinary → ℕ → Option ℕ
process_in rows b = first_process (pick (of nat_eq binary_key b) rows)

-- each process that is there is one that a test may have
abbrev pub Ranged : List KnownBinary → Type 0
Ranged rows = (b p : ℕ) → process_in rows b ≡ Some p → InRange p

-- one process more than there are binaries, while a row is free
abbrev pub offer_in : ℕ → ℕ → Option ℕ
offer_in known places = cond (nat_lt known places) (Some (2 + known)) None

offered : (b : Bool) (known places p : ℕ) → nat_lt known places ≡ b → (b ≡ true → known < places) → places ≤ 4096 → cond b (Some (2 + known)) None ≡ Some p → InRange p
offered true known places p t lt le e = let q : 2 + known ≡ p = cc in let k : known < places = lt refl in (omega arith, omega arith)
offered false known places p t lt le e = let w : ◌≡◌ {A = ℕ} 0 1 = cc in let v : ⊥ = omega arith in elim v [ ]

pub offer_ranged : (known places p : ℕ) → places ≤ 4096 → offer_in known places ≡ Some p → InRange p
offer_ranged known places p le e = offered (nat_lt known places) known places p refl (λ t. omega (arith, ltb-true known places t)) le e
