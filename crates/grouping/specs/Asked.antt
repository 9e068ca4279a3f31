-- What a grouping answers of a binary, and what it knows once it has learnt one.
use Rattle.std.specs.Prelude.{ℕ, ◌≤◌, cond, List, Some, Option, ◌==◌}
use Rattle.std.specs.Option.{option_or}

-- processes of tests are 2 to 1,000,000
abbrev pub InRange : ℕ → Type 0
InRange p = (2 ≤ p) × (p ≤ 1000000)

-- a binary's process, or else the offer for its id text
abbrev pub asked : (ℕ → Option ℕ) → (List ℕ → Option ℕ) → ℕ → List ℕ → Option ℕ
asked process offer b id = option_or (process b) (offer id)

-- the binary has this process, and each other binary what it had
abbrev pub learnt : (ℕ → Option ℕ) → ℕ → ℕ → ℕ → Option ℕ
learnt process b p c = cond (c == b) (Some p) (process c)
