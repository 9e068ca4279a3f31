-- The order of a table's rows. Assumes nothing.
use Rattle.std.specs.Prelude.{◌≡◌, ℕ, Bool, List, [], ◌∷◌, ◌==◌, nat_lt}
use Rattle.table.specs.Count.{cnt, pick}

-- the test that a row has a lower rank than x
abbrev pub below : {X : Type 0} → (X → ℕ) → X → X → Bool
below rank x y = nat_lt (rank y) (rank x)

-- the test that a row has the rank n
abbrev pub at_rank : {X : Type 0} → (X → ℕ) → ℕ → X → Bool
at_rank rank n x = n == rank x

-- behind no row stands one of a lower rank
abbrev pub Sorted : {X : Type 0} → (X → ℕ) → List X → Type 0
Sorted rank [] = Unit {0}
Sorted rank (x ∷ xs) = (cnt (below rank x) xs ≡ 0) × Sorted rank xs

-- rows by rank, and those of equal rank in the order in which they arrived
pub record Ordered {X : Type 0} (rank : X → ℕ) (arrived rows : List X) : Type 0 where
  pub sorted : Sorted rank rows
  pub by_arrival : (n : ℕ) → pick (at_rank rank n) rows ≡ pick (at_rank rank n) arrived
