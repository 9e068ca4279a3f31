-- Rows that are told apart by a key.
use Rattle.std.specs.Prelude.{ℕ, ◌≤◌, Bool, List, [], ◌∷◌, Some, None, Option}
use Rattle.table.specs.Count.{cnt, cut, put}

-- the test that a row has the key k
abbrev pub of : {K R : Type 0} → (K → K → Bool) → (R → K) → K → R → Bool
of same key k r = same k (key r)

-- at most one row of each key
abbrev pub Single : {K R : Type 0} → (K → K → Bool) → (R → K) → List R → Type 0
Single {K} same key xs = (k : K) → cnt (of same key k) xs ≤ 1

-- the rows after one is put in: those of its key give way to it
abbrev pub entered : {K R : Type 0} → (K → K → Bool) → (R → K) → (R → ℕ) → R → List R → List R
entered same key rank r xs = put rank r (cut (of same key (key r)) xs)

-- an answer as a list of at most one
abbrev pub lone : {X : Type 0} → Option X → List X
lone (Some x) = x ∷ []
lone None = []

-- the most rows that a table holds, whatever its memory
abbrev pub most : ℕ
most = 4096
