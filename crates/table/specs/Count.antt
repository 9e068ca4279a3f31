-- Counting the rows of a list that pass a test, and a table's two moves. Assumes nothing.
use Rattle.std.specs.Prelude.{ℕ, ◌+◌, Bool, false, cond, ◌||◌, List, [], ◌∷◌, nat_le}

abbrev pub bit : Bool → ℕ
bit b = cond b 1 0

-- how many pass
abbrev pub cnt : {X : Type 0} → (X → Bool) → List X → ℕ
cnt p [] = 0
cnt p (x ∷ xs) = bit (p x) + cnt p xs

-- whether one passes
abbrev pub has : {X : Type 0} → (X → Bool) → List X → Bool
has p [] = false
has p (x ∷ xs) = p x || has p xs

-- those that pass
abbrev pub pick : {X : Type 0} → (X → Bool) → List X → List X
pick p [] = []
pick p (x ∷ xs) = cond (p x) (x ∷ pick p xs) (pick p xs)

-- those that do not pass
abbrev pub cut : {X : Type 0} → (X → Bool) → List X → List X
cut p [] = []
cut p (x ∷ xs) = cond (p x) (cut p xs) (x ∷ cut p xs)

-- a row at its rank, behind its equals
abbrev pub put : {X : Type 0} → (X → ℕ) → X → List X → List X
put rank r [] = r ∷ []
put rank r (x ∷ xs) = cond (nat_le (rank x) (rank r)) (x ∷ put rank r xs) (r ∷ x ∷ xs)
