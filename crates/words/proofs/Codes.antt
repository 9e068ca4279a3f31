-- A number that is no code stands for nothing.
use Rattle.std.proofs.Common.{◌≡◌, ◌≢◌, ℕ, zero, suc, ◌+◌, List, [], ◌∷◌, map, get_or, None, Option, sym, refl, ◌∙◌, arith}
use Rattle.std.specs.Bool.{⊤}

-- these have the numbers from i on
abbrev pub Numbered : {K : Type 0} → (K → ℕ) → ℕ → List K → Type 0
Numbered code i [] = ⊤
Numbered code i (k ∷ ks) = (code k ≡ i) × Numbered code (suc i) ks

-- a table of them has nothing at a number that none of them has
pub beyond : {K X : Type 0} (code : K → ℕ) (f : K → Option X) (ks : List K) (i n : ℕ) → Numbered code i ks → ((k : K) → code k ≢ i + n) → None ≡ get_or (map f ks) n None
beyond code f [] i n p h = refl
beyond code f (k ∷ ks) i zero p h = let e : code k ≡ i = p.0 in absurd (h k (omega arith))
beyond code f (k ∷ ks) i (suc n) p h = beyond code f ks (suc i) n p.1 (λ j e. h j (omega arith))

-- and so has one that has nothing for the number 0
pub unnumbered : {K X : Type 0} (code : K → ℕ) (ks : List K) (t : ℕ → Option X) (n : ℕ) → Numbered code 1 ks → t n ≡ get_or (None ∷ map (λ k. t (code k)) ks) n None → ((k : K) → code k ≢ n) → None ≡ t n
unnumbered code ks t zero p e h = sym e
unnumbered code ks t (suc n) p e h = beyond code (λ k. t (code k)) ks 1 n p (λ k w. h k (omega arith)) ∙ sym e
