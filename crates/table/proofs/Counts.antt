-- Laws of counting, of what is put in, cut out and picked. Assumes nothing.
use Rattle.std.proofs.Common.{◌≡◌, ℕ, ◌+◌, ◌≤◌, Bool, true, false, not, ◌&&◌, ◌||◌, List, [], ◌∷◌, ◌++◌, map, length, refl, ap, arith}
use Rattle.table.specs.Count.{bit, cnt, has, cut, put, pick}

module _ {X : Type 0} where
  pub cnt_append : (p : X → Bool) (xs ys : List X) → cnt p (xs ++ ys) ≡ cnt p xs + cnt p ys
  cnt_append p [] ys = omega arith
  cnt_append p (x ∷ xs) ys = omega (arith, cnt_append p xs ys)

  pub cnt_put : (p : X → Bool) (rank : X → ℕ) (r : X) (xs : List X) → cnt p (put rank r xs) ≡ bit (p r) + cnt p xs
  cnt_put p rank r [] = refl
  cnt_put p rank r (x ∷ xs) = let ih = cnt_put p rank r xs in grind arith

  pub cnt_cut : (p q : X → Bool) (xs : List X) → cnt p (cut q xs) ≡ cnt (λ x. p x && not (q x)) xs
  cnt_cut p q [] = refl
  cnt_cut p q (x ∷ xs) = let ih = cnt_cut p q xs in grind arith

  pub cnt_split : (p q : X → Bool) (xs : List X) → cnt p xs ≡ cnt (λ x. p x && q x) xs + cnt (λ x. p x && not (q x)) xs
  cnt_split p q [] = refl
  cnt_split p q (x ∷ xs) = let ih = cnt_split p q xs in grind arith

  pub cnt_le : (p q : X → Bool) → ((x : X) → p x ≡ true → q x ≡ true) → (xs : List X) → cnt p xs ≤ cnt q xs
  cnt_le p q h [] = omega arith
  cnt_le p q h (x ∷ xs) = let ih = cnt_le p q h xs in let k = h x in grind arith

  pub cnt_and_left : (p q : X → Bool) (xs : List X) → cnt (λ x. p x && q x) xs ≤ cnt p xs
  cnt_and_left p q xs = omega (arith, cnt_split p q xs)

  pub cnt_and_right : (p q : X → Bool) (xs : List X) → cnt (λ x. p x && q x) xs ≤ cnt q xs
  cnt_and_right p q [] = omega arith
  cnt_and_right p q (x ∷ xs) = let ih = cnt_and_right p q xs in grind arith

  pub cnt_same : (p q : X → Bool) → ((x : X) → p x ≡ q x) → (xs : List X) → cnt p xs ≡ cnt q xs
  cnt_same p q h [] = refl
  cnt_same p q h (x ∷ xs) = let ih = cnt_same p q h xs in let k = h x in rw (k, ih) refl

  pub cnt_none : (p : X → Bool) → ((x : X) → p x ≡ false) → (xs : List X) → cnt p xs ≡ 0
  cnt_none p h [] = refl
  cnt_none p h (x ∷ xs) = let ih = cnt_none p h xs in let k = h x in grind arith

  -- tests that no row passes together
  pub cnt_apart : (p q s : X → Bool) → ((x : X) → p x ≡ true → q x ≡ true → ⊥) → (xs : List X) → cnt (λ x. p x && s x) xs + cnt (λ x. q x && s x) xs ≤ cnt s xs
  cnt_apart p q s h [] = omega arith
  cnt_apart p q s h (x ∷ xs) = let ih = cnt_apart p q s h xs in let k = h x in grind arith

  pub cnt_cut_le : (p q : X → Bool) (xs : List X) → cnt p (cut q xs) ≤ cnt p xs
  cnt_cut_le p q [] = omega arith
  cnt_cut_le p q (x ∷ xs) = let ih = cnt_cut_le p q xs in grind arith

  -- none is left of those that are cut out
  pub cnt_cut_all : (p q : X → Bool) → ((x : X) → p x ≡ true → q x ≡ true) → (xs : List X) → cnt p (cut q xs) ≡ 0
  cnt_cut_all p q h [] = refl
  cnt_cut_all p q h (x ∷ xs) = let ih = cnt_cut_all p q h xs in let k = h x in grind arith

  pub has_cnt : (p : X → Bool) (xs : List X) → has p xs ≡ true → 1 ≤ cnt p xs
  has_cnt p [] e = grind arith
  has_cnt p (x ∷ xs) e = let ih = has_cnt p xs in grind arith

  pub hasnt_cnt : (p : X → Bool) (xs : List X) → has p xs ≡ false → cnt p xs ≡ 0
  hasnt_cnt p [] e = refl
  hasnt_cnt p (x ∷ xs) e = let ih = hasnt_cnt p xs in grind arith

  pub cnt_hasnt : (p : X → Bool) (xs : List X) → cnt p xs ≡ 0 → has p xs ≡ false
  cnt_hasnt p [] e = refl
  cnt_hasnt p (x ∷ xs) e = let ih = cnt_hasnt p xs in grind arith

  pub cnt_has : (p : X → Bool) (xs : List X) → 1 ≤ cnt p xs → has p xs ≡ true
  cnt_has p [] e = let z : ⊥ = omega arith in absurd z
  cnt_has p (x ∷ xs) e = let ih = cnt_has p xs in grind arith

  pub has_put : (p : X → Bool) (rank : X → ℕ) (r : X) (xs : List X) → has p (put rank r xs) ≡ (p r || has p xs)
  has_put p rank r [] = refl
  has_put p rank r (x ∷ xs) = let ih = has_put p rank r xs in grind arith

  pub has_cut : (p q : X → Bool) (xs : List X) → has p (cut q xs) ≡ has (λ x. p x && not (q x)) xs
  has_cut p q [] = refl
  has_cut p q (x ∷ xs) = let ih = has_cut p q xs in grind arith

  pub length_put : (rank : X → ℕ) (r : X) (xs : List X) → length (put rank r xs) ≡ length xs + 1
  length_put rank r [] = omega arith
  length_put rank r (x ∷ xs) = let ih = length_put rank r xs in grind arith

  pub length_cut : (p : X → Bool) (xs : List X) → length (cut p xs) + cnt p xs ≡ length xs
  length_cut p [] = omega arith
  length_cut p (x ∷ xs) = let ih = length_cut p xs in grind arith

  pub length_pick : (p : X → Bool) (xs : List X) → length (pick p xs) ≡ cnt p xs
  length_pick p [] = refl
  length_pick p (x ∷ xs) = let ih = length_pick p xs in grind arith

  pub pick_none : (p : X → Bool) (xs : List X) → cnt p xs ≡ 0 → pick p xs ≡ []
  pick_none p [] e = refl
  pick_none p (x ∷ xs) e = let ih = pick_none p xs in grind arith

  pub cut_none : (p : X → Bool) (xs : List X) → cnt p xs ≡ 0 → cut p xs ≡ xs
  cut_none p [] e = refl
  cut_none p (x ∷ xs) e = let ih = cut_none p xs in grind arith

  -- nothing is picked, so none passes
  pub unpicked : (p : X → Bool) (xs : List X) → pick p xs ≡ [] → cnt p xs ≡ 0
  unpicked p xs e = omega (arith, length_pick p xs, ap length e)

  pub pick_put_other : (p : X → Bool) (rank : X → ℕ) (r : X) (xs : List X) → p r ≡ false → pick p (put rank r xs) ≡ pick p xs
  pick_put_other p rank r [] f = grind arith
  pick_put_other p rank r (x ∷ xs) f = let ih = pick_put_other p rank r xs f in grind arith

  pub pick_put_one : (p : X → Bool) (rank : X → ℕ) (r : X) (xs : List X) → p r ≡ true → pick p xs ≡ [] → pick p (put rank r xs) ≡ r ∷ []
  pick_put_one p rank r [] t e = grind arith
  pick_put_one p rank r (x ∷ xs) t e = let ih = pick_put_one p rank r xs t in grind arith

  pub pick_cut_other : (p q : X → Bool) → ((x : X) → p x ≡ true → q x ≡ false) → (xs : List X) → pick p (cut q xs) ≡ pick p xs
  pick_cut_other p q h [] = refl
  pick_cut_other p q h (x ∷ xs) = let ih = pick_cut_other p q h xs in let k = h x in grind arith

  pub pick_cut : (p q : X → Bool) (xs : List X) → pick p (cut q xs) ≡ cut q (pick p xs)
  pick_cut p q [] = refl
  pick_cut p q (x ∷ xs) = let ih = pick_cut p q xs in grind arith

  pub pick_append : (p : X → Bool) (xs ys : List X) → pick p (xs ++ ys) ≡ pick p xs ++ pick p ys
  pick_append p [] ys = refl
  pick_append p (x ∷ xs) ys = let ih = pick_append p xs ys in grind arith

pub cnt_map : {X Y : Type 0} (p : Y → Bool) (f : X → Y) (xs : List X) → cnt p (map f xs) ≡ cnt (λ x. p (f x)) xs
cnt_map p f [] = refl
cnt_map p f (x ∷ xs) = omega (arith, cnt_map p f xs)
