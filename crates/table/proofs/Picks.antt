-- A row's place, by its key and by its rank.
use Rattle.std.proofs.Common.{◌≡◌, ℕ, suc, ◌<◌, ◌≤◌, Bool, leb, List, [], ◌∷◌, length, get_or, is_some, Some, None, Option, ◌+◌, inl, inr, sym, ◌∙◌, refl, ap, arith}
use Rattle.std.proofs.lemmas.Bool.{cases_Bool, cases_lt, lt-ltb, le-ltb}
use Rattle.std.specs.List.{find, insert, remove, position, position_or_len, prefix_len}
use Rattle.table.specs.Count.{cnt, has, cut, put, pick}
use Rattle.table.specs.Keyed.{lone}
use Rattle.table.proofs.Counts.{pick_none, cut_none, cnt_has, cnt_hasnt, length_pick}

module _ {X : Type 0} (p : X → Bool) where
  -- the first that passes is the only one
  pub pick_find : (xs : List X) → cnt p xs ≤ 1 → lone (find p xs) ≡ pick p xs
  pick_find [] one = refl
  pick_find (x ∷ xs) one = let ih = pick_find xs in let n = pick_none p xs in grind arith

  pick_first : (xs : List X) (d : X) → cnt p xs ≤ 1 → position_or_len p xs < length xs → get_or xs (position_or_len p xs) d ∷ [] ≡ pick p xs
  pick_first [] d one lt = let z : ⊥ = omega arith in absurd z
  pick_first (x ∷ xs) d one lt = let ih = pick_first xs d in let n = pick_none p xs in grind arith

  remove_more : (x : X) (xs : List X) (i : ℕ) → remove (x ∷ xs) (1 + i) ≡ x ∷ remove xs i
  remove_more x xs i = let e : 1 + i ≡ suc i = omega arith in ap (remove (x ∷ xs)) e

  cut_first : (xs : List X) → cnt p xs ≤ 1 → position_or_len p xs < length xs → remove xs (position_or_len p xs) ≡ cut p xs
  cut_first [] one lt = let z : ⊥ = omega arith in absurd z
  cut_first (x ∷ xs) one lt = elim (cases_Bool (p x)) [
    | inl t ↦ let n = cut_none p xs in grind arith
    | inr f ↦ let ih = cut_first xs in let m = remove_more x xs (position_or_len p xs) in grind arith
  ]

  cnt_past : (xs : List X) → length xs ≤ position_or_len p xs → cnt p xs ≡ 0
  cnt_past [] le = refl
  cnt_past (x ∷ xs) le = let ih = cnt_past xs in grind arith

  -- what an answer of `position` says
  pub absent : (xs : List X) → None ≡ position p xs → cnt p xs ≡ 0
  absent xs e = elim (cases_lt (position_or_len p xs) (length xs)) [
    | inl h ↦ let s : position p xs ≡ Some (position_or_len p xs) = rw (lt-ltb (position_or_len p xs) (length xs) h) refl in cc
    | inr h ↦ cnt_past xs h
  ]

  present : (xs : List X) (i : ℕ) → Some i ≡ position p xs → (i ≡ position_or_len p xs) × (position_or_len p xs < length xs)
  present xs i e = elim (cases_lt (position_or_len p xs) (length xs)) [
    | inl h ↦ let s : position p xs ≡ Some (position_or_len p xs) = rw (lt-ltb (position_or_len p xs) (length xs) h) refl in ((cc), h)
    | inr h ↦ let s : position p xs ≡ None = rw (le-ltb (position_or_len p xs) (length xs) h) refl in cc
  ]

  -- the place of the one that passes
  pub taken_out : (xs : List X) (i : ℕ) → Some i ≡ position p xs → cnt p xs ≤ 1 → (i < length xs) × (remove xs i ≡ cut p xs) × ((d : X) → get_or xs i d ∷ [] ≡ pick p xs)
  taken_out xs i e one =
      let h = present xs i e in
      (omega arith, ap (remove xs) h.0 ∙ cut_first xs one h.1, λ d. ap (λ k. get_or xs k d ∷ []) h.0 ∙ pick_first xs d one h.1)

  -- a row was picked exactly where one passes
  pub lone_has : (o : Option X) (xs : List X) → lone o ≡ pick p xs → is_some o ≡ has p xs
  lone_has (Some x) xs e = sym (cnt_has p xs (omega (arith, length_pick p xs, ap length e)))
  lone_has None xs e = sym (cnt_hasnt p xs (omega (arith, length_pick p xs, ap length e)))

module _ {X : Type 0} where
  insert_more : (x : X) (xs : List X) (i : ℕ) (r : X) → insert (x ∷ xs) (1 + i) r ≡ x ∷ insert xs i r
  insert_more x xs i r = let e : 1 + i ≡ suc i = omega arith in ap (λ k. insert (x ∷ xs) k r) e

  -- a row's place is behind those of its rank or lower that stand in front
  pub put_first : (rank : X → ℕ) (r : X) (xs : List X) → put rank r xs ≡ insert xs (prefix_len (λ x. leb (rank x) (rank r)) xs) r
  put_first rank r [] = refl
  put_first rank r (x ∷ xs) = elim (cases_Bool (leb (rank x) (rank r))) [
    | inl t ↦ let ih = put_first rank r xs in let m = insert_more x xs (prefix_len (λ x. leb (rank x) (rank r)) xs) r in rw t (ap (λ l. x ∷ l) ih ∙ sym m)
    | inr f ↦ rw f refl
  ]
