-- The order of rows is kept by both moves.
use Rattle.std.proofs.Common.{◌≡◌, ℕ, ◌<◌, ◌≤◌, Bool, true, false, cond, eqb, leb, List, [], ◌∷◌, ◌++◌, length, sym, refl, ap, ◌∙◌, ap₂, inl, inr, arith}
use Rattle.std.proofs.lemmas.Bool.{leb-true, leb-false, ltb-true, lt-ltb, le-ltb, eqb-true, eq-eqb, cases_lt}
use Rattle.std.proofs.lemmas.Bool.Decides.{nat_tests}
use Rattle.std.proofs.lemmas.List.{append-nil}
use Rattle.table.specs.Count.{bit, cnt, cut, put, pick}
use Rattle.table.specs.Order.{below, at_rank, Sorted, Ordered}
use Rattle.table.proofs.Counts.{cnt_put, cnt_le, cnt_cut_le, length_pick, pick_none, pick_append, pick_cut}

module _ {X : Type 0} (rank : X → ℕ) where
  sorted_cond : (b : Bool) (x : X) (xs : List X) → cnt (below rank x) xs ≡ 0 → Sorted rank xs → Sorted rank (cond b xs (x ∷ xs))
  sorted_cond true x xs e s = s
  sorted_cond false x xs e s = (e, s)

  pub sorted_cut : (p : X → Bool) (xs : List X) → Sorted rank xs → Sorted rank (cut p xs)
  sorted_cut p [] s = tt
  sorted_cut p (x ∷ xs) s = sorted_cond (p x) x (cut p xs) (omega (arith, cnt_cut_le (below rank x) p xs, s.0)) (sorted_cut p xs s.1)

  -- a row before one of a higher rank: none behind is lower
  above : (r x : X) (xs : List X) → rank r < rank x → cnt (below rank x) xs ≡ 0 → cnt (below rank r) xs ≡ 0
  above r x xs lt e = omega (arith, cnt_le (below rank r) (below rank x) (λ y t. let h = ltb-true (rank y) (rank r) t in lt-ltb (rank y) (rank x) (omega arith)) xs)

  sorted_step : (b : Bool) (r x : X) (xs : List X) → leb (rank x) (rank r) ≡ b → Sorted rank (x ∷ xs) → Sorted rank (put rank r xs) → Sorted rank (cond b (x ∷ put rank r xs) (r ∷ x ∷ xs))
  sorted_step true r x xs e s ih =
      let f : bit (below rank x r) ≡ 0 = ap bit (le-ltb (rank r) (rank x) (leb-true (rank x) (rank r) e)) in
      (omega (arith, cnt_put (below rank x) rank r xs, s.0), ih)
  sorted_step false r x xs e s ih =
      let l = leb-false (rank x) (rank r) e in
      let f : bit (below rank r x) ≡ 0 = ap bit (le-ltb (rank x) (rank r) (omega arith)) in
      (omega (arith, above r x xs l s.0), s)

  pub sorted_put : (r : X) (xs : List X) → Sorted rank xs → Sorted rank (put rank r xs)
  sorted_put r [] s = (refl, tt)
  sorted_put r (x ∷ xs) s = sorted_step (leb (rank x) (rank r)) r x xs refl s (sorted_put r xs s.1)

  -- rows behind one of a higher rank are not of this rank
  none_at : (n : ℕ) (x : X) (xs : List X) → n < rank x → cnt (below rank x) xs ≡ 0 → cnt (at_rank rank n) (x ∷ xs) ≡ 0
  none_at n x xs lt e =
      let z : cnt (at_rank rank n) xs ≡ 0 = omega (arith, cnt_le (at_rank rank n) (below rank x) (λ y h. let k = eqb-true n (rank y) h in lt-ltb (rank y) (rank x) (omega arith)) xs) in
      let b : bit (eqb n (rank x)) ≡ 0 = grind (arith, nat_tests) in
      omega arith

  -- where a row stands before one of a higher rank, none of its own rank stands behind
  none_equal : (r x : X) (xs : List X) (n : ℕ) → rank r < rank x → cnt (below rank x) xs ≡ 0 → eqb n (rank r) ≡ true → pick (at_rank rank n) (x ∷ xs) ≡ []
  none_equal r x xs n lt e t = pick_none (at_rank rank n) (x ∷ xs) (none_at n x xs (omega (arith, eqb-true n (rank r) t)) e)

  before_cond : (a : Bool) (x : X) (p q s : List X) → p ≡ q ++ s → cond a (x ∷ p) p ≡ cond a (x ∷ q) q ++ s
  before_cond true x p q s e = ap (λ l. x ∷ l) e
  before_cond false x p q s e = e

  behind_cond : (b : Bool) (r : X) (l : List X) → (b ≡ true → l ≡ []) → cond b (r ∷ l) l ≡ l ++ cond b (r ∷ []) []
  behind_cond true r l h = ap (λ k. r ∷ k) (h refl) ∙ sym (ap (λ k. k ++ (r ∷ [])) (h refl))
  behind_cond false r l h = sym (append-nil l)

  pick_step : (b : Bool) (r x : X) (xs : List X) (n : ℕ) → leb (rank x) (rank r) ≡ b → Sorted rank (x ∷ xs) → pick (at_rank rank n) (put rank r xs) ≡ pick (at_rank rank n) xs ++ pick (at_rank rank n) (r ∷ []) → pick (at_rank rank n) (cond b (x ∷ put rank r xs) (r ∷ x ∷ xs)) ≡ pick (at_rank rank n) (x ∷ xs) ++ pick (at_rank rank n) (r ∷ [])
  pick_step true r x xs n e s ih = before_cond (at_rank rank n x) x _ _ _ ih
  pick_step false r x xs n e s ih = behind_cond (at_rank rank n r) r (pick (at_rank rank n) (x ∷ xs)) (none_equal r x xs n (leb-false (rank x) (rank r) e) s.0)

  -- a row is put behind its equals
  pub pick_put : (r : X) (xs : List X) (n : ℕ) → Sorted rank xs → pick (at_rank rank n) (put rank r xs) ≡ pick (at_rank rank n) xs ++ pick (at_rank rank n) (r ∷ [])
  pick_put r [] n s = refl
  pick_put r (x ∷ xs) n s = pick_step (leb (rank x) (rank r)) r x xs n refl s (pick_put r xs n s.1)

  pub ordered_none : Ordered rank [] []
  ordered_none = record { sorted = tt; by_arrival = λ _. refl }

  pub ordered_put : (r : X) (arrived xs : List X) → Ordered rank arrived xs → Ordered rank (arrived ++ (r ∷ [])) (put rank r xs)
  ordered_put r arrived xs o = record {
    sorted = sorted_put r xs o.sorted;
    by_arrival = λ n. pick_put r xs n o.sorted ∙ (ap (λ l. l ++ pick (at_rank rank n) (r ∷ [])) (o.by_arrival n) ∙ sym (pick_append (at_rank rank n) arrived (r ∷ [])));
  }

  pub ordered_cut : (p : X → Bool) (arrived xs : List X) → Ordered rank arrived xs → Ordered rank (cut p arrived) (cut p xs)
  ordered_cut p arrived xs o = record {
    sorted = sorted_cut p xs o.sorted;
    by_arrival = λ n. pick_cut (at_rank rank n) p xs ∙ (ap (cut p) (o.by_arrival n) ∙ sym (pick_cut (at_rank rank n) p arrived));
  }

  one_at : (x : X) (xs : List X) → 1 ≤ cnt (at_rank rank (rank x)) (x ∷ xs)
  one_at x xs = let b : bit (eqb (rank x) (rank x)) ≡ 1 = ap bit (eq-eqb (rank x) (rank x) refl) in omega arith

  least : (x y : X) (xs ys : List X) → Sorted rank (y ∷ ys) → cnt (at_rank rank (rank x)) (x ∷ xs) ≡ cnt (at_rank rank (rank x)) (y ∷ ys) → rank y ≤ rank x
  least x y xs ys s e = elim (cases_lt (rank x) (rank y)) [
    | inl h ↦ let z : ⊥ = omega (arith, one_at x xs, none_at (rank x) y ys h s.0) in absurd z
    | inr h ↦ h
  ]

  head_of : (x y : X) (p q : List X) → x ∷ p ≡ y ∷ q → x ≡ y
  head_of x y p q e = cc

  tail_of : (b : Bool) (x y : X) (p q : List X) → cond b (x ∷ p) p ≡ cond b (y ∷ q) q → p ≡ q
  tail_of true x y p q e = cc
  tail_of false x y p q e = e

  same_rows : (xs ys : List X) → Sorted rank xs → Sorted rank ys → ((n : ℕ) → pick (at_rank rank n) xs ≡ pick (at_rank rank n) ys) → xs ≡ ys
  same_rows [] [] s t e = refl
  same_rows [] (y ∷ ys) s t e = let z : ⊥ = omega (arith, one_at y ys, length_pick (at_rank rank (rank y)) (y ∷ ys), ap length (e (rank y))) in absurd z
  same_rows (x ∷ xs) [] s t e = let z : ⊥ = omega (arith, one_at x xs, length_pick (at_rank rank (rank x)) (x ∷ xs), ap length (e (rank x))) in absurd z
  same_rows (x ∷ xs) (y ∷ ys) s t e =
      let f : (n : ℕ) → cnt (at_rank rank n) (x ∷ xs) ≡ cnt (at_rank rank n) (y ∷ ys) = λ n. sym (length_pick (at_rank rank n) (x ∷ xs)) ∙ (ap length (e n) ∙ length_pick (at_rank rank n) (y ∷ ys)) in
      let r : rank y ≡ rank x = omega (arith, least x y xs ys t (f (rank x)), least y x ys xs s (sym (f (rank y)))) in
      let h : (n : ℕ) → cond (eqb n (rank x)) (x ∷ pick (at_rank rank n) xs) (pick (at_rank rank n) xs) ≡ cond (eqb n (rank x)) (y ∷ pick (at_rank rank n) ys) (pick (at_rank rank n) ys) = λ n. e n ∙ ap (λ k. cond (eqb n k) (y ∷ pick (at_rank rank n) ys) (pick (at_rank rank n) ys)) r in
      let b = eq-eqb (rank x) (rank x) refl in
      ap₂ (λ a l. a ∷ l) (head_of x y _ _ (rw b at (h (rank x)))) (same_rows xs ys s.1 t.1 (λ n. tail_of (eqb n (rank x)) x y _ _ (h n)))

  -- one order of arrival has one order of rows
  pub ordered_only : (arrived xs ys : List X) → Ordered rank arrived xs → Ordered rank arrived ys → xs ≡ ys
  ordered_only arrived xs ys o u = same_rows xs ys o.sorted u.sorted (λ n. o.by_arrival n ∙ sym (u.by_arrival n))
