-- What users of a table need: what it answers after a move, how many rows it has then, their order, and that a key
-- stays in it at most once.
use Rattle.std.proofs.Common.{◌≡◌, ℕ, ◌+◌, Bool, true, false, List, [], length, sym, ◌∙◌, inl, inr, arith}
use mathlib.Core.HLevel.{Π_prop}
use native.Mathlib.Bridge.{le_prop}
use Rattle.std.specs.Cmp.{IsEquivalence, both_ways, equiv}
use Rattle.std.proofs.lemmas.Bool.{cases_Bool}
use Rattle.table.specs.Count.{cnt, cut, pick}
use Rattle.table.specs.Keyed.{of, Single, entered}
use Rattle.table.specs.Law.{Stands}
use Rattle.table.proofs.Counts.{cnt_append, cnt_put, cnt_cut, cnt_cut_le, cnt_cut_all, length_put, length_cut, pick_none, pick_put_other, pick_put_one, pick_cut_other}
use Rattle.table.proofs.Orders.{ordered_none, ordered_put, ordered_cut, ordered_only}

-- a fact, so that two structs that hold the same tables are the same
pub single_prop : {K R : Type 0} (same : K → K → Bool) (key : R → K) (xs : List R) → IsProp (Single same key xs)
single_prop same key xs = Π_prop (λ _. le_prop)

-- the three laws of a kind of row, as the library has them
pub equivalence : {K : Type 0} (same : K → K → Bool) → ((k : K) → same k k ≡ true) → ((k l : K) → same k l ≡ true → same l k ≡ true) → ((k l m : K) → same k l ≡ true → same l m ≡ true → same k m ≡ true) → IsEquivalence same
equivalence same reflexive symmetric transitive = equiv (record { symm = λ k l. both_ways (same k l) (same l k) (symmetric k l) (symmetric l k); trans = transitive }) reflexive

module _ {K R : Type 0} (same : K → K → Bool) (key : R → K) (rank : R → ℕ) (equal : IsEquivalence same) where
  -- what has a key has each key that is the same, and no other
  alike : (k l : K) → same k l ≡ true → (x : R) → of same key k x ≡ true → of same key l x ≡ true
  alike k l e x t = sym (equal.congr k l (key x) e) ∙ t

  other : (k l : K) → same k l ≡ false → (x : R) → of same key k x ≡ true → of same key l x ≡ false
  other k l f x t = equal.symm l (key x) ∙ (sym (equal.congr k (key x) l t) ∙ f)

  gone : (k l : K) (xs : List R) → same k l ≡ true → pick (of same key k) (cut (of same key l) xs) ≡ []
  gone k l xs e = pick_none (of same key k) (cut (of same key l) xs) (cnt_cut_all (of same key k) (of same key l) (alike k l e) xs)

  stays : (k l : K) (xs : List R) → same k l ≡ false → pick (of same key k) (cut (of same key l) xs) ≡ pick (of same key k) xs
  stays k l xs f = pick_cut_other (of same key k) (of same key l) (other k l f) xs

  single_cut : (l : K) (xs : List R) → Single same key xs → Single same key (cut (of same key l) xs)
  single_cut l xs h k = omega (arith, cnt_cut_le (of same key k) (of same key l) xs, h k)

  single_put : (r : R) (xs : List R) → Single same key xs → Single same key (entered same key rank r xs)
  single_put r xs h k =
      let o = single_cut (key r) xs h k in
      let c = cnt_put (of same key k) rank r (cut (of same key (key r)) xs) in
      elim (cases_Bool (same k (key r))) [
        | inl t ↦ let z = cnt_cut_all (of same key k) (of same key (key r)) (alike k (key r) t) xs in grind arith
        | inr f ↦ grind arith
      ]

  entered_length : (r : R) (xs : List R) → length (entered same key rank r xs) + cnt (of same key (key r)) xs ≡ length xs + 1
  entered_length r xs = omega (arith, length_put rank r (cut (of same key (key r)) xs), length_cut (of same key (key r)) xs)

  pub stands : Stands same key rank
  stands = record {
    equal = equal;
    single_none = λ k. omega arith;
    single_put = single_put;
    single_cut = single_cut;
    get_put = λ r xs k e. pick_put_one (of same key k) rank r (cut (of same key (key r)) xs) e (gone k (key r) xs e);
    get_put_other = λ r xs k f. pick_put_other (of same key k) rank r (cut (of same key (key r)) xs) f ∙ stays k (key r) xs f;
    get_cut = gone;
    get_cut_other = stays;
    length_new = λ r xs e. omega (arith, entered_length r xs);
    length_known = λ r xs e. omega (arith, entered_length r xs);
    length_cut = λ k xs. length_cut (of same key k) xs;
    ordered_none = ordered_none rank;
    ordered_put = λ r arrived xs o. ordered_put rank r (cut (of same key (key r)) arrived) (cut (of same key (key r)) xs) (ordered_cut rank (of same key (key r)) arrived xs o);
    ordered_cut = λ k. ordered_cut rank (of same key k);
    ordered_only = ordered_only rank;
    cnt_put = λ p r xs. cnt_put p rank r xs;
    cnt_cut = cnt_cut;
    cnt_append = cnt_append;
  }
