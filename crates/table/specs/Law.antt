-- What holds of every table of a kind of row, whatever was put in and taken out.
use Rattle.std.specs.Prelude.{◌≡◌, ℕ, ◌+◌, Bool, true, false, not, ◌&&◌, List, [], ◌∷◌, ◌++◌, length}
use Rattle.std.specs.Cmp.{IsEquivalence}
use Rattle.table.specs.Count.{bit, cnt, cut, put, pick}
use Rattle.table.specs.Keyed.{of, Single, entered}
use Rattle.table.specs.Order.{Ordered}

pub record Stands {K R : Type 0} (same : K → K → Bool) (key : R → K) (rank : R → ℕ) : Type 0 where
  -- what tells keys apart is reflexive, symmetric and transitive
  pub equal : IsEquivalence same
  -- a key is in a table at most once: at first, after a row is put in, after one is taken out
  pub single_none : Single same key []
  pub single_put : (r : R) (xs : List R) → Single same key xs → Single same key (entered same key rank r xs)
  pub single_cut : (k : K) (xs : List R) → Single same key xs → Single same key (cut (of same key k) xs)
  -- the row that was put in is the one of its key, and each other key answers as before
  pub get_put : (r : R) (xs : List R) (k : K) → same k (key r) ≡ true → pick (of same key k) (entered same key rank r xs) ≡ r ∷ []
  pub get_put_other : (r : R) (xs : List R) (k : K) → same k (key r) ≡ false → pick (of same key k) (entered same key rank r xs) ≡ pick (of same key k) xs
  -- a key that was taken out is gone, and each other key answers as before
  pub get_cut : (k l : K) (xs : List R) → same k l ≡ true → pick (of same key k) (cut (of same key l) xs) ≡ []
  pub get_cut_other : (k l : K) (xs : List R) → same k l ≡ false → pick (of same key k) (cut (of same key l) xs) ≡ pick (of same key k) xs
  -- a row of a new key is one more, one of a known key takes the place of the old, and a removal leaves one fewer
  pub length_new : (r : R) (xs : List R) → cnt (of same key (key r)) xs ≡ 0 → length (entered same key rank r xs) ≡ length xs + 1
  pub length_known : (r : R) (xs : List R) → cnt (of same key (key r)) xs ≡ 1 → length (entered same key rank r xs) ≡ length xs
  pub length_cut : (k : K) (xs : List R) → length (cut (of same key k) xs) + cnt (of same key k) xs ≡ length xs
  -- rows stand by rank, and those of equal rank as they arrived; a row of a known key arrives anew
  pub ordered_none : Ordered rank [] []
  pub ordered_put : (r : R) (arrived xs : List R) → Ordered rank arrived xs → Ordered rank (cut (of same key (key r)) arrived ++ (r ∷ [])) (entered same key rank r xs)
  pub ordered_cut : (k : K) (arrived xs : List R) → Ordered rank arrived xs → Ordered rank (cut (of same key k) arrived) (cut (of same key k) xs)
  -- one order of arrival has one order of rows
  pub ordered_only : (arrived xs ys : List R) → Ordered rank arrived xs → Ordered rank arrived ys → xs ≡ ys
  -- how many pass a test after each move
  pub cnt_put : (p : R → Bool) (r : R) (xs : List R) → cnt p (put rank r xs) ≡ bit (p r) + cnt p xs
  pub cnt_cut : (p q : R → Bool) (xs : List R) → cnt p (cut q xs) ≡ cnt (λ x. p x && not (q x)) xs
  pub cnt_append : (p : R → Bool) (xs ys : List R) → cnt p (xs ++ ys) ≡ cnt p xs + cnt p ys
