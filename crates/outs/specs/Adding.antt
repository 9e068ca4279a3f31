-- What was added by nothing, and by one text and then another: the proofs of an output's laws.
use Rattle.std.specs.Prelude.{◌≡◌, ℕ, ◌+◌, ◌-◌, ◌<◌, ◌≤◌, List, [], ◌++◌, length, take, drop, Some, None, Option, refl}
use Rattle.std.proofs.Common.{sym, ◌∙◌, ap, subst, append_assoc, append-nil, add-zero, length-append, drop-drop}
use Rattle.std.proofs.Math.Nat.{add_assoc, add_comm, add-sub_of_le, le_trans, le-add_right, lt_of_lt_of_le, add-lt-add_iff_right}
use Rattle.outs.specs.Texts.{Text, ◌+?◌}
use Rattle.outs.specs.Outs.{Filled, Fitted, Counted}

pub filled_still : (xs : List ℕ) (i : ℕ) → Filled xs i (Some []) xs i
filled_still xs i h = (sym (add-zero i), refl, sym (append-nil (take i xs)), refl)

further : (j k : ℕ) (ys xs : List ℕ) → j ≤ k → drop j ys ≡ drop j xs → drop k ys ≡ drop k xs
further j k ys xs le e =
    let s : j + (k - j) ≡ k = add-sub_of_le le in
    ap (λ n. drop n ys) (sym s) ∙ sym (drop-drop (k - j) j ys) ∙ ap (drop (k - j)) e ∙ drop-drop (k - j) j xs ∙ ap (λ n. drop n xs) s

-- the end of two texts, one behind the other
ends : (i j : ℕ) (x y : List ℕ) → j ≡ i + length x → j + length y ≡ i + length (x ++ y)
ends i j x y e = ap (λ n. n + length y) e ∙ add_assoc i (length x) (length y) ∙ ap (λ n. i + n) (sym (length-append x y))

pub filled_join : (xs ys zs : List ℕ) (i j k : ℕ) (x y : Text) → Filled xs i x ys j → Filled ys j y zs k → Filled xs i (x +? y) zs k
filled_join xs ys zs i j k (Some x) (Some y) p q = λ h.
    let first : i + length x ≤ i + length x + length y = le-add_right (i + length x) (length y) in
    let whole : i + length x + length y ≤ length xs = subst (λ n. n ≤ length xs) (sym (ends i (i + length x) x y refl)) h in
    let a = p (le_trans first whole) in
    let e = ends i j x y a.0 in
    let b = q (subst (λ n. j + length y ≤ n) (sym a.1) (subst (λ n. n ≤ length xs) (sym e) h)) in
    let le : j ≤ k = subst (λ n. j ≤ n) (sym b.0) (le-add_right j (length y)) in
    (b.0 ∙ e, b.1 ∙ a.1, b.2 ∙ ap (λ t. t ++ y) a.2 ∙ append_assoc (take i xs) x y, b.3 ∙ further j k ys xs le a.3)
filled_join xs ys zs i j k (Some x) None p q = tt
filled_join xs ys zs i j k None y p q = tt

fitted_still : (l : Option ℕ) → Fitted l 0 l
fitted_still (Some n) = add-zero n
fitted_still None = refl

pub counted_still : (l : Option ℕ) → Counted l (Some []) l
counted_still l = fitted_still l

stays : (m r : Option ℕ) (k : ℕ) → m ≡ None → Fitted m k r → r ≡ None
stays m r k h g = subst (λ o. Fitted o k r) h g

fitted_more : (l m r : Option ℕ) (j k n : ℕ) → n ≡ j + k → Fitted l j m → Fitted m k r → Fitted l n r
fitted_more (Some a) (Some b) (Some c) j k n e h g =
    ap (λ t. c + t) (e ∙ add_comm j k) ∙ sym (add_assoc c k j) ∙ ap (λ t. t + j) g ∙ h
fitted_more (Some a) (Some b) None j k n e h g =
    let less : b + j < k + j = (add-lt-add_iff_right j).1 g in
    subst (λ t. a < t) (sym (e ∙ add_comm j k)) (subst (λ t. t < k + j) h less)
fitted_more (Some a) None r j k n e h g =
    subst (λ o. Fitted (Some a) n o) (sym g) (subst (λ t. a < t) (sym e) (lt_of_lt_of_le h (le-add_right j k)))
fitted_more None m r j k n e h g = stays m r k h g

pub counted_join : (l m r : Option ℕ) (x y : Text) → Counted l x m → Counted m y r → Counted l (x +? y) r
counted_join l m r (Some x) (Some y) p q = fitted_more l m r (length x) (length y) (length (x ++ y)) (length-append x y) p q
counted_join l m r (Some x) None p q = q
counted_join l m r None (Some y) p q = stays m r (length y) p q
counted_join l m r None None p q = q
