-- The laws of a shelf: what entering a text answers and leaves.
use Rattle.std.proofs.Common.{◌≡◌, ℕ, ◌<◌, ◌≤◌, true, false, List, length, Some, Ok, Err, sym, refl, ap, ◌∙◌, inl, inr, arith}
use Rattle.std.specs.Str.{bytes_eq}
use Rattle.std.proofs.lemmas.Bool.{cases_Bool}
use Rattle.std.proofs.lemmas.Bool.Decides.{nat_tests}
use Rattle.refusal.specs.declared.Refusal.{Refusal}
use Rattle.refusal.specs.declared.Refusal.TheVariants.{BookFull}
use Rattle.names.specs.Texts.{Text, has, number_in, text_at, Apart}
use Rattle.names.specs.Shelf.{Shelf, most, roomy, next_number, fits, added, entered, planned_one, planned}
use Rattle.names.proofs.Numbers.{same_self, has_push, number_known, number_new, number_push, number_pushed, text_number, at_push, apart_push, number_apart}

-- two shelves are the same where their parts are
pub same_shelf : {ts us : List Text} {m n i j : ℕ} → ts ≡ us → m ≡ n → i ≡ j → ◌≡◌ {A = Shelf} (record { texts = ts; entries = m; bytes = i }) (record { texts = us; entries = n; bytes = j })
same_shelf {ts} {us} {m} {n} {i} {j} p q r =
    ap (λ (l : List Text). record { texts = l; entries = m; bytes = i }) p
    ∙ (ap (λ (k : ℕ). record { texts = us; entries = k; bytes = i }) q
    ∙ ap (λ (k : ℕ). record { texts = us; entries = n; bytes = k }) r)

module _ (s : Shelf) (a : Text) where
  -- entering a known text changes nothing
  pub entered_known : has s.texts a ≡ true → entered s a ≡ s
  unfolding entered
  entered_known h = rw h refl

  pub entered_new : has s.texts a ≡ false → entered s a ≡ added s a
  unfolding entered
  entered_new h = rw h refl

  pub fits_known : has s.texts a ≡ true → fits s a ≡ true
  unfolding fits
  fits_known h = rw h refl

  pub fits_new : has s.texts a ≡ false → fits s a ≡ roomy (length s.texts) s.entries s.bytes (length a)
  unfolding fits
  fits_new h = rw h refl

  pub planned_known : has s.texts a ≡ true → planned_one s a ≡ Ok (number_in s.texts a)
  unfolding planned_one
  planned_known h = rw (fits_known h) refl

  pub planned_new : has s.texts a ≡ false → planned_one s a ≡ next_number (length s.texts) s.entries s.bytes (length a)
  unfolding planned_one
  planned_new h = rw (fits_new h, number_new s.texts a h) refl

  -- the answer is a number where the text fits, and else that the book is full
  pub planned_ok : (n : ℕ) → planned_one s a ≡ Ok n → (fits s a ≡ true) × (n ≡ number_in s.texts a)
  unfolding planned_one
  planned_ok n e =
      elim (cases_Bool (fits s a)) [
        | inl y ↦ let e' = rw y at e in (y, cc)
        | inr x ↦ let e' = rw x at e in let w : ◌≡◌ {A = ℕ} 0 1 = cc in let z : ⊥ = omega arith in absurd z
      ]

  pub planned_fits : fits s a ≡ true → planned_one s a ≡ Ok (number_in s.texts a)
  unfolding planned_one
  planned_fits h = rw h refl

  pub planned_full : fits s a ≡ false → planned_one s a ≡ Err BookFull
  unfolding planned_one
  planned_full h = rw h refl

  pub planned_err : (e : Refusal) → planned_one s a ≡ Err e → (fits s a ≡ false) × (e ≡ BookFull)
  unfolding planned_one
  planned_err r e =
      elim (cases_Bool (fits s a)) [
        | inl y ↦ let e' = rw y at e in let w : ◌≡◌ {A = ℕ} 0 1 = cc in let z : ⊥ = omega arith in absurd z
        | inr x ↦ let e' = rw x at e in (x, cc)
      ]

  -- a number past the count is a new text's, which finds room
  pub planned_past : (n : ℕ) → planned_one s a ≡ Ok n → length s.texts < n → (has s.texts a ≡ false) × (0 < s.entries) × (length a ≤ s.bytes) × (length s.texts < most)
  planned_past n e lt =
      let p = planned_ok n e in
      let k = number_known s.texts a in
      let x : has s.texts a ≡ false = grind arith in
      let r : roomy (length s.texts) s.entries s.bytes (length a) ≡ true = sym (fits_new x) ∙ p.0 in
      (x, grind (arith, nat_tests), grind (arith, nat_tests), grind (arith, nat_tests))

  -- and any other a known text's
  pub planned_within : (n : ℕ) → planned_one s a ≡ Ok n → n ≤ length s.texts → has s.texts a ≡ true
  planned_within n e le =
      let p = planned_ok n e in
      let k = number_new s.texts a in
      grind arith

  -- an entered text is there
  pub has_entered : has (entered s a).texts a ≡ true
  has_entered =
      elim (cases_Bool (has s.texts a)) [
        | inl y ↦ rw (entered_known y) y
        | inr x ↦ rw (entered_new x) (has_push s.texts a a ∙ rw (x, same_self a) refl)
      ]

  -- and has the number that was answered
  pub number_entered : number_in (entered s a).texts a ≡ number_in s.texts a
  number_entered =
      elim (cases_Bool (has s.texts a)) [
        | inl y ↦ rw (entered_known y) refl
        | inr x ↦ rw (entered_new x) (number_pushed s.texts a x ∙ sym (number_new s.texts a x))
      ]

  -- a second text gets that number only where it is the same text
  pub number_different : (b : Text) → number_in (entered s a).texts b ≡ number_in s.texts a → a ≡ b
  number_different b e = number_apart (entered s a).texts a b has_entered (number_entered ∙ sym e)

  -- a known text stays known, and keeps its number
  pub has_kept : (b : Text) → has s.texts b ≡ true → has (entered s a).texts b ≡ true
  has_kept b h =
      elim (cases_Bool (has s.texts a)) [
        | inl y ↦ rw (entered_known y) h
        | inr x ↦ rw (entered_new x) (has_push s.texts a b ∙ rw h refl)
      ]

  pub number_kept : (b : Text) → has s.texts b ≡ true → number_in (entered s a).texts b ≡ number_in s.texts b
  number_kept b h =
      elim (cases_Bool (has s.texts a)) [
        | inl y ↦ rw (entered_known y) refl
        | inr x ↦ rw (entered_new x) (number_push s.texts a b h)
      ]

  -- a text that is neither known nor the entered one stays new
  pub new_kept : (b : Text) → has s.texts b ≡ false → bytes_eq a b ≡ false → has (entered s a).texts b ≡ false
  new_kept b h d =
      elim (cases_Bool (has s.texts a)) [
        | inl y ↦ rw (entered_known y) h
        | inr x ↦ rw (entered_new x) (has_push s.texts a b ∙ rw (h, d) refl)
      ]

  -- each number keeps its text
  pub text_kept : (k : ℕ) (b : Text) → text_at s.texts k ≡ Some b → text_at (entered s a).texts k ≡ Some b
  text_kept k b e =
      elim (cases_Bool (has s.texts a)) [
        | inl y ↦ rw (entered_known y) e
        | inr x ↦ rw (entered_new x) (at_push s.texts a b k e)
      ]

  -- at the number of the entered text stands that text
  pub text_entered : text_at (entered s a).texts (number_in s.texts a) ≡ Some a
  text_entered = ap (text_at (entered s a).texts) (sym number_entered) ∙ text_number (entered s a).texts a has_entered

  -- texts stay apart
  pub apart_kept : Apart s.texts → Apart (entered s a).texts
  apart_kept d =
      elim (cases_Bool (has s.texts a)) [
        | inl y ↦ rw (entered_known y) d
        | inr x ↦ rw (entered_new x) (apart_push s.texts a d x)
      ]

-- entering twice is entering once
pub entered_again : (s : Shelf) (a : Text) → entered (entered s a) a ≡ entered s a
entered_again s a = entered_known (entered s a) a (has_entered s a)

-- entering one text and then another: each answer is that of entering it
module _ (s : Shelf) (a b : Text) (m : ℕ) (first : planned_one s a ≡ Ok m) where
  pub plan_both : (n : ℕ) → planned_one (entered s a) b ≡ Ok n → planned s a b ≡ Ok (m, n)
  unfolding planned
  plan_both n second =
      let p = planned_ok s a m first in
      let q = planned_ok (entered s a) b n second in
      rw (p.0, q.0, p.1, q.1) refl

  pub plan_second_err : (e : Refusal) → planned_one (entered s a) b ≡ Err e → planned s a b ≡ Err e
  unfolding planned
  plan_second_err e second =
      let p = planned_ok s a m first in
      let q = planned_err (entered s a) b e second in
      rw (p.0, q.0, q.1) refl

pub plan_first_err : (s : Shelf) (a b : Text) (e : Refusal) → planned_one s a ≡ Err e → planned s a b ≡ Err e
unfolding planned
plan_first_err s a b e first = let p = planned_err s a e first in rw (p.0, p.1) refl

-- after a plan that succeeds, both texts are entered and get the numbers that it told
pub plan_stands : (s : Shelf) (a b : Text) (m n : ℕ) → planned s a b ≡ Ok (m, n) → (planned_one s a ≡ Ok m) × (planned_one (entered s a) b ≡ Ok n)
unfolding planned planned_one
plan_stands s a b m n e =
    elim (cases_Bool (fits s a)) [
      | inl y ↦ elim (cases_Bool (fits (entered s a) b)) [
        | inl z ↦
            let e' = rw (y, z) at e in
            let q : ◌≡◌ {A = ℕ × ℕ} (number_in s.texts a, number_in (entered s a).texts b) (m, n) = cc in
            (rw y (ap (λ p. Ok p.0) q), rw z (ap (λ p. Ok p.1) q))
        | inr x ↦ let e' = rw (y, x) at e in let w : ◌≡◌ {A = ℕ} 0 1 = cc in let z : ⊥ = omega arith in absurd z
      ]
      | inr x ↦ let e' = rw x at e in let w : ◌≡◌ {A = ℕ} 0 1 = cc in let z : ⊥ = omega arith in absurd z
    ]
