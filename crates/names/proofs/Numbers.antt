-- The laws of texts by number: lists first, as nothing here knows of a book.
use Rattle.std.proofs.Common.{◌≡◌, ℕ, suc, ◌+◌, ◌-◌, ◌<◌, ◌≤◌, Bool, true, false, cond, ◌||◌, List, [], ◌∷◌, ◌++◌, length, get_or, Some, None, sym, refl, ap, ◌∙◌, inl, inr, Decides, arith}
use Rattle.std.specs.Str.{bytes_eq}
use Rattle.std.proofs.lemmas.Slice.Eq.{bytes_eq-Decides}
use Rattle.std.proofs.lemmas.Bool.{both_ways, cases_Bool, cases_lt}
use Rattle.std.proofs.lemmas.Bool.Decides.{nat_tests}
use Rattle.std.proofs.lemmas.List.{length_push, get_or_append_left}
use Rattle.names.specs.Texts.{Text, has, number_in, found, text_at, distinct, Apart}

pub same_is : (a b : Text) → bytes_eq a b ≡ true → a ≡ b
same_is a b = (bytes_eq-Decides a b).0

-- two texts that `==` tells apart
pub differ : (a b : Text) (r : Bool) → Decides r (a ≡ b) → r ≡ false → bytes_eq a b ≡ false
differ a b r d e = elim (cases_Bool (bytes_eq a b)) [ inl y ↦ absurd (both_ways r e (d.1 (same_is a b y))) | inr n ↦ n ]

pub same_self : (a : Text) → bytes_eq a a ≡ true
same_self a = (bytes_eq-Decides a a).1 refl

pub same_comm : (a b : Text) → bytes_eq a b ≡ true → bytes_eq b a ≡ true
same_comm a b h = (bytes_eq-Decides b a).1 (sym (same_is a b h))

pub has_push : (ts : List Text) (a b : Text) → has (ts ++ (a ∷ [])) b ≡ (has ts b || bytes_eq a b)
unfolding has
has_push [] a b = grind arith
has_push (t ∷ ts) a b = let ih = has_push ts a b in grind arith

-- numbers are from 1 on
pub number_some : (ts : List Text) (a : Text) → 1 ≤ number_in ts a
unfolding number_in
number_some [] a = omega arith
number_some (t ∷ ts) a = let ih = number_some ts a in grind arith

-- a known text's number is one of the list's
pub number_known : (ts : List Text) (a : Text) → has ts a ≡ true → number_in ts a ≤ length ts
unfolding number_in has
number_known [] a h = grind arith
number_known (t ∷ ts) a h = let ih = number_known ts a in grind arith

-- a new text's number is the next
pub number_new : (ts : List Text) (a : Text) → has ts a ≡ false → number_in ts a ≡ length ts + 1
unfolding number_in has
number_new [] a h = refl
number_new (t ∷ ts) a h = let ih = number_new ts a in grind arith

-- a known text keeps its number
pub number_push : (ts : List Text) (a b : Text) → has ts b ≡ true → number_in (ts ++ (a ∷ [])) b ≡ number_in ts b
unfolding number_in has
number_push [] a b h = grind arith
number_push (t ∷ ts) a b h = let ih = number_push ts a b in grind arith

-- and a new text gets the next
pub number_pushed : (ts : List Text) (a : Text) → has ts a ≡ false → number_in (ts ++ (a ∷ [])) a ≡ length ts + 1
unfolding number_in has
number_pushed [] a h = rw (same_self a) refl
number_pushed (t ∷ ts) a h = let ih = number_pushed ts a in grind arith

get_or_later : (t : Text) (ts : List Text) (n : ℕ) → 1 ≤ n → get_or {A = Text} (t ∷ ts) n [] ≡ get_or ts (n - 1) []
get_or_later t ts n h = let e : n ≡ suc (n - 1) = omega arith in ap (λ k. get_or {A = Text} (t ∷ ts) k []) e

number_reads : (ts : List Text) (a : Text) → has ts a ≡ true → get_or ts (number_in ts a - 1) [] ≡ a
unfolding number_in has
number_reads [] a h = let z : ⊥ = grind arith in absurd z
number_reads (t ∷ ts) a h =
    elim (cases_Bool (bytes_eq t a)) [
      | inl y ↦ rw y (same_is t a y)
      | inr n ↦
          let k : has ts a ≡ true = grind arith in
          let e : cond (bytes_eq t a) 1 (1 + number_in ts a) - 1 ≡ number_in ts a = rw n (omega arith) in
          ap (λ j. get_or {A = Text} (t ∷ ts) j []) e ∙ (get_or_later t ts (number_in ts a) (number_some ts a) ∙ number_reads ts a k)
    ]

has_at : (ts : List Text) (a : Text) (i : ℕ) → i < length ts → get_or ts i [] ≡ a → has ts a ≡ true
unfolding has
has_at [] a i h e = let z : ⊥ = omega arith in absurd z
has_at (t ∷ ts) a i h e =
    elim (cases_lt i 1) [
      | inl l ↦
          let z : i ≡ 0 = omega arith in
          let f : t ≡ a = sym (ap (λ j. get_or {A = Text} (t ∷ ts) j []) z) ∙ e in
          let s : bytes_eq t a ≡ true = (bytes_eq-Decides t a).1 f in
          grind arith
      | inr g ↦
          let ih : has ts a ≡ true = has_at ts a (i - 1) (omega arith) (sym (get_or_later t ts i g) ∙ e) in
          grind arith
    ]

-- where no text stands twice, what stands at a place has that place's number
number_at : (ts : List Text) (a : Text) (i : ℕ) → Apart ts → i < length ts → get_or ts i [] ≡ a → number_in ts a ≡ i + 1
unfolding number_in has distinct
number_at [] a i d h e = let z : ⊥ = omega arith in absurd z
number_at (t ∷ ts) a i d h e =
    elim (cases_lt i 1) [
      | inl l ↦
          let z : i ≡ 0 = omega arith in
          let f : t ≡ a = sym (ap (λ j. get_or {A = Text} (t ∷ ts) j []) z) ∙ e in
          let s : bytes_eq t a ≡ true = (bytes_eq-Decides t a).1 f in
          rw (s, z) refl
      | inr g ↦
          let r : get_or ts (i - 1) [] ≡ a = sym (get_or_later t ts i g) ∙ e in
          let k : has ts a ≡ true = has_at ts a (i - 1) (omega arith) r in
          let d' : distinct ts ≡ true = grind arith in
          let ih : number_in ts a ≡ i - 1 + 1 = number_at ts a (i - 1) d' (omega arith) r in
          let w : bytes_eq t a ≡ true → has ts t ≡ true = λ s. rw (same_is t a s) k in
          let n : bytes_eq t a ≡ false = grind arith in
          rw n (omega arith)
    ]

-- the text of a number
pub at_parts : (ts : List Text) (a : Text) (k : ℕ) → text_at ts k ≡ Some a → (1 ≤ k) × (k ≤ length ts) × (get_or ts (k - 1) [] ≡ a)
unfolding text_at
at_parts ts a k e = (grind (arith, nat_tests), grind (arith, nat_tests), grind (arith, nat_tests))

pub at_from : (ts : List Text) (a : Text) (k : ℕ) → 1 ≤ k → k ≤ length ts → get_or ts (k - 1) [] ≡ a → text_at ts k ≡ Some a
unfolding text_at
at_from ts a k l h e = grind (arith, nat_tests)

pub at_none : (ts : List Text) (k : ℕ) → (1 ≤ k → length ts < k) → text_at ts k ≡ None
unfolding text_at
at_none ts k h = grind (arith, nat_tests)

-- a known text stands at its number
pub text_number : (ts : List Text) (a : Text) → has ts a ≡ true → text_at ts (number_in ts a) ≡ Some a
text_number ts a h = at_from ts a (number_in ts a) (number_some ts a) (number_known ts a h) (number_reads ts a h)

-- what has a number is known
pub at_known : (ts : List Text) (a : Text) (k : ℕ) → text_at ts k ≡ Some a → has ts a ≡ true
at_known ts a k e = let p = at_parts ts a k e in has_at ts a (k - 1) (omega arith) p.2

-- the number of a text is the only one that it stands at
pub number_only : (ts : List Text) (a : Text) (k : ℕ) → Apart ts → text_at ts k ≡ Some a → number_in ts a ≡ k
number_only ts a k d e = let p = at_parts ts a k e in let n = number_at ts a (k - 1) d (omega arith) p.2 in omega arith

-- what a search answers
pub found_at : (ts : List Text) (a : Text) (k : ℕ) → Apart ts → text_at ts k ≡ Some a → Some k ≡ found ts a
unfolding found
found_at ts a k d e = rw (at_known ts a k e, number_only ts a k d e) refl

pub found_none : (ts : List Text) (a : Text) → has ts a ≡ false → None ≡ found ts a
unfolding found
found_none ts a h = rw h refl

pub found_known : (ts : List Text) (a : Text) → has ts a ≡ true → found ts a ≡ Some (number_in ts a)
unfolding found
found_known ts a h = rw h refl

pub found_some : (ts : List Text) (a : Text) (k : ℕ) → Some k ≡ found ts a → (has ts a ≡ true) × (k ≡ number_in ts a)
unfolding found
found_some ts a k e =
    elim (cases_Bool (has ts a)) [
      | inl y ↦ let e' = rw y at e in (y, cc)
      | inr x ↦ let e' = rw x at e in let w : ◌≡◌ {A = ℕ} 0 1 = cc in let z : ⊥ = omega arith in absurd z
    ]

-- different texts have different numbers
pub number_apart : (ts : List Text) (a b : Text) → has ts a ≡ true → number_in ts a ≡ number_in ts b → a ≡ b
number_apart ts a b h e =
    elim (cases_Bool (has ts b)) [
      | inl k ↦ sym (number_reads ts a h) ∙ (ap (λ n. get_or ts (n - 1) []) e ∙ number_reads ts b k)
      | inr n ↦ let z : ⊥ = omega (arith, number_known ts a h, number_new ts b n) in absurd z
    ]

-- one more text leaves each number's text as it was
pub at_push : (ts : List Text) (a b : Text) (k : ℕ) → text_at ts k ≡ Some b → text_at (ts ++ (a ∷ [])) k ≡ Some b
at_push ts a b k e =
    let p = at_parts ts b k e in
    let l = length_push ts a in
    at_from (ts ++ (a ∷ [])) b k p.0 (omega arith) (get_or_append_left ts (a ∷ []) [] (k - 1) (omega arith) ∙ p.2)

pub apart_none : Apart []
unfolding distinct
apart_none = refl

-- and a new one keeps texts apart
pub apart_push : (ts : List Text) (a : Text) → Apart ts → has ts a ≡ false → Apart (ts ++ (a ∷ []))
unfolding distinct has
apart_push [] a d h = refl
apart_push (t ∷ ts) a d h =
    let d' : distinct ts ≡ true = grind arith in
    let n : has ts a ≡ false = grind arith in
    let ih : distinct (ts ++ (a ∷ [])) ≡ true = apart_push ts a d' n in
    let p = has_push ts a t in
    let w = same_comm a t in
    grind arith
