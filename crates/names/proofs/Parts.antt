-- Texts as parts of bytes.
use Rattle.std.proofs.Common.{◌≡◌, ℕ, suc, ◌+◌, ◌-◌, ◌<◌, ◌≤◌, false, List, [], ◌∷◌, ◌++◌, map, length, get_or, take, drop, set, Some, None, Option, ◌⊎◌, MatchOption, sym, refl, ap, ◌∙◌, ap₂, inl, inr, arith}
use native.Mathlib.Nat.{sub-zero}
use Rattle.std.specs.Str.{bytes_eq}
use Rattle.std.proofs.lemmas.Bool.{cases_lt, le-leb, lt-leb}
use Rattle.std.proofs.lemmas.List.{length-map, length-drop, take_all, length-take-le, map_more, get_or-map, get_or-take, drop-take, take-take, take_at, drop_at, take_more_set, map_push}
use Rattle.names.specs.Texts.{Text, has, text_at}
use Rattle.names.specs.Shelf.{part_in}
use Rattle.names.specs.Kept.{part_of, listed, reach}
use Rattle.names.specs.declared.book.Entry.{Entry}
use Rattle.names.proofs.Numbers.{has_push, at_from}

-- what an entry reads as past the end
abbrev pub blank : Entry
blank = record { start = 0; len = 0 }

-- an entry lies within the reach of all
pub reach_at : (es : List Entry) (i : ℕ) (d : Entry) → i < length es → (get_or es i d).start + (get_or es i d).len ≤ reach es
reach_at [] i d h = let z : ⊥ = omega arith in absurd z
reach_at (e ∷ es) i d h =
    elim (cases_lt i 1) [
      | inl l ↦ let z : i ≡ 0 = omega arith in rw z (omega arith)
      | inr g ↦
          let z : i ≡ suc (i - 1) = omega arith in
          let ih = reach_at es (i - 1) d (omega arith) in
          let f : get_or (e ∷ es) i d ≡ get_or es (i - 1) d = ap (λ k. get_or (e ∷ es) k d) z in
          rw f (omega arith)
    ]

module _ (es : List Entry) (bs : List ℕ) (n : ℕ) (le : n ≤ length es) where
  pub length_listed : length (listed es bs n) ≡ n
  length_listed = length-map (take n es) (part_of bs) ∙ length-take-le n es le

  module _ (i : ℕ) (d : Entry) (lt : i < n) where
    pub within : (u : ℕ) → reach (take n es) ≤ u → (get_or (take n es) i d).start + (get_or (take n es) i d).len ≤ u
    within u h = let r = reach_at (take n es) i d (rw (length-take-le n es le) lt) in omega arith

    listed_reads : get_or (listed es bs n) i [] ≡ part_of bs (get_or (take n es) i d)
    listed_reads = get_or-map (part_of bs) (take n es) i d [] (rw (length-take-le n es le) lt)

    pub listed_at : (a : Text) → part_of bs (get_or (take n es) i d) ≡ a → text_at (listed es bs n) (i + 1) ≡ Some a
    listed_at a e =
        let l = length_listed in
        let z : i + 1 - 1 ≡ i = omega arith in
        at_from (listed es bs n) a (i + 1) (omega arith) (omega arith) (ap (λ k. get_or (listed es bs n) k []) z ∙ (listed_reads ∙ e))

    -- a text that is not among the first i entries nor at the next is not among the first i + 1
    pub has_more : (a : Text) → has (listed es bs i) a ≡ false → bytes_eq (part_of bs (get_or (take n es) i d)) a ≡ false → has (listed es bs (i + 1)) a ≡ false
    has_more a h s =
        let m = map_more (part_of bs) es i d (omega arith) in
        let p = has_push (listed es bs i) (part_of bs (get_or es i d)) a in
        ap (λ l. has l a) m ∙ (p ∙ rw (h, ap (λ e. bytes_eq (part_of bs e) a) (sym (get_or-take n es i d lt)) ∙ s) refl)

part_same : (bs cs : List ℕ) (u : ℕ) (e : Entry) → e.start + e.len ≤ u → take u bs ≡ take u cs → part_of bs e ≡ part_of cs e
part_same bs cs u e h s =
    let f : (ds : List ℕ) → part_of ds e ≡ drop e.start (take (e.start + e.len) (take u ds)) = λ ds. sym (drop-take e.start e.len ds) ∙ ap (drop e.start) (sym (take-take (e.start + e.len) u ds h)) in
    f bs ∙ (ap (λ l. drop e.start (take (e.start + e.len) l)) s ∙ sym (f cs))

-- texts within bytes that stay are the same texts
parts_same : (bs cs : List ℕ) (u : ℕ) (es : List Entry) → reach es ≤ u → take u bs ≡ take u cs → map (part_of bs) es ≡ map (part_of cs) es
parts_same bs cs u [] h s = refl
parts_same bs cs u (e ∷ es) h s = ap₂ (λ x xs. x ∷ xs) (part_same bs cs u e (omega arith) s) (parts_same bs cs u es (omega arith) s)

reach_push : (es : List Entry) (e : Entry) (u : ℕ) → reach es ≤ u → e.start + e.len ≤ u → reach (es ++ (e ∷ [])) ≤ u
reach_push [] e u h l = omega arith
reach_push (f ∷ es) e u h l = let ih = reach_push es e u (omega arith) l in omega arith

-- one more entry, and its text behind the others
module _ (es : List Entry) (bs ds : List ℕ) (n at : ℕ) (a : Text)
    (lt : n < length es) (le : at ≤ length bs) (low : reach (take n es) ≤ at)
    (put : ds ≡ take at bs ++ (a ++ drop (at + length a) bs)) where
  abbrev entry : Entry
  entry = record { start = at; len = length a }

  front : take at ds ≡ take at bs
  front = ap (take at) put ∙ take_at (take at bs) _ at (length-take-le at bs le)

  -- the texts that were there are the same texts
  pub listed_same : listed es ds n ≡ listed es bs n
  listed_same = parts_same ds bs at (take n es) low front

  here : part_of ds entry ≡ a
  here = ap (λ l. take (length a) (drop at l)) put ∙ (ap (take (length a)) (drop_at (take at bs) _ at (length-take-le at bs le)) ∙ take_at a _ (length a) refl)

  pub reach_more : reach (take (n + 1) (set es n entry)) ≤ at + length a
  reach_more = rw (take_more_set es n entry lt) (reach_push (take n es) entry (at + length a) (omega arith) (omega arith))

  pub listed_more : listed (set es n entry) ds (n + 1) ≡ listed es bs n ++ (a ∷ [])
  listed_more =
      ap (map (part_of ds)) (take_more_set es n entry lt)
      ∙ (map_push (part_of ds) (take n es) entry
      ∙ ap₂ (λ xs x. xs ++ (x ∷ [])) listed_same here)

-- a part of some bytes is there just where they reach that far
pub part_some : (words : Text) (start len : ℕ) → start + len ≤ length words → part_in words start len ≡ Some (take len (drop start words))
unfolding part_in
part_some words start len h = rw (le-leb (start + len) (length words) h) refl

pub part_none : (words : Text) (start len : ℕ) → length words < start + len → part_in words start len ≡ None
unfolding part_in
part_none words start len h = rw (lt-leb (start + len) (length words) h) refl

-- what a cut at the start and then one at the length leave is that part
pub part_cut : {B : Type 0} (now : B → Text) (words rest : Text) (start len : ℕ) (r : Option B) → length rest + start ≡ length words → rest ≡ take (length words - start) (drop start words) → MatchOption r ((len < 0) ⊎ (length rest < len)) (λ x. (0 ≤ len) × (len ≤ length rest) × (now x ≡ take (len - 0) rest) × (length (now x) + 0 ≡ len)) → MatchOption r (part_in words start len ≡ None) (λ x. part_in words start len ≡ Some (now x))
part_cut now words rest start len None l e f = part_none words start len (elim f [ inl a ↦ omega arith | inr b ↦ omega arith ])
part_cut now words rest start len (Some x) l e f =
    let all : rest ≡ drop start words = e ∙ take_all _ _ (simp length-drop (omega arith)) in
    part_some words start len (omega arith) ∙ ap Some (sym (f.2 ∙ ap₂ take (sub-zero len) all))
