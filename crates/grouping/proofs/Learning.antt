-- What a table of binaries answers once a binary has its row.
use Rattle.std.proofs.Common.{◌≡◌, ℕ, ◌+◌, true, false, ◌||◌, eqb, ltb, List, [], ◌∷◌, length, Some, None, Ok, Err, Result, sym, refl, ap, ◌∙◌, subst, inl, inr, arith, MatchResult}
use mathlib.Core.HLevel.{is_prop→PathP, Π_prop, ×_prop}
use native.Mathlib.Bridge.{le_prop}
use Rattle.std.proofs.lemmas.Bool.{cases_Bool}
use Rattle.refusal.specs.declared.Refusal.{Refusal}
use Rattle.refusal.specs.declared.Refusal.TheVariants.{NoPlace}
use Rattle.table.specs.Keyed.{of, entered}
use Rattle.table.specs.Held.{listed, room, takes}
use Rattle.table.specs.declared.Table.{Table}
use Rattle.table.proofs.Counts.{cnt_hasnt, unpicked}
use Rattle.table.proofs.Rooms.{listed_fits, room_most}
use Rattle.rows.specs.Keys.{binary_key, unranked}
use Rattle.rows.specs.declared.known_binary.KnownBinary.{KnownBinary}
use Rattle.rows.proofs.SixKinds.{known_binaries}
use Rattle.grouping.specs.Asked.{InRange, learnt}
use Rattle.grouping.specs.Binaries.{first_process, process_in, Ranged, offer_in}
use Rattle.grouping.specs.declared.by_binary.ByBinary.{ByBinary}

-- the new row answers for its binary, and each other binary as before
pub process_put : (r : KnownBinary) (xs : List KnownBinary) (c : ℕ) → process_in (entered eqb binary_key unranked r xs) c ≡ learnt (process_in xs) r.binary r.process c
process_put r xs c = elim (cases_Bool (eqb c r.binary)) [
  | inl t ↦ ap first_process (known_binaries.get_put r xs c t) ∙ rw t refl
  | inr f ↦ ap first_process (known_binaries.get_put_other r xs c f) ∙ rw f refl
]

pub ranged_put : (r : KnownBinary) (xs : List KnownBinary) → Ranged xs → InRange r.process → Ranged (entered eqb binary_key unranked r xs)
ranged_put r xs h i b p e = elim (cases_Bool (eqb b r.binary)) [
  | inl t ↦ let k = rw t at (process_put r xs b) in let q : r.process ≡ p = cc in (omega (arith, i.0), omega (arith, i.1))
  | inr f ↦ let k = rw f at (process_put r xs b) in h b p (sym k ∙ e)
]

pub next_ranged : {row : _} (t : Table KnownBinary ℕ row) (p : ℕ) → p ≡ 2 + length (listed t) → InRange p
next_ranged t p e = (omega arith, omega (arith, listed_fits t, room_most t))

-- whichever way an insertion went
pub ranged_after : (r : Result (Unit {0}) Refusal) {keys : _} (row : KnownBinary) (was is : Table KnownBinary ℕ keys) → MatchResult r (λ _. listed is ≡ entered eqb binary_key unranked row (listed was)) (λ e. (e ≡ NoPlace) × (is ≡ was)) → Ranged (listed was) → InRange row.process → Ranged (listed is)
ranged_after (Ok x) {keys} row was is h ranged i = let P : List KnownBinary → Type 0 = λ l. Ranged l in subst P (sym h) (ranged_put row (listed was) ranged i)
ranged_after (Err e) {keys} row was is h ranged i = let P : Table KnownBinary ℕ keys → Type 0 = λ t. Ranged (listed t) in subst P (sym h.1) ranged

no_row : (xs : List KnownBinary) → first_process xs ≡ None → xs ≡ []
no_row [] e = refl
no_row (r ∷ rs) e = cc

module _ {row : _} (t : Table KnownBinary ℕ row) (b : ℕ) (none : process_in (listed t) b ≡ None) where
  free_is : takes (of eqb binary_key b) t ≡ ltb (length (listed t)) (room t)
  free_is = ap (λ h. h || ltb (length (listed t)) (room t)) (cnt_hasnt (of eqb binary_key b) (listed t) (unpicked (of eqb binary_key b) (listed t) (no_row _ none)))

  pub offers : (p : ℕ) → p ≡ 2 + length (listed t) → true ≡ takes (of eqb binary_key b) t → offer_in (length (listed t)) (room t) ≡ Some p
  offers p e h = let free = sym (h ∙ free_is) in rw free (ap Some (sym e))

  pub no_offer : false ≡ takes (of eqb binary_key b) t → offer_in (length (listed t)) (room t) ≡ None
  no_offer h = let full = sym (h ∙ free_is) in rw full refl

ranged_prop : (xs : List KnownBinary) → IsProp (Ranged xs)
ranged_prop xs = Π_prop (λ _. Π_prop (λ _. Π_prop (λ _. ×_prop le_prop le_prop)))

-- a grouping is what its table is, since it adds only facts
pub same_groups : (g h : ByBinary) → g.known ≡ h.known → g ≡ h
same_groups g h e = λ i. record {
  known = e i;
  ranged = is_prop→PathP (λ i. Ranged (listed (e i))) (λ i. ranged_prop (listed (e i))) g.ranged h.ranged i;
}
