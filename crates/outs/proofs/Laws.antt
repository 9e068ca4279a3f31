-- A reader finds texts and numbers again.
use Rattle.std.proofs.Common.{◌≡◌, ℕ, ◌^◌, ◌<◌, Bool, true, false, cond, ◌||◌, eqb, List, [], ◌∷◌, ◌++◌, length, get_or, decimal, sym, refl, ap, ◌∙◌, inl, inr, append_assoc, arith}
use Rattle.std.proofs.lemmas.Bool.{cases_lt}
use Rattle.std.proofs.lemmas.Fmt.{decimal_is_IsNumeral, decimal_nonempty, decimal_digit, first_decimal}
use Rattle.outs.specs.Texts.{escaped_byte, escaped}
use Rattle.outs.specs.Laws.{quoted, behind_quote, TextsComeBack, NumbersPlain}

-- what is neither a quote nor a backslash
neither : (q s : Bool) (x y z : List ℕ) → (q || s) ≡ false → cond q x (cond s y z) ≡ z
neither false false x y z e = refl
neither false true x y z e = cc
neither true s x y z e = cc

-- one byte of a text is read
byte_read : (v : Bool) (b : ℕ) (rest : List ℕ) → v ≡ (eqb b 34 || eqb b 92) → quoted false (cond v (92 ∷ b ∷ []) (b ∷ []) ++ rest) ≡ b ∷ quoted false rest
byte_read true b rest e = refl
byte_read false b rest e = neither (eqb b 34) (eqb b 92) _ _ _ (sym e)

byte_behind : (v : Bool) (b : ℕ) (rest : List ℕ) → v ≡ (eqb b 34 || eqb b 92) → behind_quote false (cond v (92 ∷ b ∷ []) (b ∷ []) ++ rest) ≡ behind_quote false rest
byte_behind true b rest e = refl
byte_behind false b rest e = neither (eqb b 34) (eqb b 92) _ _ _ (sym e)

pub texts_back : TextsComeBack
texts_back [] rest = (refl, refl)
texts_back (b ∷ t) rest =
    let more = texts_back t rest in
    let a = append_assoc (escaped_byte b) (escaped t) (34 ∷ rest) in (
      ap (quoted false) a ∙ byte_read _ b _ refl ∙ ap (λ x. b ∷ x) more.0,
      ap (behind_quote false) a ∙ byte_behind _ b _ refl ∙ more.1,
    )

lone : (n : ℕ) → n < 2 ^ 64 → get_or (decimal n) 0 0 ≡ 48 → length (decimal n) ≡ 1
lone n h e = elim (cases_lt n 10) [ inl lt ↦ ap length (decimal_digit n lt) | inr le ↦ omega (arith, first_decimal n (omega arith) h) ]

pub plain_number : NumbersPlain
plain_number n h =
    let r = decimal_is_IsNumeral n h in
    record { digits = r.0.1; comes = r.1; some = decimal_nonempty n h; lead = lone n h }
