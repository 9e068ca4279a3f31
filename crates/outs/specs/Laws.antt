-- What a reader of the text finds again: texts between quotes, and numbers in plain decimal.
use Rattle.std.specs.Prelude.{◌≡◌, ℕ, ◌^◌, ◌<◌, Bool, true, false, cond, List, [], ◌∷◌, ◌++◌, length, decimal, ◌==◌, slice_index_or}
use Rattle.std.specs.Str.Parse.{AllDigits, digits_value}
use Rattle.outs.specs.Texts.{escaped}

-- what is read behind an opening quote up to the closing one; after a backslash a byte stands for itself
abbrev pub quoted : Bool → List ℕ → List ℕ
quoted after [] = []
quoted false (c ∷ cs) = cond (c == 34) [] (cond (c == 92) (quoted true cs) (c ∷ quoted false cs))
quoted true (c ∷ cs) = c ∷ quoted false cs

-- and what stands behind the closing one
abbrev pub behind_quote : Bool → List ℕ → List ℕ
behind_quote after [] = []
behind_quote false (c ∷ cs) = cond (c == 34) cs (cond (c == 92) (behind_quote true cs) (behind_quote false cs))
behind_quote true (c ∷ cs) = behind_quote false cs

-- an escaped text and a quote are read as the text, whatever follows
abbrev pub TextsComeBack : Type 0
TextsComeBack = (t rest : List ℕ) → (quoted false (escaped t ++ (34 ∷ rest)) ≡ t) × (behind_quote false (escaped t ++ (34 ∷ rest)) ≡ rest)

-- a number is written in decimal digits that come to it, with no zero in front
pub record Plain (n : ℕ) : Type 0 where
  pub digits : AllDigits 10 (decimal n)
  pub comes : digits_value 10 (decimal n) ≡ n
  pub some : 0 < length (decimal n)
  pub lead : slice_index_or (decimal n) 0 0 ≡ 48 → length (decimal n) ≡ 1

abbrev pub NumbersPlain : Type 0
NumbersPlain = (n : ℕ) → n < 2 ^ 64 → Plain n
