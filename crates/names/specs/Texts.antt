-- Texts by number: the first has number 1. Assumes nothing.
use Rattle.std.specs.Prelude.{◌≡◌, ℕ, ◌+◌, ◌-◌, Bool, true, false, cond, not, ◌&&◌, ◌||◌, List, [], ◌∷◌, length, Some, None, Option, nat_le, slice_index_or}
use Rattle.std.specs.Str.{bytes_eq}

abbrev pub Text : Type 0
Text = List ℕ

-- whether a text is among these
unfoldable pub has : List Text → Text → Bool
has [] a = false
has (t ∷ ts) a = bytes_eq t a || has ts a

-- the number of a text: the one that it has, or else the next
unfoldable pub number_in : List Text → Text → ℕ
number_in [] a = 1
number_in (t ∷ ts) a = cond (bytes_eq t a) 1 (1 + number_in ts a)

-- its number, if it has one
unfoldable pub found : List Text → Text → Option ℕ
found ts a = cond (has ts a) (Some (number_in ts a)) None

-- the text of a number, if there is one
unfoldable pub text_at : List Text → ℕ → Option Text
text_at ts k = cond (nat_le 1 k && nat_le k (length ts)) (Some (slice_index_or ts (k - 1) [])) None

unfoldable pub distinct : List Text → Bool
distinct [] = true
distinct (t ∷ ts) = not (has ts t) && distinct ts

-- no text stands twice
abbrev pub Apart : List Text → Type 0
Apart ts = distinct ts ≡ true
