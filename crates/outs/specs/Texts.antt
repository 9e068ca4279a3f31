-- Texts that may be missing, and what is written of numbers and of texts.
use Rattle.std.specs.Prelude.{ℕ, cond, ◌||◌, List, [], ◌∷◌, ◌++◌, Some, None, codes, Option, ◌==◌}
use Prim.Native.String.{String}
use Rattle.std.specs.List.{flat_map}

-- a text, missing where something in it cannot be shown
abbrev pub Text : Type 0
Text = Option (List ℕ)

abbrev pub lit : String → Text
lit s = Some (codes s)

-- one text and then another
infixl 40 ◌+?◌
abbrev pub ◌+?◌ : Text → Text → Text
Some x +? Some y = Some (x ++ y)
Some x +? None = None
None +? y = None

-- a quote and a backslash get a backslash in front
abbrev pub escaped_byte : ℕ → List ℕ
escaped_byte b = cond (b == 34 || b == 92) (92 ∷ b ∷ []) (b ∷ [])

abbrev pub escaped : List ℕ → List ℕ
escaped = flat_map escaped_byte

abbrev pub shown : Text → Text
shown (Some t) = Some (escaped t)
shown None = None
