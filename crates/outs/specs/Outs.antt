-- What it means that a text was added to an output, for the end that counts and for the end that writes.
use Rattle.std.specs.Prelude.{◌≡◌, ℕ, ◌+◌, ◌<◌, ◌≤◌, List, ◌++◌, length, take, drop, Some, None, Ok, Err, Option, Result}
use Rattle.refusal.specs.declared.Refusal.{Refusal}
use Rattle.refusal.specs.declared.Refusal.TheVariants.{Unwritable}
use Rattle.outs.specs.Texts.{Text}

-- the text stands from place i to place j, where it fits, and all else is as it was
abbrev pub Filled : List ℕ → ℕ → Text → List ℕ → ℕ → Type 0
Filled xs i (Some x) ys j = i + length x ≤ length xs → (j ≡ i + length x) × (length ys ≡ length xs) × (take j ys ≡ take i xs ++ x) × (drop j ys ≡ drop j xs)
Filled xs i None ys j = Unit {0}

-- so many places are left after k more, or there were too few; a refusal stays
abbrev pub Fitted : Option ℕ → ℕ → Option ℕ → Type 0
Fitted (Some n) k (Some m) = m + k ≡ n
Fitted (Some n) k None = n < k
Fitted None k r = r ≡ None

-- and a text that is missing is refused
abbrev pub Counted : Option ℕ → Text → Option ℕ → Type 0
Counted l (Some x) r = Fitted l (length x) r
Counted l None r = r ≡ None

-- what a call that writes the text answers, and what the memory then holds: the text with all behind it as it was,
-- or a refusal just where the text is missing or too long, and then the memory is as it was
abbrev pub Answered : Text → Result ℕ Refusal → List ℕ → List ℕ → Type 0
Answered (Some t) (Ok n) was is = (n ≡ length t) × (take n is ≡ t) × (drop n is ≡ drop n was)
Answered (Some t) (Err f) was is = (f ≡ Unwritable) × (length was < length t) × (is ≡ was)
Answered None (Ok n) was is = ⊥
Answered None (Err f) was is = (f ≡ Unwritable) × (is ≡ was)
