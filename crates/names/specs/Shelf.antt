-- What a book holds and has room for, and what entering a text makes of that.
use Rattle.std.specs.Prelude.{ℕ, ◌+◌, ◌-◌, Bool, cond, ◌&&◌, ◌||◌, List, [], ◌∷◌, ◌++◌, length, take, drop, Some, None, Ok, Err, Option, Result, nat_le, nat_lt}
use Rattle.refusal.specs.declared.Refusal.{Refusal}
use Rattle.refusal.specs.declared.Refusal.TheVariants.{BookFull}
use Rattle.names.specs.Texts.{Text, has, number_in}

-- the texts by arrival, and the free entries and free bytes
pub record Shelf : Type 0 where
  pub texts : List Text
  pub entries : ℕ
  pub bytes : ℕ

-- a book has at most this many texts
abbrev pub most : ℕ
most = 65535

-- whether one more text of a length finds room
abbrev pub roomy : ℕ → ℕ → ℕ → ℕ → Bool
roomy count entries bytes len = nat_lt 0 entries && (nat_le len bytes && nat_lt count most)

-- the answer to one more text of a length: the next number, or that the book is full
abbrev pub next_number : ℕ → ℕ → ℕ → ℕ → Result ℕ Refusal
next_number count entries bytes len = cond (roomy count entries bytes len) (Ok (count + 1)) (Err BookFull)

abbrev pub empty : ℕ → ℕ → Shelf
empty entries bytes = record { texts = []; entries = entries; bytes = bytes }

-- whether a text can be entered: a known one always
unfoldable pub fits : Shelf → Text → Bool
fits s a = has s.texts a || roomy (length s.texts) s.entries s.bytes (length a)

-- the shelf with one more text
abbrev pub added : Shelf → Text → Shelf
added s a = record { texts = s.texts ++ (a ∷ []); entries = s.entries - 1; bytes = s.bytes - length a }

-- the shelf once a text is entered: a known one changes nothing
unfoldable pub entered : Shelf → Text → Shelf
entered s a = cond (has s.texts a) s (added s a)

-- the answer to entering a text: its number, or that the book is full
unfoldable pub planned_one : Shelf → Text → Result ℕ Refusal
planned_one s a = cond (fits s a) (Ok (number_in s.texts a)) (Err BookFull)

-- the answer to entering one text and then another
unfoldable pub planned : Shelf → Text → Text → Result (ℕ × ℕ) Refusal
planned s a b = cond (fits s a && fits (entered s a) b) (Ok (number_in s.texts a, number_in (entered s a).texts b)) (Err BookFull)

-- the part of some bytes, if they reach that far
unfoldable pub part_in : Text → ℕ → ℕ → Option Text
part_in words start len = cond (nat_le (start + len) (length words)) (Some (take len (drop start words))) None
