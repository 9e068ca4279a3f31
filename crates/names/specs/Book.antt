-- What a name book means: a shelf.
use Rattle.std.specs.Prelude.{ℕ, List, length, Option}
use Rattle.names.specs.Texts.{Text, text_at}
use Rattle.names.specs.Shelf.{Shelf, part_in}
use Rattle.names.specs.Kept.{shelf_in}
use Rattle.names.specs.declared.book.NameBook.{NameBook}
use Rattle.names.specs.declared.book.Space.{Space}
use Rattle.names.specs.declared.book.Shown.{Shown}
use Rattle.names.specs.declared.book.Shown.TheVariants.{BookText, FixedWord}

unfoldable pub shelf_of : NameBook → Shelf
shelf_of b = shelf_in b.entries.now b.bytes.now b.count b.used

-- how many texts there are, and how much is free
abbrev pub space_of : Shelf → Space
space_of s = record { count = length s.texts; entries = s.entries; bytes = s.bytes }

-- its texts by arrival
abbrev pub texts : NameBook → List Text
texts b = (shelf_of b).texts

abbrev pub free_entries : NameBook → ℕ
free_entries b = (shelf_of b).entries

abbrev pub free_bytes : NameBook → ℕ
free_bytes b = (shelf_of b).bytes

-- the word to be shown: a text of the book, or a part of the fixed words
abbrev pub shown_of : List Text → Text → Shown → Option Text
shown_of ts words (BookText number) = text_at ts number
shown_of ts words (FixedWord start len) = part_in words start len
