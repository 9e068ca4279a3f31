-- What entries and bytes stand for, and what a book keeps of them.
use Rattle.std.specs.Prelude.{ℕ, ◌+◌, ◌-◌, ◌≤◌, max, List, [], ◌∷◌, map, length, take, drop}
use Rattle.names.specs.Texts.{Text, Apart}
use Rattle.names.specs.Shelf.{Shelf, most}
use Rattle.names.specs.declared.book.Entry.{Entry}

-- the text of an entry
abbrev pub part_of : List ℕ → Entry → Text
part_of bytes e = take e.len (drop e.start bytes)

-- the texts of the first n entries
abbrev pub listed : List Entry → List ℕ → ℕ → List Text
listed entries bytes n = map (part_of bytes) (take n entries)

-- where the last of some entries ends
abbrev pub reach : List Entry → ℕ
reach [] = 0
reach (e ∷ es) = max (e.start + e.len) (reach es)

abbrev pub shelf_in : List Entry → List ℕ → ℕ → ℕ → Shelf
shelf_in entries bytes count used = record { texts = listed entries bytes count; entries = length entries - count; bytes = length bytes - used }

-- every text lies in the used bytes, and no text stands twice
abbrev pub Kept : List Entry → List ℕ → ℕ → ℕ → Type 0
Kept entries bytes count used = (count ≤ length entries) × (count ≤ most) × (used ≤ length bytes) × (reach (take count entries) ≤ used) × Apart (listed entries bytes count)
