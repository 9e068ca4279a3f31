-- What the type of a book tells of its meaning.
use Rattle.std.proofs.Common.{◌≡◌, ◌≤◌, length, arith}
use Rattle.names.specs.Texts.{Apart}
use Rattle.names.specs.Shelf.{most}
use Rattle.names.specs.Book.{shelf_of, texts}
use Rattle.names.specs.declared.book.NameBook.{NameBook}
use Rattle.names.proofs.Parts.{length_listed}

-- its count is the number of its texts
pub count_of : (b : NameBook) → length (texts b) ≡ b.count
unfolding shelf_of
count_of b = length_listed b.entries.now b.bytes.now b.count b.kept.0

-- no text of a book stands twice
pub apart_of : (b : NameBook) → Apart (texts b)
unfolding shelf_of
apart_of b = b.kept.4

-- a book has at most 65,535 texts
pub most_of : (b : NameBook) → length (texts b) ≤ most
most_of b = omega (arith, count_of b, b.kept.1)
