-- What it means that a text was added to a writer: to its output, where the book says how a book number is shown.
use Rattle.std.specs.Prelude.{◌≡◌, ℕ}
use Rattle.outs.specs.declared.Out.{Ghosts}
use Rattle.outs.specs.Texts.{Text}
use Rattle.words.specs.declared.Writer.{Writer}
use Rattle.words.specs.Words.{book_text}

-- the text, in terms of how a book number is shown; the loan of the output and the book stay
pub record Adds {O : Type 0} (o : Ghosts O) (a : Writer O) (t : (ℕ → Text) → Text) (b : Writer O) : Type 0 where
  pub loan : b.out.ghost_name ≡ a.out.ghost_name
  pub book : b.book ≡ a.book
  pub out : o.added a.out.now (t (book_text a.book.now)) b.out.now
