use Rattle.words.specs.Words.{book_text}
use Rattle.words.proofs.Parts.{display_known, display_unknown}
use Rattle.words.proofs.Writing.{◌▸◌, named}
use Rattle.words.proofs.Writer.display.Goals as goal

pub returns-in-Ok : goal.returns-in-Ok
returns-in-Ok g c = named (display_known _ _ _ _ c.args.code c.args.n c.pattern_part.ensures c.in-Ok.ensures) (c.show.ensures ▸ c.operand.ensures)

pub returns-in-Err : goal.returns-in-Err
returns-in-Err g c = named (display_unknown (book_text c.args.self.now.book.now) c.args.code c.args.n c.in-Err.ensures.1) c.refuse.ensures
