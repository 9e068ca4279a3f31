use Rattle.std.proofs.Common.{rules}
use Rattle.words.specs.Words.{book_text}
use Rattle.words.proofs.Parts.{label_unknown}
use Rattle.words.proofs.Writing.{◌▸◌, named}
use Rattle.words.proofs.Writer.label.Goals as goal

pub returns-in-Ok-TwoTexts : goal.returns-in-Ok-TwoTexts
returns-in-Ok-TwoTexts g c = let e = c.text-in-Ok-TwoTexts.ensures ▸ c.put.ensures ▸ c.text-in-Ok-TwoTexts-2.ensures in search rules

pub returns-in-Err : goal.returns-in-Err
returns-in-Err g c = named (label_unknown (book_text c.args.self.now.book.now) c.args.kind c.args.first c.args.second c.in-Err.ensures.1) c.refuse.ensures
