use Rattle.words.proofs.Parts.{word_known, word_unknown}
use Rattle.words.proofs.Writing.{named}
use Rattle.words.proofs.Writer.word.Goals as goal

pub returns-in-Ok : goal.returns-in-Ok
returns-in-Ok g c = named (word_known _ _ _ c.args.code c.word_part.ensures c.in-Ok.ensures) c.show.ensures

pub returns-in-Err : goal.returns-in-Err
returns-in-Err g c = named (word_unknown c.args.code c.in-Err.ensures.1) c.refuse.ensures
