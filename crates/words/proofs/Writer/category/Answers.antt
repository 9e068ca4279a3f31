use Rattle.words.proofs.Parts.{category_known, category_unknown}
use Rattle.words.proofs.Writing.{named}
use Rattle.words.proofs.Writer.category.Goals as goal

pub returns-in-Ok : goal.returns-in-Ok
returns-in-Ok g c = named (category_known _ _ _ c.args.code c.category_part.ensures c.in-Ok.ensures) c.show.ensures

pub returns-in-Err : goal.returns-in-Err
returns-in-Err g c = named (category_unknown c.args.code c.in-Err.ensures.1) c.refuse.ensures
