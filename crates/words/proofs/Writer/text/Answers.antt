use Rattle.std.proofs.Common.{arith}
use Rattle.words.proofs.Parts.{unknown}
use Rattle.words.proofs.Writing.{named}
use Rattle.words.proofs.Writer.text.Goals as goal

pub returns-in-Err : goal.returns-in-Err
returns-in-Err g c = named (unknown c.args.self.now.book.now c.args.n (omega arith)) c.refuse.ensures
