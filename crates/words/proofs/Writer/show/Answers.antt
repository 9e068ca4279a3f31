use Rattle.std.proofs.Common.{sym, ap, refl}
use Rattle.outs.specs.Texts.{shown}
use Rattle.outs.proofs.Steps.{same}
use Rattle.words.specs.Words.{words}
use Rattle.words.proofs.Writer.show.Goals as goal

pub returns-in-Some : goal.returns-in-Some
unfolding words
returns-in-Some g c = record { loan = refl; book = refl; out = same g.O.Out.added (ap shown (sym c.in-Some.ensures)) c.escape.ensures }

pub returns-in-None : goal.returns-in-None
unfolding words
returns-in-None g c = record { loan = refl; book = refl; out = same g.O.Out.added (ap shown (sym c.in-None.ensures)) c.refuse.ensures }
