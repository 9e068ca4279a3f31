use Rattle.outs.proofs.Steps.{same}
use Rattle.words.proofs.Parts.{phase_unknown}
use Rattle.words.proofs.phase_letter.Goals as goal

pub returns-in-Err : goal.returns-in-Err
returns-in-Err g c = same g.O.Out.added (phase_unknown c.args.letter c.in-Err.ensures.1) c.refuse.ensures
