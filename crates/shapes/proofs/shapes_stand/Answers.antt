use Rattle.shapes.proofs.Laws.{arguments_are}
use Rattle.shapes.proofs.shapes_stand.Goals as goal

pub returns : goal.returns
returns c = arguments_are
