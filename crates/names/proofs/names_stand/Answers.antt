use Rattle.names.proofs.Laws.{names_stand}
use Rattle.names.proofs.names_stand.Goals as goal

pub returns : goal.returns
returns c = names_stand
