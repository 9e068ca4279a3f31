use Rattle.words.proofs.Laws.{words_shown}
use Rattle.words.proofs.words_stand.Goals as goal

pub returns : goal.returns
returns c = words_shown
