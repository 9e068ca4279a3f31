use Rattle.outs.proofs.Laws.{texts_back, plain_number}
use Rattle.outs.proofs.writing_stands.Goals as goal

pub returns : goal.returns
returns c = record { texts = texts_back; numbers = plain_number }
