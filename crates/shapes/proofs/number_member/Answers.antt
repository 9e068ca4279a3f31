use Rattle.words.proofs.Writing.{◌▸◌}
use Rattle.shapes.proofs.number_member.Goals as goal

pub returns : goal.returns
returns g c = c.put.ensures ▸ c.number.ensures
