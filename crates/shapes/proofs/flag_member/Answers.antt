use Rattle.words.proofs.Writing.{◌▸◌}
use Rattle.shapes.proofs.flag_member.Goals as goal

pub returns : goal.returns
returns g c = c.put.ensures ▸ c.flag.ensures
