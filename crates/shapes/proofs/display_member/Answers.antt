use Rattle.words.proofs.Writing.{◌▸◌}
use Rattle.shapes.proofs.display_member.Goals as goal

pub returns : goal.returns
returns g c = c.put.ensures ▸ c.display.ensures ▸ c.put-2.ensures
