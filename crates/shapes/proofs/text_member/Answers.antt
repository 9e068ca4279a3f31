use Rattle.words.proofs.Writing.{◌▸◌}
use Rattle.shapes.proofs.text_member.Goals as goal

pub returns : goal.returns
returns g c = c.put.ensures ▸ c.text.ensures ▸ c.put-2.ensures
