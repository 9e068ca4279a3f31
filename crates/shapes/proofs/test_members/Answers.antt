use Rattle.words.proofs.Writing.{◌▸◌}
use Rattle.shapes.proofs.test_members.Goals as goal

pub returns : goal.returns
returns g c = c.text_member.ensures ▸ c.text_member-2.ensures
