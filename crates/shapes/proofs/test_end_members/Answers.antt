use Rattle.words.proofs.Writing.{◌▸◌}
use Rattle.shapes.proofs.test_end_members.Goals as goal

pub returns : goal.returns
returns g c = c.test_members.ensures ▸ c.number_member.ensures ▸ c.number_member-2.ensures ▸ c.flag_member.ensures
