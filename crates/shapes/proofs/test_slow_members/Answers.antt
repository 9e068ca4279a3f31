use Rattle.words.proofs.Writing.{◌▸◌}
use Rattle.shapes.proofs.test_slow_members.Goals as goal

pub returns : goal.returns
returns g c = c.test_members.ensures ▸ c.flag_member.ensures ▸ c.number_member.ensures
