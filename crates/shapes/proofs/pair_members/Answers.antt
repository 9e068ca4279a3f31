use Rattle.words.proofs.Writing.{◌▸◌}
use Rattle.shapes.proofs.pair_members.Goals as goal

pub returns : goal.returns
returns g c = c.number_member.ensures ▸ c.number_member-2.ensures
