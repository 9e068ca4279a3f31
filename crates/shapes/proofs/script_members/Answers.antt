use Rattle.words.proofs.Writing.{◌▸◌}
use Rattle.shapes.proofs.script_members.Goals as goal

pub returns : goal.returns
returns g c = c.text_member.ensures ▸ c.flag_member.ensures
