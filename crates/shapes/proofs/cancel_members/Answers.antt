use Rattle.words.proofs.Writing.{◌▸◌}
use Rattle.shapes.proofs.cancel_members.Goals as goal

pub returns : goal.returns
returns g c = c.run_instant_members.ensures ▸ c.text_member.ensures
