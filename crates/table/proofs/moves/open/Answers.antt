use Rattle.std.proofs.Common.{refl}
use Rattle.table.proofs.Opened.{opened}
use Rattle.table.proofs.moves.open.Goals as goal

pub returns : goal.returns
returns g c = opened c.args.rows.now c.args.n c.args.i c.args.row c.requires.0 c.requires.1 c.rotate_right.new.self _ refl c.rotate_right.ensures.after
