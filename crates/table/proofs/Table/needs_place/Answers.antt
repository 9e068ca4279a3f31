use Rattle.std.proofs.Common.{rules}
use Rattle.table.specs.Keyed.{of}
use Rattle.table.proofs.Picks.{lone_has}
use Rattle.table.proofs.Table.needs_place.Goals as goal

pub returns : goal.returns
returns g c =
    let h = lone_has (of g.R.Row.same g.R.Row.key_of c.args.key) _ _ c.get.ensures in
    search rules
