use Rattle.std.proofs.Common.{rules, tests, ap, ◌∙◌}
use Rattle.std.proofs.lemmas.Iterator.{YieldsList-from_slice}
use Rattle.std.proofs.lemmas.Iterator.Search.{find_from_yields_List}
use Rattle.table.specs.Keyed.{lone, of}
use Rattle.table.specs.Held.{listed}
use Rattle.table.proofs.Picks.{pick_find}
use Rattle.table.proofs.Table.get.Goals as goal

pub returns : goal.returns
unfolding listed
returns g c =
    let t = c.args.self.now in
    let p = of g.R.Row.same g.R.Row.key_of c.args.key in
    let found = find_from_yields_List p _ _ c.find.result c.find.ensures.ran (YieldsList-from_slice (listed t) (cc)) (λ x b q k. search (rules, tests)) in
    ap lone (c.copied.ensures ∙ found) ∙ pick_find p (listed t) (t.single c.args.key)
