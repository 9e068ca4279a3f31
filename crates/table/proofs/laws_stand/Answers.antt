use Rattle.table.proofs.Laws.{equivalence, stands}
use Rattle.table.proofs.laws_stand.Goals as goal

pub returns : goal.returns
returns g c = stands g.R.Row.same g.R.Row.key_of g.R.Row.rank_of (equivalence g.R.Row.same g.met.R.Row.reflexive g.met.R.Row.symmetric g.met.R.Row.transitive)
