use Rattle.std.proofs.Common.{nat_le, ◌∙◌, arith, rules}
use Rattle.std.proofs.lemmas.Iterator.{YieldsList-from_slice, YieldsList-from_zip}
use Rattle.std.proofs.lemmas.Iterator.Search.{all_from_yields_List}
use Rattle.events.proofs.Limits.{within_zip}
use Rattle.events.proofs.rules.within_limits.Goals as goal

pub returns : goal.returns
returns c =
    all_from_yields_List (λ p. nat_le p.0 p.1) c.all.new.self _ _ c.all.ensures.ran (YieldsList-from_zip (YieldsList-from_slice c.args.counts.now cc) (YieldsList-from_slice c.args.limits.now cc)) (λ x b q k. search rules)
    ∙ within_zip c.args.limits.now c.args.counts.now (omega arith)
