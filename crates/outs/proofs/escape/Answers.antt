use Rattle.std.proofs.Common.{[], take, Some, sym, ap, ◌∙◌, arith}
use Rattle.std.proofs.lemmas.List.{take_more, take_all, flat_map_more}
use Rattle.outs.specs.Texts.{escaped, escaped_byte}
use Rattle.outs.proofs.Steps.{same}
use Rattle.outs.proofs.escape.Goals as goal

pub loop-b-preserved : goal.loop-b-preserved
loop-b-preserved g c =
    let more = take_more c.args.text.now c.loop-b.b-index 0 (omega arith) in
    same g.O.Out.added (ap Some (flat_map_more escaped_byte [] (take c.loop-b.b-index c.args.text.now) _ ∙ ap escaped (sym more)))
    (g.O.Out.join _ _ _ _ _ c.loop-b.invariant c.escaped_byte.ensures)

pub returns : goal.returns
returns g c =
    let all = take_all c.loop-b.b-index c.args.text.now (omega arith) in
    same g.O.Out.added (ap (λ t. Some (escaped t)) all) c.loop-b.invariant
