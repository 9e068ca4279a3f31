use Rattle.std.proofs.Common.{take, Some}
use Rattle.outs.specs.Texts.{escaped}
use Rattle.outs.proofs.escape.Given as goal

abbrev pub invariant-loop-b : goal.invariant-loop-b
invariant-loop-b g l = g.O.Out.added l.initial.o (Some (escaped (take l.b-index l.text))) l.o
