use Rattle.std.proofs.Common.{Ok, Option, subst, arith}
use Rattle.events.specs.declared.event.Event.{Event}
use Rattle.sheet.specs.Next.{Nexted}
use Rattle.sheet.proofs.Moves.{shorter}
use Rattle.sheetfields.proofs.wanted_lines.Goals as goal

pub loop-event-smaller : goal.loop-event-smaller
loop-event-smaller c =
    let was = c.loop-event.reader in
    let is = c.next.new.self in
    let P : Option Event → Type 0 = λ o. Nexted was is (Ok o) in
    omega (arith, shorter was is c.in-Ok-Some.event (subst P c.in-Ok-Some.field-0-is c.in-Ok-Some.ensures.gave))
