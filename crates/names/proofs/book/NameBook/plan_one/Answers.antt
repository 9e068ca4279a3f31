use Rattle.std.proofs.Common.{length, Ok, sym, ap, ◌∙◌}
use Rattle.names.specs.Shelf.{next_number}
use Rattle.names.specs.Book.{shelf_of}
use Rattle.names.proofs.Numbers.{found_some}
use Rattle.names.proofs.Shelves.{planned_known, planned_new}
use Rattle.names.proofs.book.NameBook.plan_one.Goals as goal

pub returns-in-Some : goal.returns-in-Some
returns-in-Some c =
    let f = found_some _ _ _ c.in-Some.ensures.found in
    ap Ok f.1 ∙ sym (planned_known (shelf_of c.args.self.now) c.args.text.now f.0)

pub returns-in-None : goal.returns-in-None
returns-in-None c =
    c.next.ensures
    ∙ (ap (λ p. next_number p.count p.entries p.bytes (length c.args.text.now)) c.space.ensures
    ∙ sym (planned_new (shelf_of c.args.self.now) c.args.text.now c.in-None.ensures.stands))
