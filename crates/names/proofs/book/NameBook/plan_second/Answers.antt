use Rattle.std.proofs.Common.{length, Ok, sym, ap, ◌∙◌}
use Rattle.names.specs.Shelf.{next_number, entered, planned_one}
use Rattle.names.specs.Book.{shelf_of}
use Rattle.std.proofs.lemmas.Bool.Decides.{Decides-eqb}
use Rattle.std.proofs.lemmas.Slice.Eq.{slice_eq-Decides}
use Rattle.names.proofs.Numbers.{found_some, differ}
use Rattle.names.proofs.Shelves.{planned_ok, planned_known, planned_new, has_entered, number_entered, has_kept, number_kept, new_kept}
use Rattle.names.proofs.book.NameBook.plan_second.Goals as goal

pub returns-in-Some : goal.returns-in-Some
returns-in-Some c =
    let s = shelf_of c.args.self.now in
    let a = c.args.a.now in
    let b = c.args.b.now in
    let f = found_some _ _ _ c.in-Some.ensures.found in
    ap Ok (f.1 ∙ sym (number_kept s a b f.0)) ∙ sym (planned_known (entered s a) b (has_kept s a b f.0))

pub returns-in-None : goal.returns-in-None
returns-in-None c =
    let s = shelf_of c.args.self.now in
    let a = c.args.a.now in
    let b = c.args.b.now in
    c.next.ensures
    ∙ (ap (λ p. next_number p.count p.entries p.bytes (length b)) c.space_with.ensures
    ∙ sym (planned_new (entered s a) b (new_kept s a b c.in-None.ensures.stands (differ a b c.eq.result (slice_eq-Decides Decides-eqb a b c.eq.result c.eq.ensures) c.if-eq.false))))

pub returns-then-eq : goal.returns-then-eq
returns-then-eq c =
    let s = shelf_of c.args.self.now in
    let a = c.args.a.now in
    let e = (slice_eq-Decides Decides-eqb a c.args.b.now c.eq.result c.eq.ensures).0 c.if-eq.true in
    ap Ok ((planned_ok s a _ c.requires).1 ∙ sym (number_entered s a)) ∙ (sym (planned_known (entered s a) a (has_entered s a)) ∙ ap (planned_one (entered s a)) e)
