use Rattle.std.proofs.Common.{sym, refl, ◌∙◌, arith}
use Rattle.std.proofs.lemmas.Bool.{both_ways}
use Rattle.names.specs.Book.{shelf_of}
use Rattle.names.proofs.Books.{count_of}
use Rattle.names.proofs.Shelves.{planned_past, planned_within, entered_known, entered_new}
use Rattle.names.proofs.book.NameBook.enter.Goals as goal

pub add-requires : goal.add-requires
unfolding shelf_of
add-requires c =
    let b = c.args.self.now in
    let q = planned_past (shelf_of b) c.args.text.now c.in_ok-number.number (sym c.in_ok-number.ensures) (omega (arith, count_of b)) in
    record { new = q.0; room = (omega arith, omega (arith, count_of b), omega arith) }

pub returns-then-number-self : goal.returns-then-number-self
unfolding shelf_of
returns-then-number-self c =
    let b = c.args.self.now in
    let q = planned_past (shelf_of b) c.args.text.now c.in_ok-number.number (sym c.in_ok-number.ensures) (omega (arith, count_of b)) in
    record {
      answer = c.in_ok-number.ensures;
      after = c.add.ensures ∙ sym (entered_new (shelf_of b) c.args.text.now q.0);
      known = λ h. absurd (both_ways _ q.0 h);
    }

pub returns-else-number-self : goal.returns-else-number-self
returns-else-number-self c =
    let b = c.args.self.now in
    let h = planned_within (shelf_of b) c.args.text.now c.in_ok-number.number (sym c.in_ok-number.ensures) (omega (arith, count_of b)) in
    record {
      answer = c.in_ok-number.ensures;
      after = sym (entered_known (shelf_of b) c.args.text.now h);
      known = λ _. refl;
    }
