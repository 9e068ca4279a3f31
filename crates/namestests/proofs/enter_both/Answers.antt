use Rattle.std.proofs.Common.{sym, ap, ◌∙◌}
use Rattle.std.proofs.lemmas.Result.{MatchResult-at_ok}
use Rattle.names.specs.Book.{shelf_of}
use Rattle.names.specs.Shelf.{entered, planned_one}
use Rattle.names.proofs.Shelves.{plan_stands}
use Rattle.namestests.proofs.enter_both.Goals as goal

pub returns : goal.returns
returns c =
    let s = shelf_of c.args.book.now in
    let a = c.args.a.now in
    let b = c.args.b.now in
    let told = sym c.in_ok-numbers.ensures in
    let p = plan_stands s a b _ _ told in
    let one = MatchResult-at_ok _ _ _ (c.enter.ensures.answer ∙ p.0) c.enter.ensures.after in
    let two = MatchResult-at_ok _ _ _ (c.enter-2.ensures.answer ∙ (ap (λ t. planned_one t b) one ∙ p.1)) c.enter-2.ensures.after in
    record { answer = c.in_ok-numbers.ensures; after = two ∙ ap (λ t. entered t b) one }
