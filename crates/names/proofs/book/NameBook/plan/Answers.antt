use Rattle.std.proofs.Common.{sym}
use Rattle.std.proofs.lemmas.Result.{err_from_is_err_and}
use Rattle.names.specs.Book.{shelf_of}
use Rattle.names.proofs.Shelves.{plan_both, plan_second_err, plan_first_err}
use Rattle.names.proofs.book.NameBook.plan.Goals as goal

pub returns : goal.returns
returns c = sym (plan_both (shelf_of c.args.self.now) c.args.a.now c.args.b.now _ (sym c.in_ok-first.ensures) _ (sym c.in_ok-second.ensures))

pub returns-in_err-second : goal.returns-in_err-second
returns-in_err-second c =
    let p = err_from_is_err_and c.from_residual-in_err-second.result c.from_residual-in_err-second.ensures.1 in
    rw (p.1, p.2) (sym (plan_second_err (shelf_of c.args.self.now) c.args.a.now c.args.b.now _ (sym c.in_ok-first.ensures) _ (sym c.in_err-second.ensures)))

pub returns-in_err-first : goal.returns-in_err-first
returns-in_err-first c =
    let p = err_from_is_err_and c.from_residual.result c.from_residual.ensures.1 in
    rw (p.1, p.2) (sym (plan_first_err (shelf_of c.args.self.now) c.args.a.now c.args.b.now _ (sym c.in_err-first.ensures)))
