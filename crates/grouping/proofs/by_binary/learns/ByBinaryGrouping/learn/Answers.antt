use Rattle.std.proofs.Common.{◌≡◌, length, None, sym, ap, ◌∙◌, arith}
use Rattle.std.specs.Option.{option_or}
use Rattle.std.proofs.lemmas.Result.{err_from_is_err_and}
use Rattle.table.specs.Held.{listed, room}
use Rattle.grouping.specs.Binaries.{process_in, offer_in}
use Rattle.grouping.proofs.Learning.{ranged_after, next_ranged, process_put, offers, no_offer, same_groups}
use Rattle.grouping.proofs.by_binary.learns.ByBinaryGrouping.learn.Goals as goal

pub invariant_of-self : goal.invariant_of-self
invariant_of-self c =
    let was = c.args.self.now.known in
    record { ranged = ranged_after c.insert.result _ was c.insert.new.self c.insert.ensures.after c.args.self.now.ranged (next_ranged was _ (omega arith)) }

pub returns-in_err-insert-clause-answer : goal.returns-in_err-insert-clause-answer
returns-in_err-insert-clause-answer c =
    let g = c.args.self.now in
    let b = c.args.binary in
    let no : process_in (listed g.known) b ≡ None = sym c.in_default.ensures in
    let stays = c.in_err-insert.ensures.after in
    let p = err_from_is_err_and c.from_residual.result c.from_residual.ensures.1 in
    rw (p.1, p.2) (ap (λ o. option_or o (offer_in (length (listed g.known)) (room g.known))) no ∙ no_offer g.known b no c.in_err-insert.ensures.decides, stays.0, same_groups _ g stays.1)

pub returns-clause-answer : goal.returns-clause-answer
returns-clause-answer c =
    let g = c.args.self.now in
    let b = c.args.binary in
    let no : process_in (listed g.known) b ≡ None = sym c.in_default.ensures in
    ap (λ o. option_or o (offer_in (length (listed g.known)) (room g.known))) no ∙ offers g.known b no _ (omega arith) c.in_ok-insert.ensures.decides

pub returns-clause-after : goal.returns-clause-after
returns-clause-after c = λ k. ap (λ l. process_in l k) c.in_ok-insert.ensures.after ∙ process_put _ (listed c.args.self.now.known) k
