use Rattle.std.proofs.Common.{◌≡◌, ◌+◌, length, refl, rules}
use Rattle.std.proofs.lemmas.Slice.{overwrites}
use Rattle.outs.proofs.BufferOut.put.Goals as goal

pub returns-then-end-self : goal.returns-then-end-self
returns-then-end-self c =
    let e : c.in-Some.end ≡ c.args.self.now.at + length c.args.text.now = search rules in
    (refl, λ h. search (rules, overwrites, e))
