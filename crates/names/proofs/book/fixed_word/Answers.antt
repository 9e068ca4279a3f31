use Rattle.std.proofs.Common.{arith}
use Rattle.names.proofs.Parts.{part_none, part_cut}
use Rattle.names.proofs.book.fixed_word.Goals as goal

pub returns-in_err-get : goal.returns-in_err-get
returns-in_err-get c =
    let e = c.in_err-get.ensures.lookup.0 in
    rw c.from_residual.ensures (part_none c.args.words.now c.args.start c.args.len (grind arith))

pub returns : goal.returns
returns c =
    let e = c.in_ok-get.ensures.lookup.0 in
    part_cut (λ t. t.now) c.args.words.now c.in_ok-get.field-0.now c.args.start c.args.len c.get-2.result e.3 e.2 c.get-2.ensures.lookup.0
