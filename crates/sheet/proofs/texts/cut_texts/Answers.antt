use Rattle.std.proofs.Common.{arith}
use Rattle.sheet.proofs.Cuts.{feed_at, feed_stands, cut_at}
use Rattle.sheet.proofs.texts.cut_texts.Goals as goal

pub returns-then-bytes-a : goal.returns-then-bytes-a
returns-then-bytes-a c x y rest la lb e =
    let s = c.args.bytes.now in
    let feed = feed_at s x y rest e in
    let here = feed_stands s x y rest c.args.a c.args.b e la lb in
    elim c.then-bytes-a.branch [ goal.then-bytes-a-via-then-bytes-a w ↦ omega arith | goal.then-bytes-a-via-else-bytes-a+then-bytes-a-ne10 w ↦ omega arith ]

pub returns : goal.returns
returns c = cut_at c.args.bytes.now _ _ c.args.a c.args.b (omega arith) (omega arith) c.split_at.ensures.front c.split_at.ensures.back
