use Rattle.std.proofs.Common.{◌≡◌, ◌+◌, ◌-◌, ◌++◌, length, take, drop, ap, ◌∙◌, ap₂, arith}
use Rattle.std.proofs.lemmas.List.{drop-drop}
use Rattle.names.proofs.book.put_text.Goals as goal

pub returns : goal.returns
returns c =
    let at = c.args.at in
    let bs = c.args.bytes.now in
    let len = length c.args.text.now in
    let k : at + len - at ≡ len = omega arith in
    ap₂ (λ ys zs. take at bs ++ (ys ++ zs)) c.copy_from_slice.ensures.after (ap (λ j. drop j (drop at bs)) k ∙ drop-drop len at bs)
