use Rattle.std.proofs.Common.{◌≡◌, get_or, Some, sym, ◌∙◌, rules}
use Rattle.std.proofs.lemmas.List.{take_rest}
use Rattle.sheet.specs.Words.{kind_named}
use Rattle.sheet.proofs.Spelled.{named, three}
use Rattle.sheet.proofs.words.kind_word.Goals as goal

pub returns : goal.returns
returns c =
    let s = c.args.line.now in
    let kind = c.in_ok-kind_of.field-0 in
    let e : kind_named (get_or s 0 0) (get_or s 1 0) (get_or s 2 0) ≡ Some kind = sym c.kind_of.ensures ∙ c.in_ok-kind_of.was in
    (three s (search rules) ∙ named (get_or s 0 0) (get_or s 1 0) (get_or s 2 0) kind e, take_rest s 3)
