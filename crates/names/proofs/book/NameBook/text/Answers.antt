use Rattle.std.proofs.Common.{◌≡◌, ◌+◌, take, get_or, sym, ap, ◌∙◌, arith}
use Rattle.std.proofs.lemmas.List.{length-take-le}
use Rattle.names.specs.Texts.{text_at}
use Rattle.names.specs.Kept.{part_of, listed}
use Rattle.names.specs.Book.{shelf_of}
use Rattle.names.proofs.Numbers.{at_none}
use Rattle.names.proofs.Parts.{within, listed_at, length_listed}
use Rattle.names.proofs.book.NameBook.text.Goals as goal

pub returns-in_err-place : goal.returns-in_err-place
unfolding shelf_of
returns-in_err-place c = rw c.from_residual.ensures (at_none _ c.args.number (λ h. absurd (c.in_err-place.ensures h)))

pub returns-in_err-entry : goal.returns-in_err-entry
unfolding shelf_of
returns-in_err-entry c =
    let b = c.args.self.now in
    let l = length_listed b.entries.now b.bytes.now b.count b.kept.0 in
    let t = length-take-le b.count b.entries.now b.kept.0 in
    let e = c.in_err-entry.ensures.lookup.3 in
    rw c.from_residual-in_err-entry.ensures (at_none _ c.args.number (λ h. omega arith))

pub part-requires : goal.part-requires
part-requires c =
    let b = c.args.self.now in
    let t = length-take-le b.count b.entries.now b.kept.0 in
    let i = c.in_ok-place.place in
    let e = c.in_ok-entry.entry.now in
    let s : e ≡ get_or (take b.count b.entries.now) i e = c.in_ok-entry.ensures.lookup.1 in
    let w = within b.entries.now b.bytes.now b.count b.kept.0 i e (omega (arith, c.in_ok-entry.ensures.lookup.3.0)) b.used b.kept.3 in
    omega (arith, ap (λ x. x.start) s, ap (λ x. x.len) s)

pub returns : goal.returns
unfolding shelf_of
returns c =
    let b = c.args.self.now in
    let t = length-take-le b.count b.entries.now b.kept.0 in
    let i = c.in_ok-place.place in
    let e = c.in_ok-entry.entry.now in
    let s : e ≡ get_or (take b.count b.entries.now) i e = c.in_ok-entry.ensures.lookup.1 in
    let n : c.args.number ≡ i + 1 = omega arith in
    ap (text_at (listed b.entries.now b.bytes.now b.count)) n
    ∙ listed_at b.entries.now b.bytes.now b.count b.kept.0 i e (omega (arith, c.in_ok-entry.ensures.lookup.3.0)) c.part.result.now (ap (part_of b.bytes.now) (sym s) ∙ sym c.part.ensures)
