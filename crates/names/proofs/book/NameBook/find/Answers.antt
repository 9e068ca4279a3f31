use Rattle.std.proofs.Common.{◌≡◌, false, sym, refl, ap, ◌∙◌, subst, arith}
use Rattle.std.specs.Str.{bytes_eq}
use Rattle.std.proofs.lemmas.Bool.Decides.{Decides-eqb}
use Rattle.std.proofs.lemmas.Slice.Eq.{slice_eq-Decides}
use Rattle.std.proofs.lemmas.List.{length-take-le}
use Rattle.names.specs.Texts.{has}
use Rattle.names.specs.Kept.{listed}
use Rattle.names.specs.Book.{shelf_of}
use Rattle.names.proofs.Numbers.{differ, found_at, found_none}
use Rattle.names.proofs.Parts.{blank, within, listed_at, has_more}
use Rattle.names.proofs.book.NameBook.find.Goals as goal

pub loop-i-init : goal.loop-i-init
unfolding has
loop-i-init c = refl

pub part-requires : goal.part-requires
part-requires c =
    let b = c.args.self.now in
    let t = length-take-le b.count b.entries.now b.kept.0 in
    let w = within b.entries.now b.bytes.now b.count b.kept.0 c.loop-i.i blank (omega arith) b.used b.kept.3 in
    omega arith

pub returns-then-eq : goal.returns-then-eq
unfolding shelf_of
returns-then-eq c =
    let b = c.args.self.now in
    let t = length-take-le b.count b.entries.now b.kept.0 in
    let same = (slice_eq-Decides Decides-eqb c.part.result.now c.args.text.now c.eq.result c.eq.ensures).0 c.if-eq.true in
    let e = listed_at b.entries.now b.bytes.now b.count b.kept.0 c.loop-i.i blank (omega arith) c.args.text.now (sym c.part.ensures ∙ same) in
    record { found = found_at _ _ _ b.kept.4 e; stands = e }

pub loop-i-preserved : goal.loop-i-preserved
loop-i-preserved c =
    let b = c.args.self.now in
    let t = length-take-le b.count b.entries.now b.kept.0 in
    let d = slice_eq-Decides Decides-eqb c.part.result.now c.args.text.now c.eq.result c.eq.ensures in
    has_more b.entries.now b.bytes.now b.count b.kept.0 c.loop-i.i blank (omega arith) c.args.text.now c.loop-i.invariant
    (ap (λ p. bytes_eq p c.args.text.now) (sym c.part.ensures) ∙ differ _ _ _ d c.if-eq.false)

pub returns : goal.returns
unfolding shelf_of
returns c =
    let b = c.args.self.now in
    let t = length-take-le b.count b.entries.now b.kept.0 in
    let i : c.loop-i.i ≡ b.count = omega arith in
    let none : has (listed b.entries.now b.bytes.now b.count) c.args.text.now ≡ false = subst (λ n. has (listed b.entries.now b.bytes.now n) c.args.text.now ≡ false) i c.loop-i.invariant in
    record { found = found_none _ _ none; stands = none }
