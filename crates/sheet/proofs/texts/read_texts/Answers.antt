use Rattle.std.proofs.Common.{ℕ, List, length, take, drop, pos, ◌∙◌, subst, arith}
use Rattle.std.proofs.lemmas.List.{take_rest, length-drop}
use Rattle.sheet.specs.Texts.{Cut}
use Rattle.sheet.proofs.Shown.{at_width, leads}
use Rattle.sheet.proofs.Cuts.{first_length, second_length, texts_behind, texts_from, same_count, four, no_length}
use Rattle.sheet.proofs.texts.read_texts.Goals as goal

pub returns-in_err-a : goal.returns-in_err-a
returns-in_err-a c =
    let s = c.args.bytes.now in
    rw c.from_residual.ensures (λ x y rest lx ly e.
    no_length (take 4 s) (length x) (four s (omega (arith, c.requires))) c.in_err-a.ensures lx (first_length s x y rest e lx))

pub returns-in_err-b : goal.returns-in_err-b
returns-in_err-b c =
    let s = c.args.bytes.now in
    rw c.from_residual-in_err-b.ensures (λ x y rest lx ly e.
    no_length (take 4 (drop 4 s)) (length y) (four (drop 4 s) (omega (arith, c.requires, length-drop 4 s))) c.in_err-b.ensures ly (second_length s x y rest e lx ly))

pub returns : goal.returns
returns c =
    let s = c.args.bytes.now in
    let a = c.in_ok-a.a in
    let b = c.in_ok-b.b in
    let p = at_width 4 (take 4 s) (pos a) (four s (omega (arith, c.requires))) c.in_ok-a.ensures.0 in
    let q = at_width 4 (take 4 (drop 4 s)) (pos b) (four (drop 4 s) (omega (arith, c.requires, length-drop 4 s))) c.in_ok-b.ensures.0 in
    leads c.cut_texts.result c.cut_texts.ensures
    (λ none x y rest lx ly e. none x y rest
    (same_count (take 4 s) (length x) a lx c.in_ok-a.ensures.1 (first_length s x y rest e lx) p)
    (same_count (take 4 (drop 4 s)) (length y) b ly c.in_ok-b.ensures.1 (second_length s x y rest e lx ly) q)
    (take_rest s 8 ∙ texts_behind s x y rest e lx ly))
    (λ t behind.
    let P : List ℕ → Type 0 = λ l. Cut a b l t.0.now t.1.now in
    let cut = subst P (take_rest s 8) behind in
    record {
      stands = texts_from s t.0.now t.1.now a b p q cut;
      a_short = omega (arith, cut.a_long, c.in_ok-a.ensures.1);
      b_short = omega (arith, cut.b_long, c.in_ok-b.ensures.1);
    })
