use Rattle.std.proofs.Common.{[], ◌∷◌, sym, ap, ◌∙◌, subst, arith}
use Rattle.std.specs.List.{position}
use Rattle.std.proofs.lemmas.List.{get_or-take, length-take-le}
use Rattle.table.specs.Keyed.{lone, of, Single}
use Rattle.table.specs.Held.{listed}
use Rattle.table.proofs.Counts.{pick_none, cut_none, cnt_cut_le}
use Rattle.table.proofs.Picks.{absent, taken_out}
use Rattle.table.proofs.Table.remove.Goals as goal

pub returns-in_err-place-clause-answer : goal.returns-in_err-place-clause-answer
returns-in_err-place-clause-answer g c =
    let p = of g.R.Row.same g.R.Row.key_of c.args.key in
    ap lone c.from_residual.ensures ∙ sym (pick_none p _ (absent p _ (c.in_err-place.ensures ∙ ap (position p) c.as_slice.ensures)))

pub returns-in_err-place-clause-after : goal.returns-in_err-place-clause-after
returns-in_err-place-clause-after g c =
    let p = of g.R.Row.same g.R.Row.key_of c.args.key in
    sym (cut_none p _ (absent p _ (c.in_err-place.ensures ∙ ap (position p) c.as_slice.ensures)))

pub invariant_of-self-clause-single : goal.invariant_of-self-clause-single
unfolding listed
invariant_of-self-clause-single g c =
    let same = g.R.Row.same in
    let key = g.R.Row.key_of in
    let p = of same key c.args.key in
    let t = c.args.self.now in
    let out = taken_out p (listed t) _ (c.in_ok-place.ensures ∙ ap (position p) c.as_slice.ensures) (t.single c.args.key) in
    subst (Single same key) (sym (c.close.ensures ∙ out.1)) (λ k. omega (arith, cnt_cut_le (of same key k) p (listed t), t.single k))

pub returns-clause-answer : goal.returns-clause-answer
unfolding listed
returns-clause-answer g c =
    let p = of g.R.Row.same g.R.Row.key_of c.args.key in
    let t = c.args.self.now in
    let out = taken_out p (listed t) _ (c.in_ok-place.ensures ∙ ap (position p) c.as_slice.ensures) (t.single c.args.key) in
    ap (λ x. x ∷ []) (sym (get_or-take t.len t.rows.now _ _ (omega (arith, out.0, length-take-le t.len t.rows.now t.inside)))) ∙ out.2 _

pub returns-clause-after : goal.returns-clause-after
unfolding listed
returns-clause-after g c =
    let p = of g.R.Row.same g.R.Row.key_of c.args.key in
    let t = c.args.self.now in
    let out = taken_out p (listed t) _ (c.in_ok-place.ensures ∙ ap (position p) c.as_slice.ensures) (t.single c.args.key) in
    c.close.ensures ∙ out.1
