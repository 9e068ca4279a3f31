use Rattle.std.proofs.Common.{◌≡◌, ◌≤◌, length, sym, refl, ap, ◌∙◌, subst, arith}
use Rattle.std.proofs.lemmas.List.{length-take-le}
use Rattle.table.specs.Count.{has, cut, put}
use Rattle.table.specs.Keyed.{of, Single}
use Rattle.table.specs.Held.{listed, room}
use Rattle.table.proofs.Laws.{equivalence, stands}
use Rattle.table.proofs.Rooms.{taken, none_gone, refused, listed_fits}
use Rattle.table.proofs.Picks.{lone_has}
use Rattle.table.proofs.Table.insert.Goals as goal

pub returns-then-free-eq0 : goal.returns-then-free-eq0
returns-then-free-eq0 g c =
    let of_key = of g.R.Row.same g.R.Row.key_of in
    let p = of_key (g.R.Row.key_of c.args.row) in
    let t = c.args.self.now in
    let xs = listed t in
    let out : listed c.remove.new.self ≡ cut p xs = c.remove.ensures.after ∙ ap (λ k. cut (of_key k) xs) c.key.ensures in
    let up : room t ≤ length (cut p xs) = omega (arith, ap length out) in
    record {
      decides = sym (refused p xs (room t) up (listed_fits t));
      after = (refl, c.remove.ensures.missing (lone_has (of_key c.key.result) _ xs c.remove.ensures.answer ∙ (ap (λ k. has (of_key k) xs) c.key.ensures ∙ none_gone p xs (room t) up (listed_fits t))));
      places = c.remove.ensures.places;
    }

pub put_in-requires : goal.put_in-requires
unfolding listed room
put_in-requires g c = let u = c.remove.new.self in omega (arith, length-take-le u.len u.rows.now u.inside)

pub invariant_of-self : goal.invariant_of-self
unfolding listed room
invariant_of-self g c =
    let same = g.R.Row.same in
    let key = g.R.Row.key_of in
    let row = c.args.row in
    let u = c.remove.new.self in
    let n = length-take-le u.len u.rows.now u.inside in
    let in_place = c.put_in.ensures ∙ ap (put g.R.Row.rank_of row) (c.remove.ensures.after ∙ ap (λ k. cut (of same key k) (listed c.args.self.now)) c.key.ensures) in
    record {
      inside = omega (arith, n);
      limit = omega (arith, n);
      single = subst (Single same key) (sym in_place) ((stands same key g.R.Row.rank_of (equivalence same g.met.R.Row.reflexive g.met.R.Row.symmetric g.met.R.Row.transitive)).single_put row (listed c.args.self.now) c.args.self.now.single);
    }

pub returns-clause-decides : goal.returns-clause-decides
returns-clause-decides g c =
    let of_key = of g.R.Row.same g.R.Row.key_of in
    let xs = listed c.args.self.now in
    let out : listed c.remove.new.self ≡ cut (of_key (g.R.Row.key_of c.args.row)) xs = c.remove.ensures.after ∙ ap (λ k. cut (of_key k) xs) c.key.ensures in
    sym (taken _ xs (room c.args.self.now) (omega (arith, ap length out)))

pub returns-clause-after : goal.returns-clause-after
unfolding listed
returns-clause-after g c =
    c.put_in.ensures ∙ ap (put g.R.Row.rank_of c.args.row) (c.remove.ensures.after ∙ ap (λ k. cut (of g.R.Row.same g.R.Row.key_of k) (listed c.args.self.now)) c.key.ensures)
