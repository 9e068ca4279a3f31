use Rattle.std.proofs.Common.{leb, take, sym, ap, ◌∙◌, arith}
use Rattle.std.specs.List.{insert, prefix_len}
use Rattle.std.proofs.lemmas.List.{length-take-le}
use Rattle.table.proofs.Picks.{put_first}
use Rattle.table.proofs.moves.put_in.Goals as goal

pub open-requires : goal.open-requires
open-requires g c = (omega arith, omega (arith, c.rank_place-place.ensures.inside, length-take-le c.args.n c.args.rows.now (omega arith)))

pub returns : goal.returns
returns g c =
    let rank = g.R.Row.rank_of in
    let xs = take c.args.n c.args.rows.now in
    let at = c.rank_place-place.ensures.front ∙ ap (λ n. prefix_len (λ r. leb (rank r) n) xs) c.rank.ensures in
    c.open.ensures ∙ (ap (λ i. insert xs i c.args.row) at ∙ sym (put_first rank c.args.row xs))
