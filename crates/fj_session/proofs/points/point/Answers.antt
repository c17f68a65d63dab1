use Rattle.std.proofs.Common.{◌++◌, ◌∷◌, [], ◌∙◌, map, take, sym, ap, ap₂, arith}
use Rattle.std.proofs.lemmas.List.{map-append, take_more}
use Rattle.std.proofs.lemmas.Option.{get_or_from_slice_get}
use Rattle.fj_session.proofs.points.point.Goals as goal

pub loop-i-preserved : goal.loop-i-preserved
loop-i-preserved g c =
    let rank = g.K.Coeff.rank in
    let ranks = c.point_at-ranks.result.now in
    let i = c.loop-i.i in
    let r = c.get.result.now in
    let more = take_more ranks i r (omega (arith, c.loop-i-test.true, c.len-i-end.ensures)) ∙ ap (λ x. take i ranks ++ x ∷ []) (get_or_from_slice_get ranks i r r c.get.ensures) in
    ap (map rank) c.in_ok-push.ensures.items ∙ map-append rank c.loop-i.coordinates.items (c.of_rank.result ∷ []) ∙ ap₂ (λ xs x. xs ++ x ∷ []) c.loop-i.invariant c.of_rank.ensures ∙ sym more
