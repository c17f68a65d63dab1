use Rattle.std.proofs.Common.{◌++◌, ◌∷◌, [], ap₂, ◌∙◌, sym, arith}
use Rattle.std.proofs.lemmas.List.FromFn.{map-range_with_len_more}
use Rattle.fj_theory.specs.PointIdeal.{less_coordinate, point_ideal}
use Rattle.fj_thresh.proofs.point.point_ideal.Goals as goal

pub loop-i-init : goal.loop-i-init
unfolding point_ideal
loop-i-init g c = c.in_ok-list.ensures.items

pub loop-i-preserved : goal.loop-i-preserved
unfolding point_ideal
loop-i-preserved g c =
    c.in_ok-push.ensures.items ∙ ap₂ (λ xs x. xs ++ x ∷ []) c.loop-i.invariant c.in_ok-less_coordinate.ensures
    ∙ sym (map-range_with_len_more (less_coordinate g.K.Coeff.field c.args.at.now) 0 c.loop-i.i c.loop-i.i (omega arith))
