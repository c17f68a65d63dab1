use Rattle.std.proofs.Common.{◌∷◌, ◌++◌, [], ap₂, sym, ◌∙◌}
use Rattle.fj_groebner.specs.Run.{is_left_out}
use Rattle.fj_basis.specs.Members.{sugared_members}
use Rattle.fj_basis.proofs.FinishingActs.{map-range-more}
use Rattle.fj_basis.proofs.finishing.left_out.Goals as goal

pub loop-i-preserved : goal.loop-i-preserved
loop-i-preserved g c =
    c.in_ok-push.ensures.items ∙ ap₂ (λ ys y. ys ++ (y ∷ [])) c.loop-i.invariant c.is_left_out.ensures
    ∙ sym (map-range-more (is_left_out g.O.Order.key (sugared_members c.args.members.now)) c.loop-i.i)
