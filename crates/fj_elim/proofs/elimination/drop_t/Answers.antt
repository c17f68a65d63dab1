use Rattle.std.proofs.Common.{◌≡◌, ◌++◌, ◌∷◌, [], ◌∙◌, true≢false, sym, ap, ap₂}
use Rattle.fj_elim.proofs.Eighth.{without_eighth-nil, without_eighth-kept, without_eighth-dropped}
use Rattle.fj_elim.proofs.elimination.drop_t.Goals as goal
use Rattle.fj_elim.proofs.elimination.drop_t.Goals.{then-lacks_eighth+in_ok-reorder+in_ok-push, else-lacks_eighth}

pub loop-g-init : goal.loop-g-init
loop-g-init g c = c.new-members.ensures.items ∙ sym without_eighth-nil

pub loop-g-preserved : goal.loop-g-preserved
loop-g-preserved g c =
    let L = g.met.K.Coeff.lawful in
    let list = c.args.list.now in
    elim c.if-lacks_eighth.branch [
      | then-lacks_eighth+in_ok-reorder+in_ok-push w ↦
          ap (λ v. v.items) w.members-is ∙ w.in_ok-push.ensures.items ∙ ap₂ (λ xs x. xs ++ x ∷ []) c.loop-g.invariant w.in_ok-reorder.ensures.value
          ∙ sym (without_eighth-kept L list c.loop-g.g-index c.g-item.result c.loop-g-test.true c.g-item.is c.lacks_eighth.ensures.polynomial (c.lacks_eighth.ensures.value.0 w.if-lacks_eighth.true))
      | else-lacks_eighth w ↦
          ap (λ v. v.items) w.members-is ∙ c.loop-g.invariant
          ∙ sym (without_eighth-dropped L list c.loop-g.g-index c.g-item.result c.loop-g-test.true c.g-item.is c.lacks_eighth.ensures.polynomial
          (λ u. true≢false (sym (c.lacks_eighth.ensures.value.1 u) ∙ w.if-lacks_eighth.false)))
    ]
