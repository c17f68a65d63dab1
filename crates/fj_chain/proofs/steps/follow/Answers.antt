use Rattle.std.proofs.Common.{[], ◌∷◌, append-nil, refl, sym}
use Rattle.fj_chain.specs.Lists.{IsStepFor}
use Rattle.fj_chain.proofs.StepLists.{next_reduced_list, step_handed_on, this_step, used_more}
use Rattle.fj_chain.proofs.steps.follow.Goals as goal

pub returns-in_err-reached-clause-stop : goal.returns-in_err-reached-clause-stop
returns-in_err-reached-clause-stop g c =
    let F = g.K.Coeff.field in
    let digits = c.args.digits.now in
    step_handed_on F c.args.f.now c.args.pairs (IsStepFor F c.args.f.now digits c.args.start.now.given) c.from.result c.given.ensures.ideal
    (this_step {F = F} {f = c.args.f.now} digits digits [] {L = c.args.start.now.given} c.from.result {M = c.args.start.now.given} (sym (append-nil digits)) c.in-len1-up.len_at_least (sym c.from.ensures) refl)
    c.in_err-reached.field-0.0 c.from_residual-in_err-reached.result c.from_residual-in_err-reached.ensures.1 c.in_err-reached.ensures.stop

pub returns-in_err-reached-2-clause-stop : goal.returns-in_err-reached-2-clause-stop
returns-in_err-reached-2-clause-stop g c =
    let F = g.K.Coeff.field in
    let inv = c.loop-left.invariant in
    let d = c.from-in-len1-up-left.result in
    step_handed_on F c.args.f.now c.args.pairs (IsStepFor F c.args.f.now c.args.digits.now c.args.start.now.given) d inv.1
    (this_step {F = F} {f = c.args.f.now} c.args.digits.now c.loop-left.left.now inv.0.0 {L = c.args.start.now.given} d {M = c.loop-left.reached.given} inv.0.1 c.in-len1-up-left.len_at_least (sym c.from-in-len1-up-left.ensures) inv.0.2)
    c.in_err-reached-2.field-0.0 c.from_residual-in_err-reached-2.result c.from_residual-in_err-reached-2.ensures.1 c.in_err-reached-2.ensures.stop

pub loop-left-init : goal.loop-left-init
loop-left-init g c =
    let F = g.K.Coeff.field in
    let digits = c.args.digits.now in
    let start = c.args.start.now.given in (
      (
        c.from.result ∷ [],
        used_more digits digits [] c.from.result (sym (append-nil digits)) c.in-len1-up.len_at_least (sym c.from.ensures),
        (start, refl, next_reduced_list F c.args.f.now c.args.pairs (IsStepFor F c.args.f.now digits start) c.from.result c.given.ensures.ideal c.in_ok-reached.ensures.list),
      ),
      c.in_ok-reached.ensures.ideal,
    )

pub loop-left-preserved : goal.loop-left-preserved
loop-left-preserved g c =
    let F = g.K.Coeff.field in
    let inv = c.loop-left.invariant in
    let d = c.from-in-len1-up-left.result in (
      (
        d ∷ inv.0.0,
        used_more c.args.digits.now c.loop-left.left.now inv.0.0 d inv.0.1 c.in-len1-up-left.len_at_least (sym c.from-in-len1-up-left.ensures),
        (c.loop-left.reached.given, inv.0.2, next_reduced_list F c.args.f.now c.args.pairs (IsStepFor F c.args.f.now c.args.digits.now c.args.start.now.given) d inv.1 c.in_ok-reached-2.ensures.list),
      ),
      c.in_ok-reached-2.ensures.ideal,
    )
