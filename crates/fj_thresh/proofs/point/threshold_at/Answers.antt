use Rattle.std.proofs.Common.{◌≡◌, List, ◌∙◌, sym, subst, arith}
use Rattle.std.proofs.lemmas.Result.{IfOk-weaker}
use Rattle.fj_theory.specs.Evaluation.{value}
use Rattle.fj_theory.specs.Polynomial.{Polynomial}
use Rattle.fj_plain.specs.declared.order_name.OrderName.TheVariants.{Grevlex}
use Rattle.fj_ideal.specs.Lists.{RunFor}
use Rattle.fj_ideal.specs.Stop.{StopsOnlyWith}
use Rattle.fj_thresh.specs.Answer.{IsProperWith, IsThresholdAnswer}
use Rattle.fj_thresh.specs.Lists.{IsHighInThreshold, IsThresholdList}
use Rattle.fj_thresh.proofs.PointThreshold.{point_answer, point_stop, search_stop, within_point}
use Rattle.fj_thresh.proofs.point.threshold_at.Goals as goal

pub returns-in_err-j-clause-stop : goal.returns-in_err-j-clause-stop
returns-in_err-j-clause-stop g c =
    let F = g.K.Coeff.field in
    let zero : value F c.args.f.now c.args.at.now ≡ 0 = sym c.eval.ensures ∙ sym c.rank.ensures ∙ c.if-rank-ne0.false in
    point_stop F c.args.e c.args.f.now c.args.vars c.args.at.now c.args.pairs zero c.in_ok-list.list.items c.in_ok-list.ensures
    c.in_err-j.field-0.0 c.from_residual-in_err-j.result c.from_residual-in_err-j.ensures.1 c.in_err-j.ensures.stop

pub proper_threshold-requires-clause-within : goal.proper_threshold-requires-clause-within
proper_threshold-requires-clause-within g c =
    let F = g.K.Coeff.field in
    let f = c.args.f.now in
    let few = c.requires.few in
    let zero : value F f c.args.at.now ≡ 0 = sym c.eval.ensures ∙ sym c.rank.ensures ∙ c.if-rank-ne0.false in
    subst (λ J. IsProperWith F J f) (sym (c.in_ok-j.ensures.value.given ∙ c.in_ok-list.ensures))
    (within_point g.met.K.Coeff.lawful c.is_zero.ensures.polynomial c.len.ensures.point c.args.vars (omega (arith, few)) c.requires.uses zero)

pub returns-clause-value : goal.returns-clause-value
returns-clause-value g c =
    let F = g.K.Coeff.field in
    let f = c.args.f.now in
    let few = c.requires.few in
    let zero : value F f c.args.at.now ≡ 0 = sym c.eval.ensures ∙ sym c.rank.ensures ∙ c.if-rank-ne0.false in
    let within = within_point g.met.K.Coeff.lawful c.is_zero.ensures.polynomial c.len.ensures.point c.args.vars (omega (arith, few)) c.requires.uses zero in
    IfOk-weaker c.proper_threshold.result _ _
    (λ t h. point_answer F c.args.e f c.args.vars c.args.at.now within zero t (subst (λ (J : List Polynomial). IsThresholdAnswer F c.args.e f J t) (c.in_ok-j.ensures.value.given ∙ c.in_ok-list.ensures) h)) c.proper_threshold.ensures.value

pub returns-clause-stop : goal.returns-clause-stop
returns-clause-stop g c =
    let F = g.K.Coeff.field in
    let f = c.args.f.now in
    let zero : value F f c.args.at.now ≡ 0 = sym c.eval.ensures ∙ sym c.rank.ensures ∙ c.if-rank-ne0.false in
    search_stop F c.args.e f c.args.vars c.args.at.now c.args.pairs zero c.proper_threshold.result
    (subst (λ (J : List Polynomial). StopsOnlyWith F (RunFor Grevlex (IsThresholdList F c.args.e f J)) (IsHighInThreshold F c.args.e f J) c.args.pairs c.proper_threshold.result)
    (c.in_ok-j.ensures.value.given ∙ c.in_ok-list.ensures) c.proper_threshold.ensures.stop)
