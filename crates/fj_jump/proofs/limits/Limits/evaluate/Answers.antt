use Rattle.std.proofs.Common.{◌≡◌, ◌<◌, ◌∙◌, IfOk, length, sym, subst}
use Rattle.std.specs.List.{HoldsAt}
use Rattle.std.proofs.lemmas.Result.{IfOk-weaker}
use Rattle.fj_theory.specs.Digits.{IsExpansion}
use Rattle.fj_theory.specs.Exponents.{origin}
use Rattle.fj_theory.specs.Polynomial.{term}
use Rattle.fj_plain.specs.declared.order_name.OrderName.TheVariants.{Grevlex}
use Rattle.fj_ideal.specs.Lists.{RunFor}
use Rattle.fj_ideal.specs.Stop.{StopsOnlyWith}
use Rattle.fj_testideal.specs.TestIdeal.{IsLeftLimit, IsTestIdeal}
use Rattle.fj_chain.specs.Lists.{IsHighInJump, IsJumpList, IsLastLeftList, IsLastTestList}
use Rattle.fj_chain.proofs.TestIdeals.{left_from_last, test_from_last}
use Rattle.fj_jump.specs.Limits.{CountedLimits}
use Rattle.fj_jump.specs.PeriodLimits.{AreLimitsOfPeriod}
use Rattle.fj_jump.specs.declared.period_limits.PeriodLimits.{PeriodLimits}
use Rattle.fj_jump.proofs.PeriodLimits.{all_kept, chains_stop, last_limit, last_test, limits_found, steps_handed_on, steps_stop}
use Rattle.fj_jump.proofs.limits.Limits.evaluate.Goals as goal

pub returns-in-Ok-clause-test_ideal : goal.returns-in-Ok-clause-test_ideal
returns-in-Ok-clause-test_ideal g c =
    let F = g.K.Coeff.field in
    let f = c.self.inside.f in
    let t = c.args.t.now in
    let d = c.in_ok-digits.digits in
    let x = subst (λ p. IsExpansion p t d) (c.P.ensures ∙ g.met.K.Coeff.characteristic_is) c.in_ok-digits.ensures in
    let e = c.index.result.now in
    let limits = limits_found F f c.self.inside.periods.items c.in-Ok.place e d.period c.self.invariant.1 (subst (λ es. c.in-Ok.place < length es) c.deref.ensures.value c.in-Ok.ensures.range) c.index.ensures
    (subst (λ es. HoldsAt (λ (l : PeriodLimits g.row.K.Denot). l.period.items ≡ d.period) es c.in-Ok.place) c.deref.ensures.value c.in-Ok.ensures.found) in
    subst (λ (l : CountedLimits). IfOk c.lead_on.result (λ r. IsTestIdeal F l.f t r.0.given)) c.self.view_is
    (IfOk-weaker c.lead_on.result _ _ (λ r lead. test_from_last g.met.K.Coeff.lawful c.is_zero.ensures.polynomial t r.0.given (last_limit F f t c.requires d x f limits.rising lead)) c.lead_on.ensures.rising)

pub returns-clause-test_ideal : goal.returns-clause-test_ideal
returns-clause-test_ideal g c =
    let F = g.K.Coeff.field in
    let f = c.self.inside.f in
    let t = c.args.t.now in
    let d = c.in_ok-digits.digits in
    let x = subst (λ p. IsExpansion p t d) (c.P.ensures ∙ g.met.K.Coeff.characteristic_is) c.in_ok-digits.ensures in
    let limits = c.in_ok-limits-in-Err.ensures.limits in
    let N = c.in_ok-reached-in-Err.reached.0.given in
    subst (λ (l : CountedLimits). IsTestIdeal F l.f t N) c.self.view_is (test_from_last g.met.K.Coeff.lawful c.is_zero.ensures.polynomial t N (last_limit F f t c.requires d x f limits.rising c.in_ok-reached-in-Err.ensures.rising))

pub returns-in-Ok-clause-left_limit : goal.returns-in-Ok-clause-left_limit
returns-in-Ok-clause-left_limit g c =
    let F = g.K.Coeff.field in
    let f = c.self.inside.f in
    let t = c.args.t.now in
    let d = c.in_ok-digits.digits in
    let x = subst (λ p. IsExpansion p t d) (c.P.ensures ∙ g.met.K.Coeff.characteristic_is) c.in_ok-digits.ensures in
    let e = c.index.result.now in
    let limits = limits_found F f c.self.inside.periods.items c.in-Ok.place e d.period c.self.invariant.1 (subst (λ es. c.in-Ok.place < length es) c.deref.ensures.value c.in-Ok.ensures.range) c.index.ensures
    (subst (λ es. HoldsAt (λ (l : PeriodLimits g.row.K.Denot). l.period.items ≡ d.period) es c.in-Ok.place) c.deref.ensures.value c.in-Ok.ensures.found) in
    subst (λ (l : CountedLimits). IfOk c.lead_on.result (λ r. IsLeftLimit F l.f t r.1.given)) c.self.view_is
    (IfOk-weaker c.lead_on.result _ _ (λ r lead. left_from_last g.met.K.Coeff.lawful c.is_zero.ensures.polynomial t r.1.given (last_limit F f t c.requires d x (term 1 origin) limits.falling lead)) c.lead_on.ensures.falling)

pub returns-clause-left_limit : goal.returns-clause-left_limit
returns-clause-left_limit g c =
    let F = g.K.Coeff.field in
    let f = c.self.inside.f in
    let t = c.args.t.now in
    let d = c.in_ok-digits.digits in
    let x = subst (λ p. IsExpansion p t d) (c.P.ensures ∙ g.met.K.Coeff.characteristic_is) c.in_ok-digits.ensures in
    let limits = c.in_ok-limits-in-Err.ensures.limits in
    let N = c.in_ok-reached-in-Err.reached.1.given in
    subst (λ (l : CountedLimits). IsLeftLimit F l.f t N) c.self.view_is (left_from_last g.met.K.Coeff.lawful c.is_zero.ensures.polynomial t N (last_limit F f t c.requires d x (term 1 origin) limits.falling c.in_ok-reached-in-Err.ensures.falling))

pub returns-in-Ok-clause-test_list : goal.returns-in-Ok-clause-test_list
returns-in-Ok-clause-test_list g c =
    let F = g.K.Coeff.field in
    let f = c.self.inside.f in
    let t = c.args.t.now in
    let d = c.in_ok-digits.digits in
    let x = subst (λ p. IsExpansion p t d) (c.P.ensures ∙ g.met.K.Coeff.characteristic_is) c.in_ok-digits.ensures in
    let e = c.index.result.now in
    let limits = limits_found F f c.self.inside.periods.items c.in-Ok.place e d.period c.self.invariant.1 (subst (λ es. c.in-Ok.place < length es) c.deref.ensures.value c.in-Ok.ensures.range) c.index.ensures
    (subst (λ es. HoldsAt (λ (l : PeriodLimits g.row.K.Denot). l.period.items ≡ d.period) es c.in-Ok.place) c.deref.ensures.value c.in-Ok.ensures.found) in
    subst (λ (l : CountedLimits). IfOk c.lead_on.result (λ r. IsLastTestList F l.f t r.0.given)) c.self.view_is
    (IfOk-weaker c.lead_on.result _ _ (λ r lead. last_test F f t c.requires d x limits.rising lead) c.lead_on.ensures.rising)

pub returns-clause-test_list : goal.returns-clause-test_list
returns-clause-test_list g c =
    let F = g.K.Coeff.field in
    let f = c.self.inside.f in
    let t = c.args.t.now in
    let d = c.in_ok-digits.digits in
    let x = subst (λ p. IsExpansion p t d) (c.P.ensures ∙ g.met.K.Coeff.characteristic_is) c.in_ok-digits.ensures in
    let limits = c.in_ok-limits-in-Err.ensures.limits in
    let N = c.in_ok-reached-in-Err.reached.0.given in
    subst (λ (l : CountedLimits). IsLastTestList F l.f t N) c.self.view_is (last_test F f t c.requires d x limits.rising c.in_ok-reached-in-Err.ensures.rising)

pub returns-in-Ok-clause-left_list : goal.returns-in-Ok-clause-left_list
returns-in-Ok-clause-left_list g c =
    let F = g.K.Coeff.field in
    let f = c.self.inside.f in
    let t = c.args.t.now in
    let d = c.in_ok-digits.digits in
    let x = subst (λ p. IsExpansion p t d) (c.P.ensures ∙ g.met.K.Coeff.characteristic_is) c.in_ok-digits.ensures in
    let e = c.index.result.now in
    let limits = limits_found F f c.self.inside.periods.items c.in-Ok.place e d.period c.self.invariant.1 (subst (λ es. c.in-Ok.place < length es) c.deref.ensures.value c.in-Ok.ensures.range) c.index.ensures
    (subst (λ es. HoldsAt (λ (l : PeriodLimits g.row.K.Denot). l.period.items ≡ d.period) es c.in-Ok.place) c.deref.ensures.value c.in-Ok.ensures.found) in
    subst (λ (l : CountedLimits). IfOk c.lead_on.result (λ r. IsLastLeftList F l.f t r.1.given)) c.self.view_is
    (IfOk-weaker c.lead_on.result _ _ (λ r lead. last_limit F f t c.requires d x (term 1 origin) limits.falling lead) c.lead_on.ensures.falling)

pub returns-clause-left_list : goal.returns-clause-left_list
returns-clause-left_list g c =
    let F = g.K.Coeff.field in
    let f = c.self.inside.f in
    let t = c.args.t.now in
    let d = c.in_ok-digits.digits in
    let x = subst (λ p. IsExpansion p t d) (c.P.ensures ∙ g.met.K.Coeff.characteristic_is) c.in_ok-digits.ensures in
    let limits = c.in_ok-limits-in-Err.ensures.limits in
    let N = c.in_ok-reached-in-Err.reached.1.given in
    subst (λ (l : CountedLimits). IsLastLeftList F l.f t N) c.self.view_is (last_limit F f t c.requires d x (term 1 origin) limits.falling c.in_ok-reached-in-Err.ensures.falling)

pub returns-in-Ok-clause-stop : goal.returns-in-Ok-clause-stop
returns-in-Ok-clause-stop g c =
    let F = g.K.Coeff.field in
    let f = c.self.inside.f in
    let t = c.args.t.now in
    let d = c.in_ok-digits.digits in
    let x = subst (λ p. IsExpansion p t d) (c.P.ensures ∙ g.met.K.Coeff.characteristic_is) c.in_ok-digits.ensures in
    let e = c.index.result.now in
    let limits = limits_found F f c.self.inside.periods.items c.in-Ok.place e d.period c.self.invariant.1 (subst (λ es. c.in-Ok.place < length es) c.deref.ensures.value c.in-Ok.ensures.range) c.index.ensures
    (subst (λ es. HoldsAt (λ (l : PeriodLimits g.row.K.Denot). l.period.items ≡ d.period) es c.in-Ok.place) c.deref.ensures.value c.in-Ok.ensures.found) in
    subst (λ (l : CountedLimits). StopsOnlyWith F (RunFor Grevlex (IsJumpList F l.f t)) (IsHighInJump F l.f t) l.pairs c.lead_on.result) c.self.view_is
    (steps_stop F f t c.requires d x c.self.inside.pairs limits c.lead_on.result c.lead_on.ensures.stop)

pub returns-in_err-limits-in-Err-clause-stop : goal.returns-in_err-limits-in-Err-clause-stop
returns-in_err-limits-in-Err-clause-stop g c =
    let F = g.K.Coeff.field in
    let f = c.self.inside.f in
    let t = c.args.t.now in
    let d = c.in_ok-digits.digits in
    let x = subst (λ p. IsExpansion p t d) (c.P.ensures ∙ g.met.K.Coeff.characteristic_is) c.in_ok-digits.ensures in
    let r = c.from_residual-in_err-limits-in-Err.result in
    subst (λ (l : CountedLimits). StopsOnlyWith F (RunFor Grevlex (IsJumpList F l.f t)) (IsHighInJump F l.f t) l.pairs r) c.self.view_is
    (chains_stop F f t c.requires d x c.self.inside.pairs c.in_err-limits-in-Err.field-0.0 r c.from_residual-in_err-limits-in-Err.ensures.1 c.in_err-limits-in-Err.ensures.stop)

pub returns-in_err-reached-in-Err-clause-stop : goal.returns-in_err-reached-in-Err-clause-stop
returns-in_err-reached-in-Err-clause-stop g c =
    let F = g.K.Coeff.field in
    let f = c.self.inside.f in
    let t = c.args.t.now in
    let d = c.in_ok-digits.digits in
    let x = subst (λ p. IsExpansion p t d) (c.P.ensures ∙ g.met.K.Coeff.characteristic_is) c.in_ok-digits.ensures in
    let r = c.from_residual-in_err-reached-in-Err.result in
    subst (λ (l : CountedLimits). StopsOnlyWith F (RunFor Grevlex (IsJumpList F l.f t)) (IsHighInJump F l.f t) l.pairs r) c.self.view_is
    (steps_handed_on F f t c.requires d x c.self.inside.pairs c.in_ok-limits-in-Err.ensures.limits c.in_err-reached-in-Err.field-0.0 r c.from_residual-in_err-reached-in-Err.ensures.1 c.in_err-reached-in-Err.ensures.stop)

pub invariant_of-self-in_err-keep-in-Err : goal.invariant_of-self-in_err-keep-in-Err
invariant_of-self-in_err-keep-in-Err g c =
    let F = g.K.Coeff.field in
    let f = c.self.inside.f in
    let limits = c.in_ok-limits-in-Err.limits in
    let IsRight = λ (l : PeriodLimits g.row.K.Denot). AreLimitsOfPeriod F f l.period.items l.rising.given l.falling.given in
    let right = subst (λ p. AreLimitsOfPeriod F f p limits.rising.given limits.falling.given) (sym c.in_ok-limits-in-Err.ensures.period) c.in_ok-limits-in-Err.ensures.limits in
    (c.self.invariant.0, all_kept IsRight c.self.inside.periods.items c.in-Err.place limits _ c.self.invariant.1 right c.in_err-keep-in-Err.ensures)

pub invariant_of-self-in-Err : goal.invariant_of-self-in-Err
invariant_of-self-in-Err g c =
    let F = g.K.Coeff.field in
    let f = c.self.inside.f in
    let limits = c.in_ok-limits-in-Err.limits in
    let IsRight = λ (l : PeriodLimits g.row.K.Denot). AreLimitsOfPeriod F f l.period.items l.rising.given l.falling.given in
    let right = subst (λ p. AreLimitsOfPeriod F f p limits.rising.given limits.falling.given) (sym c.in_ok-limits-in-Err.ensures.period) c.in_ok-limits-in-Err.ensures.limits in
    (c.self.invariant.0, all_kept IsRight c.self.inside.periods.items c.in-Err.place limits _ c.self.invariant.1 right c.in_ok-keep-in-Err.ensures)
