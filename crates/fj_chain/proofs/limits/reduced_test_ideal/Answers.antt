use Rattle.std.proofs.Common.{◌≡◌, ◌<◌, ◌∷◌, [], ◌∙◌, sym, ap, subst, arith}
use Rattle.std.proofs.lemmas.Result.{IfOk-weaker}
use Rattle.fj_theory.specs.Exponents.{origin}
use Rattle.fj_theory.specs.Polynomial.{term}
use Rattle.fj_plain.specs.declared.order_name.OrderName.TheVariants.{Grevlex}
use Rattle.fj_ideal.specs.Lists.{NoProduct, RunFor}
use Rattle.fj_ideal.proofs.Stops.{only_from_exactly, only_of_more}
use Rattle.fj_testideal.specs.TestIdeal.{IsTestIdeal}
use Rattle.fj_testideal.proofs.TestIdeal.{test_ideal-zero}
use Rattle.fj_chain.specs.Lists.{IsHighInLimit, IsHighInTest, IsLimitList, IsTestList, at_zero, above_zero}
use Rattle.fj_chain.proofs.TestIdeals.{test_from_last}
use Rattle.fj_chain.proofs.limits.reduced_test_ideal.Goals as goal

pub returns-then-num-eq0-clause-value : goal.returns-then-num-eq0-clause-value
returns-then-num-eq0-clause-value g c =
    let F = g.K.Coeff.field in
    let number = c.num.ensures.value in
    let zero_is = c.if-num-eq0.true in
    let single : c.from_ref.result.now ≡ term 1 origin ∷ [] = c.from_ref.ensures.value ∙ ap (λ h. h ∷ []) c.in_ok-unit.ensures in
    IfOk-weaker c.of.result _ _
    (λ J S. subst (IsTestIdeal F c.args.f.now c.args.t.now) (sym (S.given ∙ single)) (test_ideal-zero g.met.K.Coeff.lawful c.is_zero.ensures.polynomial c.args.t.now (omega (arith, number, zero_is)))) c.of.ensures.value

pub returns-then-num-eq0-clause-stop : goal.returns-then-num-eq0-clause-stop
returns-then-num-eq0-clause-stop g c =
    let F = g.K.Coeff.field in
    let f = c.args.f.now in
    let t = c.args.t.now in
    let L = c.from_ref.result.now in
    let number = c.num.ensures.value in
    let zero_is = c.if-num-eq0.true in
    let none : t.numerator ≡ 0 = omega (arith, number, zero_is) in
    let single : L ≡ term 1 origin ∷ [] = c.from_ref.ensures.value ∙ ap (λ h. h ∷ []) c.in_ok-unit.ensures in
    only_of_more F c.args.pairs (RunFor Grevlex (λ M. M ≡ L)) (RunFor Grevlex (IsTestList F f t)) NoProduct (IsHighInTest F f t)
    (λ o N e. (e.0, at_zero none (e.1 ∙ single))) (λ N no. absurd no) c.of.result (only_from_exactly F c.args.pairs (RunFor Grevlex (λ M. M ≡ L)) NoProduct c.of.result c.of.ensures.stop)

pub returns-clause-value : goal.returns-clause-value
returns-clause-value g c =
    IfOk-weaker c.limit_from.result _ _ (λ J last. test_from_last g.met.K.Coeff.lawful c.is_zero.ensures.polynomial c.args.t.now J.given last) c.limit_from.ensures.list

pub returns-clause-stop : goal.returns-clause-stop
returns-clause-stop g c =
    let F = g.K.Coeff.field in
    let f = c.args.f.now in
    let t = c.args.t.now in
    let number = c.num.ensures.value in
    let apart = c.if-num-eq0.false in
    let some : 0 < t.numerator = omega (arith, number, apart) in
    only_of_more F c.args.pairs (RunFor Grevlex (IsLimitList F f t f)) (RunFor Grevlex (IsTestList F f t)) (IsHighInLimit F f t f) (IsHighInTest F f t)
    (λ o N e. (e.0, above_zero some e.1)) (λ N e. record { above_zero = some; high = e }) c.limit_from.result c.limit_from.ensures.stop
