use Rattle.std.proofs.Common.{◌<◌, All, ℕ, List, [], ◌∷◌, true≢false, sym, ◌∙◌, subst, refl, arith}
use Rattle.fj_theory.proofs.Ideal.{SameIdeal-sym}
use Rattle.fj_plain.specs.declared.order_name.OrderName.TheVariants.{Grevlex}
use Rattle.fj_ideal.specs.Lists.{RunFor}
use Rattle.fj_ideal.specs.Stop.{StopsOnlyWith}
use Rattle.fj_chain.specs.Lists.{IsChainList, IsHighInChain, LeadTo, PeriodsLeadTo}
use Rattle.fj_chain.proofs.ChainLists.{first_stop, period_stop, periods_more}
use Rattle.fj_chain.proofs.PeriodBound.{few_periods_from}
use Rattle.fj_chain.proofs.chain.chain_from.Goals as goal

pub returns-in_err-last-clause-stop : goal.returns-in_err-last-clause-stop
returns-in_err-last-clause-stop g c =
    first_stop g.K.Coeff.field c.args.f.now c.args.u.now.period c.args.first.now c.args.pairs c.from_ref.result.now c.from_ref.ensures.value
    c.in_err-last.field-0.0 c.from_residual.result c.from_residual.ensures.1 c.in_err-last.ensures.stop

pub returns-in_err-next-clause-stop : goal.returns-in_err-next-clause-stop
returns-in_err-next-clause-stop g c =
    let F = g.K.Coeff.field in
    let h = c.args.first.now in
    let last = c.loop-periods.last.given in
    subst (λ (period : List ℕ). StopsOnlyWith F (RunFor Grevlex (IsChainList F c.args.f.now period h)) (IsHighInChain F c.args.f.now period h) c.args.pairs c.from_residual-in_err-next.result) c.period-period.ensures.value
    (period_stop F c.args.f.now c.period-period.result.now h c.args.pairs c.loop-periods.periods last c.loop-periods.invariant.0
    c.in_err-next.field-0.0 c.from_residual-in_err-next.result c.from_residual-in_err-next.ensures.1 c.in_err-next.ensures.stop)

pub returns-then-same-clause-chain : goal.returns-then-same-clause-chain
returns-then-same-clause-chain g c =
    let F = g.K.Coeff.field in
    let f = c.args.f.now in
    let last = c.loop-periods.last.given in
    let is = c.period-period.ensures.value in (
      record {
        periods = c.loop-periods.periods;
        start = last;
        before = subst (λ (period : List ℕ). PeriodsLeadTo F f period (c.args.first.now ∷ []) c.loop-periods.periods last) is c.loop-periods.invariant.0;
        last = subst (λ (period : List ℕ). LeadTo F f period last c.in_ok-next.next.given) is c.in_ok-next.ensures.list;
        repeats = SameIdeal-sym (c.same.ensures.0 c.if-same.true);
      },
      refl,
    )

pub loop-periods-preserved : goal.loop-periods-preserved
loop-periods-preserved g c = (
  periods_more g.K.Coeff.field c.args.f.now c.period-period.result.now (c.args.first.now ∷ []) c.loop-periods.periods c.loop-periods.last.given c.in_ok-next.next.given
      c.loop-periods.invariant.0 c.in_ok-next.ensures.list (λ same. true≢false (sym (c.same.ensures.1 (SameIdeal-sym same)) ∙ c.if-same.false)),
  c.in_ok-next.ensures.ideal,
)

pub unreachable-requires : goal.unreachable-requires
unreachable-requires g c =
    let F = g.K.Coeff.field in
    let below = subst (λ p. All (λ d. d < p) c.args.u.now.period) (c.requires.prime ∙ g.met.K.Coeff.characteristic_is) c.period-period.ensures.below in
    let lead = subst (λ (period : List ℕ). PeriodsLeadTo F c.args.f.now period (c.args.first.now ∷ []) c.loop-periods.periods c.loop-periods.last.given) c.period-period.ensures.value c.loop-periods.invariant.0 in
    let few = few_periods_from c.is_zero.ensures.polynomial g.met.K.Coeff.lawful c.requires.admissible c.args.u.now.period below c.args.first.now c.requires.first c.loop-periods.periods c.loop-periods.last.given lead in
    let many = c.loop-periods-test.false in
    omega (arith, few, many)
