use Rattle.std.proofs.Common.{◌≡◌, ◌+◌, ◌-◌, ◌/◌, ◌<◌, ◌∙◌, length, sym, subst, arith}
use Rattle.std.proofs.lemmas.List.{get_or_default}
use Rattle.fj_jump.specs.declared.period_limits.PeriodLimits.{PeriodLimits}
use Rattle.fj_jump.proofs.PeriodLimits.{same_digits}
use Rattle.fj_jump.proofs.period_limits.place_of.Goals as goal

pub returns-in-Equal-clause-found : goal.returns-in-Equal-clause-found
returns-in-Equal-clause-found g c = λ e.
    let middle = c.loop-low.low + (c.loop-low.high - c.loop-low.low) / 2 in
    let here = c.index-periods-middle.result in
    let bounds = c.loop-low.invariant in
    let test = c.loop-low-test.true in
    let within : middle < length c.args.periods.now = omega (arith, bounds.0, bounds.1, test) in
    let same = sym c.as_slice.ensures.value ∙ same_digits _ _ (sym c.cmp.ensures ∙ c.in-Equal.is) ∙ c.period-period.ensures.value in
    subst (λ (l : PeriodLimits g.row.K.Denot). l.period.items ≡ c.args.digits.now.period) (get_or_default c.args.periods.now middle here e within) same
