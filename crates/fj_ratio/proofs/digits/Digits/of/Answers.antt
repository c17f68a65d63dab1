use Rattle.std.proofs.Common.{◌≡◌, ◌*◌, ◌+◌, ◌<◌, arith, subst, ap, ◌∙◌}
use Rattle.fj_coeff.specs.PrimeFieldLaws.{prime_bounds}
use Rattle.fj_ratio.proofs.Expanded.{IsExpanded, IsExpanded-first, IsExpanded-after, IsExpanded-more, IsExpansion-from_digits, AreDigits-from_digits, IsPeriod-from_split}
use Rattle.fj_ratio.proofs.digits.Digits.of.Goals as goal

pub pre_digits-init : goal.pre_digits-init
pre_digits-init c = rw (c.new-pre.ensures.items, c.num-remainder.ensures.value) (IsExpanded-first _ _ c.requires.unit)

pub pre_digits-preserved : goal.pre_digits-preserved
pre_digits-preserved c =
    let positive : 0 < c.args.p = omega (arith, (prime_bounds _ c.requires.prime).0) in
    let step = c.next_digit-digit.ensures.step ∙ ap (λ n. n * c.next_digit-digit.result + c.next_digit-digit.new.remainder) c.den-den.ensures.value in
    rw c.in_ok-push.ensures.ok (IsExpanded-more _ _ _ _ _ _ _ _ positive c.requires.unit.above_zero c.pre_digits.invariant step c.next_digit-digit.ensures.above_zero (omega (arith, c.den-den.ensures.value)))

pub period_digits-init : goal.period_digits-init
period_digits-init c =
    let all : c.pre_digits.counter ≡ c.split_power-pre_count.result.0 = omega arith in
    rw c.new-period.ensures.items (subst (λ k. IsExpanded c.args.p c.args.t.now k 0 _ c.pre_digits.remainder) all (IsExpanded-after _ _ _ _ _ c.pre_digits.invariant))

pub period_digits-preserved : goal.period_digits-preserved
period_digits-preserved c =
    let positive : 0 < c.args.p = omega (arith, (prime_bounds _ c.requires.prime).0) in
    let step = c.next_digit-digit-in-period_digits.ensures.step ∙ ap (λ n. n * c.next_digit-digit-in-period_digits.result + c.next_digit-digit-in-period_digits.new.remainder) c.den-den.ensures.value in
    rw c.in_ok-push-2.ensures.ok (IsExpanded-more _ _ _ _ _ _ _ _ positive c.requires.unit.above_zero c.period_digits.invariant step c.next_digit-digit-in-period_digits.ensures.above_zero (omega (arith, c.den-den.ensures.value)))

pub invariant_of-result : goal.invariant_of-result
invariant_of-result c =
    let pre_all : c.pre_digits.counter ≡ c.split_power-pre_count.result.0 = omega arith in
    let period_all : c.period_digits.counter ≡ c.order-period_count.result = omega arith in
    let lengths = IsPeriod-from_split _ _ _ _ _ _ c.den-den.ensures.value c.split_power-pre_count.ensures.split c.split_power-pre_count.ensures.prime_to c.order-period_count.ensures in
    AreDigits-from_digits _ c.args.t.now _ _ _ _ c.requires.prime c.requires.unit.above_zero lengths
    (rw (← pre_all) c.pre_digits.invariant.digits_are)
    (rw (← period_all) c.period_digits.invariant.digits_are)

pub returns : goal.returns
returns c =
    let pre_all : c.pre_digits.counter ≡ c.split_power-pre_count.result.0 = omega arith in
    let period_all : c.period_digits.counter ≡ c.order-period_count.result = omega arith in
    let lengths = IsPeriod-from_split _ _ _ _ _ _ c.den-den.ensures.value c.split_power-pre_count.ensures.split c.split_power-pre_count.ensures.prime_to c.order-period_count.ensures in
    IsExpansion-from_digits _ c.args.t.now _ _ _ _ c.den-den.ensures.lowest lengths
    (rw (← pre_all) c.pre_digits.invariant.digits_are)
    (rw (← period_all) c.period_digits.invariant.digits_are)
