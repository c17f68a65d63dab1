use Rattle.std.proofs.Common.{◌≡◌, ℕ, suc, ◌+◌, ◌-◌, ◌*◌, ◌/◌, ◌∙◌, List, [], ◌∷◌, ◌++◌, length, subst, arith}
use Rattle.fj_theory.specs.Digits.{value_of}
use Rattle.fj_theory.proofs.Field.{characteristic_large}
use Rattle.fj_testideal.specs.Threshold.{IsPowerInside}
use Rattle.fj_plain.specs.declared.order_name.OrderName.TheVariants.{Grevlex}
use Rattle.fj_ideal.specs.Lists.{RunFor}
use Rattle.fj_ideal.proofs.Stops.{only_handed_on}
use Rattle.fj_chain.specs.Lists.{IsDigitList, IsHighInDigits}
use Rattle.fj_thresh.specs.Lists.{IsHighInLongerDigits, IsLongerDigitList}
use Rattle.fj_thresh.proofs.NuByDigits.{nu_ends, nu_push}
use Rattle.fj_thresh.proofs.powers.last_digit.Goals as goal

pub loop-inside-init : goal.loop-inside-init
loop-inside-init g c =
    let L = g.met.K.Coeff.lawful in
    let is = c.P-inside.ensures ∙ g.met.K.Coeff.characteristic_is in
    let large = characteristic_large L in
    let ends = nu_ends L c.is_zero.ensures.polynomial c.given.ensures.ideal.polynomials c.args.higher.now c.requires.nu c.P-inside.result is in
    record { apart = omega (arith, large, is); at_most = omega (arith, is); out = ends.0; within = ends.1 }

pub loop-inside-preserved-then-branch : goal.loop-inside-preserved-then-branch
loop-inside-preserved-then-branch g c =
    let inv = c.loop-inside.invariant in
    let more = c.loop-inside-test.true in
    let at_most = inv.at_most in
    record { apart = omega (arith, more); at_most = omega (arith, more, at_most); out = inv.out; within = c.in_ok-is_power_inside.ensures.value.0 c.if-branch.true }

pub returns-in_err-is_power_inside-clause-stop : goal.returns-in_err-is_power_inside-clause-stop
returns-in_err-is_power_inside-clause-stop g c =
    let F = g.K.Coeff.field in
    let f = c.args.f.now in
    let apart = c.loop-inside.invariant.apart in
    let at_most = c.loop-inside.invariant.at_most in
    let middle : ℕ = c.loop-inside.outside + (c.loop-inside.inside - c.loop-inside.outside) / 2 in
    let digits : List ℕ = c.args.higher.now ++ middle ∷ [] in
    only_handed_on F c.args.pairs (RunFor Grevlex (IsDigitList F f digits)) (RunFor Grevlex (IsLongerDigitList F f c.args.higher.now)) (IsHighInDigits F f digits) (IsHighInLongerDigits F f c.args.higher.now)
    (λ o N e. (e.0, record { last = middle; below = omega (arith, apart, at_most); list = e.1 })) (λ N e. record { last = middle; below = omega (arith, apart, at_most); high = e })
    c.in_err-is_power_inside.field-0.0 c.from_residual.result c.from_residual.ensures.1 c.in_err-is_power_inside.ensures.stop

pub returns : goal.returns
returns g c =
    let L = g.met.K.Coeff.lawful in
    let inv = c.loop-inside.invariant in
    let apart = inv.apart in
    let at_most = inv.at_most in
    let near = c.loop-inside-test.false in
    let next : c.loop-inside.inside ≡ suc c.loop-inside.outside = omega (arith, apart, near) in
    let e = suc (length c.args.higher.now) in
    let r : ℕ = g.K.Coeff.field.characteristic * value_of g.K.Coeff.field.characteristic c.args.higher.now in
    record {
      nu = nu_push L c.is_zero.ensures.polynomial c.given.ensures.ideal.polynomials c.args.higher.now c.loop-inside.outside c.requires.nu (omega (arith, apart, at_most)) inv.out
          (subst (λ d. IsPowerInside g.K.Coeff.field c.args.f.now c.args.j.now.given e (r + d)) next inv.within);
      stop = tt;
    }
