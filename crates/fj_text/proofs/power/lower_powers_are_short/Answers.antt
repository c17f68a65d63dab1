use Rattle.std.proofs.Common.{◌-◌, arith}
use Rattle.fj_theory.proofs.Keys.{grevlex_key-IsMonomialOrder}
use Rattle.fj_text.proofs.Counts.{monomial_count-rises}
use Rattle.fj_text.proofs.Divisors.{divide-support, len-power_of_divisors}
use Rattle.fj_text.proofs.Sums.{len-power_of_few}
use Rattle.fj_text.proofs.power.lower_powers_are_short.Goals as goal

pub returns-then-has_few_monomials : goal.returns-then-has_few_monomials
returns-then-has_few_monomials g c _ j l =
    let few = len-power_of_few g.met.K.Coeff.lawful c.len.ensures.polynomial c.saturating_sub.result (omega (arith, c.len.ensures.count, c.saturating_sub.ensures)) j in
    let rises = monomial_count-rises c.saturating_sub.result j (c.args.k - 1) (omega (arith, l)) in
    omega (arith, few, rises, c.has_few_monomials.ensures c.if-has_few_monomials.true)

pub returns-in-Some : goal.returns-in-Some
returns-in-Some g c short j l =
    let all = divide-support grevlex_key-IsMonomialOrder c.len.ensures.polynomial c.in-Some.m.exponents c.in-Some.ensures in
    let few = len-power_of_divisors g.met.K.Coeff.lawful c.len.ensures.polynomial (record { eight = c.in-Some.m.eight }) all j (c.args.k - 1) (omega (arith, l)) in
    omega (arith, few, c.has_few_divisors.ensures short)
