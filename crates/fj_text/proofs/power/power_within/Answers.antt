use Rattle.std.proofs.Common.{◌≡◌, ◌*◌, ◌<◌, ◌≤◌, unwrap_or, sym, ap, ◌∙◌, arith}
use Rattle.fj_theory.specs.Polynomial.{degree}
use Rattle.fj_text.proofs.Powers.{high_power, power_by_last}
use Rattle.fj_text.proofs.Values.{if_ok}
use Rattle.fj_text.proofs.power.power_within.Goals as goal

pub returns-then-saturating_mul-gt-MAX_DEGREE : goal.returns-then-saturating_mul-gt-MAX_DEGREE
returns-then-saturating_mul-gt-MAX_DEGREE g c =
    let same : c.unwrap_or.result * c.args.k ≡ unwrap_or (degree c.args.f.now) 0 * c.args.k = ap (λ n. n * c.args.k) (c.unwrap_or.ensures ∙ ap (λ o. unwrap_or o 0) c.lead_degree.ensures.value) in
    let high : 1000 < unwrap_or (degree c.args.f.now) 0 * c.args.k = omega (arith, same, c.saturating_mul.ensures, c.if-saturating_mul-gt-MAX_DEGREE.true) in
    sym (high_power g.met.K.Coeff.lawful c.lead_degree.ensures.polynomial c.args.k (omega (arith, c.if-k-lt2.false)) high)

pub returns-then-lower_powers_are_short : goal.returns-then-lower_powers_are_short
returns-then-lower_powers_are_short g c =
    let same : c.unwrap_or.result * c.args.k ≡ unwrap_or (degree c.args.f.now) 0 * c.args.k = ap (λ n. n * c.args.k) (c.unwrap_or.ensures ∙ ap (λ o. unwrap_or o 0) c.lead_degree.ensures.value) in
    let low : unwrap_or (degree c.args.f.now) 0 * c.args.k ≤ 1000 = omega (arith, same, c.saturating_mul.ensures, c.if-saturating_mul-gt-MAX_DEGREE.false) in
    let last = power_by_last g.met.K.Coeff.lawful c.lead_degree.ensures.polynomial c.args.k (omega (arith, c.if-k-lt2.false)) low (c.lower_powers_are_short.ensures c.if-lower_powers_are_short.true) in
    if_ok c.last_power_within.result _ _ (λ p is. is ∙ sym last) c.last_power_within.ensures
