use Rattle.std.proofs.Common.{◌≡◌, ◌<◌, ◌≤◌, ◌/◌, ◌%◌, IfOk, ap, ap₂, sym, ◌∙◌, subst, arith, rules}
use Rattle.fj_theory.specs.Polynomial.{product, power}
use Rattle.fj_theory.proofs.Field.{characteristic_large}
use Rattle.fj_poly.specs.Limit.{IsHigh}
use Rattle.fj_poly.proofs.Limits.{quotient_below, power_digits, low_digits, low_quotient, low_residue}
use Rattle.fj_poly.proofs.poly.Poly.+power_within.Given as given
use Rattle.fj_poly.proofs.poly.Poly.+power_within.Goals as goal

large : (g : given.Over) → 2 ≤ g.K.Coeff.P
large g = omega (arith, characteristic_large g.met.K.Coeff.lawful, g.met.K.Coeff.characteristic_is)

positive : (g : given.Over) → 0 < g.K.Coeff.P
positive g = omega (arith, large g)

pub nonzero_div-k : goal.nonzero_div-k
nonzero_div-k g t c = omega (arith, positive g, c.P-2.ensures)

pub power_within-requires : goal.power_within-requires
power_within-requires g t c =
    let base = c.requires.base in
    let below : c.args.k / c.P-2.result < c.args.k = rw c.P-2.ensures (quotient_below c.args.k g.K.Coeff.P (large g) (omega (arith, c.P.ensures, c.if-k-P.false))) in
    let within : IsHigh (power g.K.Coeff.field c.args.self.now (c.args.k / c.P-2.result)) → ⊥ =
    rw c.P-2.ensures (low_quotient g.met.K.Coeff.lawful c.requires.base c.args.k g.K.Coeff.P (positive g) c.requires.within) in
    search rules

pub frobenius-requires : goal.frobenius-requires
frobenius-requires g t c =
    let made = c.in_ok-power_within.ensures ∙ ap (λ n. power g.K.Coeff.field c.args.self.now (c.args.k / n)) c.P-2.ensures in
    rw made (low_digits g.met.K.Coeff.lawful c.requires.base c.args.k g.K.Coeff.P (positive g) c.requires.within)

pub nonzero_rem-k : goal.nonzero_rem-k
nonzero_rem-k g t c = omega (arith, positive g, c.P-3.ensures)

pub digit_power-requires-2-clause-within : goal.digit_power-requires-2-clause-within
digit_power-requires-2-clause-within g t c = rw c.P-3.ensures (low_residue g.met.K.Coeff.lawful c.requires.base c.args.k g.K.Coeff.P (positive g) c.requires.within)

pub product_within-requires : goal.product_within-requires
product_within-requires g t c =
    let made = c.in_ok-power_within.ensures ∙ ap (λ n. power g.K.Coeff.field c.args.self.now (c.args.k / n)) c.P-2.ensures in
    let first = c.in_ok-power.ensures ∙ ap (λ h. power g.K.Coeff.field h g.K.Coeff.P) made in
    let second = c.in_ok-digit.ensures ∙ ap (λ n. power g.K.Coeff.field c.args.self.now (c.args.k % n)) c.P-3.ensures in
    subst (λ h. IsHigh h → ⊥) (sym (ap₂ (product g.K.Coeff.field) first second ∙ power_digits g.met.K.Coeff.lawful c.requires.base c.args.k g.K.Coeff.P (positive g))) c.requires.within

pub returns : goal.returns
returns g t c =
    let made = c.in_ok-power_within.ensures ∙ ap (λ n. power g.K.Coeff.field c.args.self.now (c.args.k / n)) c.P-2.ensures in
    let first = c.in_ok-power.ensures ∙ ap (λ h. power g.K.Coeff.field h g.K.Coeff.P) made in
    let second = c.in_ok-digit.ensures ∙ ap (λ n. power g.K.Coeff.field c.args.self.now (c.args.k % n)) c.P-3.ensures in
    subst (λ h. IfOk c.product_within.result (λ p. p ≡ h)) (ap₂ (product g.K.Coeff.field) first second ∙ power_digits g.met.K.Coeff.lawful c.requires.base c.args.k g.K.Coeff.P (positive g)) c.product_within.ensures
