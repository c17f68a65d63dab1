use Rattle.std.proofs.Common.{suc, ap, ap₂, sym, ◌∙◌, subst, arith, add-one}
use Rattle.fj_theory.specs.Polynomial.{product, term}
use Rattle.fj_theory.proofs.PolynomialRing.{power_zero, power_suc}
use Rattle.fj_poly.specs.Limit.{IsHigh}
use Rattle.fj_poly.proofs.Limits.{low_power}
use Rattle.fj_poly.proofs.poly.Poly.digit_power.Goals as goal

pub loop-init : goal.loop-init
loop-init g c = c.in_ok-result.ensures.value ∙ ap₂ term c.one.ensures c.one-2.ensures ∙ sym (power_zero g.met.K.Coeff.lawful c.requires.base)

pub product_within-requires : goal.product_within-requires
product_within-requires g c =
    subst (λ h. IsHigh h → ⊥) (power_suc g.met.K.Coeff.lawful c.requires.base c.loop.counter ∙ ap (product g.K.Coeff.field c.args.self.now) (sym c.loop.invariant))
    (low_power g.met.K.Coeff.lawful c.requires.base (suc c.loop.counter) c.args.k (omega arith) c.requires.within)

pub loop-preserved : goal.loop-preserved
loop-preserved g c =
    rw add-one (c.in_ok-result-2.ensures ∙ ap (product g.K.Coeff.field c.args.self.now) c.loop.invariant ∙ sym (power_suc g.met.K.Coeff.lawful c.requires.base c.loop.counter))
