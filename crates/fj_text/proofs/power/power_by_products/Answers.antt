use Rattle.std.proofs.Common.{◌≡◌, ◌+◌, ◌-◌, Some, sym, ap, ap₂, ◌∙◌, arith}
use Rattle.fj_theory.specs.Polynomial.{term}
use Rattle.fj_text.specs.Expression.{power_within}
use Rattle.fj_text.proofs.Values.{power-none, power-one, power-more, power-large}
use Rattle.fj_text.proofs.power.power_by_products.Goals as goal

pub returns-then-k-eq0 : goal.returns-then-k-eq0
returns-then-k-eq0 g c =
    let F = g.K.Coeff.field in
    ap (λ p. Some p) (c.in_ok-term.ensures.value ∙ ap₂ term c.one.ensures c.one-then-k-eq0.ensures) ∙ sym (power-none F c.args.f.now) ∙ ap (power_within F c.args.f.now) (sym c.if-k-eq0.true)

pub products-init : goal.products-init
products-init g c = power-one g.K.Coeff.field c.args.f.now ∙ ap (λ p. Some p) (sym c.in_ok-power.ensures.value)

pub products-preserved : goal.products-preserved
products-preserved g c =
    power-more g.K.Coeff.field c.args.f.now c.products._formed c.products.power c.products.auto._formed c.products.invariant ∙ sym c.in_ok-product.ensures ∙ c.in-Some.is

pub returns-in_default : goal.returns-in_default
returns-in_default g c =
    let F = g.K.Coeff.field in
    let i = c.products._formed in
    let large = power-more F c.args.f.now i c.products.power c.products.auto._formed c.products.invariant ∙ sym c.in_ok-product.ensures ∙ c.in_default.is in
    let up : i + 1 + (c.args.k - (i + 1)) ≡ c.args.k = omega (arith, c.products-test.true) in
    sym (ap (power_within F c.args.f.now) (sym up) ∙ power-large F c.args.f.now (i + 1) (c.args.k - (i + 1)) (omega arith) large)
