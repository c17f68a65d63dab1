use Rattle.std.proofs.Common.{sym, arith}
use Rattle.std.proofs.lemmas.Bool.{true≢false, ltb-true, lt-ltb}
use Rattle.fj_theory.proofs.Degree.{degree-product}
use Rattle.fj_poly.proofs.Limits.{IsHigh-degree, high_degree, low_product_none, low_product_none_right}
use Rattle.fj_poly.proofs.poly.Poly.product_is_high.Goals as goal

pub returns-in-Some-degree-clause-high : goal.returns-in-Some-degree-clause-high
returns-in-Some-degree-clause-high g c =
    let D = degree-product g.met.K.Coeff.lawful c.degree.ensures.polynomial c.degree-degree.ensures.polynomial (sym c.in-Some.ensures.value) (sym c.in-Some-degree.ensures.value) in
    (λ h. IsHigh-degree _ D (let above = ltb-true _ _ h in omega arith), λ high. let above = high_degree _ D high in lt-ltb _ _ (omega arith))

pub returns-in-None-degree-clause-high : goal.returns-in-None-degree-clause-high
returns-in-None-degree-clause-high g c = (λ e. absurd (true≢false (sym e)), λ high. absurd (low_product_none_right g.met.K.Coeff.lawful c.degree.ensures.polynomial c.degree-degree.ensures.polynomial (sym c.in-None-degree.ensures.value) high))

pub returns-in-None-clause-high : goal.returns-in-None-clause-high
returns-in-None-clause-high g c = (λ e. absurd (true≢false (sym e)), λ high. absurd (low_product_none g.met.K.Coeff.lawful c.degree.ensures.polynomial c.degree-degree.ensures.polynomial (sym c.in-None.ensures.value) high))
