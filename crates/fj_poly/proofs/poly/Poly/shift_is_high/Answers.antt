use Rattle.std.proofs.Common.{sym, arith}
use Rattle.std.proofs.lemmas.Bool.{true≢false, ltb-true, lt-ltb}
use Rattle.fj_theory.proofs.Field.{one_below}
use Rattle.fj_theory.proofs.Polynomial.{IsPolynomial-term}
use Rattle.fj_theory.proofs.Degree.{degree-product, degree-term}
use Rattle.fj_poly.proofs.Limits.{IsHigh-degree, high_degree, low_product_none_right}
use Rattle.fj_poly.proofs.poly.Poly.shift_is_high.Goals as goal

pub returns-in-Some-clause-high : goal.returns-in-Some-clause-high
returns-in-Some-clause-high g c =
    let D = degree-product g.met.K.Coeff.lawful (IsPolynomial-term 1 (one_below g.met.K.Coeff.lawful) (record { eight = c.args.m.now.eight })) c.degree.ensures.polynomial (degree-term g.K.Coeff.field 1 (omega arith) (one_below g.met.K.Coeff.lawful) (record { eight = c.args.m.now.eight })) (sym c.in-Some.ensures.value) in
    (λ h. IsHigh-degree _ D (let above = ltb-true _ _ h in omega arith), λ high. let above = high_degree _ D high in lt-ltb _ _ (omega arith))

pub returns-in-None-clause-high : goal.returns-in-None-clause-high
returns-in-None-clause-high g c = (λ e. absurd (true≢false (sym e)), λ high. absurd (low_product_none_right g.met.K.Coeff.lawful (IsPolynomial-term 1 (one_below g.met.K.Coeff.lawful) (record { eight = c.args.m.now.eight })) c.degree.ensures.polynomial (sym c.in-None.ensures.value) high))
