use Rattle.std.proofs.Common.{sym, arith}
use Rattle.std.proofs.lemmas.Bool.{true≢false, ltb-true, lt-ltb}
use Rattle.fj_theory.proofs.Degree.{degree-power}
use Rattle.fj_poly.proofs.Limits.{IsHigh-degree, high_degree, low_power_none}
use Rattle.fj_poly.proofs.poly.Poly.power_is_high.Goals as goal

pub returns-in-Some-clause-high : goal.returns-in-Some-clause-high
returns-in-Some-clause-high g c =
    let D = degree-power g.met.K.Coeff.lawful c.degree.ensures.polynomial (sym c.in-Some.ensures.value) c.args.k in
    (λ h. IsHigh-degree _ D (let above = ltb-true _ _ h in omega arith), λ high. let above = high_degree _ D high in lt-ltb _ _ (omega arith))

pub returns-in-None-clause-high : goal.returns-in-None-clause-high
returns-in-None-clause-high g c = (λ e. absurd (true≢false (sym e)), λ high. absurd (low_power_none g.met.K.Coeff.lawful c.degree.ensures.polynomial (sym c.in-None.ensures.value) c.args.k high))
