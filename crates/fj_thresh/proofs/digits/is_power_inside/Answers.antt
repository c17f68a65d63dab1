use Rattle.fj_thresh.proofs.NuByDigits.{power_inside_by_digits}
use Rattle.fj_thresh.proofs.digits.is_power_inside.Goals as goal

pub returns-clause-value : goal.returns-clause-value
returns-clause-value g c =
    let law = power_inside_by_digits g.met.K.Coeff.lawful c.is_zero.ensures.polynomial c.given.ensures.ideal.polynomials c.args.higher.now c.args.last c.in_ok-root.root.given c.in_ok-root.ensures.list in
    let test = c.in_ok-is_inside.ensures in
    (λ b. law.1 (test.0 b), λ h. test.1 (law.0 h))
