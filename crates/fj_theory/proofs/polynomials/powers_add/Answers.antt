use Rattle.fj_theory.proofs.Frobenius.{power_sum}
use Rattle.fj_theory.proofs.polynomials.powers_add.Goals as goal

pub returns : goal.returns
returns c F L e f g = power_sum L f.is_polynomial g.is_polynomial e
