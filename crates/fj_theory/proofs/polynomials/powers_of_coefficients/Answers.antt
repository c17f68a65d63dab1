use Rattle.fj_theory.proofs.Frobenius.{coefficient-power}
use Rattle.fj_theory.proofs.polynomials.powers_of_coefficients.Goals as goal

pub returns : goal.returns
returns c F L e f a = coefficient-power L e f.is_polynomial a
