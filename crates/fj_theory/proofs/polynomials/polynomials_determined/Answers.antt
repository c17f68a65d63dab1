use Rattle.fj_theory.proofs.Polynomial.{polynomial_equal}
use Rattle.fj_theory.proofs.polynomials.polynomials_determined.Goals as goal

pub returns : goal.returns
returns c F f g each = polynomial_equal f.is_polynomial g.is_polynomial each
