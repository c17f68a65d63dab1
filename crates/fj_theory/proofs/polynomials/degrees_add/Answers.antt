use Rattle.fj_theory.proofs.Degree.{degree-product}
use Rattle.fj_theory.proofs.polynomials.degrees_add.Goals as goal

pub returns : goal.returns
returns c F L f g m n d e = degree-product L f.is_polynomial g.is_polynomial d e
