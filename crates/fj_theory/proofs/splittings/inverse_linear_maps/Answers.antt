use Rattle.fj_theory.proofs.Splitting.{IsInverseLinear-laws, IsInverseLinear-from_laws}
use Rattle.fj_theory.proofs.splittings.inverse_linear_maps.Goals as goal

pub returns : goal.returns
returns c F L e phi = (λ X. IsInverseLinear-laws L e X, λ Z. IsInverseLinear-from_laws L e Z)
