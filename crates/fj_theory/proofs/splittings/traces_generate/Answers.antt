use Rattle.fj_theory.proofs.Splitting.{IsTraceOf-from_IsInverseLinear, IsInverseLinear-from_IsTraceOf}
use Rattle.fj_theory.proofs.splittings.traces_generate.Goals as goal

pub returns : goal.returns
returns c F L e phi = (λ X. IsTraceOf-from_IsInverseLinear L e X, λ Y. IsInverseLinear-from_IsTraceOf L e Y.1)
