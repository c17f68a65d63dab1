use Rattle.std.proofs.Common.{ℕ, ◌<◌, get_or}
use Rattle.std.specs.FinMap.{empty}
use Rattle.fj_theory.specs.Polynomial.{IsPolynomial}
use Rattle.fj_basis.proofs.sugar.look_over.Given as goal

abbrev pub invariant-loop-f : goal.invariant-loop-f
invariant-loop-f g l = (k : ℕ) → k < l.f-index → IsPolynomial g.K.Coeff.field (get_or l.list k empty)
