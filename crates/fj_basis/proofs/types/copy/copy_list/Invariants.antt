use Rattle.std.proofs.Common.{◌≡◌, take, All}
use Rattle.fj_theory.specs.Polynomial.{IsPolynomial}
use Rattle.fj_basis.proofs.types.copy.copy_list.Given as goal

-- the polynomials so far
abbrev pub invariant-loop-f : goal.invariant-loop-f
invariant-loop-f g l = (l.copies.items ≡ take l.f-index l.list) × All (IsPolynomial g.K.Coeff.field) l.copies.items
