use Rattle.std.proofs.Common.{map}
use Rattle.fj_theory.specs.Polynomial.{IsPolynomial}
use Rattle.fj_basis.proofs.Height.{height}
use Rattle.fj_basis.proofs.Reached.{Reached}
use Rattle.fj_basis.proofs.division.divide_sugared.Given as goal

abbrev pub invariant-loop-division : goal.invariant-loop-division
invariant-loop-division g l = record {
  reached : Reached g.K.Coeff.field g.O.Order.key (map g.D.Divisor.sugared l.list) (record { polynomial = l.h; sugar = l.sugar }) l.division;
  polynomial : IsPolynomial g.K.Coeff.field l.h;
}

abbrev pub decreases-loop-division : goal.decreases-loop-division
decreases-loop-division g l = height g.O.Order.key l.division.dividend
