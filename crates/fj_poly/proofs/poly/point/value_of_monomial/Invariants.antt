use Rattle.std.proofs.Common.{◌≡◌, ◌≤◌, drop, map}
use Rattle.fj_theory.specs.Evaluation.{monomial_value}
use Rattle.fj_poly.proofs.poly.point.value_of_monomial.Given as goal

abbrev pub invariant-loop-i : goal.invariant-loop-i
invariant-loop-i g l = record {
  within : l.i ≤ 8;
  value : g.K.Coeff.rank l.value ≡ monomial_value g.K.Coeff.field (drop l.i l.m.exponents) (drop l.i (map g.K.Coeff.rank l.point));
}

abbrev pub decreases-loop-i : goal.decreases-loop-i
decreases-loop-i g l = l.i
