use Rattle.std.proofs.Common.{◌≡◌, take}
use Rattle.fj_theory.specs.Evaluation.{value}
use Rattle.fj_poly.specs.Terms.{entries}
use Rattle.fj_poly.proofs.Polynomials.{polynomial_of}
use Rattle.fj_poly.proofs.poly.Poly.eval.Given as goal

-- The value of the terms so far.
abbrev pub invariant-loop-t : goal.invariant-loop-t
invariant-loop-t g l =
    g.K.Coeff.rank l.sum ≡ value g.K.Coeff.field (polynomial_of (take l.t-index (entries g.K.Coeff.rank l.t-items))) l.at
