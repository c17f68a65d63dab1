use Rattle.std.proofs.Common.{◌+◌, length}
use Rattle.fj_poly.specs.Terms.{entries}
use Rattle.fj_poly.proofs.Merge.{Merges}
use Rattle.fj_poly.proofs.Polynomials.{polynomial_of}
use Rattle.fj_poly.proofs.poly.merge.merge_terms.Given as goal

abbrev pub invariant-merge : goal.invariant-merge
invariant-merge g l =
    Merges g.K.Coeff.field g.O.Order.key (entries g.K.Coeff.rank l.terms.items) (entries g.K.Coeff.rank l.left) (entries g.K.Coeff.rank l.right)
    (polynomial_of (entries g.K.Coeff.rank l.one)) (polynomial_of (entries g.K.Coeff.rank l.other))

abbrev pub decreases-merge : goal.decreases-merge
decreases-merge g l = length l.left + length l.right
