use Rattle.std.proofs.Common.{◌≡◌, map, take, sum, max}
use Rattle.std.specs.List.{reduce}
use Rattle.fj_poly.proofs.poly.Poly.degree.Given as goal

-- The greatest total so far.
abbrev pub invariant-loop-t : goal.invariant-loop-t
invariant-loop-t g l = l.greatest ≡ reduce max (map (λ t. sum t.monomial.exponents) (take l.t-index l.t-items))
