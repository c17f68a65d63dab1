use Rattle.std.proofs.Common.{◌≡◌, map, take}
use Rattle.fj_theory.specs.Polynomial.{product}
use Rattle.fj_basis.proofs.cofactors.times_row.Given as goal

-- the entries so far
abbrev pub invariant-loop-y : goal.invariant-loop-y
invariant-loop-y g l = l.products.items ≡ map (product g.K.Coeff.field l.f) (take l.y-index l.row)
