use Rattle.std.proofs.Common.{◌≡◌}
use Rattle.fj_theory.specs.PointIdeal.{point_ideal}
use Rattle.fj_thresh.proofs.point.point_ideal.Given as goal

-- the polynomials for the variables so far
abbrev pub invariant-loop-i : goal.invariant-loop-i
invariant-loop-i g l = l.list.items ≡ point_ideal g.K.Coeff.field l.i l.at
