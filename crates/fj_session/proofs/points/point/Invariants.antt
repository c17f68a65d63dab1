use Rattle.std.proofs.Common.{◌≡◌, map, take}
use Rattle.fj_session.proofs.points.point.Given as goal

-- the coordinates so far
abbrev pub invariant-loop-i : goal.invariant-loop-i
invariant-loop-i g l = map g.K.Coeff.rank l.coordinates.items ≡ take l.i l.ranks
