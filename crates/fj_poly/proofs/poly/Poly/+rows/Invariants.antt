use Rattle.std.proofs.Common.{length}
use Rattle.fj_poly.proofs.poly.Poly.+rows.Given as goal

abbrev pub decreases-rows : goal.decreases-rows
decreases-rows g l = length l.left.now
