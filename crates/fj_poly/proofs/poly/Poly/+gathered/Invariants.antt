use Rattle.std.proofs.Common.{length}
use Rattle.fj_poly.proofs.poly.Poly.+gathered.Given as goal

abbrev pub decreases-gathered : goal.decreases-gathered
decreases-gathered g l = length l.list.now
