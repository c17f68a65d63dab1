use Rattle.std.proofs.Common.{length}
use Rattle.fj_jump.proofs.bisecting.+settle.Given as goal

abbrev pub decreases-settle : goal.decreases-settle
decreases-settle g l = length l.inner.now
