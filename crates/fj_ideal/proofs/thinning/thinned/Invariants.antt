use Rattle.std.proofs.Common.{take}
use Rattle.fj_ideal.proofs.Congruence.{IsThinned}
use Rattle.fj_ideal.proofs.thinning.thinned.Given as goal

-- the polynomials that have been gone through are in the ideal of the few
abbrev pub invariant-loop-g : goal.invariant-loop-g
invariant-loop-g g l = IsThinned g.K.Coeff.field l.list (take l.g-index l.g-items) l.few.items
