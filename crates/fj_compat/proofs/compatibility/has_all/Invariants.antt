use Rattle.std.proofs.Common.{All, take}
use Rattle.fj_theory.specs.Ideal.{Member}
use Rattle.fj_compat.proofs.compatibility.has_all.Given as goal

-- the polynomials so far are in the ideal
abbrev pub invariant-loop-h : goal.invariant-loop-h
invariant-loop-h g l = All (Member g.K.Coeff.field l.ideal.given) (take l.h-index l.list)
