use Rattle.std.proofs.Common.{All, take}
use Rattle.fj_theory.specs.Ideal.{Member}
use Rattle.fj_ideal.proofs.ideal.Ideal.has_all.Given as goal

-- the polynomials so far are in the ideal
abbrev pub invariant-loop-g : goal.invariant-loop-g
invariant-loop-g g l = All (Member g.K.Coeff.field l.self.given) (take l.g-index l.list)
