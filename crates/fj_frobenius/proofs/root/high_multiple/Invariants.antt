use Rattle.std.proofs.Common.{take}
use Rattle.fj_theory.specs.Ideal.{multiples}
use Rattle.fj_theory.specs.Polynomial.{power}
use Rattle.fj_ideal.specs.Lists.{AreLow}
use Rattle.fj_frobenius.proofs.root.high_multiple.Given as goal

-- none of the first products is high
abbrev pub invariant-loop-g : goal.invariant-loop-g
invariant-loop-g g l = AreLow (multiples g.K.Coeff.field (power g.K.Coeff.field l.f l.d) (take l.g-index l.list))
