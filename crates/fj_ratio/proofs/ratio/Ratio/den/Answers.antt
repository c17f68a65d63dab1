use Rattle.std.proofs.Common.{subst}
use Rattle.fj_theory.specs.Fraction.{IsLowest}
use Rattle.fj_ratio.proofs.ratio.Ratio.den.Goals as goal

pub returns-clause-lowest : goal.returns-clause-lowest
returns-clause-lowest c = subst IsLowest c.self.view_is c.self.invariant
