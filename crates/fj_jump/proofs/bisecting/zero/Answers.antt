use Rattle.std.proofs.Common.{IfOk, Result, subst}
use Rattle.fj_theory.specs.Fraction.{Fraction}
use Rattle.fj_ratio.specs.Lowest.{IsLowestForm}
use Rattle.fj_ratio.specs.declared.ratio.RatioFault.{RatioFault}
use Rattle.fj_jump.proofs.Unit.{lowest_zero, zero_accepted}
use Rattle.fj_jump.proofs.bisecting.zero.Goals as goal

pub unwrap-requires : goal.unwrap-requires
unwrap-requires c = zero_accepted c.new.result c.new.ensures.zero c.new.ensures.wide

pub returns : goal.returns
returns c = lowest_zero c.unwrap.result (subst (λ (r : Result Fraction RatioFault). IfOk r (IsLowestForm 0 1)) c.unwrap.ensures c.new.ensures.value)
