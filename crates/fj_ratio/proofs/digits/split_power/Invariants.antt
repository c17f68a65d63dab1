use Rattle.fj_ratio.proofs.SplitPower.{IsSplit}
use Rattle.fj_ratio.proofs.digits.split_power.Given as goal

abbrev pub invariant-loop-rest : goal.invariant-loop-rest
invariant-loop-rest l = IsSplit l.p l.n l.count l.rest

abbrev pub decreases-loop-rest : goal.decreases-loop-rest
decreases-loop-rest l = l.rest
