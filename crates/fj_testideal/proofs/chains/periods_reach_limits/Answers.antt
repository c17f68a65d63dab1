use Rattle.fj_testideal.proofs.ChainLimit.{test_ideal-from_period, left_limit-from_period}
use Rattle.fj_testideal.proofs.chains.periods_reach_limits.Goals as goal

pub returns : goal.returns
returns c F L f A period below some u value = record {
  test_ideal = λ J limit. test_ideal-from_period L A period below some u value limit;
  left_limit = λ J limit. left_limit-from_period L A period below some u value limit;
}
