use Rattle.fj_testideal.proofs.LeftLimit.{just_below_from_left_limit, left_limit_from_just_below}
use Rattle.fj_testideal.proofs.test_ideals.left_limits_are_limits.Goals as goal

pub returns : goal.returns
returns c F L f A t above T = (just_below_from_left_limit L A t above, left_limit_from_just_below L A t above)
