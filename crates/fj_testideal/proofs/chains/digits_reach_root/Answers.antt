use Rattle.fj_testideal.proofs.Chain.{FollowsDigits-root}
use Rattle.fj_testideal.proofs.chains.digits_reach_root.Goals as goal

pub returns : goal.returns
returns c F L f A ds J N P follows = FollowsDigits-root L A ds P follows
