use Rattle.fj_testideal.proofs.Chain.{FollowsDigits-same, IsChain-same, IsLimit-same}
use Rattle.fj_testideal.proofs.chains.chains_depend_on_ideals.Goals as goal

pub returns : goal.returns
returns c F L f A ds J J' N N' P E E' = record {
  digits = λ follows. FollowsDigits-same L A ds P E E' follows;
  chain = λ lists chain. IsChain-same L A ds lists P E E' chain;
  limit = λ limit. IsLimit-same L A ds P E E' limit;
}
