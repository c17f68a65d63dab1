use Rattle.fj_testideal.proofs.StrictChain.{strict_chain-short}
use Rattle.fj_testideal.proofs.periods.strict_chains_are_short.Goals as goal

pub returns : goal.returns
returns c F L vars bound chain last C = strict_chain-short L last C
