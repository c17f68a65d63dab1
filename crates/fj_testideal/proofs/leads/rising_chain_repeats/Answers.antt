use Rattle.fj_testideal.proofs.BoundedChain.{rising_repeats}
use Rattle.fj_testideal.proofs.leads.rising_chain_repeats.Goals as goal

pub returns : goal.returns
returns c F L vars bound chain last are rises long = rising_repeats L last are rises long
