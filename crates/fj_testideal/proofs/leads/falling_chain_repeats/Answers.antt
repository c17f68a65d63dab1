use Rattle.fj_testideal.proofs.BoundedChain.{falling_repeats}
use Rattle.fj_testideal.proofs.leads.falling_chain_repeats.Goals as goal

pub returns : goal.returns
returns c F L vars bound chain last are falls long = falling_repeats L last are falls long
