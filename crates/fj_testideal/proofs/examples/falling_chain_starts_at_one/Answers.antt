use Rattle.fj_testideal.proofs.PowersOfVariable.{falling_chain_starts_at_one}
use Rattle.fj_testideal.proofs.examples.falling_chain_starts_at_one.Goals as goal

pub returns : goal.returns
returns c F L two = falling_chain_starts_at_one L two
