use Rattle.fj_testideal.proofs.Chain.{value_of-positive}
use Rattle.fj_testideal.proofs.chains.nonzero_digits_write_nonzero.Goals as goal

pub returns : goal.returns
returns c p positive ds some = value_of-positive p positive ds some
