use Rattle.fj_testideal.proofs.FermatCubic.{not_told_at_one}
use Rattle.fj_testideal.proofs.examples.one_exponent_tells_no_threshold.Goals as goal

pub returns : goal.returns
returns c = not_told_at_one
