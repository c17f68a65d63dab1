use Rattle.fj_testideal.proofs.Cusp as cusp
use Rattle.fj_testideal.proofs.examples.cusp_over_five.Goals as goal

pub returns : goal.returns
returns c = cusp.cusp_over_five
