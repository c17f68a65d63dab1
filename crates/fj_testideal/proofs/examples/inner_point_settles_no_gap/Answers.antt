use Rattle.fj_testideal.proofs.InnerPoint.{inner_point_settles_no_gap}
use Rattle.fj_testideal.proofs.examples.inner_point_settles_no_gap.Goals as goal

pub returns : goal.returns
returns c F L = inner_point_settles_no_gap L
