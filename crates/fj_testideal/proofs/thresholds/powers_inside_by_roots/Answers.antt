use Rattle.fj_testideal.proofs.Threshold.{power_inside_by_root}
use Rattle.fj_testideal.proofs.thresholds.powers_inside_by_roots.Goals as goal

pub returns : goal.returns
returns c F L f A J P e m M R = power_inside_by_root L A P e m R
