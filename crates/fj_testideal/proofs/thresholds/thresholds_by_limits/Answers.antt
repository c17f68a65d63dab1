use Rattle.fj_testideal.proofs.Threshold.{threshold_by_limits}
use Rattle.fj_testideal.proofs.thresholds.thresholds_by_limits.Goals as goal

pub returns : goal.returns
returns c F L f A J P t above S T I K = threshold_by_limits L A P t above I K
