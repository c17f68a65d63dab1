use Rattle.fj_testideal.proofs.ThresholdGap.{gap_by_limits}
use Rattle.fj_testideal.proofs.thresholds.gaps_by_limits.Goals as goal

pub returns : goal.returns
returns c F L f A J P E candidates C gap among S T I K = gap_by_limits L A P E C gap among I K
