use Rattle.fj_testideal.proofs.ThresholdGap.{only_gap}
use Rattle.fj_testideal.proofs.thresholds.gap_is_unique.Goals as goal

pub returns : goal.returns
returns c F L f A J P E candidates C gap other among c' G H = only_gap L A P E C other gap c' among H G
