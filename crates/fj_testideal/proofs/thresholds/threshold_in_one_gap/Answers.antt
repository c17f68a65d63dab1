use Rattle.fj_testideal.proofs.ThresholdGap.{in_one_gap}
use Rattle.fj_testideal.proofs.thresholds.threshold_in_one_gap.Goals as goal

pub returns : goal.returns
returns c F L f A J P proper H E some candidates C decided none = in_one_gap L A P proper H E some C decided none
