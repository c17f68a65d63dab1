use Rattle.fj_testideal.proofs.ThresholdGap.{at_or_between}
use Rattle.fj_testideal.proofs.thresholds.threshold_at_or_between.Goals as goal

pub returns : goal.returns
returns c F L f A J P proper H E some candidates C decided = at_or_between L A P proper H E some C decided
