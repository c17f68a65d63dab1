use Rattle.fj_testideal.proofs.ThresholdSearch.{stays_inside}
use Rattle.fj_testideal.proofs.thresholds.inside_stays_inside.Goals as goal

pub returns : goal.returns
returns c F L f A J P = stays_inside L A P
