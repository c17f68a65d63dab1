use Rattle.fj_testideal.proofs.ThresholdSearch.{ends_inside}
use Rattle.fj_testideal.proofs.thresholds.ends_inside.Goals as goal

pub returns : goal.returns
returns c F L f A J P = ends_inside L A P
