use Rattle.fj_testideal.proofs.ThresholdSearch.{told_above}
use Rattle.fj_testideal.proofs.thresholds.threshold_by_neighbours.Goals as goal

pub returns : goal.returns
returns c F L f A J P E candidates C gap among S left T I K M out inside = told_above L A P E C gap among I K M out inside
