use Rattle.fj_testideal.proofs.Threshold.{nu_is_one, threshold_is_one}
use Rattle.fj_testideal.proofs.thresholds.nu_and_threshold_are_unique.Goals as goal

pub returns : goal.returns
returns c F L f A J P = (nu_is_one L A P, threshold_is_one L A P)
