use Rattle.fj_testideal.proofs.Threshold.{nu-grows_by_digit}
use Rattle.fj_testideal.proofs.thresholds.nu_grows_by_digit.Goals as goal

pub returns : goal.returns
returns c F L f A J P e r s N M = nu-grows_by_digit L A P e r s N M
