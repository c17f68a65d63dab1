use Rattle.fj_audit.proofs.Shown.{AreShownAll-append}
use Rattle.fj_audit.proofs.laws.shown_one_after_the_other.Goals as goal

pub returns : goal.returns
returns c = AreShownAll-append
