use Rattle.fj_audit.proofs.Shown.{AreShownAll-nil, same-AreShownAll}
use Rattle.fj_audit.proofs.laws.nothing_is_shown.Goals as goal

pub returns : goal.returns
returns c = (AreShownAll-nil, same-AreShownAll)
