use Rattle.fj_audit.proofs.Shown.{IsAsGood-AreShownAll}
use Rattle.fj_audit.proofs.laws.shown_are_as_good.Goals as goal

pub returns : goal.returns
returns c = IsAsGood-AreShownAll
