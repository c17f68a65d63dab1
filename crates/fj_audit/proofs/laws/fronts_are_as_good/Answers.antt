use Rattle.fj_audit.proofs.Shown.{IsAsGood-AreShownFront}
use Rattle.fj_audit.proofs.laws.fronts_are_as_good.Goals as goal

pub returns : goal.returns
returns c = IsAsGood-AreShownFront
