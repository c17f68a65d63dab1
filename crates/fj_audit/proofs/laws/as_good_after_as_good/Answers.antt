use Rattle.fj_audit.proofs.Shown.{IsAsGood-trans}
use Rattle.fj_audit.proofs.laws.as_good_after_as_good.Goals as goal

pub returns : goal.returns
returns c = IsAsGood-trans
