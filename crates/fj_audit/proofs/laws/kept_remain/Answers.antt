use Rattle.fj_audit.proofs.Shown.{All-filter_remains}
use Rattle.fj_audit.proofs.laws.kept_remain.Goals as goal

pub returns : goal.returns
returns c = All-filter_remains (λ a. a)
