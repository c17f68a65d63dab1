use Rattle.fj_groebner.proofs.Finishing.{IsFinished-IsReducedBasis}
use Rattle.fj_groebner.proofs.bases.finished_is_reduced.Goals as goal

pub returns : goal.returns
returns c F L key K M A budget basis f = IsFinished-IsReducedBasis K L A f
