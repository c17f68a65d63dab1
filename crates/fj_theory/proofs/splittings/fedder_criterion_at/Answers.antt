use Rattle.fj_theory.proofs.Fedder.{IsFPureAt-exactly}
use Rattle.fj_theory.proofs.splittings.fedder_criterion_at.Goals as goal

pub returns : goal.returns
returns c F L I C M P colon root point at = IsFPureAt-exactly L P colon root at
