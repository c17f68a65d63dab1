use Rattle.fj_theory.proofs.Fedder.{IsFPure-exactly}
use Rattle.fj_theory.proofs.splittings.fedder_criterion.Goals as goal

pub returns : goal.returns
returns c F L I C M P colon root = IsFPure-exactly L P colon root
