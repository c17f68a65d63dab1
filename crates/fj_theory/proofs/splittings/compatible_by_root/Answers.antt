use Rattle.fj_theory.proofs.Fedder.{IsCompatible-exactly}
use Rattle.fj_theory.proofs.splittings.compatible_by_root.Goals as goal

pub returns : goal.returns
returns c F L e u U J M P root = IsCompatible-exactly L e U P root
