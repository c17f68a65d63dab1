use Rattle.fj_theory.proofs.Root.{IsRoot-IsRoot}
use Rattle.fj_theory.proofs.laws.root_of_root.Goals as goal

pub returns : goal.returns
returns c F L d e M N K P S T = IsRoot-IsRoot L e P S d T
