use Rattle.fj_theory.proofs.PartsList.{IsParts-unique}
use Rattle.fj_theory.proofs.laws.parts_unique.Goals as goal

pub returns : goal.returns
returns c F L e h parts others H K = IsParts-unique L e H K
