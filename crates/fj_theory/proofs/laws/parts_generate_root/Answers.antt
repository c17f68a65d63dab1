use Rattle.fj_theory.proofs.RootParts.{IsRoot-all_parts}
use Rattle.fj_theory.proofs.laws.parts_generate_root.Goals as goal

pub returns : goal.returns
returns c F L e M polynomials parts = IsRoot-all_parts L e M polynomials parts
