use Rattle.fj_theory.proofs.PartsExistence.{parts_of, IsParts-parts_of}
use Rattle.fj_theory.proofs.polynomials.parts_exist.Goals as goal

pub returns : goal.returns
returns c F L e h = (parts_of F e h.map, IsParts-parts_of L e h.is_polynomial)
