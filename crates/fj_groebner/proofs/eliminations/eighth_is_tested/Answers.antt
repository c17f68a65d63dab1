use Rattle.fj_groebner.proofs.Elimination.{lacks_eighth-Decides}
use Rattle.fj_groebner.proofs.eliminations.eighth_is_tested.Goals as goal

pub returns : goal.returns
returns c F L f P = lacks_eighth-Decides L P
