use Rattle.fj_theory.proofs.Colon.{IsColon-zeros}
use Rattle.fj_theory.proofs.colons.colon_by_zero.Goals as goal

pub returns : goal.returns
returns c F L I M P zeros = IsColon-zeros L P zeros
