use Rattle.fj_theory.proofs.Colon.{IsColon-append}
use Rattle.fj_theory.proofs.colons.colon_by_sum.Goals as goal

pub returns : goal.returns
returns c F L I M N K Q H S T U = IsColon-append S T U
