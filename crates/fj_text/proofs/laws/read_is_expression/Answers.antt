use Rattle.fj_text.proofs.Soundness.{expression-sound}
use Rattle.fj_text.proofs.laws.read_is_expression.Goals as goal

pub returns : goal.returns
returns c F L meaning s t f e = expression-sound L meaning s t f e
