use Rattle.fj_grammar.proofs.FirstFault.{others_fail}
use Rattle.fj_grammar.proofs.laws.others_fail_at_first.Goals as goal

pub returns : goal.returns
returns c bytes = others_fail bytes
