use Rattle.fj_grammar.proofs.BeginningSessions.{beginning_legal}
use Rattle.fj_grammar.proofs.laws.beginning_is_legal.Goals as goal

pub returns : goal.returns
returns c bytes place H e = beginning_legal bytes place H e
