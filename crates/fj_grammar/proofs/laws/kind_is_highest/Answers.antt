use Rattle.fj_grammar.proofs.Ranked.{kind_highest}
use Rattle.fj_grammar.proofs.laws.kind_is_highest.Goals as goal

pub returns : goal.returns
returns c bytes place H e = kind_highest bytes place H e
