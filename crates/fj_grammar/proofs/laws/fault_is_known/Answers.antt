use Rattle.fj_grammar.proofs.FirstFault.{known}
use Rattle.fj_grammar.proofs.laws.fault_is_known.Goals as goal

pub returns : goal.returns
returns c bytes other place H K e A = known bytes other place H K e A
