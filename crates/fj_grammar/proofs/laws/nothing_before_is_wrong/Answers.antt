use Rattle.fj_grammar.proofs.FirstFault.{nothing_before}
use Rattle.fj_grammar.proofs.laws.nothing_before_is_wrong.Goals as goal

pub returns : goal.returns
returns c bytes other place fault H K e A h = nothing_before bytes other place H K e fault A h
