use Rattle.fj_grammar.proofs.GrammarComplete.{session_complete}
use Rattle.fj_grammar.proofs.laws.session_is_accepted.Goals as goal

pub returns : goal.returns
returns c bytes S h = session_complete bytes S h
