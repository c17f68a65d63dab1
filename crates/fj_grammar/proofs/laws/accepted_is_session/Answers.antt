use Rattle.fj_grammar.proofs.GrammarSound.{session_sound}
use Rattle.fj_grammar.proofs.laws.accepted_is_session.Goals as goal

pub returns : goal.returns
returns c bytes S e = session_sound bytes S e
