use Rattle.fj_session.proofs.AnswerVariables.{answer_uses_first}
use Rattle.fj_session.proofs.answering.answer.Goals as goal

pub returns-clause-variables : goal.returns-clause-variables
returns-clause-variables g c = answer_uses_first c.args.env.now c.args.asked.now c.requires c.in_ok-certified.certified.answer c.in_ok-certified.ensures.answer
