use Rattle.fj_session.proofs.OneValue.{value_of_question}
use Rattle.fj_session.proofs.lets.value_of.Goals as goal

pub returns-clause-value : goal.returns-clause-value
returns-clause-value g c =
    value_of_question c.args.names.now c.args.question.now c.requires.stated g.met.K.Coeff.lawful c.requires.field c.requires.at_hand c.in_ok-ideal.ensures.ideal c.in_ok-reduced.ensures.value c.in_ok-reduced.ensures.ideal
