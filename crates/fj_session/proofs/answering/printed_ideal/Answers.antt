use Rattle.std.proofs.Common.{refl}
use Rattle.fj_session.specs.Names.{values_kept}
use Rattle.fj_session.specs.Standing as question
use Rattle.fj_session.proofs.AskedIdeal.{found_plain, plain_answers}
use Rattle.fj_session.proofs.answering.printed_ideal.Goals as goal

pub asked_ideal-ideal-requires-clause-stated : goal.asked_ideal-ideal-requires-clause-stated
asked_ideal-ideal-requires-clause-stated g c = question.asked c.args.asked.now c.requires.session refl

pub asked_ideal-ideal-requires-clause-ideal : goal.asked_ideal-ideal-requires-clause-ideal
asked_ideal-ideal-requires-clause-ideal g c = plain_answers c.args.asked.now.question c.requires.ideal

pub returns : goal.returns
returns g c =
    let asked = c.args.asked.now in
    found_plain g.met.K.Coeff.lawful asked.order asked.budget c.args.names.now.env.now (values_kept c.args.names.now.lets.items) c.asked_ideal-ideal.result c.printed.result c.printed.ensures asked.question c.requires.ideal
    c.asked_ideal-ideal.ensures.ideal c.asked_ideal-ideal.ensures.stop
