use Rattle.std.proofs.lemmas.Result.{IfOk-weaker}
use Rattle.fj_session.specs.Names.{values_kept}
use Rattle.fj_session.specs.Outcome.{IsCertifiedOver, IsToldStop}
use Rattle.fj_session.proofs.Certifying.{prime_size}
use Rattle.fj_session.proofs.LetValues.{hand_of_values}
use Rattle.fj_session.proofs.ToldStops.{answered_with, stopped_with}
use Rattle.fj_session.proofs.answering.answer_over.Goals as goal

pub found-requires-clause-prime : goal.found-requires-clause-prime
found-requires-clause-prime g c = prime_size g.met.K.Coeff.size_is g.met.K.Coeff.characteristic_is c.requires.field

pub found-requires-clause-at_hand : goal.found-requires-clause-at_hand
found-requires-clause-at_hand g c = hand_of_values c.args.names.now c.requires.values

pub returns-in-Ok : goal.returns-in-Ok
returns-in-Ok g c = answered_with (values_kept c.args.names.now.lets.items) c.requires.values.values c.in-Ok.certified c.in-Ok.ensures.0

pub returns-in-Err : goal.returns-in-Err
returns-in-Err g c =
    let asked = c.args.asked.now in
    let s = c.in-Err.stop in
    IfOk-weaker c.stopped.result (IsToldStop asked.order s) (IsCertifiedOver g.K.Coeff.field c.args.names.now.env.now asked)
    (λ certified told. stopped_with (values_kept c.args.names.now.lets.items) c.requires.values.values s certified c.in-Err.ensures.1.0 told) c.stopped.ensures
