use Rattle.std.proofs.Common.{◌≡◌, ◌∙◌, IfOk, ap, sym, subst, refl}
use Rattle.std.proofs.lemmas.Result.{IfOk-weaker}
use Rattle.fj_coeff.specs.PrimeField.{prime_field}
use Rattle.fj_script.specs.declared.script.Env.{Env}
use Rattle.fj_shell.specs.Asked.{AreOfOneSession}
use Rattle.fj_session.specs.Outcome.{IsCertifiedOver, IsToldStop}
use Rattle.fj_session.specs.Standing as question
use Rattle.fj_session.specs.Used.{HasValues}
use Rattle.fj_session.proofs.ToldStops.{stopped_by_let, written_before}
use Rattle.fj_session.proofs.answering.field_answer.Goals as goal

pub names_of-requires-clause-stated : goal.names_of-requires-clause-stated
names_of-requires-clause-stated g c = question.asked c.args.asked.now c.requires.session refl

pub answer_over-requires-clause-session : goal.answer_over-requires-clause-session
answer_over-requires-clause-session g c = subst (λ (e : Env). AreOfOneSession e c.args.asked.now) (sym c.in-Ok.ensures.values.env_there) c.requires.session

pub answer_over-requires-clause-field : goal.answer_over-requires-clause-field
answer_over-requires-clause-field g c = c.requires.field ∙ ap (λ (e : Env). prime_field e.p) (sym c.in-Ok.ensures.values.env_there)

pub answer_over-requires-clause-values : goal.answer_over-requires-clause-values
answer_over-requires-clause-values g c = subst (λ (e : Env). HasValues g.K.Coeff.field e c.args.asked.now.question c.in-Ok.names) (sym c.in-Ok.ensures.values.env_there) c.in-Ok.ensures.values

pub stopped-requires : goal.stopped-requires
stopped-requires g c = written_before c.in-Err.stop c.in-Err.ensures.stop

pub returns-in-Ok : goal.returns-in-Ok
returns-in-Ok g c = subst (λ (e : Env). IfOk c.answer_over.result (IsCertifiedOver g.K.Coeff.field e c.args.asked.now)) c.in-Ok.ensures.values.env_there c.answer_over.ensures

pub returns-in-Err : goal.returns-in-Err
returns-in-Err g c =
    let asked = c.args.asked.now in
    IfOk-weaker c.stopped.result (IsToldStop asked.order c.in-Err.stop) (IsCertifiedOver g.K.Coeff.field c.args.env.now asked)
    (λ certified told. stopped_by_let c.in-Err.stop certified c.in-Err.ensures.stop told) c.stopped.ensures
