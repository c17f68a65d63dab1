use Rattle.std.proofs.Common.{◌≡◌, ◌<◌, ◌≤◌, length, inl, inr, refl, arith, ◌∙◌}
use Rattle.fj_session.specs.Used.{IsStopBefore}
use Rattle.fj_session.proofs.LetValues.{cause_of_let, err_handed, named_at_hand, values_all, values_next}
use Rattle.fj_session.proofs.Marks.{marked_read, read_marked}
use Rattle.fj_session.proofs.Stated.{session_known}
use Rattle.fj_session.proofs.lets.names_of.Goals as goal

pub value_at-requires-clause-at_hand : goal.value_at-requires-clause-at_hand
value_at-requires-clause-at_hand g c = λ marked budget question here.
    let more = c.loop-place-test.true in
    let end = c.len-place-end.ensures ∙ c.in_ok-marks.marks.ok.0 in
    named_at_hand (session_known c.args.env.now c.args.question.now c.requires.stated) c.in_ok-marks.ensures c.loop-place.invariant
    (marked_read c.in_ok-marks.marks.items c.loop-place.place c.index.result.now (omega (arith, more, end)) c.index.ensures marked) here

pub returns-in_err-value-clause-stop : goal.returns-in_err-value-clause-stop
returns-in_err-value-clause-stop g c =
    let more = c.loop-place-test.true in
    let end = c.len-place-end.ensures ∙ c.in_ok-marks.marks.ok.0 in
    let s = c.in_err-value.field-0.0 in
    let stop = c.in_err-value.ensures.stop in
    err_handed (IsStopBefore g.K.Coeff.field c.args.env.now c.args.question.now) s c.from_residual-in_err-value.result c.from_residual-in_err-value.ensures.1
    (inr (
      cause_of_let (session_known c.args.env.now c.args.question.now c.requires.stated) c.in_ok-marks.ensures c.loop-place.invariant
          (marked_read c.in_ok-marks.marks.items c.loop-place.place c.index.result.now (omega (arith, more, end)) c.index.ensures stop.0) s stop.1,
      stop.1.cause.1,
    ))

pub loop-place-preserved : goal.loop-place-preserved
loop-place-preserved g c =
    let more = c.loop-place-test.true in
    let end = c.len-place-end.ensures ∙ c.in_ok-marks.marks.ok.0 in
    values_next (session_known c.args.env.now c.args.question.now c.requires.stated) c.in_ok-marks.ensures c.loop-place.invariant c.in_ok-value.value
    (λ is budget asked here. c.in_ok-value.ensures.value (read_marked c.in_ok-marks.marks.items c.loop-place.place c.index.result.now (omega (arith, more, end)) c.index.ensures is) budget asked here) _ refl c.in_ok-push.ensures.items

pub returns-clause-values : goal.returns-clause-values
returns-clause-values g c =
    let done = c.loop-place-test.false in
    let past = c.loop-place.auto.place-end in
    let end = c.len-place-end.ensures ∙ c.in_ok-marks.marks.ok.0 in
    values_all (session_known c.args.env.now c.args.question.now c.requires.stated) c.in_ok-marks.ensures c.loop-place.invariant (omega (arith, done, past, end))
