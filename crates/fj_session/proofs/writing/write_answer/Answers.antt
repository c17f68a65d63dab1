use Rattle.std.proofs.Common.{refl, ◌∙◌, subst}
use Rattle.std.specs.Io.KnownBytes.{Appends}
use Rattle.fj_audit.proofs.Shown.{IsAsGood-AreShownAll}
use Rattle.fj_io.specs.Outside.{AppendsFront}
use Rattle.fj_session.proofs.AsGood.{as_good_wanting}
use Rattle.fj_session.proofs.writing.write_answer.Goals as goal

pub returns-in_err-answer-clause-good : goal.returns-in_err-answer-clause-good
returns-in_err-answer-clause-good g c = as_good_wanting c.args.env.now c.args.asked.now _ _ c.in_err-answer.ensures.wanting

pub returns-in_err-text-clause-good : goal.returns-in_err-text-clause-good
returns-in_err-text-clause-good g c =
    let shown = c.in_ok-answer.ensures.certificates in
    IsAsGood-AreShownAll shown.0 _ _ shown.2

pub returns-in_err-write_all-clause-failed : goal.returns-in_err-write_all-clause-failed
returns-in_err-write_all-clause-failed g c = λ failed.
    let shown = c.in_ok-answer.ensures.certificates in (
      c.in_err-write_all.ensures.cause.failed,
      (
        record { asked = c.args.asked.now; answer = c.in_ok-answer.answer; certificates = shown.0 },
        refl,
        record { answer = c.in_ok-answer.ensures.answer; certificates = shown.1 },
        subst (AppendsFront (g.K.Sink.taken c.args.sink.now) (g.K.Sink.taken c.write_all.new.self)) (c.deref.ensures.value ∙ c.in_ok-text.ensures) c.in_err-write_all.ensures.err,
      ),
    )

pub returns-in_err-write_all-clause-good : goal.returns-in_err-write_all-clause-good
returns-in_err-write_all-clause-good g c =
    let shown = c.in_ok-answer.ensures.certificates in
    IsAsGood-AreShownAll shown.0 _ _ shown.2

pub returns-clause-answered : goal.returns-clause-answered
returns-clause-answered g c =
    let shown = c.in_ok-answer.ensures.certificates in (
      record { asked = c.args.asked.now; answer = c.in_ok-answer.answer; certificates = shown.0 },
      refl,
      record { answer = c.in_ok-answer.ensures.answer; certificates = shown.1 },
      c.is_stopped.ensures,
      subst (Appends (g.K.Sink.taken c.args.sink.now) (g.K.Sink.taken c.write_all.new.self)) (c.deref.ensures.value ∙ c.in_ok-text.ensures) c.in_ok-write_all.ensures.ok,
      shown.2,
    )

pub returns-clause-good : goal.returns-clause-good
returns-clause-good g c =
    let shown = c.in_ok-answer.ensures.certificates in
    IsAsGood-AreShownAll shown.0 _ _ shown.2
