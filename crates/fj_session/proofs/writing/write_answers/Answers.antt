use Rattle.std.proofs.Common.{◌+◌, ◌++◌, ◌∷◌, [], take, Err, cond, refl, sym, ap, ap₂, ◌∙◌, subst, arith}
use Rattle.std.specs.Io.KnownBytes.{Appends}
use Rattle.std.proofs.lemmas.Option.{slice_get_within}
use Rattle.fj_audit.proofs.Shown.{AreShownAll-nil, IsAsGood-AreShownAll, IsAsGood-trans}
use Rattle.fj_io.proofs.KnownBytes.{appends_more}
use Rattle.fj_io.specs.Outside.{AppendsFront}
use Rattle.fj_shell.proofs.Pieces.{appends_nothing, rose_later}
use Rattle.fj_session.specs.Reply.{AreReplies, certificates_of}
use Rattle.fj_session.specs.Text.{answer_bytes}
use Rattle.fj_session.proofs.Pieces.{no_replies, replies_count, replies_push, session_of_question, shown_push, status_push, together_push}
use Rattle.fj_session.proofs.writing.write_answers.Goals as goal

pub loop-i-init : goal.loop-i-init
loop-i-init g c = ([], no_replies c.args.script.now.env c.args.script.now.asked, refl, appends_nothing (g.K.Sink.taken c.args.sink.now), omega arith, AreShownAll-nil _)

pub write_answer-requires : goal.write_answer-requires
write_answer-requires g c = session_of_question c.args.script.now c.requires.0 c.requires.1 c.loop-i.i c.get-asked.result.now c.get-asked.ensures

pub returns-in-Err-WriteFailed-clause-failed : goal.returns-in-Err-WriteFailed-clause-failed
returns-in-Err-WriteFailed-clause-failed g c five =
    let env = c.args.script.now.env in
    let asked = c.args.script.now.asked in
    let i = c.loop-i.i in
    let q = c.get-asked.result.now in
    let before = c.loop-i.invariant in
    let failed = c.in-Err-WriteFailed.ensures.failed (ap Err c.in-Err-WriteFailed.field-0-is) in
    let last = failed.1 in
    let r = last.0 in
    let within = slice_get_within asked i q c.get-asked.ensures in
    let count = replies_count env asked i before.0 (omega (arith, within)) before.1 in (
      rose_later _ _ _ before.4 failed.0,
      (
        before.0,
        r,
        subst (λ k. AreReplies env (take (k + 1) asked) (before.0 ++ r ∷ [])) (sym count) (replies_push env asked i q before.0 r c.get-asked.ensures before.1 last.1 last.2),
        (
          g.K.Sink.taken c.loop-i.sink,
          before.3,
          subst (λ a. AppendsFront (g.K.Sink.taken c.loop-i.sink) (g.K.Sink.taken c.write_answer.new.sink) (answer_bytes env.vars a.number r.answer)) (sym last.1) last.3,
        ),
      ),
    )

pub returns-in-Err-WriteFailed-clause-good : goal.returns-in-Err-WriteFailed-clause-good
returns-in-Err-WriteFailed-clause-good g c =
    let before = c.loop-i.invariant in
    IsAsGood-trans _ _ _ (IsAsGood-AreShownAll (certificates_of before.0) _ _ before.5) c.in-Err-WriteFailed.ensures.good

pub returns-in-Err-NoMemory-clause-good : goal.returns-in-Err-NoMemory-clause-good
returns-in-Err-NoMemory-clause-good g c =
    let before = c.loop-i.invariant in
    IsAsGood-trans _ _ _ (IsAsGood-AreShownAll (certificates_of before.0) _ _ before.5) c.in-Err-NoMemory.ensures.good

pub loop-i-preserved : goal.loop-i-preserved
loop-i-preserved g c =
    let env = c.args.script.now.env in
    let asked = c.args.script.now.asked in
    let q = c.get-asked.result.now in
    let before = c.loop-i.invariant in
    let one = c.in-Ok.ensures.answered in
    let r = one.0 in
    let later = c.in-Ok.ensures.later in
    let earlier = before.4 in
    let text = subst (λ a. Appends (g.K.Sink.taken c.loop-i.sink) (g.K.Sink.taken c.write_answer.new.sink) (answer_bytes env.vars a.number r.answer)) (sym one.1) one.4 in (
      before.0 ++ r ∷ [],
      replies_push env asked c.loop-i.i q before.0 r c.get-asked.ensures before.1 one.1 one.2,
      c.status_after-status.ensures ∙ ap₂ (λ l s. cond l 3 s) one.3 before.2 ∙ sym (status_push before.0 r),
      subst (Appends (g.K.Sink.taken c.args.sink.now) (g.K.Sink.taken c.write_answer.new.sink)) (sym (together_push env before.0 r)) (appends_more _ (g.K.Sink.taken c.loop-i.sink) _ _ _ before.3 text),
      omega (arith, earlier, later),
      shown_push before.0 r _ _ _ before.5 one.5,
    )

pub returns-clause-good : goal.returns-clause-good
returns-clause-good g c = IsAsGood-AreShownAll (certificates_of c.loop-i.invariant.0) _ _ c.loop-i.invariant.5
