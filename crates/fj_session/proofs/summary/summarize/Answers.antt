use Rattle.std.proofs.Common.{◌++◌, ◌∷◌, [], refl, sym, ap, ◌∙◌, subst}
use Rattle.fj_audit.proofs.Shown.{AreShownAll-nil, IsAsGood-AreShownAll, IsAsGood-trans}
use Rattle.fj_session.specs.Lines.{IsCount, with_answer}
use Rattle.fj_session.specs.Reply.{Reply, certificates_of}
use Rattle.fj_session.proofs.AsGood.{as_good_wanting}
use Rattle.fj_session.proofs.Pieces.{no_replies, replies_push, session_of_question, shown_push}
use Rattle.fj_session.proofs.Summaries.{no_answer-IsCount, summary_push}
use Rattle.fj_session.proofs.summary.summarize.Goals as goal

pub loop-i-init : goal.loop-i-init
loop-i-init g c = (
  [],
  no_replies c.args.script.now.env c.args.script.now.asked,
  c.new-summary.ensures,
  subst IsCount (sym c.new-summary.ensures) no_answer-IsCount,
  AreShownAll-nil _,
)

pub answer-requires : goal.answer-requires
answer-requires g c = session_of_question c.args.script.now c.requires.0 c.requires.1 c.loop-i.i c.get.result.now c.get.ensures

pub returns-in_err-answer-clause-good : goal.returns-in_err-answer-clause-good
returns-in_err-answer-clause-good g c =
    let before = c.loop-i.invariant in
    IsAsGood-trans _ _ _ (IsAsGood-AreShownAll (certificates_of before.0) _ _ before.4) (as_good_wanting c.args.script.now.env c.get.result.now _ _ c.in_err-answer.ensures.wanting)

pub loop-i-preserved : goal.loop-i-preserved
loop-i-preserved g c =
    let env = c.args.script.now.env in
    let before = c.loop-i.invariant in
    let shown = c.in_ok-answer.ensures.certificates in
    let r : Reply = record { asked = c.get.result.now; answer = c.in_ok-answer.answer; certificates = shown.0 } in (
      before.0 ++ r ∷ [],
      replies_push env c.args.script.now.asked c.loop-i.i c.get.result.now before.0 r c.get.ensures before.1 refl (record { answer = c.in_ok-answer.ensures.answer; certificates = shown.1 }),
      c.count.ensures.after ∙ ap (λ s. with_answer s r.answer) before.2 ∙ sym (summary_push before.0 r),
      c.count.ensures.counts,
      shown_push before.0 r _ _ _ before.4 shown.2,
    )

pub returns-clause-good : goal.returns-clause-good
returns-clause-good g c = IsAsGood-AreShownAll (certificates_of c.loop-i.invariant.0) _ _ c.loop-i.invariant.4
