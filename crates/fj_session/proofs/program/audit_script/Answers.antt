use Rattle.std.proofs.Common.{◌++◌, inr, sym, subst, arith}
use Rattle.std.specs.Io.KnownBytes.{Appends}
use Rattle.fj_io.proofs.KnownBytes.{appends_more}
use Rattle.fj_session.specs.Reply.{answer_texts}
use Rattle.fj_session.proofs.AuditorLines.{lines_behind}
use Rattle.fj_session.proofs.Pieces.{together-append}
use Rattle.fj_session.proofs.program.audit_script.Goals as goal
use Rattle.fj_shell.proofs.Pieces.{rose_later}

pub returns-clause-failed : goal.returns-clause-failed
returns-clause-failed g c = λ five.
    let answered = c.write_answers-status.ensures.whole (omega arith) in
    let texts = answer_texts c.args.script.now.env answered.0 in
    let lines = c.write_auditors.ensures.failed five in
    let cut = lines.1 in (
      rose_later _ _ _ c.write_answers-status.ensures.later lines.0,
      (
        texts ++ cut.0,
        cut.1,
        inr (answered.0, answered.1, (cut.2, lines_behind _ _ _ texts cut.0 cut.1 cut.2 c.deref.ensures.value cut.3)),
        (
          cut.4.0,
          subst (Appends (g.K.Sink.taken c.args.sink.now) cut.4.0) (sym (together-append texts cut.0)) (appends_more _ (g.K.Sink.taken c.write_answers-status.new.sink) _ _ _ answered.3 cut.4.1),
          cut.4.2,
        ),
      ),
    )

pub returns-clause-memory : goal.returns-clause-memory
returns-clause-memory g c = λ six.
    let answered = c.write_answers-status.ensures.whole (omega arith) in
    let texts = answer_texts c.args.script.now.env answered.0 in
    let cut = c.write_auditors.ensures.memory six in (
      texts ++ cut.0,
      inr (cut.1, (answered.0, answered.1, (cut.2, lines_behind _ _ _ texts cut.0 cut.1 cut.2 c.deref.ensures.value cut.3))),
      subst (Appends (g.K.Sink.taken c.args.sink.now) (g.K.Sink.taken c.write_auditors.new.sink)) (sym (together-append texts cut.0)) (appends_more _ (g.K.Sink.taken c.write_answers-status.new.sink) _ _ _ answered.3 cut.4),
    )
