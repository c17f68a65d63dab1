use Rattle.std.proofs.Common.{[], ◌∷◌, Err, refl, inl, inr, arith, sym, ap, subst, append-nil}
use Rattle.std.specs.Io.KnownBytes.{Appends}
use Rattle.fj_session.specs.Program.{all_pieces}
use Rattle.fj_session.specs.Reply.{certificates_of}
use Rattle.fj_session.specs.Words.{usage_line}
use Rattle.fj_session.proofs.AsGood.{accounts_swept, as_good_same, good_from_same, shown_from_same, shown_nothing}
use Rattle.fj_session.proofs.program.run.Goals as goal
use Rattle.fj_shell.specs.Shell.{fault_line}
use Rattle.fj_shell.proofs.Pieces.{appends_nothing}

pub returns-in-None-clause-whole : goal.returns-in-None-clause-whole
returns-in-None-clause-whole g c = λ small.
    let written = c.write_text.ensures.written small in
    (usage_line ∷ [], [], inl (c.read_words.ensures.none c.in-None.is, written.0, refl, refl), written.1, shown_nothing _ _ (accounts_swept (λ b. (goal.Auditor-dyn g (b.vtable, b.value)).account b.value) c.args.auditors.now.items c.drop_out.new.auditors.items c.drop_out.ensures.kept))

pub returns-in-None-clause-write_failed : goal.returns-in-None-clause-write_failed
returns-in-None-clause-write_failed g c = λ five.
    let failed = c.write_text.ensures.failed (omega (arith, five)) in (
      failed.2,
      (
        [],
        usage_line,
        inl (c.read_words.ensures.none c.in-None.is, refl),
        (g.K.Sink.taken c.args.sink.now, appends_nothing (g.K.Sink.taken c.args.sink.now), failed.1),
      ),
    )

pub returns-in-None-clause-unshown : goal.returns-in-None-clause-unshown
returns-in-None-clause-unshown g c = λ which. accounts_swept (λ b. (goal.Auditor-dyn g (b.vtable, b.value)).account b.value) c.args.auditors.now.items c.drop_out.new.auditors.items c.drop_out.ensures.kept

pub returns-in-None-clause-good : goal.returns-in-None-clause-good
returns-in-None-clause-good g c = as_good_same _ _ (accounts_swept (λ b. (goal.Auditor-dyn g (b.vtable, b.value)).account b.value) c.args.auditors.now.items c.drop_out.new.auditors.items c.drop_out.ensures.kept)

pub returns-in-Ok-clause-whole : goal.returns-in-Ok-clause-whole
returns-in-Ok-clause-whole g c = λ small.
    let whole = c.answer_script.ensures.whole small in
    let read = c.in-Ok.ensures.script in (
      all_pieces c.in-Some.form _ c.in-Ok.script.env whole.0,
      certificates_of whole.0,
      inr (c.in-Some.form, c.in-Some.ensures.found, (read.0, read.1, inr (c.in-Ok.script, read.2, (whole.0, whole.1, whole.2, refl, refl)))),
      whole.3,
      shown_from_same (certificates_of whole.0) _ _ _ (accounts_swept (λ b. (goal.Auditor-dyn g (b.vtable, b.value)).account b.value) c.args.auditors.now.items c.drop_out.new.auditors.items c.drop_out.ensures.kept) whole.4,
    )

pub returns-in-Ok-clause-write_failed : goal.returns-in-Ok-clause-write_failed
returns-in-Ok-clause-write_failed g c = λ five.
    let failed = c.answer_script.ensures.failed five in
    let read = c.in-Ok.ensures.script in (
      failed.0,
      (
        failed.1.0,
        failed.1.1,
        inr (c.in-Some.form, c.in-Some.ensures.found, (read.0, read.1, inr (c.in-Ok.script, read.2, failed.1.2))),
        failed.1.3,
      ),
    )

pub returns-in-Ok-clause-good : goal.returns-in-Ok-clause-good
returns-in-Ok-clause-good g c = good_from_same _ _ _ (accounts_swept (λ b. (goal.Auditor-dyn g (b.vtable, b.value)).account b.value) c.args.auditors.now.items c.drop_out.new.auditors.items c.drop_out.ensures.kept) c.answer_script.ensures.good

pub returns-in-Err-At-clause-whole : goal.returns-in-Err-At-clause-whole
returns-in-Err-At-clause-whole g c = λ small.
    let written = c.write_fault.ensures.written small in
    let fault = c.in-Err-At.fault in
    let read = c.in-Err-At.ensures.fault fault (ap Err c.in-Err-At.field-0-is) in (
      fault_line fault ∷ [],
      [],
      inr (c.in-Some.form, c.in-Some.ensures.found, (read.0, read.1, inl (fault, read.2, written.0, refl, refl))),
      subst (Appends (g.K.Sink.taken c.args.sink.now) (g.K.Sink.taken c.write_fault.new.sink)) (sym (append-nil (fault_line fault))) (rw c.in-Err-At.field-0-is at written.1),
      shown_nothing _ _ (accounts_swept (λ b. (goal.Auditor-dyn g (b.vtable, b.value)).account b.value) c.args.auditors.now.items c.drop_out.new.auditors.items c.drop_out.ensures.kept),
    )

pub returns-in-Err-At-clause-write_failed : goal.returns-in-Err-At-clause-write_failed
returns-in-Err-At-clause-write_failed g c = λ five.
    let failed = c.write_fault.ensures.failed five in
    let fault = c.in-Err-At.fault in
    let read = c.in-Err-At.ensures.fault fault (ap Err c.in-Err-At.field-0-is) in (
      failed.1,
      (
        [],
        fault_line fault,
        inr (c.in-Some.form, c.in-Some.ensures.found, (read.0, read.1, inl (fault, read.2, refl))),
        (g.K.Sink.taken c.args.sink.now, appends_nothing (g.K.Sink.taken c.args.sink.now), rw c.in-Err-At.field-0-is at failed.0),
      ),
    )

pub returns-in-Err-At-clause-unshown : goal.returns-in-Err-At-clause-unshown
returns-in-Err-At-clause-unshown g c = λ which. accounts_swept (λ b. (goal.Auditor-dyn g (b.vtable, b.value)).account b.value) c.args.auditors.now.items c.drop_out.new.auditors.items c.drop_out.ensures.kept

pub returns-in-Err-At-clause-good : goal.returns-in-Err-At-clause-good
returns-in-Err-At-clause-good g c = as_good_same _ _ (accounts_swept (λ b. (goal.Auditor-dyn g (b.vtable, b.value)).account b.value) c.args.auditors.now.items c.drop_out.new.auditors.items c.drop_out.ensures.kept)

pub returns-in-Err-Failed-clause-unshown : goal.returns-in-Err-Failed-clause-unshown
returns-in-Err-Failed-clause-unshown g c = λ which. accounts_swept (λ b. (goal.Auditor-dyn g (b.vtable, b.value)).account b.value) c.args.auditors.now.items c.drop_out.new.auditors.items c.drop_out.ensures.kept

pub returns-in-Err-Failed-clause-good : goal.returns-in-Err-Failed-clause-good
returns-in-Err-Failed-clause-good g c = as_good_same _ _ (accounts_swept (λ b. (goal.Auditor-dyn g (b.vtable, b.value)).account b.value) c.args.auditors.now.items c.drop_out.new.auditors.items c.drop_out.ensures.kept)

pub returns-in-Err-Memory-clause-good : goal.returns-in-Err-Memory-clause-good
returns-in-Err-Memory-clause-good g c = as_good_same _ _ (accounts_swept (λ b. (goal.Auditor-dyn g (b.vtable, b.value)).account b.value) c.args.auditors.now.items c.drop_out.new.auditors.items c.drop_out.ensures.kept)
