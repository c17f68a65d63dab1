use Rattle.std.proofs.Common.{[], refl, inr}
use Rattle.fj_session.specs.Lines.{summary_line, summary_of}
use Rattle.fj_session.proofs.program.answer_script.Goals as goal
use Rattle.fj_shell.proofs.Pieces.{appends_nothing}

pub returns-in-Gen-clause-failed : goal.returns-in-Gen-clause-failed
returns-in-Gen-clause-failed g c = λ five.
    let failed = c.write_summary.ensures.failed five in
    let summed = failed.1 in
    rw c.in-Gen.is (
      failed.0,
      (
        [],
        summary_line c.in-Gen.n (summary_of summed.0),
        inr (summed.0, summed.1, ([], refl)),
        (g.K.Sink.taken c.args.sink.now, appends_nothing (g.K.Sink.taken c.args.sink.now), summed.2),
      ),
    )
