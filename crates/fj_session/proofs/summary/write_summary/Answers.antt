use Rattle.std.proofs.Common.{ℕ, ◌==◌, cond, sym, ap, ◌∙◌, subst}
use Rattle.std.specs.Io.KnownBytes.{Appends}
use Rattle.fj_session.specs.Lines.{summary_line}
use Rattle.fj_session.specs.declared.summary.Summary.{Summary}
use Rattle.fj_session.proofs.Summaries.{status_of_summary}
use Rattle.fj_session.proofs.summary.write_summary.Goals as goal

pub returns-clause-whole : goal.returns-clause-whole
returns-clause-whole g c = λ small.
    let summed = c.in-Ok.ensures.summary in
    let written = c.write_text.ensures.written small in
    let status : Summary → ℕ = λ s. cond (s.stopped == 0) 0 3 in
    let line = c.deref.ensures.value ∙ c.in-Ok-print_summary.ensures ∙ ap (summary_line c.args.n) summed.2 in (
      summed.0,
      summed.1,
      written.0 ∙ c.status.ensures ∙ ap status summed.2 ∙ sym (status_of_summary summed.0),
      subst (Appends (g.K.Sink.taken c.args.sink.now) (g.K.Sink.taken c.write_text.new.sink)) line written.1,
      summed.3,
    )
