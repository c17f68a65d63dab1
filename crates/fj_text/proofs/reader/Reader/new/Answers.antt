use Rattle.std.proofs.Common.{◌∙◌}
use Rattle.fj_text.proofs.Readers.{starts-some, starts-none}
use Rattle.fj_text.proofs.reader.Reader.new.Goals as goal
use Rattle.fj_text.proofs.reader.Reader.new.Goals.{in-Some, in-None}

pub returns : goal.returns
returns c =
    elim c.match-next.branch [
      | in-Some w ↦ starts-some _ _ _ _ c.token_from-next.ensures.tokens _ w.in-Some.is w.end-is
      | in-None w ↦ starts-none _ _ _ _ c.token_from-next.ensures.tokens w.in-None.is (w.end-is ∙ w.end_of_line-end.ensures)
    ]
