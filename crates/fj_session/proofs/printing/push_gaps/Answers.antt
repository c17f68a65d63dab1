use Rattle.std.proofs.Common.{◌++◌, sym, ap, ◌∙◌, append_assoc}
use Rattle.fj_session.specs.Text.{gap_line}
use Rattle.fj_shell.proofs.Pieces.{flat_next}
use Rattle.fj_session.proofs.printing.push_gaps.Goals as goal

pub loop-place-preserved : goal.loop-place-preserved
loop-place-preserved c =
    let line = gap_line c.args.number in
    c.in_ok-push_gap.ensures ∙ ap (λ s. s ++ line c.get.result.now) c.loop-place.invariant
    ∙ append_assoc c.args.out.now.items _ _
    ∙ ap (λ s. c.args.out.now.items ++ s) (sym (flat_next line c.args.rows.now c.loop-place.place c.get.result.now c.get.ensures))
