use Rattle.std.proofs.Common.{◌++◌, length, sym, ap, ◌∙◌, subst, append_assoc}
use Rattle.std.proofs.lemmas.Option.{get_or_from_slice_get, slice_get_within}
use Rattle.fj_session.specs.Answer.{RowUsesFirst}
use Rattle.fj_session.specs.Text.{row_line}
use Rattle.fj_shell.proofs.Pieces.{flat_next}
use Rattle.fj_session.proofs.printing.push_rows.Goals as goal

pub push_row-requires : goal.push_row-requires
push_row-requires c =
    let rows = c.args.rows.now in
    let i = c.loop-place.place in
    let row = c.get.result.now in
    subst (RowUsesFirst (length c.args.vars.now)) (get_or_from_slice_get rows i row row c.get.ensures) (c.requires i row (slice_get_within rows i row c.get.ensures))

pub loop-place-preserved : goal.loop-place-preserved
loop-place-preserved c =
    let line = row_line c.args.vars.now c.args.number in
    c.in_ok-push_row.ensures ∙ ap (λ s. s ++ line c.get.result.now) c.loop-place.invariant
    ∙ append_assoc c.args.out.now.items _ _
    ∙ ap (λ s. c.args.out.now.items ++ s) (sym (flat_next line c.args.rows.now c.loop-place.place c.get.result.now c.get.ensures))
