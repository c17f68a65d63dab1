use Rattle.std.proofs.Common.{◌++◌, length, sym, ap, ◌∙◌, append_assoc}
use Rattle.fj_session.specs.Answer.{IdealUsesFirst}
use Rattle.fj_session.specs.Text.{jump_line}
use Rattle.fj_shell.proofs.Pieces.{flat_next}
use Rattle.fj_session.proofs.Places.{at_place}
use Rattle.fj_session.proofs.printing.push_jumps.Goals as goal

pub push_jump-requires : goal.push_jump-requires
push_jump-requires c = at_place (λ row. IdealUsesFirst (length c.args.vars.now) row.ideal) c.args.rows.now c.loop-place.place c.get.result.now c.requires c.get.ensures

pub loop-place-preserved : goal.loop-place-preserved
loop-place-preserved c =
    let line = jump_line c.args.vars.now c.args.number in
    c.in_ok-push_jump.ensures ∙ ap (λ s. s ++ line c.get.result.now) c.loop-place.invariant
    ∙ append_assoc c.args.out.now.items _ _
    ∙ ap (λ s. c.args.out.now.items ++ s) (sym (flat_next line c.args.rows.now c.loop-place.place c.get.result.now c.get.ensures))
