use Rattle.std.proofs.Common.{◌∙◌, arith}
use Rattle.fj_session.proofs.Residues.{residue_ends}
use Rattle.fj_session.proofs.printing.push_residue.Goals as goal

pub returns : goal.returns
returns c =
    let eight = c.args.residue.now.eight in
    c.in_ok-push-2.ensures.items ∙ residue_ends c.args.out.now.items c.loop-place.out.items c.args.count c.args.residue.now.exponents c.loop-place.place (omega (arith, eight, c.requires)) c.loop-place-test.false c.loop-place.invariant
