use Rattle.std.proofs.Common.{codes}
use Rattle.fj_text.specs.Printed.{polynomial_bytes}
use Rattle.fj_text.proofs.Joined.{piece_pushed}
use Rattle.fj_text.proofs.printed.push_members.Goals as goal

pub loop-place-preserved : goal.loop-place-preserved
loop-place-preserved c =
    piece_pushed (codes ", ") (polynomial_bytes c.args.vars.now) c.args.l.now c.loop-place.place _ c.args.out.now.items _ _ _ c.get.ensures c.loop-place.invariant c.in_ok-push_between.ensures c.in_ok-push_poly.ensures
