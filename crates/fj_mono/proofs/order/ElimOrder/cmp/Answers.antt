use Rattle.std.proofs.Common.{refl}
use Rattle.fj_mono.proofs.Compare.{compare_by-elim}
use Rattle.fj_mono.proofs.order.ElimOrder.cmp.Goals as goal

pub returns : goal.returns
returns c =
    rw (compare_by-elim c.args.a.now.exponents c.args.b.now.exponents, c.then.ensures, c.cmp.ensures, c.compare_fronts.ensures, c.exp.ensures, c.exp-2.ensures) refl
