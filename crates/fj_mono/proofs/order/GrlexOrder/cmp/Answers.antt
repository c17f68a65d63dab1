use Rattle.std.proofs.Common.{refl, sym, ◌∙◌}
use Rattle.fj_mono.proofs.Compare.{compare_by-grlex}
use Rattle.fj_mono.proofs.order.GrlexOrder.cmp.Goals as goal

pub returns : goal.returns
returns c =
    rw (compare_by-grlex c.args.a.now.exponents c.args.b.now.exponents (c.args.a.now.eight ∙ sym c.args.b.now.eight), c.then.ensures, c.cmp.ensures, c.cmp-2.ensures, c.total.ensures, c.total-2.ensures) refl
