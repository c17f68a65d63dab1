use Rattle.std.proofs.Common.{sym, ◌∙◌}
use Rattle.fj_mono.proofs.Compare.{compare_by-grevlex}
use Rattle.fj_mono.proofs.order.GrevlexOrder.cmp.Goals as goal

pub returns : goal.returns
returns c = c.compare_fronts.ensures ∙ sym (compare_by-grevlex c.args.a.now.exponents c.args.b.now.exponents)
