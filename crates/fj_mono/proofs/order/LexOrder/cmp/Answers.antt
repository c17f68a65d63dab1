use Rattle.std.proofs.Common.{sym, ◌∙◌}
use Rattle.fj_mono.proofs.Compare.{compare_by-lex}
use Rattle.fj_mono.proofs.order.LexOrder.cmp.Goals as goal

pub returns : goal.returns
returns c = c.cmp.ensures ∙ sym (compare_by-lex _ _ (c.args.a.now.eight ∙ sym c.args.b.now.eight))
