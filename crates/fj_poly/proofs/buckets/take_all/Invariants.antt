use Rattle.fj_poly.proofs.Slots.{TakesAll}
use Rattle.fj_poly.proofs.buckets.take_all.Given as goal

abbrev pub invariant-loop-i : goal.invariant-loop-i
invariant-loop-i g l = TakesAll g.K.Coeff.field g.O.Order.key l.m.exponents l.fn.slots.items l.slots.items (g.K.Coeff.rank l.coefficient) l.i
