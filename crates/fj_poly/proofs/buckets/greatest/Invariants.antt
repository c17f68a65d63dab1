use Rattle.fj_poly.specs.Slots.{IsGreatestPlace}
use Rattle.fj_poly.proofs.buckets.greatest.Given as goal

abbrev pub invariant-loop-i : goal.invariant-loop-i
invariant-loop-i g l = IsGreatestPlace g.O.Order.key l.slots l.i l.place
