use Rattle.std.proofs.Common.{◌≡◌, ◌+◌, ◌-◌, ◌<◌, ◌≤◌, length}
use Rattle.fj_theory.specs.Ideal.{ArePolynomials}
use Rattle.fj_poly.specs.Slots.{sum_all}
use Rattle.fj_poly.proofs.buckets.make_room.Given as goal

abbrev pub invariant-grow : goal.invariant-grow
invariant-grow g l = (sum_all g.K.Coeff.field l.slots.items ≡ sum_all g.K.Coeff.field l.fn.slots.items) × ArePolynomials g.K.Coeff.field l.slots.items

abbrev pub decreases-grow : goal.decreases-grow
decreases-grow g l = l.place + 1 - length l.slots.items

abbrev pub invariant-seek : goal.invariant-seek
invariant-seek g l = (l.place ≤ l.free) × (l.free ≤ length l.slots.items)

abbrev pub decreases-seek : goal.decreases-seek
decreases-seek g l = length l.slots.items - l.free

abbrev pub invariant-carry : goal.invariant-carry
invariant-carry g l =
    (sum_all g.K.Coeff.field l.slots.items ≡ sum_all g.K.Coeff.field l.fn.slots.items) × ArePolynomials g.K.Coeff.field l.slots.items
    × (l.place ≤ l.free) × (l.free < length l.slots.items)

abbrev pub decreases-carry : goal.decreases-carry
decreases-carry g l = l.free
