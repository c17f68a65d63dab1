use Rattle.std.proofs.Common.{◌≡◌}
use Rattle.fj_theory.specs.Ideal.{ArePolynomials}
use Rattle.fj_poly.specs.Slots.{count_terms, sum_all}
use Rattle.fj_poly.proofs.buckets.Buckets.take_lead.Given as goal

abbrev pub invariant-loop-place : goal.invariant-loop-place
invariant-loop-place g l = (sum_all g.K.Coeff.field l.self-inside.slots.items ≡ l.fn.self) × ArePolynomials g.K.Coeff.field l.self-inside.slots.items

abbrev pub decreases-loop-place : goal.decreases-loop-place
decreases-loop-place g l = count_terms l.self-inside.slots.items
