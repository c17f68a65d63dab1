use Rattle.std.proofs.Common.{◌≡◌, ◌≤◌, take, sum}
use Rattle.fj_theory.specs.MonomialOrder.{compare_by, front_sums}
use Rattle.fj_mono.proofs.order.compare_fronts.Given as goal

-- the sums of the first `count` exponents are at hand, and the entries before them are equal
abbrev pub invariant-loop-count : goal.invariant-loop-count
invariant-loop-count l = record {
  within : l.count ≤ 8;
  left : l.left ≡ sum (take l.count l.a.exponents);
  right : l.right ≡ sum (take l.count l.b.exponents);
  rest : compare_by (front_sums l.variables) l.a.exponents l.b.exponents ≡ compare_by (front_sums l.count) l.a.exponents l.b.exponents;
}

abbrev pub decreases-loop-count : goal.decreases-loop-count
decreases-loop-count l = l.count
