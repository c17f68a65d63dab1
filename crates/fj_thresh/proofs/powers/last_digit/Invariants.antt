use Rattle.std.proofs.Common.{suc, ◌+◌, ◌*◌, ◌<◌, ◌≤◌, ◌-◌, length}
use Rattle.fj_theory.specs.Digits.{value_of}
use Rattle.fj_testideal.specs.Threshold.{IsPowerInside}
use Rattle.fj_thresh.proofs.powers.last_digit.Given as goal

-- with the digit (outside) the power isn't inside, and with the digit (inside) it is
abbrev pub invariant-loop-inside : goal.invariant-loop-inside
invariant-loop-inside g l =
    let F = g.K.Coeff.field in
    let e = suc (length l.higher) in
    let r = F.characteristic * value_of F.characteristic l.higher in
    record {
      apart : l.outside < l.inside;
      at_most : l.inside ≤ F.characteristic;
      out : IsPowerInside F l.f l.j.given e (r + l.outside) → ⊥;
      within : IsPowerInside F l.f l.j.given e (r + l.inside);
    }

abbrev pub decreases-loop-inside : goal.decreases-loop-inside
decreases-loop-inside g l = l.inside - l.outside
