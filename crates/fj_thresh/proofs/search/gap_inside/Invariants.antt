use Rattle.std.proofs.Common.{◌-◌, ◌<◌, length, get_or}
use Rattle.fj_theory.specs.Fraction.{Fraction}
use Rattle.fj_thresh.specs.Ends.{IsInside, IsOutside}
use Rattle.fj_thresh.proofs.search.gap_inside.Given as goal

-- the test ideal at the end (outside) isn't inside, and the one at the end (inside) is
abbrev pub invariant-loop-inside : goal.invariant-loop-inside
invariant-loop-inside g l =
    let F = g.K.Coeff.field in
    record {
      apart : l.outside < l.inside;
      short : l.inside < length l.ends.items;
      out : (d : Fraction) → IsOutside F l.f l.j.given (get_or l.ends.items l.outside d);
      within : (d : Fraction) → IsInside F l.f l.j.given (get_or l.ends.items l.inside d);
    }

abbrev pub decreases-loop-inside : goal.decreases-loop-inside
decreases-loop-inside g l = l.inside - l.outside
