use Rattle.std.proofs.Common.{◌+◌, ◌*◌, ◌<◌, length}
use Rattle.fj_text.specs.Expression.{parenthesised, plus_term, sum_at, term_at, times_factor}
use Rattle.fj_text.proofs.Repeats.{Repeats}
use Rattle.fj_text.proofs.expression.+expression.Given as goal

-- A parenthesis takes one from the depth. Inside of it each rule calls those that stand above it.
abbrev pub decreases-parenthesised : goal.decreases-parenthesised
decreases-parenthesised g l = 8 * l.depth

abbrev pub decreases-atom : goal.decreases-atom
decreases-atom g l = 8 * l.depth + 1

abbrev pub decreases-factor : goal.decreases-factor
decreases-factor g l = 8 * l.depth + 2

abbrev pub decreases-times_factor : goal.decreases-times_factor
decreases-times_factor g l = 8 * l.depth + 3

abbrev pub decreases-term : goal.decreases-term
decreases-term g l = 8 * l.depth + 4

abbrev pub decreases-first_term : goal.decreases-first_term
decreases-first_term g l = 8 * l.depth + 6

abbrev pub decreases-plus_term : goal.decreases-plus_term
decreases-plus_term g l = 8 * l.depth + 5

abbrev pub decreases-sum : goal.decreases-sum
decreases-sum g l = 8 * l.depth + 7

abbrev pub invariant-sum-terms : goal.invariant-sum-terms
invariant-sum-terms g l =
    let F = g.K.Coeff.field in
    let meaning = g.S.Scope.meaning l.scope in record {
      repeats : Repeats (plus_term F meaning (parenthesised F meaning l.depth)) l.total l.reader (sum_at F meaning (parenthesised F meaning l.depth) l.fn.reader);
      taken : length l.reader.left < length l.fn.reader.left;
    }

abbrev pub decreases-sum-terms : goal.decreases-sum-terms
decreases-sum-terms g l = length l.reader.left

abbrev pub invariant-term-factors : goal.invariant-term-factors
invariant-term-factors g l =
    let F = g.K.Coeff.field in
    let meaning = g.S.Scope.meaning l.scope in record {
      repeats : Repeats (times_factor F meaning (parenthesised F meaning l.depth)) l.value l.reader (term_at F meaning (parenthesised F meaning l.depth) l.fn.reader);
      taken : length l.reader.left < length l.fn.reader.left;
    }

abbrev pub decreases-term-factors : goal.decreases-term-factors
decreases-term-factors g l = length l.reader.left
