use Rattle.std.proofs.Common.{lit≤, arith}
use Rattle.std.proofs.lemmas.Bool.{le-leb}
use Rattle.fj_algebra.specs.StrictSteps.{monomial_count}
use Rattle.fj_text.proofs.Counts.{few}
use Rattle.fj_text.proofs.power.has_few_monomials.Goals as goal

pub returns-in-0 : goal.returns-in-0
unfolding monomial_count
returns-in-0 c _ = few c.args.t 0 c.args.d c.args.d c.in-0.is (lit≤ tt) (le-leb c.args.d c.args.d (omega arith))

pub returns-in-1 : goal.returns-in-1
unfolding monomial_count
returns-in-1 c low = few c.args.t 1 c.args.d 999 c.in-1.is (lit≤ tt) low

pub returns-in-2 : goal.returns-in-2
unfolding monomial_count
returns-in-2 c low = few c.args.t 2 c.args.d 43 c.in-2.is (lit≤ tt) low

pub returns-in-3 : goal.returns-in-3
unfolding monomial_count
returns-in-3 c low = few c.args.t 3 c.args.d 16 c.in-3.is (lit≤ tt) low

pub returns-in-4 : goal.returns-in-4
unfolding monomial_count
returns-in-4 c low = few c.args.t 4 c.args.d 9 c.in-4.is (lit≤ tt) low

pub returns-in-5 : goal.returns-in-5
unfolding monomial_count
returns-in-5 c low = few c.args.t 5 c.args.d 7 c.in-5.is (lit≤ tt) low

pub returns-in-6 : goal.returns-in-6
unfolding monomial_count
returns-in-6 c low = few c.args.t 6 c.args.d 6 c.in-6.is (lit≤ tt) low

pub returns-in-7 : goal.returns-in-7
unfolding monomial_count
returns-in-7 c low = few c.args.t 7 c.args.d 5 c.in-7.is (lit≤ tt) low

pub returns-in-8 : goal.returns-in-8
unfolding monomial_count
returns-in-8 c low = few c.args.t 8 c.args.d 4 c.in-8.is (lit≤ tt) low
