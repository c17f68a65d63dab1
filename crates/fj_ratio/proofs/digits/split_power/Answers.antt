use Rattle.std.proofs.Common.{◌<◌, ◌%◌, arith}
use Rattle.fj_coeff.specs.PrimeFieldLaws.{prime_bounds}
use Rattle.fj_theory.proofs.Divisibility.{prime_to_from_remainder}
use Rattle.fj_ratio.proofs.SplitPower.{IsSplit-more, quotient_below}
use Rattle.fj_ratio.proofs.digits.split_power.Goals as goal

pub nonzero_rem-rest : goal.nonzero_rem-rest
nonzero_rem-rest c = omega (arith, (prime_bounds _ c.requires.prime).0)

pub loop-rest-smaller : goal.loop-rest-smaller
loop-rest-smaller c = quotient_below _ _ (prime_bounds _ c.requires.prime).0 c.loop-rest.invariant.positive

pub loop-rest-preserved : goal.loop-rest-preserved
loop-rest-preserved c = IsSplit-more _ _ _ _ (prime_bounds _ c.requires.prime).0 c.loop-rest.invariant c.loop-rest-test.true

pub returns-clause-prime_to : goal.returns-clause-prime_to
returns-clause-prime_to c =
    let some : 0 < c.loop-rest.rest % c.args.p = omega arith in
    prime_to_from_remainder _ _ c.requires.prime some
