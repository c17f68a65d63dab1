use Rattle.std.proofs.Common.{arith}
use Rattle.fj_coeff.specs.PrimeFieldLaws.{prime_bounds, prime_sum_fits, prime_product_fits}
use Rattle.fj_coeff.proofs.prime.FpCoeff.one.Goals as goal

pub invariant_of-result : goal.invariant_of-result
invariant_of-result g c = omega (arith, prime_bounds _ g.bound-1.is_prime)
