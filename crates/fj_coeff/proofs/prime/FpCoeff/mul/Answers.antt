use Rattle.std.proofs.Common.{arith}
use Rattle.fj_coeff.specs.PrimeFieldLaws.{prime_product_fits}
use Rattle.fj_coeff.proofs.prime.FpCoeff.mul.Goals as goal

pub overflow_mul-result : goal.overflow_mul-result
overflow_mul-result g c =
    omega (arith, prime_product_fits _ _ _ g.bound-1.is_prime c.args.self.reduced c.args.o.reduced)
