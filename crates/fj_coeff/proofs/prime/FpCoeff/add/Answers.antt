use Rattle.std.proofs.Common.{arith}
use Rattle.fj_coeff.specs.PrimeFieldLaws.{prime_sum_fits}
use Rattle.fj_coeff.proofs.prime.FpCoeff.add.Goals as goal

pub overflow_add-result : goal.overflow_add-result
overflow_add-result g c =
    omega (arith, prime_sum_fits _ _ _ g.bound-1.is_prime c.args.self.reduced c.args.o.reduced)
