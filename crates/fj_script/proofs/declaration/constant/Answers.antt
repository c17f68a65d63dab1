use Rattle.std.proofs.Common.{arith}
use Rattle.fj_coeff.specs.PrimeFieldLaws.{prime_bounds}
use Rattle.fj_script.proofs.declaration.constant.Goals as goal

pub nonzero_rem-result : goal.nonzero_rem-result
nonzero_rem-result c = let h = (prime_bounds c.args.p c.requires).0 in omega (arith, h)

pub overflow_sub-result : goal.overflow_sub-result
overflow_sub-result c = let h = (prime_bounds c.args.p c.requires).0 in grind (arith, h)

pub nonzero_rem-result-then-take_sign : goal.nonzero_rem-result-then-take_sign
nonzero_rem-result-then-take_sign c = let h = (prime_bounds c.args.p c.requires).0 in omega (arith, h)

pub nonzero_rem-result-2 : goal.nonzero_rem-result-2
nonzero_rem-result-2 c = let h = (prime_bounds c.args.p c.requires).0 in omega (arith, h)
