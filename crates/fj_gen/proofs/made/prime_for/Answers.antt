use Rattle.std.proofs.Common.{refl}
use Rattle.fj_gen.specs.Generated.{session_primes}
use Rattle.fj_gen.proofs.Primes.{prime_in_table}
use Rattle.fj_gen.proofs.made.prime_for.Goals as goal

pub returns-clause-value : goal.returns-clause-value
unfolding session_primes
returns-clause-value c = refl

pub returns-clause-in_table : goal.returns-clause-in_table
unfolding session_primes
returns-clause-in_table c = prime_in_table c.args.n
