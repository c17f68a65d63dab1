-- The limits of a session.
use Rattle.std.specs.Prelude.{ℕ, ◌≤◌, List, length, Contains}
use Rattle.fj_coeff.specs.Field.{primes}
use Rattle.fj_script.specs.declared.question.Asked.{Asked}

-- The prime is one of the table, at most 1,000,000 terms are declared and at most 4,096 questions asked.
pub record IsSession (prime terms : ℕ) (asked : List Asked) : Type 0 where
  pub prime_in_table : Contains primes prime
  pub few_terms : terms ≤ 1000000
  pub few_asked : length asked ≤ 4096
