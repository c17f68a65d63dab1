-- What is known of the digits of each `Digits`.
use Rattle.std.specs.Prelude.{◌<◌, length, All, Any, Contains}
use Rattle.fj_coeff.specs.Field.{primes}
use Rattle.fj_theory.specs.Digits.{Expansion}

-- Digits below the prime, and a period that isn't empty and not all zeros.
pub record AreDigits (d : Expansion) : Type 0 where
  pub prime : Contains primes d.prime
  pub pre : All (λ k. k < d.prime) d.pre
  pub period : All (λ k. k < d.prime) d.period
  pub not_empty : 0 < length d.period
  pub nonzero : Any (λ k. 0 < k) d.period
