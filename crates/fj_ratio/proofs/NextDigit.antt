-- One step of the expansion: the digit of a remainder, and the remainder after it.
use Rattle.std.proofs.Common.{ℕ, ◌+◌, ◌-◌, ◌*◌, ◌/◌, ◌%◌, ◌^◌, ◌<◌, ◌≤◌, Contains, arith}
use Rattle.std.proofs.lemmas.Nat.{mul-le, mod_below}
use Rattle.std.proofs.Math.Nat.{div-add-mod, mul-lt-mul_of_pos_left, lt_of_mul-lt-mul_right, div-mul-le_self}
use Rattle.fj_coeff.specs.Field.{greatest_prime, primes}
use Rattle.fj_coeff.specs.PrimeFieldLaws.{prime_bounds}

-- What division of p*r - 1 by n gives, for a remainder r in (0, n].
pub record IsStep (p r n : ℕ) : Type 0 where
  pub positive : 0 < p * r
  pub small : p * r < 2 ^ 21
  pub below : (p * r - 1) / n * n < p * r
  pub next : p * r ≤ (p * r - 1) / n * n + n
  pub digit : (p * r - 1) / n ≤ greatest_prime

pub step : (p r n : ℕ) → Contains primes p → 0 < r → r ≤ n → n < 2 ^ 16 → IsStep p r n
step p r n prime above at_most narrow =
    let large : 1 < p = (prime_bounds p prime).0 in
    let short : p ≤ greatest_prime = (prime_bounds p prime).1 in
    let some : p * 0 < p * r = mul-lt-mul_of_pos_left above (omega arith) in
    let product : p * r ≤ greatest_prime * n = mul-le p r greatest_prime n short at_most in
    let low : (p * r - 1) / n * n ≤ p * r - 1 = div-mul-le_self (p * r - 1) n in
    let whole = div-add-mod (p * r - 1) n in
    let rest : (p * r - 1) % n < n = mod_below (p * r - 1) n (omega arith) in
    let less : (p * r - 1) / n * n < (greatest_prime + 1) * n = omega arith in
    record {
      positive = omega arith;
      small = omega arith;
      below = omega arith;
      next = omega arith;
      digit = let small : (p * r - 1) / n < greatest_prime + 1 = lt_of_mul-lt-mul_right n less in omega arith;
    }
