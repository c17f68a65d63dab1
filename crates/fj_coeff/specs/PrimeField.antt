-- GF(p): the numbers below p with sum and product modulo p.
use Rattle.std.specs.Prelude.{ℕ, ◌+◌, ◌-◌, ◌*◌, ◌%◌, ◌^◌}
use Rattle.fj_coeff.specs.Field.{Field}

-- GF(p). The inverse of a is a^(p-2), by Fermat, and each element is its own p-th root.
abbrev pub prime_field : ℕ → Field
prime_field p = record {
  characteristic = p;
  size = p;
  add = λ a b. (a + b) % p;
  neg = λ a. (p - a) % p;
  mul = λ a b. a * b % p;
  inverse = λ a. a ^ (p - 2) % p;
  root = λ a. a;
}
