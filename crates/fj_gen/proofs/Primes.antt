-- The primes of the sessions are in the table.
use Rattle.std.proofs.Common.{ℕ, ◌%◌, Contains, All, refl, arith}
use Rattle.std.proofs.lemmas.List.Elements.{All-contains, All-from_recursion, Contains-get_or}
use Rattle.std.proofs.lemmas.Nat.{mod_below}
use Rattle.fj_coeff.specs.Field.{primes}
use Rattle.fj_gen.specs.Generated.{prime_for, session_primes}

all_in_table : All (λ p. Contains primes p) session_primes
unfolding primes session_primes
all_in_table = All-from_recursion (λ p. Contains primes p) session_primes
    ((0, omega arith, refl), ((1, omega arith, refl), ((2, omega arith, refl), ((3, omega arith, refl), ((4, omega arith, refl), ((5, omega arith, refl), tt))))))

pub prime_in_table : (n : ℕ) → Contains primes (prime_for n)
unfolding session_primes
prime_in_table n = All-contains (λ p. Contains primes p) session_primes (prime_for n) all_in_table (Contains-get_or session_primes (n % 6) 0 (mod_below n 6 (omega arith)))
