-- The test of a prime: it is true exactly at the primes of the table.
use Rattle.std.specs.Prelude.{◌≡◌, ◌↔◌, ℕ, Bool, true, false, nat_eq, Contains, IsTrue, refl}
use Rattle.std.specs.Cmp.{nat_eq_equiv}
use Rattle.std.proofs.Common.{sym}
use Rattle.std.proofs.lemmas.Bool.{eqb-true}
use Rattle.std.proofs.lemmas.Map.Views.{list_any-from_Contains, Contains-from_any}
use Rattle.fj_coeff.specs.Field.{is_prime, primes}

pub prime_tested : (p : ℕ) → Contains primes p → is_prime p ≡ true
unfolding is_prime
prime_tested p prime = list_any-from_Contains nat_eq_equiv p primes prime

pub prime_listed : (p : ℕ) → is_prime p ≡ true → Contains primes p
unfolding is_prime
prime_listed p tested = Contains-from_any {eq = nat_eq} (λ x y k. eqb-true x y k) p primes tested

same_as_found : (b c : Bool) → (b ≡ true → c ≡ true) → (c ≡ true → b ≡ true) → b ≡ c
same_as_found true true f g = refl
same_as_found true false f g = sym (f refl)
same_as_found false true f g = g refl
same_as_found false false f g = refl

-- Whatever is true exactly at the primes is the test.
pub test_of_decided : (b : Bool) (p : ℕ) → (IsTrue b ↔ Contains primes p) → b ≡ is_prime p
test_of_decided b p h = same_as_found b (is_prime p) (λ e. prime_tested p (h.0 e)) (λ e. h.1 (prime_listed p e))
