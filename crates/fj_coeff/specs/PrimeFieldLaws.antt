-- GF(p) is a field, for each prime of the table: the ring's laws by arithmetic modulo p, and the inverses and the p-th
-- powers by computing them all.
use Rattle.std.specs.Prelude.{◌≡◌, ℕ, zero, suc, ◌+◌, ◌-◌, ◌*◌, ◌%◌, ◌^◌, ◌<◌, ◌≤◌, Bool, true, false, ◌&&◌, ◌||◌, Contains, refl}
use Rattle.std.proofs.Common.{lit<, add-one, sym, ap, ◌∙◌, subst, arith, eqb, inl, inr, ◌⊎◌}
use Rattle.std.proofs.lemmas.Bool.{agree_below, agree_below_at, and_parts, or_cases, eqb-true}
use Rattle.std.proofs.Math.Dec.{ltb}
use Rattle.std.proofs.lemmas.Bool.{ltb-true}
use Rattle.std.proofs.lemmas.List.Elements.{All-contains}
use Rattle.std.proofs.lemmas.List.Sums.{AllPass-from_list_all}
use Rattle.std.proofs.lemmas.Nat.{mul-le, mod_below, mul-mod_first, mul-mod_second}
use Rattle.std.proofs.Math.Nat.{mod-add-mod, add-mod-mod, mod-eq_of_lt, mod_self, pow-suc, pow-le-pow_left, pow-le-pow_right}
use mathlib.Core.HLevel.{Σ_prop_path}
use denote.Struct.Props.{props}
use Rattle.fj_coeff.specs.Field.{Field, IsField, power, multiple, primes, greatest_prime, is_prime}
use Rattle.fj_coeff.specs.PrimeField.{prime_field}

-- what is computed at each number below p
inverts : ℕ → ℕ → Bool
inverts p a = (eqb a 0 || eqb (a * (a ^ (p - 2) % p) % p) 1) && eqb (power (prime_field p) a p) a

-- what is computed for each prime
passes : ℕ → Bool
passes p = ltb 1 p && (eqb (multiple (prime_field p) p 1) 0 && agree_below (inverts p) (λ _. true) p)

primes_pass : (p : ℕ) → Contains primes p → passes p ≡ true
unfolding passes inverts primes power multiple
primes_pass p prime = All-contains (λ q. passes q ≡ true) primes p (AllPass-from_list_all passes primes refl) prime

record IsComputed (p : ℕ) : Type 0 where
  large : 1 < p
  ones : multiple (prime_field p) p 1 ≡ 0
  inverses : (a : ℕ) → 0 < a → a < p → a * (a ^ (p - 2) % p) % p ≡ 1
  powers : (a : ℕ) → a < p → power (prime_field p) a p ≡ a

inverse_at : (a x : ℕ) → 0 < a → (eqb a 0 ≡ true) ⊎ (eqb x 1 ≡ true) → x ≡ 1
inverse_at a x positive (inl e) = let z : a ≡ 0 = eqb-true a 0 e in absurd (omega arith)
inverse_at a x positive (inr e) = eqb-true x 1 e

computed : (p : ℕ) → passes p ≡ true → IsComputed p
unfolding passes inverts
computed p passed =
    let parts : (ltb 1 p ≡ true) × ((eqb (multiple (prime_field p) p 1) 0 && agree_below (inverts p) (λ _. true) p) ≡ true) = and_parts _ _ passed in
    let more : (eqb (multiple (prime_field p) p 1) 0 ≡ true) × (agree_below (inverts p) (λ _. true) p ≡ true) = and_parts _ _ parts.1 in
    let each : (a : ℕ) → a < p → inverts p a ≡ true = λ a below. agree_below_at (inverts p) (λ _. true) p a more.1 below in
    record {
      large = ltb-true 1 p parts.0;
      ones = eqb-true _ _ more.0;
      inverses = λ a positive below. inverse_at a _ positive (or_cases _ _ (and_parts _ _ (each a below)).0);
      powers = λ a below. eqb-true _ _ (and_parts _ _ (each a below)).1;
    }

multiple_of_one : (p k : ℕ) → k < p → multiple (prime_field p) k 1 ≡ k
unfolding multiple
multiple_of_one p zero below = refl
multiple_of_one p (suc k) below =
    let before : multiple (prime_field p) k 1 ≡ k = multiple_of_one p k (omega arith) in
    rw before (mod-eq_of_lt (omega arith) ∙ omega arith)

add_neg : (p a : ℕ) → 0 < p → a < p → (a + (p - a) % p) % p ≡ 0
add_neg p a positive below = add-mod-mod a (p - a) p ∙ (let e : a + (p - a) ≡ p = omega arith in ap (λ n. n % p) e ∙ mod_self p)

-- GF(p) is a field.
pub IsField-prime_field : (p : ℕ) → Contains primes p → IsField (prime_field p)
IsField-prime_field p prime =
    let known : IsComputed p = computed p (primes_pass p prime) in
    let positive : 0 < p = omega (arith, known.large) in
    record {
      prime = prime;
      characteristic_fits = omega arith;
      add_below = λ a b ha hb. mod_below (a + b) p positive;
      neg_below = λ a ha. mod_below (p - a) p positive;
      mul_below = λ a b ha hb. mod_below (a * b) p positive;
      inverse_below = λ a _ ha. mod_below (a ^ (p - 2)) p positive;
      root_below = λ a ha. ha;
      add_assoc = λ a b c _ _ _. mod-add-mod (a + b) p c ∙ ap (λ n. n % p) (omega arith) ∙ sym (add-mod-mod a (b + c) p);
      add_comm = λ a b _ _. ap (λ n. n % p) (omega arith);
      add_zero = λ a ha. mod-eq_of_lt (omega arith) ∙ omega arith;
      add_neg = λ a ha. add_neg p a positive ha;
      mul_assoc = λ a b c _ _ _. mul-mod_first (a * b) c p ∙ ap (λ n. n % p) (omega arith) ∙ sym (mul-mod_second a (b * c) p);
      mul_comm = λ a b _ _. ap (λ n. n % p) (omega arith);
      mul_one = λ a ha. mod-eq_of_lt (omega arith) ∙ omega arith;
      mul_add = λ a b c _ _ _. mul-mod_second a (b + c) p ∙ ap (λ n. n % p) (omega arith) ∙ sym (mod-add-mod (a * b) p (a * c % p) ∙ add-mod-mod (a * b) (a * c) p);
      mul_inverse = known.inverses;
      multiple_characteristic = known.ones;
      multiple_one = multiple_of_one p;
      power_root = known.powers;
    }

-- The primes are above 1, and at most the greatest.
pub prime_bounds : (p : ℕ) → Contains primes p → (1 < p) × (p ≤ greatest_prime)
unfolding primes
prime_bounds p prime =
    let below : ltb p (suc greatest_prime) ≡ true = All-contains (λ q. ltb q (suc greatest_prime) ≡ true) primes p (AllPass-from_list_all (λ q. ltb q (suc greatest_prime)) primes refl) prime in
    let small : p < suc greatest_prime = ltb-true p (suc greatest_prime) below in
    ((computed p (primes_pass p prime)).large, omega arith)

-- A sum and a product of two numbers below a prime fit a machine word.
pub prime_sum_fits : (p a b : ℕ) → Contains primes p → a < p → b < p → a + b < 2 ^ 64
prime_sum_fits p a b prime ha hb = omega (arith, (prime_bounds p prime).1)

pub prime_product_fits : (p a b : ℕ) → Contains primes p → a < p → b < p → a * b < 2 ^ 64
prime_product_fits p a b prime ha hb =
    let small : p ≤ greatest_prime = (prime_bounds p prime).1 in
    let product : a * b ≤ greatest_prime * greatest_prime = mul-le a b greatest_prime greatest_prime (omega arith) (omega arith) in
    omega arith

-- The powers of a prime up to the twelfth fit a machine word.
pub prime_power_fits : (p e : ℕ) → Contains primes p → e ≤ 12 → p ^ e < 2 ^ 64
prime_power_fits p e prime small =
    let bounds = prime_bounds p prime in
    let lower : p ^ e ≤ p ^ 12 = pow-le-pow_right (omega (arith, bounds.0)) small in
    let greatest : p ^ 12 ≤ greatest_prime ^ 12 = pow-le-pow_left bounds.1 12 in
    let fits : greatest_prime ^ 12 < 2 ^ 64 = lit< tt in
    omega arith

-- One more factor of a power modulo p.
pub pow-mod-more : (p a k n : ℕ) → k ≡ a ^ n % p → k * a % p ≡ a ^ (n + 1) % p
pow-mod-more p a k n e = rw e (mul-mod_first (a ^ n) a p ∙ ap (λ m. m % p) (sym (rw add-one (pow-suc a n))))

-- A number below p with its bound is determined by the number.
pub same_below : (p a b : ℕ) (ha : a < p) (hb : b < p) → a ≡ b → ◌≡◌ {A = (n : ℕ) × (n < p)} (a, ha) (b, hb)
same_below p a b ha hb e = Σ_prop_path (λ n. hlevel props) e

pub prime_2 : Contains primes 2
unfolding primes
prime_2 = (0, lit< tt, refl)

pub prime_3 : Contains primes 3
unfolding primes
prime_3 = (1, lit< tt, refl)

pub prime_5 : Contains primes 5
unfolding primes
prime_5 = (2, lit< tt, refl)

pub prime_7 : Contains primes 7
unfolding primes
prime_7 = (3, lit< tt, refl)

pub prime_11 : Contains primes 11
unfolding primes
prime_11 = (4, lit< tt, refl)

pub prime_13 : Contains primes 13
unfolding primes
prime_13 = (5, lit< tt, refl)

pub prime_17 : Contains primes 17
unfolding primes
prime_17 = (6, lit< tt, refl)

pub prime_19 : Contains primes 19
unfolding primes
prime_19 = (7, lit< tt, refl)

pub prime_23 : Contains primes 23
unfolding primes
prime_23 = (8, lit< tt, refl)

pub prime_29 : Contains primes 29
unfolding primes
prime_29 = (9, lit< tt, refl)

pub prime_31 : Contains primes 31
unfolding primes
prime_31 = (10, lit< tt, refl)
