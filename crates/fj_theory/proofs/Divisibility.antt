-- Common divisors: Gauss's lemma, fractions in lowest terms, and numbers prime to a power.
use Rattle.std.proofs.Common.{◌≡◌, ℕ, zero, suc, ◌+◌, ◌-◌, ◌*◌, ◌/◌, ◌%◌, ◌^◌, ◌<◌, ◌≤◌, refl, sym, ap, ◌∙◌, subst, arith, mul_comm, inl, inr, ◌⊎◌, if◌then◌else◌, ◌==◌, Bool, true, eqb, eq-eqb}
use Rattle.std.specs.Int.{IsGcd, ◌∣◌}
use Rattle.std.proofs.lemmas.Nat.Gcd.{dvd_refl, le_of_dvd, mod-eq-zero_of_dvd, dvd_antisymm, IsGcd-from_zero, IsGcd-from_mod, IsGcd-swap, same_from_IsGcd}
use Rattle.std.proofs.lemmas.Nat.{mod_below, mod-mul-add, pow-add}
use Rattle.std.proofs.lemmas.Bool.{agree_below, agree_below_at, and_parts, or_cases, ltb-true, cases_lt, cases_order}
use Rattle.std.proofs.lemmas.List.Elements.{All-contains}
use Rattle.std.proofs.lemmas.List.Sums.{AllPass-from_list_all}
use Rattle.std.proofs.Math.Dec.{ltb}
use Rattle.fj_coeff.specs.Field.{primes}
use Rattle.std.specs.Prelude.{Contains, ◌&&◌, ◌||◌, not}
use Rattle.std.proofs.lemmas.Bool.Decides.{nat_tests}
use Rattle.std.proofs.Math.Nat.{pos_of_dvd_of_pos, dvd-mul_left, dvd-mul_right, dvd-mod_iff, div-add-mod, mul-le-mul_left, one-dvd, dvd_of_mul-dvd-mul_left, mul-dvd-mul_left, eq_of_mul-eq-mul_left, mul-div_cancel', pow-zero, pow-suc, one-le-pow, dvd-sub, mul-add-mod_self_left}

scaled_remainder : (k a b : ℕ) → 0 < b → (k * a) % (k * b) ≡ k * (a % b)
scaled_remainder zero a b positive = omega arith
scaled_remainder (suc k) a b positive =
    let less : suc (a % b) ≤ b = mod_below a b positive in
    let below : suc k * suc (a % b) ≤ suc k * b = mul-le-mul_left (suc k) less in
    let whole : suc k * a ≡ (a / b) * (suc k * b) + suc k * (a % b) = omega (arith, ap (λ n. suc k * n) (div-add-mod a b)) in
    ap (λ n. n % (suc k * b)) whole ∙ mod-mul-add (a / b) (suc k * b) (suc k * (a % b)) (omega arith)

-- Euclid's step back.
IsGcd-mod : (a b g : ℕ) → IsGcd a b g → IsGcd b (a % b) g
IsGcd-mod a b g h = (h.1, (dvd-mod_iff g h.1).1 h.0, λ d p q. h.2 d ((dvd-mod_iff d p).0 q) p)

IsGcd-scaled_below : (fuel k a b g : ℕ) → b < fuel → IsGcd a b g → IsGcd (k * a) (k * b) (k * g)
IsGcd-scaled_below zero k a b g h gcd = absurd (omega arith)
IsGcd-scaled_below (suc fuel) k a zero g h gcd =
    let same : g ≡ a = same_from_IsGcd a 0 g a gcd (IsGcd-from_zero a 0 refl) in
    subst (λ n. IsGcd (k * a) (k * 0) (k * n)) (sym same) (IsGcd-from_zero (k * a) (k * 0) (omega arith))
IsGcd-scaled_below (suc fuel) k a (suc b) g h gcd =
    let less : a % suc b < suc b = mod_below a (suc b) (omega arith) in
    let step : IsGcd (k * suc b) (k * (a % suc b)) (k * g) = IsGcd-scaled_below fuel k (suc b) (a % suc b) g (omega arith) (IsGcd-mod a (suc b) g gcd) in
    IsGcd-from_mod (k * a) (k * suc b) (k * g) (rw (scaled_remainder k a (suc b) (omega arith)) step)

-- A common factor of two numbers is a factor of their greatest common divisor.
pub IsGcd-scaled : (k a b g : ℕ) → IsGcd a b g → IsGcd (k * a) (k * b) (k * g)
IsGcd-scaled k a b g = IsGcd-scaled_below (suc b) k a b g (omega arith)

-- Gauss's lemma.
pub dvd_of_prime_to : (a b c : ℕ) → IsGcd a b 1 → a ∣ b * c → a ∣ c
dvd_of_prime_to a b c gcd divides =
    let scaled : IsGcd (c * a) (c * b) (c * 1) = IsGcd-scaled c a b 1 gcd in
    let one : c * 1 ≡ c = omega arith in
    subst (λ n. a ∣ n) one (scaled.2 a (dvd-mul_left a c) (subst (λ n. a ∣ n) (mul_comm b c) divides))

-- What is left of two numbers after division by their greatest common divisor has no common divisor.
pub IsGcd-divided : (g a b : ℕ) → 0 < g → IsGcd (g * a) (g * b) g → IsGcd a b 1
IsGcd-divided g a b positive gcd =
    let one : g ≡ g * 1 = omega arith in
    (one-dvd a, one-dvd b, λ d p q. dvd_of_mul-dvd-mul_left d positive (subst (λ n. g * d ∣ n) one (gcd.2 (g * d) (mul-dvd-mul_left d g p) (mul-dvd-mul_left d g q))))

-- Two fractions in lowest terms of one value are the same.
pub lowest_unique : (a b c d : ℕ) → 0 < b → IsGcd a b 1 → IsGcd c d 1 → a * d ≡ c * b → (a ≡ c) × (b ≡ d)
lowest_unique a b c d positive first second value =
    let left : b ∣ d = dvd_of_prime_to b a d (IsGcd-swap a b 1 first) (subst (λ n. b ∣ n) (sym value) (dvd-mul_left b c)) in
    let right : d ∣ b = dvd_of_prime_to d c b (IsGcd-swap c d 1 second) (subst (λ n. d ∣ n) value (dvd-mul_left d a)) in
    let same : b ≡ d = dvd_antisymm left right in
    let products : b * a ≡ b * c = mul_comm b a ∙ ap (λ n. a * n) same ∙ value ∙ mul_comm c b in
    (eq_of_mul-eq-mul_left b positive a c products, same)

-- A number prime to p is prime to the powers of p.
pub dvd_of_prime_to_power : (n p k c : ℕ) → IsGcd p n 1 → n ∣ p ^ k * c → n ∣ c
dvd_of_prime_to_power n p zero c gcd divides = let e : p ^ 0 * c ≡ c = rw (pow-zero p) (omega arith) in subst (λ m. n ∣ m) e divides
dvd_of_prime_to_power n p (suc k) c gcd divides =
    let e : p ^ suc k * c ≡ p * (p ^ k * c) = rw (pow-suc p k) (omega arith) in
    dvd_of_prime_to_power n p k c gcd (dvd_of_prime_to n p (p ^ k * c) (IsGcd-swap p n 1 gcd) (subst (λ m. n ∣ m) e divides))

-- Two numbers of one remainder differ by a multiple.
pub dvd_of_same_remainder : (n x y : ℕ) → (x + y) % n ≡ y % n → n ∣ x
dvd_of_same_remainder n x y e =
    let difference : n * ((x + y) / n) - n * (y / n) ≡ x = omega (arith, div-add-mod (x + y) n, div-add-mod y n) in
    subst (λ m. n ∣ m) difference (dvd-sub n (dvd-mul_right n ((x + y) / n)) (dvd-mul_right n (y / n)))

-- A product with one less.
pub less_one : (x y : ℕ) → 0 < y → x * (y - 1) + x ≡ x * y
less_one x zero some = absurd (omega arith)
less_one x (suc y) some = let e : suc y - 1 ≡ y = omega arith in rw e (omega arith)

-- Equal remainders of two powers give a power of remainder 1.
one_of_same_remainder : (p n i k : ℕ) → 0 < p → IsGcd p n 1 → p ^ i % n ≡ p ^ (i + k) % n → p ^ k % n ≡ 1 % n
one_of_same_remainder p n i k positive gcd e =
    let some : 0 < p ^ k = one-le-pow k p positive in
    let whole : p ^ i * (p ^ k - 1) + p ^ i ≡ p ^ (i + k) = less_one (p ^ i) (p ^ k) some ∙ sym (pow-add p i k) in
    let divides : n ∣ p ^ k - 1 = dvd_of_prime_to_power n p i (p ^ k - 1) gcd (dvd_of_same_remainder n (p ^ i * (p ^ k - 1)) (p ^ i) (ap (λ m. m % n) whole ∙ sym e)) in
    let split : p ^ k ≡ n * ((p ^ k - 1) / n) + 1 = omega (arith, mul-div_cancel' n divides) in
    ap (λ m. m % n) split ∙ mul-add-mod_self_left n ((p ^ k - 1) / n) 1

-- The value of f at i, or that at `last` where f has the value m.
without : (ℕ → ℕ) → ℕ → ℕ → ℕ → ℕ
without f m last i = if f i == m then f last else f i

record IsOneToOne (f : ℕ → ℕ) (n m : ℕ) : Type 0 where
  below : (i : ℕ) → i < n → f i < m
  same : (i j : ℕ) → i < n → j < n → f i ≡ f j → i ≡ j

IsOneToOne-without : (f : ℕ → ℕ) (n m : ℕ) → IsOneToOne f (suc n) (suc m) → IsOneToOne (without f m n) n m
unfolding without
IsOneToOne-without f n m h = record {
  below = λ i l. let a = h.below i (omega arith) in let b = h.below n (omega arith) in let c = h.same i n (omega arith) (omega arith) in grind (arith, nat_tests);
  same = λ i j l k e. let a = h.same i j (omega arith) (omega arith) in let b = h.same i n (omega arith) (omega arith) in let c = h.same j n (omega arith) (omega arith) in grind (arith, nat_tests);
}

-- The pigeonhole principle.
pigeonhole : (f : ℕ → ℕ) (n m : ℕ) → IsOneToOne f n m → n ≤ m
pigeonhole f zero m h = omega arith
pigeonhole f (suc n) zero h = absurd (omega (arith, h.below n (omega arith)))
pigeonhole f (suc n) (suc m) h = omega (arith, pigeonhole (without f m n) n m (IsOneToOne-without f n m h))

-- Not all of the first n powers of p have a remainder other than 1: the n + 1 powers from the 0th on have fewer remainders.
pub order_exists : (p n : ℕ) → 0 < p → 0 < n → IsGcd p n 1 → ((k : ℕ) → 0 < k → k ≤ n → p ^ k % n ≡ 1 % n → ⊥) → ⊥
order_exists p n positive some gcd none =
    let apart : (i j : ℕ) → i < j → j < n + 1 → p ^ i % n ≡ p ^ j % n → ⊥ = λ i j less below e.
    let later : i + (j - i) ≡ j = omega arith in
    none (j - i) (omega arith) (omega arith) (one_of_same_remainder p n i (j - i) positive gcd (subst (λ m. p ^ i % n ≡ p ^ m % n) (sym later) e))
    in
    let one : (i j : ℕ) → i < n + 1 → j < n + 1 → p ^ i % n ≡ p ^ j % n → i ≡ j = λ i j below_i below_j e.
    elim (cases_order i j) [
      | inl same ↦ same
      | inr (inl less) ↦ absurd (apart i j less below_j e)
      | inr (inr less) ↦ absurd (apart j i less below_i (sym e))
    ]
    in
    let few : n + 1 ≤ n = pigeonhole (λ k. p ^ k % n) (n + 1) n (record { below = λ k below. mod_below (p ^ k) n some; same = one }) in
    omega arith

-- what is computed for each prime: no number from 2 on below it divides it
has_no_divisor : ℕ → Bool
has_no_divisor p = ltb 1 p && agree_below (λ d. ltb d 2 || not (eqb (p % d) 0)) (λ _. true) p

primes_have_none : (p : ℕ) → Contains primes p → has_no_divisor p ≡ true
unfolding has_no_divisor primes
primes_have_none p prime = All-contains (λ q. has_no_divisor q ≡ true) primes p (AllPass-from_list_all has_no_divisor primes refl) prime

small_or_no_divisor : (p d : ℕ) → (ltb d 2 ≡ true) ⊎ (not (eqb (p % d) 0) ≡ true) → p % d ≡ 0 → d < 2
small_or_no_divisor p d (inl small) e = ltb-true d 2 small
small_or_no_divisor p d (inr none) e = let zero : eqb (p % d) 0 ≡ true = eq-eqb (p % d) 0 e in cc

-- A prime that doesn't divide a number is prime to it.
pub prime_to_from_remainder : (p n : ℕ) → Contains primes p → 0 < n % p → IsGcd p n 1
unfolding has_no_divisor
prime_to_from_remainder p n prime remainder =
    let known : (ltb 1 p ≡ true) × (agree_below (λ d. ltb d 2 || not (eqb (p % d) 0)) (λ _. true) p ≡ true) = and_parts _ _ (primes_have_none p prime) in
    let large : 1 < p = ltb-true 1 p known.0 in (
      one-dvd p,
      one-dvd n,
      λ d first second.
          let at_most : d ≤ p = le_of_dvd (omega arith) first in
          let some : 0 < d = pos_of_dvd_of_pos first (omega arith) in
          elim (cases_lt d p) [
            | inl below ↦
                let small : d < 2 = small_or_no_divisor p d (or_cases _ _ (agree_below_at (λ d. ltb d 2 || not (eqb (p % d) 0)) (λ _. true) p d known.1 below)) (mod-eq-zero_of_dvd d first) in
                let one : 1 ≡ d = omega arith in
                subst (λ k. k ∣ 1) one (dvd_refl 1)
            | inr whole ↦
                let same : d ≡ p = omega arith in
                absurd (omega (arith, mod-eq-zero_of_dvd p (subst (λ k. k ∣ n) same second)))
          ],
    )
