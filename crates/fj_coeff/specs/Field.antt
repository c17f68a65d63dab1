-- Finite fields on ranks: the elements are numbered from 0, and an element is seen as its number, its rank.
use Rattle.std.specs.Prelude.{◌≡◌, ℕ, zero, suc, ◌<◌, ◌≤◌, ◌==◌, Bool, Contains, List, [], ◌∷◌}
use Rattle.std.specs.List.{list_any}

-- The primes that a coefficient field may have as its characteristic: those up to 31.
unfoldable pub primes : List ℕ
primes = 2 ∷ 3 ∷ 5 ∷ 7 ∷ 11 ∷ 13 ∷ 17 ∷ 19 ∷ 23 ∷ 29 ∷ 31 ∷ []

-- The greatest of them.
abbrev pub greatest_prime : ℕ
greatest_prime = 31

-- Whether a number is one of them, as a test.
unfoldable pub is_prime : ℕ → Bool
is_prime n = list_any (λ p. n == p) primes

-- The operations of a field of `size` elements and of characteristic p. Zero has rank 0 and one has rank 1.
pub record Field : Type 0 where
  pub characteristic : ℕ
  pub size : ℕ
  pub add : ℕ → ℕ → ℕ
  pub neg : ℕ → ℕ
  pub mul : ℕ → ℕ → ℕ
  pub inverse : ℕ → ℕ
  -- the p-th root
  pub root : ℕ → ℕ

-- The k-th power, by repeated product.
unfoldable pub power : Field → ℕ → ℕ → ℕ
power F c zero = 1
power F c (suc k) = F.mul c (power F c k)

-- The sum of k equal elements.
unfoldable pub multiple : Field → ℕ → ℕ → ℕ
multiple F zero c = 0
multiple F (suc k) c = F.add c (multiple F k c)

-- The laws of a field whose characteristic is one of the primes, with a p-th root of each element
-- (Lang 2002, chapters II and V: a finite field is perfect).
pub record IsField (F : Field) : Type 0 where
  pub prime : Contains primes F.characteristic
  pub characteristic_fits : F.characteristic ≤ F.size
  pub add_below : (a b : ℕ) → a < F.size → b < F.size → F.add a b < F.size
  pub neg_below : (a : ℕ) → a < F.size → F.neg a < F.size
  pub mul_below : (a b : ℕ) → a < F.size → b < F.size → F.mul a b < F.size
  pub inverse_below : (a : ℕ) → 0 < a → a < F.size → F.inverse a < F.size
  pub root_below : (a : ℕ) → a < F.size → F.root a < F.size
  pub add_assoc : (a b c : ℕ) → a < F.size → b < F.size → c < F.size → F.add (F.add a b) c ≡ F.add a (F.add b c)
  pub add_comm : (a b : ℕ) → a < F.size → b < F.size → F.add a b ≡ F.add b a
  pub add_zero : (a : ℕ) → a < F.size → F.add a 0 ≡ a
  pub add_neg : (a : ℕ) → a < F.size → F.add a (F.neg a) ≡ 0
  pub mul_assoc : (a b c : ℕ) → a < F.size → b < F.size → c < F.size → F.mul (F.mul a b) c ≡ F.mul a (F.mul b c)
  pub mul_comm : (a b : ℕ) → a < F.size → b < F.size → F.mul a b ≡ F.mul b a
  pub mul_one : (a : ℕ) → a < F.size → F.mul a 1 ≡ a
  pub mul_add : (a b c : ℕ) → a < F.size → b < F.size → c < F.size → F.mul a (F.add b c) ≡ F.add (F.mul a b) (F.mul a c)
  pub mul_inverse : (a : ℕ) → 0 < a → a < F.size → F.mul a (F.inverse a) ≡ 1
  -- the sum of p ones is zero, and that of fewer is their number
  pub multiple_characteristic : multiple F F.characteristic 1 ≡ 0
  pub multiple_one : (k : ℕ) → k < F.characteristic → multiple F k 1 ≡ k
  pub power_root : (a : ℕ) → a < F.size → power F (F.root a) F.characteristic ≡ a
