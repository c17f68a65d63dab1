-- Characteristic p, and Frobenius powers of ideals.
use Rattle.std.specs.Prelude.{◌≡◌, ℕ, List, [], ◌∷◌, map, Contains}
use Rattle.fj_algebra.specs.Ring.{CommutativeRing, RingMap}
use Rattle.fj_algebra.specs.Power.{power, multiple}

-- The sum of p ones is zero: for a prime p the characteristic is p, but for the ring with one element.
pub record HasCharacteristic {A : Type 0} (R : CommutativeRing A) (p : ℕ) : Type 0 where
  pub vanishes : multiple R p R.one ≡ R.zero

-- The primes up to 31.
abbrev pub table_primes : List ℕ
table_primes = 2 ∷ 3 ∷ 5 ∷ 7 ∷ 11 ∷ 13 ∷ 17 ∷ 19 ∷ 23 ∷ 29 ∷ 31 ∷ []

-- p is one of these primes.
pub record IsTablePrime (p : ℕ) : Type 0 where
  pub listed : Contains table_primes p

-- Taking q-th powers is a ring map, as in characteristic p for each power q of p.
pub record IsFrobenius {A : Type 0} (R : CommutativeRing A) (q : ℕ) : Type 0 where
  pub ring_map : RingMap R R (λ x. power R x q)

-- The Frobenius power of an ideal: the list of the q-th powers of its generators (Hochster and Huneke 1990).
abbrev pub frobenius_power : {A : Type 0} → CommutativeRing A → ℕ → List A → List A
frobenius_power R q L = map (λ g. power R g q) L
