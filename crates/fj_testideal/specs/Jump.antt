-- F-jumping numbers, and intervals on which the test ideal doesn't change (Blickle, Mustață and Smith 2008, section 2).
use Rattle.std.specs.Prelude.{◌≡◌, ℕ, ◌*◌, ◌^◌, ◌<◌, ◌≤◌, List, [], ◌∷◌}
use Rattle.std.specs.declared.cmp.Ordering.TheVariants.{Less}
use Rattle.fj_coeff.specs.Field.{Field}
use Rattle.fj_theory.specs.Polynomial.{Polynomial, power}
use Rattle.fj_theory.specs.Fraction.{Fraction, compare}
use Rattle.fj_theory.specs.Root.{IsRoot}
use Rattle.fj_testideal.specs.TestIdeal.{IsTestIdeal, IsLeftLimit}

-- t > 0 is an F-jumping number of f: some T is tau(f^t), and T is tau(f^s) for no s below t.
pub record IsJump (F : Field) (f : Polynomial) (t : Fraction) : Type 0 where
  pub above_zero : 0 < t.numerator
  pub ideal : List Polynomial
  pub is_test_ideal : IsTestIdeal F f t ideal
  pub is_new : (s : Fraction) → compare s t ≡ Less → IsTestIdeal F f s ideal → ⊥

-- m/q lies in [s, t).
pub record IsBetween (s t : Fraction) (m q : ℕ) : Type 0 where
  pub from : s.numerator * q ≤ m * s.denominator
  pub below : m * t.denominator < t.numerator * q

-- tau is constant on [s, t): some T is tau(f^s), and it is the root of f^m at e for all e and m with m/p^e in [s, t).
pub record IsConstant (F : Field) (f : Polynomial) (s t : Fraction) : Type 0 where
  pub ideal : List Polynomial
  pub at_start : IsTestIdeal F f s ideal
  pub between : (e m : ℕ) → IsBetween s t m (F.characteristic ^ e) → IsRoot F (F.characteristic ^ e) (power F f m ∷ []) ideal

-- A change on [s, t): a number m/p^e in it at which the test ideal isn't (S).
pub record HoldsChange (F : Field) (f : Polynomial) (s t : Fraction) (S : List Polynomial) : Type 0 where
  pub e : ℕ
  pub m : ℕ
  pub between : IsBetween s t m (F.characteristic ^ e)
  pub differs : IsRoot F (F.characteristic ^ e) (power F f m ∷ []) S → ⊥

-- The test ideal doesn't change at t > 0: one list is tau(f^t) and the left limit at t.
pub record IsUnchangedAt (F : Field) (f : Polynomial) (t : Fraction) : Type 0 where
  pub ideal : List Polynomial
  pub is_test_ideal : IsTestIdeal F f t ideal
  pub is_left_limit : IsLeftLimit F f t ideal
