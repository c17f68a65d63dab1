-- Laws of F-jumping numbers and of constancy, which the law functions prove (Blickle, Mustață and Smith 2008, section 2).
use Rattle.std.specs.Prelude.{◌≡◌, ◌↔◌, ℕ, ◌<◌, List, Some}
use Rattle.std.specs.declared.cmp.Ordering.TheVariants.{Less}
use Rattle.fj_coeff.specs.Field.{Field, IsField}
use Rattle.fj_theory.specs.Polynomial.{Polynomial, IsPolynomial, degree}
use Rattle.fj_theory.specs.Ideal.{SameIdeal}
use Rattle.fj_theory.specs.Fraction.{IsAtMost, Fraction, compare}
use Rattle.fj_testideal.specs.TestIdeal.{IsTestIdeal, IsLeftLimit}
use Rattle.fj_testideal.specs.Jump.{IsJump, IsConstant, HoldsChange}

-- t > 0 is an F-jumping number exactly where the test ideal and the left limit at t differ.
abbrev pub JumpsAreDifferences : Type 0
JumpsAreDifferences =
    (F : Field) → IsField F → (f : Polynomial) → IsPolynomial F f → (t : Fraction) → 0 < t.numerator
    → (S T : List Polynomial) → IsLeftLimit F f t S → IsTestIdeal F f t T → IsJump F f t ↔ (SameIdeal F S T → ⊥)

-- 1 is an F-jumping number of each polynomial that isn't constant.
abbrev pub OneIsJump : Type 0
OneIsJump =
    (F : Field) → IsField F → (f : Polynomial) → IsPolynomial F f → (n : ℕ) → degree f ≡ Some n → 0 < n
    → (t : Fraction) → t.numerator ≡ t.denominator → IsJump F f t

-- For s below t, tau is constant on [s, t) exactly where one list is both tau(f^s) and the left limit at t.
pub record IsDecidedByEnds (F : Field) (f : Polynomial) (s t : Fraction) : Type 0 where
  pub one_list : IsConstant F f s t ↔ ((T : List Polynomial) × IsTestIdeal F f s T × IsLeftLimit F f t T)
  pub two_lists : (S T : List Polynomial) → IsTestIdeal F f s S → IsLeftLimit F f t T → IsConstant F f s t ↔ SameIdeal F S T

abbrev pub ConstancyByEnds : Type 0
ConstancyByEnds = (F : Field) → IsField F → (f : Polynomial) → IsPolynomial F f → (s t : Fraction) → compare s t ≡ Less → IsDecidedByEnds F f s t

-- Where tau isn't constant on [s, t), for s below t, there is a number m/p^e in [s, t) at which it isn't tau(f^s).
abbrev pub OpenGapsHoldChanges : Type 0
OpenGapsHoldChanges =
    (F : Field) → IsField F → (f : Polynomial) → IsPolynomial F f → (s t : Fraction) → compare s t ≡ Less
    → (S T : List Polynomial) → IsTestIdeal F f s S → IsLeftLimit F f t T → (IsConstant F f s t → ⊥) → HoldsChange F f s t S

-- On an interval [s, t) on which tau is constant, its one ideal is the test ideal at each r with s <= r < t and the left
-- limit at each r with s < r <= t, tau is constant on each [r, u) in it, and no r with s < r < t is an F-jumping number.
pub record IsConstantInside (F : Field) (f : Polynomial) (s t : Fraction) (T : List Polynomial) : Type 0 where
  pub test_ideal : (r : Fraction) → IsAtMost s r → compare r t ≡ Less → IsTestIdeal F f r T
  pub left_limit : (r : Fraction) → compare s r ≡ Less → IsAtMost r t → IsLeftLimit F f r T
  pub smaller : (r u : Fraction) → IsAtMost s r → compare r u ≡ Less → IsAtMost u t → IsConstant F f r u
  pub no_jump : (r : Fraction) → compare s r ≡ Less → compare r t ≡ Less → IsJump F f r → ⊥

abbrev pub ConstancyGoesInside : Type 0
ConstancyGoesInside =
    (F : Field) → IsField F → (f : Polynomial) → IsPolynomial F f → (s t : Fraction) → compare s t ≡ Less
    → (constant : IsConstant F f s t) → IsConstantInside F f s t constant.ideal

-- tau is constant on some [t, u), u above t, where f isn't zero.
pub record IsConstantAfter (F : Field) (f : Polynomial) (t : Fraction) : Type 0 where
  pub end : Fraction
  pub is_above : compare t end ≡ Less
  pub constant : IsConstant F f t end

abbrev pub TestIdealsStayAbove : Type 0
TestIdealsStayAbove =
    (F : Field) → IsField F → (f : Polynomial) → IsPolynomial F f → (n : ℕ) → degree f ≡ Some n
    → (t : Fraction) (T : List Polynomial) → IsTestIdeal F f t T → IsConstantAfter F f t
