-- Verdicts on test ideals.
use Rattle.std.proofs.Common.{◌↔◌, Bool, true, false, IsTrue, MatchBool, List, true≢false, refl, sym}
use Rattle.fj_coeff.specs.Field.{Field, IsField}
use Rattle.fj_theory.specs.Exponents.{origin}
use Rattle.fj_theory.specs.Fraction.{Fraction}
use Rattle.fj_theory.specs.Ideal.{Member}
use Rattle.fj_theory.specs.Polynomial.{Polynomial, term}
use Rattle.fj_theory.proofs.Ideal.{Member-Inside}
use Rattle.fj_testideal.specs.TestIdeal.{IsTestIdeal}
use Rattle.fj_testideal.proofs.Jump.{ArePolynomials-IsTestIdeal}
use Rattle.fj_testideal.proofs.TestIdeal.{IsTestIdeal-unique}
use Rattle.fj_session.specs.Limits.{IsRegularAt}

-- A test that is true exactly where P holds.
pub decided : {P : Type 0} (b : Bool) → IsTrue b ↔ P → MatchBool b P (P → ⊥)
decided true h = h.0 refl
decided false h = λ p. true≢false (sym (h.1 p))

-- 1 is in the test ideal exactly where it is in one list that is this ideal.
pub regular_by_unit : {F : Field} {f : Polynomial} {t : Fraction} {T : List Polynomial} → IsField F → IsTestIdeal F f t T → Member F T (term 1 origin) ↔ IsRegularAt F f t
regular_by_unit {F} {f} {t} {T} L is = (
  λ m. record { ideal = T; is_test_ideal = is; unit = m },
  λ r. Member-Inside L (ArePolynomials-IsTestIdeal r.is_test_ideal) (ArePolynomials-IsTestIdeal is) (IsTestIdeal-unique r.is_test_ideal is).forth r.unit,
)
