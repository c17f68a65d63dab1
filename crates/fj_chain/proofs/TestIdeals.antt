-- The last list of a limit generates the test ideal, and the left limit.
use Rattle.std.proofs.Common.{◌≡◌, ◌↔◌, Bool, true, false, true≢false, not, IsTrue, refl, ℕ, zero, suc, ◌+◌, ◌*◌, ◌<◌, List, sym, ap, subst, arith}
use Rattle.fj_coeff.specs.Field.{Field, IsField}
use Rattle.fj_theory.specs.Exponents.{origin}
use Rattle.fj_theory.specs.Fraction.{Fraction, SameValue, plus_whole}
use Rattle.fj_theory.specs.Ideal.{ArePolynomials}
use Rattle.fj_theory.specs.MonomialOrder.{IsMonomialOrder, grevlex_key}
use Rattle.fj_theory.specs.Polynomial.{Polynomial, IsPolynomial, term}
use Rattle.fj_theory.proofs.Ideal.{ArePolynomials-multiples, SameIdeal-multiples}
use Rattle.fj_theory.proofs.IdealBridge.{ArePolynomials-single, IsPolynomial-one}
use Rattle.fj_theory.proofs.Keys.{grevlex_key-IsMonomialOrder}
use Rattle.fj_theory.proofs.PolynomialRing.{IsPolynomial-power}
use Rattle.fj_groebner.proofs.ReducedBasis.{IsReducedBasis_polynomials, IsReducedBasis-SameIdeal}
use Rattle.fj_testideal.specs.TestIdeal.{IsLeftLimit, IsTestIdeal}
use Rattle.fj_testideal.proofs.ChainLimit.{left_limit-from_digits, test_ideal-from_digits}
use Rattle.fj_testideal.proofs.TestIdeal.{IsLeftLimit-SameIdeal, IsLeftLimit-SameValue, IsTestIdeal-SameIdeal, IsTestIdeal-SameValue, left_limit-plus_whole, test_ideal-plus_whole}
use Rattle.fj_chain.specs.Lists.{IsLastLimitList, IsWholeMultiple}
use Rattle.fj_chain.proofs.Chains.{ArePolynomials-end, ArePolynomials-LeadTo, LeadTo-FollowsDigits, chain_limit}

-- Adding zero doesn't change the value.
same_plus_zero : (s : Fraction) → SameValue s (plus_whole s 0)
same_plus_zero s = let e : s.numerator ≡ s.numerator + 0 * s.denominator = omega arith in ap (λ n. n * s.denominator) e

module _ {F : Field} (L : IsField F) {f : Polynomial} (A : IsPolynomial F f) where
  abbrev grevlex : IsMonomialOrder grevlex_key
  grevlex = grevlex_key-IsMonomialOrder

  whole_test : (s : Fraction) (k : ℕ) (N M : List Polynomial) → ArePolynomials F N → IsTestIdeal F f s N → IsWholeMultiple F k f N M → IsTestIdeal F f (plus_whole s k) M
  whole_test s zero N M Q I e = subst (IsTestIdeal F f (plus_whole s 0)) (sym e) (IsTestIdeal-SameValue s (plus_whole s 0) (same_plus_zero s) I)
  whole_test s (suc k) N M Q I basis =
      let H = IsPolynomial-power L A (suc k) in
      let R = IsReducedBasis_polynomials grevlex L Q basis.reduced in
      subst (IsTestIdeal F f (plus_whole s (suc k))) (sym basis.holds.is)
      (IsTestIdeal-SameIdeal L A (plus_whole s (suc k)) (test_ideal-plus_whole L A s (suc k) I) (ArePolynomials-multiples L H R)
      (SameIdeal-multiples L H Q R (IsReducedBasis-SameIdeal grevlex L Q basis.reduced)))

  whole_left : (s : Fraction) (k : ℕ) (N M : List Polynomial) → 0 < s.numerator → ArePolynomials F N → IsLeftLimit F f s N → IsWholeMultiple F k f N M → IsLeftLimit F f (plus_whole s k) M
  whole_left s zero N M above Q I e = subst (IsLeftLimit F f (plus_whole s 0)) (sym e) (IsLeftLimit-SameValue s (plus_whole s 0) (same_plus_zero s) I)
  whole_left s (suc k) N M above Q I basis =
      let H = IsPolynomial-power L A (suc k) in
      let R = IsReducedBasis_polynomials grevlex L Q basis.reduced in
      subst (IsLeftLimit F f (plus_whole s (suc k))) (sym basis.holds.is)
      (IsLeftLimit-SameIdeal L A (plus_whole s (suc k)) (left_limit-plus_whole L A s (suc k) above I) (ArePolynomials-multiples L H R)
      (SameIdeal-multiples L H Q R (IsReducedBasis-SameIdeal grevlex L Q basis.reduced)))

  pub test_from_last : (t : Fraction) (M : List Polynomial) → IsLastLimitList F f t f M → IsTestIdeal F f t M
  test_from_last t M last =
      let w = last.written in
      let d = last.digits in
      let P = ArePolynomials-single A in
      let Q = ArePolynomials-end L A d.period P last.leads.ends in
      let I = test_ideal-from_digits L A w.rest w.unit d w.expansion (chain_limit L A d.period P last.leads.ends) (LeadTo-FollowsDigits L A d.pre last.reached Q last.leads.pre) in
      subst (λ s. IsTestIdeal F f s M) (sym w.sum) (whole_test w.rest last.whole last.reached M (ArePolynomials-LeadTo L A d.pre last.reached Q last.leads.pre) I last.last)

  pub left_from_last : (t : Fraction) (M : List Polynomial) → IsLastLimitList F f t (term 1 origin) M → IsLeftLimit F f t M
  left_from_last t M last =
      let w = last.written in
      let d = last.digits in
      let P = ArePolynomials-single (IsPolynomial-one L) in
      let Q = ArePolynomials-end L A d.period P last.leads.ends in
      let I = left_limit-from_digits L A w.rest w.unit d w.expansion (chain_limit L A d.period P last.leads.ends) (LeadTo-FollowsDigits L A d.pre last.reached Q last.leads.pre) in
      subst (λ s. IsLeftLimit F f s M) (sym w.sum) (whole_left w.rest last.whole last.reached M w.unit.above_zero (ArePolynomials-LeadTo L A d.pre last.reached Q last.leads.pre) I last.last)

-- What is so exactly where two things differ, by a test whether they are the same.
pub not_same : (b : Bool) {P J : Type 0} → IsTrue b ↔ P → J ↔ (P → ⊥) → IsTrue (not b) ↔ J
not_same true h j = (λ e. absurd (true≢false (sym e)), λ x. absurd (j.0 x (h.0 refl)))
not_same false h j = (λ e. j.1 (λ p. true≢false (sym (h.1 p))), λ x. refl)
