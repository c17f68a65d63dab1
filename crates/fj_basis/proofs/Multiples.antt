-- Multiples of a polynomial by a term: their signs and their degree.
use Rattle.std.proofs.Common.{◌≡◌, ℕ, ◌+◌, ◌^◌, ◌<◌, ◌≤◌, Bool, true, false, cond, List, Option, Some, None, refl, sym, ap, ap₂, ◌∙◌, arith, ⊎_elim, eq-zero-or-pos}
use Rattle.fj_coeff.specs.Field.{Field, IsField}
use Rattle.fj_algebra.proofs.Ring.{neg_mul, mul_zero}
use Rattle.fj_theory.specs.Exponents.{IsExponents, total}
use Rattle.fj_theory.specs.Polynomial.{Polynomial, IsPolynomial, degree, term, negation, product}
use Rattle.fj_groebner.specs.Division.{DegreeAtMost}
use Rattle.fj_theory.proofs.Field.{element, field_ring, rank_element, rank_mul, rank_zero, zero_below}
use Rattle.fj_theory.proofs.Polynomial.{polynomial_equal, coefficient-term, IsPolynomial-term, IsPolynomial-empty}
use Rattle.fj_theory.proofs.PolynomialRing.{polynomial_ring, map_mul, map_neg, coefficient-negation, IsPolynomial-negation, neg_zero_rank, product_empty, product_comm}
use Rattle.fj_theory.proofs.IdealBridge.{over}
use Rattle.fj_theory.proofs.FormalSum.{same}
use Rattle.fj_theory.proofs.Monomial.{term_zero}
use Rattle.fj_theory.proofs.Degree.{degree-product, degree-term, degree_attained, empty_from_degree}
use Rattle.fj_poly.specs.Limit.{IsHigh}
use Rattle.fj_poly.proofs.Limits.{low_degree, low_empty}

module _ {F : Field} (L : IsField F) where
  -- Zero times an element.
  mul_zero_rank : (c : ℕ) → c < F.size → F.mul c 0 ≡ 0
  mul_zero_rank c h =
      let R = field_ring L in
      ap₂ F.mul (sym (rank_element L c h)) (sym (rank_zero L)) ∙ sym (rank_mul L (element L c) R.zero) ∙ ap (λ x. x.rank) (mul_zero R (element L c)) ∙ rank_zero L

  -- The quotient of two coefficients that aren't zero isn't zero.
  pub quotient_nonzero : (c d : ℕ) → c < F.size → d < F.size → 0 < c → 0 < d → 0 < F.mul c (F.inverse d)
  quotient_nonzero c d hc hd pc pd =
      let hi = L.inverse_below d pd hd in
      let q = F.mul c (F.inverse d) in
      let back : F.mul q d ≡ c = L.mul_assoc c (F.inverse d) d hc hi hd ∙ ap (F.mul c) (L.mul_comm (F.inverse d) d hi hd ∙ L.mul_inverse d pd hd) ∙ L.mul_one c hc in
      ⊎_elim (λ z. let none = L.mul_comm d 0 hd (zero_below L) ∙ ap (λ x. F.mul x d) (sym z) ∙ back in let zero = mul_zero_rank d hd in absurd (omega (arith, none, zero, pc))) (λ p. p) (eq-zero-or-pos q)

  negation-term : (c : ℕ) {a : List ℕ} → c < F.size → IsExponents a → term (F.neg c) a ≡ negation F (term c a)
  negation-term c {a} h A =
      polynomial_equal (IsPolynomial-term (F.neg c) (L.neg_below c h) A) (IsPolynomial-negation L (IsPolynomial-term c h A))
      (λ b B. coefficient-term (F.neg c) a b ∙ by (same b a) ∙ sym (coefficient-negation L (term c a) b ∙ ap F.neg (coefficient-term c a b)))
    where
      by : (t : Bool) → cond t (F.neg c) 0 ≡ F.neg (cond t c 0)
      by true = refl
      by false = sym (neg_zero_rank L)

  -- The product with the negative of a polynomial.
  pub product-negation : {f g : Polynomial} → IsPolynomial F f → IsPolynomial F g → product F (negation F f) g ≡ negation F (product F f g)
  product-negation P Q =
      let R = polynomial_ring L in
      let f = over P in
      let g = over Q in
      ap (λ h. product F h g.map) (sym (map_neg L f)) ∙ sym (map_mul L (R.neg f) g) ∙ ap (λ h. h.map) (neg_mul R f g) ∙ map_neg L (R.mul f g) ∙ ap (negation F) (map_mul L f g)

  module _ {g : Polynomial} (Q : IsPolynomial F g) (c : ℕ) {a : List ℕ} (h : c < F.size) (A : IsExponents a) where
    -- A multiple by the opposite coefficient.
    pub product_term-negation : product F (term (F.neg c) a) g ≡ negation F (product F (term c a) g)
    product_term-negation = ap (λ f. product F f g) (negation-term c h A) ∙ product-negation (IsPolynomial-term c h A) Q

    -- Within a bound no term of a multiple is high.
    pub product_term-low : (n : ℕ) → DegreeAtMost n g → total a + n ≤ 2 ^ 40 → IsHigh (product F (term c a) g) → ⊥
    product_term-low n within le =
        ⊎_elim (λ z. low_empty (ap (λ f. product F f g) (ap (λ x. term x a) z ∙ term_zero L A) ∙ product_comm L (IsPolynomial-empty F) Q ∙ product_empty L Q)) (λ p. by p (degree g) refl) (eq-zero-or-pos c)
      where
        T : IsPolynomial F (term c a)
        T = IsPolynomial-term c h A

        by : 0 < c → (o : Option ℕ) → degree g ≡ o → IsHigh (product F (term c a) g) → ⊥
        by p None d = low_empty (ap (product F (term c a)) (empty_from_degree L Q d) ∙ product_empty L T)
        by p (Some k) d =
            let top = degree_attained L Q d in
            let bound = within.within top.0 top.2 in
            let is = top.3 in
            low_degree _ (degree-product L T Q (degree-term F c p h A) d) (omega (arith, bound, is, le))
