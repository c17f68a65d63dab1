-- Degrees of the members of an ideal of one polynomial.
use Rattle.std.proofs.Common.{◌≡◌, ℕ, ◌+◌, ◌≤◌, [], ◌∷◌, Option, Some, None, refl, sym, ap, ◌∙◌, arith}
use Rattle.std.specs.FinMap.{empty}
use Rattle.std.proofs.lemmas.Option.{none-some, same_Some}
use Rattle.fj_coeff.specs.Field.{Field, IsField}
use Rattle.fj_theory.specs.Polynomial.{Polynomial, IsPolynomial, product, degree}
use Rattle.fj_theory.specs.Ideal.{combination, Member}
use Rattle.fj_theory.proofs.Polynomial.{IsPolynomial-empty}
use Rattle.fj_theory.proofs.Product.{IsPolynomial-product}
use Rattle.fj_theory.proofs.PolynomialRing.{sum_empty, product_comm, product_empty}
use Rattle.fj_theory.proofs.Degree.{degree-empty, empty_from_degree, degree-product}

module _ {F : Field} (L : IsField F) where
  -- A nonzero multiple of g has at least the degree of g.
  pub degree-Member : {g h : Polynomial} {m n : ℕ} → IsPolynomial F g → degree g ≡ Some m → degree h ≡ Some n → Member F (g ∷ []) h → m ≤ n
  unfolding combination
  degree-Member {g} {h} {m} {n} G D E H = compare_degrees (degree (H.cofactors 0)) refl
    where
      is : h ≡ product F (H.cofactors 0) g
      is = H.is ∙ sum_empty L (IsPolynomial-product L (H.polynomials 0) G)

      compare_degrees : (d : Option ℕ) → degree (H.cofactors 0) ≡ d → m ≤ n
      compare_degrees None none =
          let factor : H.cofactors 0 ≡ empty = empty_from_degree L (H.polynomials 0) none in
          let nothing : h ≡ empty = is ∙ ap (λ c. product F c g) factor ∙ product_comm L (IsPolynomial-empty F) G ∙ product_empty L G in
          absurd (none-some n (sym degree-empty ∙ ap degree (sym nothing) ∙ E))
      compare_degrees (Some k) some =
          let sizes : n ≡ k + m = same_Some _ _ (sym E ∙ ap degree is ∙ degree-product L (H.polynomials 0) G some D) in
          omega arith
