-- Powers of coefficients by squares, and values at a point by terms.
use Rattle.std.proofs.Common.{◌≡◌, ◌≢◌, ℕ, zero, suc, ◌+◌, ◌/◌, ◌%◌, ◌<◌, ◌≤◌, List, [], ◌∷◌, ◌++◌, length, take, drop, get_or, map, All, refl, sym, ap, ap₂, ◌∙◌, arith, length-drop}
use Rattle.std.proofs.Math.Nat.{div-add-mod}
use Rattle.std.proofs.lemmas.List.{take_more, take-append-drop, length-map, nil_from_length}
use Rattle.std.proofs.Math.Seq.{drop-nil}
use Rattle.std.proofs.lemmas.List.Elements.{All-nil, All-cons}
use Rattle.fj_coeff.specs.Field.{Field, IsField, power}
use Rattle.fj_algebra.proofs.Power.{power-add}
use Rattle.fj_theory.specs.Evaluation.{IsPoint, monomial_value, value}
use Rattle.fj_theory.specs.Polynomial.{Polynomial, IsPolynomial, IsFalling, sum}
use Rattle.fj_theory.proofs.Field.{element, field_ring, rank_element, rank_add, rank_mul}
use Rattle.fj_theory.proofs.Monomial.{element_power, power_below}
use Rattle.fj_theory.proofs.Polynomial.{IsPolynomial-sum}
use Rattle.fj_theory.proofs.PolynomialRing.{PolynomialOver, map_add}
use Rattle.fj_theory.proofs.Evaluation.{value-RingMap, value-term, value_below}
use Rattle.fj_poly.specs.Terms.{AreTerms}
use Rattle.fj_poly.proofs.Falling.{falling-front, terms-front, terms-back}
use Rattle.fj_poly.proofs.Polynomials.{polynomial_of, polynomial_of-term, IsPolynomial-polynomial_of, sum-append}

module _ {F : Field} (L : IsField F) where
  power_sum_of : (c m n : ℕ) → c < F.size → power F c (m + n) ≡ F.mul (power F c m) (power F c n)
  power_sum_of c m n h =
      sym (rank_element L _ (power_below L c (m + n) h))
      ∙ ap (λ x. x.rank) (element_power L c (m + n) h ∙ power-add (field_ring L) (element L c) m n ∙ ap₂ (field_ring L).mul (sym (element_power L c m h)) (sym (element_power L c n h)))
      ∙ rank_mul L _ _ ∙ ap₂ F.mul (rank_element L _ (power_below L c m h)) (rank_element L _ (power_below L c n h))

  -- An even power is a square, and an odd one c times a square.
  pub power-even : (c k : ℕ) → c < F.size → k % 2 ≡ 0 → F.mul (power F c (k / 2)) (power F c (k / 2)) ≡ power F c k
  power-even c k h e = sym (power_sum_of c (k / 2) (k / 2) h) ∙ ap (power F c) (omega (arith, div-add-mod k 2))

  pub power-odd : (c k : ℕ) → c < F.size → k % 2 ≢ 0 → F.mul c (F.mul (power F c (k / 2)) (power F c (k / 2))) ≡ power F c k
  unfolding power
  power-odd c k h e =
      let whole : suc (k / 2 + k / 2) ≡ k = omega (arith, div-add-mod k 2) in
      ap (F.mul c) (sym (power_sum_of c (k / 2) (k / 2) h)) ∙ ap (power F c) whole

  module _ {point : List ℕ} (at : IsPoint F point) where
    value_sum : {f g : Polynomial} → IsPolynomial F f → IsPolynomial F g → value F (sum F f g) point ≡ F.add (value F f point) (value F g point)
    value_sum {f} {g} P Q =
        let x : PolynomialOver F = record { map = f; is_polynomial = P } in
        let y : PolynomialOver F = record { map = g; is_polynomial = Q } in
        sym (rank_element L _ (value_below L at (IsPolynomial-sum L P Q))) ∙ ap (λ h. (element L (value F h point)).rank) (sym (map_add L x y))
        ∙ ap (λ z. z.rank) ((value-RingMap L at).keeps_add x y) ∙ rank_add L _ _ ∙ ap₂ F.add (rank_element L _ (value_below L at P)) (rank_element L _ (value_below L at Q))

    -- One more term of a falling list adds its value.
    pub value_more : (key : List ℕ → List ℕ) (ts : List (List ℕ × ℕ)) → IsFalling key ts → AreTerms F ts → (i : ℕ) (t : List ℕ × ℕ) → i < length ts → t ≡ get_or ts i t
        → value F (polynomial_of (take (i + 1) ts)) point ≡ F.add (value F (polynomial_of (take i ts)) point) (F.mul t.1 (monomial_value F t.0 point))
    value_more key ts falls terms i t l e =
        let more : take (i + 1) ts ≡ take i ts ++ t ∷ [] = take_more ts i t l ∙ ap (λ u. take i ts ++ u ∷ []) (sym e) in
        let split = take-append-drop (i + 1) ts in
        let falls' : IsFalling key (take i ts ++ t ∷ []) = falling-front key _ (drop (i + 1) ts) (rw (← more, split) falls) in
        let terms' : AreTerms F (take i ts ++ t ∷ []) = terms-front F _ (drop (i + 1) ts) (rw (← more, split) terms) in
        let P : IsPolynomial F (polynomial_of (take i ts)) = IsPolynomial-polynomial_of (take i ts) (terms-front F (take i ts) (t ∷ []) terms') in
        let one : AreTerms F (t ∷ []) = terms-back F (take i ts) (t ∷ []) terms' in
        let Q : IsPolynomial F (polynomial_of (t ∷ [])) = IsPolynomial-polynomial_of (t ∷ []) one in
        ap (λ us. value F (polynomial_of us) point) more
        ∙ ap (λ f. value F f point) (sum-append L key (take i ts) (t ∷ []) falls' terms')
        ∙ value_sum P Q
        ∙ ap (F.add (value F (polynomial_of (take i ts)) point)) (ap (λ f. value F f point) (polynomial_of-term L t.0 t.1 one.0.1) ∙ value-term L at t.1 one.0.2 (record { eight = one.0.0 }))

-- The value of a monomial takes one more place from the end.
pub monomial_value_more : (F : Field) (a point : List ℕ) (i : ℕ) → i < length a
    → F.mul (power F (get_or point i 0) (get_or a i 0)) (monomial_value F (drop (suc i) a) (drop (suc i) point)) ≡ monomial_value F (drop i a) (drop i point)
unfolding monomial_value
monomial_value_more F [] point i l = absurd (omega arith)
monomial_value_more F (k ∷ a) [] zero l = refl
monomial_value_more F (k ∷ a) (x ∷ point) zero l = refl
monomial_value_more F (k ∷ a) [] (suc i) l =
    ap (λ p. F.mul (power F 0 (get_or a i 0)) (monomial_value F (drop (suc i) a) p)) refl
    ∙ monomial_value_more F a [] i (omega arith) ∙ ap (monomial_value F (drop i a)) (drop-nil i)
monomial_value_more F (k ∷ a) (x ∷ point) (suc i) l = monomial_value_more F a point i (omega arith)

-- Past the end of the exponents there is nothing left.
pub monomial_value_end : (F : Field) (a point : List ℕ) → length a ≡ 8 → monomial_value F (drop 8 a) point ≡ 1
unfolding monomial_value
monomial_value_end F a point eight =
    let none : drop 8 a ≡ [] = nil_from_length (drop 8 a) (omega (arith, length-drop 8 a)) in
    ap (λ b. monomial_value F b point) none

-- A list of ranks, at most eight, is a point.
pub ranks_are_point : {K : Type 0} (F : Field) (rank : K → ℕ) → ((c : K) → rank c < F.size) → (cs : List K) → length cs ≤ 8 → IsPoint F (map rank cs)
ranks_are_point F rank below cs short = record { short = omega (arith, length-map cs rank); below = each cs }
  where
    each : (cs : List _) → All (λ x. x < F.size) (map rank cs)
    each [] = All-nil (λ x. x < F.size)
    each (c ∷ cs) = All-cons (λ x. x < F.size) (rank c) (map rank cs) (below c) (each cs)
