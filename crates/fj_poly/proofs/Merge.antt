-- The merge of two falling lists of terms: what is merged and the two lists that are left have one sum throughout.
use Rattle.std.proofs.Common.{◌≡◌, ℕ, ◌<◌, List, [], ◌∷◌, ◌++◌, sym, ap, ap₂, ◌∙◌, subst, append_assoc, append-nil, inl, inr, ◌⊎◌}
use Rattle.std.specs.declared.cmp.Ordering.TheVariants.{Greater}
use Rattle.fj_coeff.specs.Field.{Field, IsField}
use Rattle.fj_theory.specs.MonomialOrder.{compare_by}
use Rattle.fj_theory.specs.Polynomial.{Polynomial, IsPolynomial, sum, term}
use Rattle.fj_theory.proofs.Polynomial.{IsPolynomial-empty, IsPolynomial-sum, IsPolynomial-term}
use Rattle.fj_theory.proofs.PolynomialRing.{sum_comm, sum_assoc, sum_empty}
use Rattle.fj_theory.specs.Polynomial.{IsFalling}
use Rattle.fj_poly.specs.Terms.{AreTerms}
use Rattle.fj_poly.proofs.Falling.{falling-replace, falling-exponents, falling-without, falling-front, falling-back, terms-append}
use Rattle.fj_poly.proofs.Polynomials.{polynomial_of, IsPolynomial-polynomial_of, sum-first, sum-append, polynomial_of-term, term-zero, sum-terms}

-- The terms merged so far and the rests of two lists: their sum, that each rest falls behind what is merged, and what
-- they are lists of.
pub record Merges (F : Field) (key : List ℕ → List ℕ) (out left right : List (List ℕ × ℕ)) (f g : Polynomial) : Type 0 where
  pub total : sum F (polynomial_of out) (sum F (polynomial_of left) (polynomial_of right)) ≡ sum F f g
  pub left_falls : IsFalling key (out ++ left)
  pub right_falls : IsFalling key (out ++ right)
  pub out_terms : AreTerms F out
  pub left_terms : AreTerms F left
  pub right_terms : AreTerms F right

module _ {F : Field} (L : IsField F) where
  is_polynomial : (ts : List (List ℕ × ℕ)) → AreTerms F ts → IsPolynomial F (polynomial_of ts)
  is_polynomial = IsPolynomial-polynomial_of

  -- a summand may go from the second place to the first
  shift_first : {a b c d : Polynomial} → IsPolynomial F a → IsPolynomial F b → IsPolynomial F c → IsPolynomial F d
      → sum F a (sum F (sum F b c) d) ≡ sum F (sum F a b) (sum F c d)
  shift_first {a} A B C D = ap (sum F a) (sum_assoc L B C D) ∙ sym (sum_assoc L A B (IsPolynomial-sum L C D))

  -- Nothing is merged yet.
  pub merges-start : (key : List ℕ → List ℕ) (left right : List (List ℕ × ℕ)) → IsFalling key left → IsFalling key right → AreTerms F left → AreTerms F right
      → Merges F key [] left right (polynomial_of left) (polynomial_of right)
  merges-start key left right lf rf lt rt =
      let S = IsPolynomial-sum L (is_polynomial left lt) (is_polynomial right rt) in
      record { total = sum_comm L (IsPolynomial-empty F) S ∙ sum_empty L S; left_falls = lf; right_falls = rf; out_terms = tt; left_terms = lt; right_terms = rt }

  -- The two lists have like parts.
  pub merges-swap : {key : List ℕ → List ℕ} {out left right : List (List ℕ × ℕ)} {f g : Polynomial} → IsPolynomial F f → IsPolynomial F g
      → Merges F key out left right f g → Merges F key out right left g f
  merges-swap {out = out} {left} {right} P Q m = record {
    total = ap (sum F (polynomial_of out)) (sum_comm L (is_polynomial right m.right_terms) (is_polynomial left m.left_terms)) ∙ m.total ∙ sum_comm L P Q;
    left_falls = m.right_falls;
    right_falls = m.left_falls;
    out_terms = m.out_terms;
    left_terms = m.right_terms;
    right_terms = m.left_terms;
  }

  interchange : {a b c d : Polynomial} → IsPolynomial F a → IsPolynomial F b → IsPolynomial F c → IsPolynomial F d
      → sum F (sum F a b) (sum F c d) ≡ sum F (sum F a c) (sum F b d)
  interchange {a} {b} {c} {d} A B C D =
      sum_assoc L A B (IsPolynomial-sum L C D)
      ∙ ap (sum F a) (sym (sum_assoc L B C D) ∙ ap (λ p. sum F p d) (sum_comm L B C) ∙ sum_assoc L C B D)
      ∙ sym (sum_assoc L A C (IsPolynomial-sum L B D))

  module _ (key : List ℕ → List ℕ) (out : List (List ℕ × ℕ)) where
    -- One term more is merged behind the others.
    push_falls : (x : List ℕ × ℕ) (xs : List (List ℕ × ℕ)) → IsFalling key (out ++ x ∷ xs) → IsFalling key ((out ++ x ∷ []) ++ xs)
    push_falls x xs falls = subst (IsFalling key) (sym (append_assoc out (x ∷ []) xs)) falls

    push_sum : (x : List ℕ × ℕ) → IsFalling key (out ++ x ∷ []) → AreTerms F out → AreTerms F (x ∷ [])
        → polynomial_of (out ++ x ∷ []) ≡ sum F (polynomial_of out) (polynomial_of (x ∷ []))
    push_sum x falls terms last = sum-append L key out (x ∷ []) falls (terms-append F out (x ∷ []) terms last)

  -- One list is used up: the other follows what is merged.
  pub merges-end : {key : List ℕ → List ℕ} {out left : List (List ℕ × ℕ)} {f g : Polynomial} → Merges F key out left [] f g → polynomial_of (out ++ left) ≡ sum F f g
  merges-end {key} {out} {left} m =
      sum-append L key out left m.left_falls (terms-append F out left m.out_terms m.left_terms)
      ∙ ap (sum F (polynomial_of out)) (sym (sum_empty L (is_polynomial left m.left_terms)))
      ∙ m.total

  module _ {key : List ℕ → List ℕ} {out left right : List (List ℕ × ℕ)} {f g : Polynomial} where
    -- The first term on the left is above the first on the right, and is merged.
    pub merges-left : (x y : List ℕ × ℕ) → compare_by key x.0 y.0 ≡ Greater
        → Merges F key out (x ∷ left) (y ∷ right) f g → Merges F key (out ++ x ∷ []) left (y ∷ right) f g
    merges-left x y above m =
        let one : AreTerms F (x ∷ []) = (m.left_terms.0, tt) in
        let left_falls : IsFalling key ((out ++ x ∷ []) ++ left) = push_falls key out x left m.left_falls in
        record {
          total = ap (λ p. sum F p (sum F (polynomial_of left) (polynomial_of (y ∷ right)))) (push_sum key out x (falling-front key (out ++ x ∷ []) left left_falls) m.out_terms one)
              ∙ sym (shift_first (is_polynomial out m.out_terms) (is_polynomial (x ∷ []) one) (is_polynomial left m.left_terms.1) (is_polynomial (y ∷ right) m.right_terms))
              ∙ ap (λ p. sum F (polynomial_of out) (sum F p (polynomial_of (y ∷ right)))) (sym (sum-first L key x left (falling-back key out (x ∷ left) m.left_falls) m.left_terms))
              ∙ m.total;
          left_falls = left_falls;
          right_falls = push_falls key out x (y ∷ right) (falling-replace key out x left (y ∷ right) m.left_falls (above, falling-back key out (y ∷ right) m.right_falls));
          out_terms = terms-append F out (x ∷ []) m.out_terms one;
          left_terms = m.left_terms.1;
          right_terms = m.right_terms;
        }

    -- What is left of both lists, where their first terms have one exponent list: first the sum of these two.
    both_sum : (x y : List ℕ × ℕ) → x.0 ≡ y.0 → Merges F key out (x ∷ left) (y ∷ right) f g
        → sum F (polynomial_of out) (sum F (term (F.add x.1 y.1) x.0) (sum F (polynomial_of left) (polynomial_of right))) ≡ sum F f g
    both_sum x y same m =
        let X : IsPolynomial F (polynomial_of (x ∷ [])) = is_polynomial (x ∷ []) (m.left_terms.0, tt) in
        let Y : IsPolynomial F (polynomial_of (y ∷ [])) = is_polynomial (y ∷ []) (m.right_terms.0, tt) in
        let A : IsPolynomial F (polynomial_of left) = is_polynomial left m.left_terms.1 in
        let B : IsPolynomial F (polynomial_of right) = is_polynomial right m.right_terms.1 in
        let first : sum F (polynomial_of (x ∷ [])) (polynomial_of (y ∷ [])) ≡ term (F.add x.1 y.1) x.0 =
        ap₂ (sum F) (polynomial_of-term L x.0 x.1 m.left_terms.0.1) (polynomial_of-term L y.0 y.1 m.right_terms.0.1 ∙ ap (term y.1) (sym same))
        ∙ sum-terms L x.0 x.1 y.1 (record { eight = m.left_terms.0.0 }) m.left_terms.0.2 m.right_terms.0.2 in
        ap (sum F (polynomial_of out))
        (ap (λ p. sum F p (sum F (polynomial_of left) (polynomial_of right))) (sym first)
        ∙ sym (interchange X A Y B)
        ∙ ap₂ (sum F) (sym (sum-first L key x left (falling-back key out (x ∷ left) m.left_falls) m.left_terms)) (sym (sum-first L key y right (falling-back key out (y ∷ right) m.right_falls) m.right_terms)))
        ∙ m.total

    -- Two terms with one exponent list are merged to one where their coefficients do not cancel.
    pub merges-both : (x y : List ℕ × ℕ) → x.0 ≡ y.0 → 0 < F.add x.1 y.1
        → Merges F key out (x ∷ left) (y ∷ right) f g → Merges F key (out ++ (x.0, F.add x.1 y.1) ∷ []) left right f g
    merges-both x y same positive m =
        let z : List ℕ × ℕ = (x.0, F.add x.1 y.1) in
        let one : AreTerms F (z ∷ []) = ((m.left_terms.0.0, positive, L.add_below x.1 y.1 m.left_terms.0.2 m.right_terms.0.2), tt) in
        let left_falls : IsFalling key ((out ++ z ∷ []) ++ left) = push_falls key out z left (falling-exponents key out x.0 x.1 z.1 left m.left_falls) in
        let right_falls : IsFalling key ((out ++ z ∷ []) ++ right) =
        push_falls key out z right (falling-exponents key out x.0 y.1 z.1 right (subst (λ a. IsFalling key (out ++ (a, y.1) ∷ right)) (sym same) m.right_falls)) in
        record {
          total = ap (λ p. sum F p (sum F (polynomial_of left) (polynomial_of right)))
              (push_sum key out z (falling-front key (out ++ z ∷ []) left left_falls) m.out_terms one ∙ ap (sum F (polynomial_of out)) (polynomial_of-term L z.0 z.1 positive))
              ∙ sum_assoc L (is_polynomial out m.out_terms) (IsPolynomial-term z.1 one.0.2 (record { eight = m.left_terms.0.0 })) (IsPolynomial-sum L (is_polynomial left m.left_terms.1) (is_polynomial right m.right_terms.1))
              ∙ both_sum x y same m;
          left_falls = left_falls;
          right_falls = right_falls;
          out_terms = terms-append F out (z ∷ []) m.out_terms one;
          left_terms = m.left_terms.1;
          right_terms = m.right_terms.1;
        }

    -- And they are dropped where they cancel.
    pub merges-neither : (x y : List ℕ × ℕ) → x.0 ≡ y.0 → F.add x.1 y.1 ≡ 0
        → Merges F key out (x ∷ left) (y ∷ right) f g → Merges F key out left right f g
    merges-neither x y same none m = record {
      total =
          let S : IsPolynomial F (sum F (polynomial_of left) (polynomial_of right)) = IsPolynomial-sum L (is_polynomial left m.left_terms.1) (is_polynomial right m.right_terms.1) in
          ap (sum F (polynomial_of out)) (sym (ap (λ p. sum F p (sum F (polynomial_of left) (polynomial_of right))) (ap (λ c. term c x.0) none ∙ term-zero x.0) ∙ sum_comm L (IsPolynomial-empty F) S ∙ sum_empty L S))
          ∙ both_sum x y same m;
      left_falls = falling-without key out x left m.left_falls;
      right_falls = falling-without key out y right m.right_falls;
      out_terms = m.out_terms;
      left_terms = m.left_terms.1;
      right_terms = m.right_terms.1;
    }

-- What a finished merge gives: a falling list of terms whose polynomial is the sum.
pub record Merged (F : Field) (key : List ℕ → List ℕ) (ts : List (List ℕ × ℕ)) (f g : Polynomial) : Type 0 where
  pub falls : IsFalling key ts
  pub terms : AreTerms F ts
  pub total : polynomial_of ts ≡ sum F f g

module _ {F : Field} (L : IsField F) {key : List ℕ → List ℕ} {f g : Polynomial} (P : IsPolynomial F f) (Q : IsPolynomial F g) where
  -- One of the lists is used up, and both follow what is merged.
  pub merges-ended : {out left right : List (List ℕ × ℕ)} → Merges F key out left right f g → (left ≡ []) ⊎ (right ≡ []) → Merged F key ((out ++ left) ++ right) f g
  merges-ended {out} {left} {right} m (inl none) =
      let n : Merges F key out right [] g f = subst (λ l. Merges F key out right l g f) none (merges-swap L P Q m) in
      let rest : (out ++ left) ++ right ≡ out ++ right = ap (λ l. (out ++ l) ++ right) none ∙ ap (λ l. l ++ right) (append-nil out) in
      subst (λ ts. Merged F key ts f g) (sym rest) (record {
        falls = m.right_falls;
        terms = terms-append F out right m.out_terms m.right_terms;
        total = merges-end L n ∙ sum_comm L Q P;
      })
  merges-ended {out} {left} {right} m (inr none) =
      let n : Merges F key out left [] f g = subst (λ r. Merges F key out left r f g) none m in
      let rest : (out ++ left) ++ right ≡ out ++ left = ap (λ r. (out ++ left) ++ r) none ∙ append-nil (out ++ left) in
      subst (λ ts. Merged F key ts f g) (sym rest) (record {
        falls = m.left_falls;
        terms = terms-append F out left m.out_terms m.left_terms;
        total = merges-end L n;
      })
