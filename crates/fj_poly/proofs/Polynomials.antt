-- Polynomials from lists of terms: they are polynomials, and sums split over lists.
use Rattle.std.proofs.Common.{All, ◌≡◌, ℕ, ◌<◌, List, [], ◌∷◌, ◌++◌, refl, sym, ap, ap₂, ◌∙◌, arith, cond, true, false, Bool, ◌==◌, nat_cmp}
use Rattle.std.specs.FinMap.{empty, from_entries}
use Rattle.std.specs.Cmp.Lexicographic.{slice_cmp}
use Rattle.std.proofs.lemmas.Bool.{cond-false, ne_eqb}
use Rattle.std.proofs.lemmas.List.Elements.{All-nil, All-cons}
use Rattle.fj_coeff.specs.Field.{Field, IsField}
use Rattle.fj_theory.specs.Exponents.{IsExponents}
use Rattle.fj_theory.specs.Polynomial.{Polynomial, IsPolynomial, IsTerm, coefficient, with_coefficients, sum, term}
use Rattle.fj_theory.proofs.FormalSum.{same, same_true}
use Rattle.fj_theory.proofs.Field.{zero_below}
use Rattle.fj_theory.proofs.Polynomial.{polynomial_equal, coefficient_below, coefficient-empty, coefficient-term, coefficient-sum, IsPolynomial-empty, IsPolynomial-sum, IsPolynomial-term}
use Rattle.fj_theory.specs.Polynomial.{IsFalling}
use Rattle.fj_poly.specs.Terms.{AreTerms}
use Rattle.fj_theory.proofs.Terms.{coefficient-from_entries_cons, IsPolynomial-from_entries}
use Rattle.fj_theory.proofs.PolynomialRing.{sum_comm, sum_assoc, sum_empty}
use Rattle.fj_poly.proofs.Falling.{above_itself, falling-tail, falling-without, falling-front, terms-front, terms-back}

-- The polynomial of a list of terms.
abbrev pub polynomial_of : List (List ℕ × ℕ) → Polynomial
polynomial_of ts = from_entries {R = slice_cmp nat_cmp} ts

-- The terms of a list, one by one.
pub each_term : {F : Field} (ts : List (List ℕ × ℕ)) → AreTerms F ts → All (IsTerm F) ts
each_term {F} [] h = All-nil (IsTerm F)
each_term {F} (t ∷ ts) h = All-cons (IsTerm F) t ts (record { exponents = record { eight = h.0.0 }; nonzero = h.0.1; below = h.0.2 }) (each_term ts h.1)

-- A list of terms gives a polynomial.
pub IsPolynomial-polynomial_of : {F : Field} (ts : List (List ℕ × ℕ)) → AreTerms F ts → IsPolynomial F (polynomial_of ts)
IsPolynomial-polynomial_of ts h = IsPolynomial-from_entries ts (each_term ts h)

-- No later term has the exponents of the first.
pub coefficient-later : (key : List ℕ → List ℕ) (s : List ℕ × ℕ) (ts : List (List ℕ × ℕ)) → IsFalling key (s ∷ ts) → coefficient (polynomial_of ts) s.0 ≡ 0
coefficient-later key s [] h = coefficient-empty s.0
coefficient-later key s (t ∷ ts) h = coefficient-from_entries_cons t ts s.0 ∙ by (same s.0 t.0) refl (coefficient-later key s ts (falling-without key (s ∷ []) t ts h))
  where
    by : (b : Bool) → same s.0 t.0 ≡ b → coefficient (polynomial_of ts) s.0 ≡ 0 → cond b t.1 (coefficient (polynomial_of ts) s.0) ≡ 0
    by true e later = absurd (above_itself key s.0 t.0 (same_true s.0 t.0 e) h.0)
    by false e later = later

-- A term with the coefficient 0 is zero.
pub term-zero : (a : List ℕ) → term 0 a ≡ empty
unfolding term with_coefficients
term-zero a = refl

module _ {F : Field} (L : IsField F) where
  zero_add : (c : ℕ) → c < F.size → F.add 0 c ≡ c
  zero_add c h = L.add_comm 0 c (zero_below L) h ∙ L.add_zero c h

  -- A falling list of terms is its first term and the others.
  pub sum-first : (key : List ℕ → List ℕ) (t : List ℕ × ℕ) (ts : List (List ℕ × ℕ)) → IsFalling key (t ∷ ts) → AreTerms F (t ∷ ts)
      → polynomial_of (t ∷ ts) ≡ sum F (polynomial_of (t ∷ [])) (polynomial_of ts)
  sum-first key t ts falling terms =
      let one : IsPolynomial F (polynomial_of (t ∷ [])) = IsPolynomial-polynomial_of (t ∷ []) (terms.0, tt) in
      let rest : IsPolynomial F (polynomial_of ts) = IsPolynomial-polynomial_of ts terms.1 in
      polynomial_equal (IsPolynomial-polynomial_of (t ∷ ts) terms) (IsPolynomial-sum L one rest)
      (λ a A. coefficient-from_entries_cons t ts a ∙ by a (same a t.0) refl ∙ sym (coefficient-sum L (polynomial_of (t ∷ [])) (polynomial_of ts) a ∙ ap (λ c. F.add c (coefficient (polynomial_of ts) a)) (coefficient-from_entries_cons t [] a)))
    where
      by : (a : List ℕ) (b : Bool) → same a t.0 ≡ b → cond b t.1 (coefficient (polynomial_of ts) a) ≡ F.add (cond b t.1 (coefficient (polynomial_of []) a)) (coefficient (polynomial_of ts) a)
      by a true e = sym (ap (λ c. F.add t.1 c) (ap (coefficient (polynomial_of ts)) (same_true a t.0 e) ∙ coefficient-later key t ts falling) ∙ L.add_zero t.1 terms.0.2)
      by a false e = sym (ap (λ c. F.add c (coefficient (polynomial_of ts) a)) (coefficient-empty a) ∙ zero_add _ (coefficient_below (IsPolynomial-polynomial_of {F = F} ts terms.1) (zero_below L) a))

  -- The polynomial of two lists one after the other, where they fall together, is the sum.
  pub sum-append : (key : List ℕ → List ℕ) (xs ys : List (List ℕ × ℕ)) → IsFalling key (xs ++ ys) → AreTerms F (xs ++ ys)
      → polynomial_of (xs ++ ys) ≡ sum F (polynomial_of xs) (polynomial_of ys)
  sum-append key [] ys falling terms =
      let P : IsPolynomial F (polynomial_of ys) = IsPolynomial-polynomial_of ys terms in
      sym (sum_comm L (IsPolynomial-empty F) P ∙ sum_empty L P)
  sum-append key (x ∷ xs) ys falling terms =
      let one : IsPolynomial F (polynomial_of (x ∷ [])) = IsPolynomial-polynomial_of (x ∷ []) (terms.0, tt) in
      let front : IsPolynomial F (polynomial_of xs) = IsPolynomial-polynomial_of xs (terms-front F xs ys terms.1) in
      let back : IsPolynomial F (polynomial_of ys) = IsPolynomial-polynomial_of ys (terms-back F xs ys terms.1) in
      sum-first key x (xs ++ ys) falling terms
      ∙ ap (sum F (polynomial_of (x ∷ []))) (sum-append key xs ys (falling-tail key x (xs ++ ys) falling) terms.1)
      ∙ sym (sum_assoc L one front back)
      ∙ ap (λ p. sum F p (polynomial_of ys)) (sym (sum-first key x xs (falling-front key (x ∷ xs) ys falling) (terms.0, terms-front F xs ys terms.1)))

  -- One nonzero term is the term.
  pub polynomial_of-term : (a : List ℕ) (c : ℕ) → 0 < c → polynomial_of ((a, c) ∷ []) ≡ term c a
  unfolding term with_coefficients
  polynomial_of-term a c h = sym (cond-false (c == 0) _ _ (ne_eqb c 0 (λ e. absurd (omega arith))))

  -- Two terms with the same exponents add up to one.
  pub sum-terms : (a : List ℕ) (c d : ℕ) → IsExponents a → c < F.size → d < F.size → sum F (term c a) (term d a) ≡ term (F.add c d) a
  sum-terms a c d A hc hd =
      polynomial_equal (IsPolynomial-sum L (IsPolynomial-term c hc A) (IsPolynomial-term d hd A)) (IsPolynomial-term (F.add c d) (L.add_below c d hc hd) A)
      (λ b B. coefficient-sum L (term c a) (term d a) b ∙ ap₂ F.add (coefficient-term c a b) (coefficient-term d a b) ∙ by (same b a) ∙ sym (coefficient-term (F.add c d) a b))
    where
      by : (t : Bool) → F.add (cond t c 0) (cond t d 0) ≡ cond t (F.add c d) 0
      by true = refl
      by false = L.add_zero 0 (zero_below L)
