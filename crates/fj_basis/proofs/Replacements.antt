-- How the members that replace others in finishing are made.
use Rattle.std.proofs.Common.{◌≡◌, ℕ, zero, suc, ◌+◌, ◌<◌, List, [], ◌∷◌, ◌++◌, length, length-append, get_or, All, sym, ap, ap₂, ◌∙◌, subst, arith}
use Rattle.std.specs.FinMap.{empty}
use Rattle.std.proofs.lemmas.List.Elements.{All-cons, All-nil}
use Rattle.fj_coeff.specs.Field.{Field, IsField}
use Rattle.fj_theory.specs.Exponents.{origin, total}
use Rattle.fj_theory.specs.MonomialOrder.{IsMonomialOrder}
use Rattle.fj_theory.specs.Polynomial.{difference, Polynomial, IsPolynomial, negation, product, sum, term}
use Rattle.fj_theory.specs.Ideal.{ArePolynomials}
use Rattle.fj_theory.proofs.Exponents.{total_origin}
use Rattle.fj_theory.proofs.IdealBridge.{ArePolynomials-head, ArePolynomials-tail, IsPolynomial-one}
use Rattle.fj_theory.proofs.PolynomialRing.{IsPolynomial-negation, product_comm, product_one}
use Rattle.fj_groebner.specs.Division.{DegreeAtMost, Division, IsLowDivision, IsWithinSugar, Sugared, member_at, polynomials_of}
use Rattle.fj_groebner.proofs.Division.{IsDivision-length, IsDivision-quotients, IsDivision-remainder, IsDivision-remainder_polynomial}
use Rattle.fj_groebner.proofs.Rows.{list_combination-negation}
use Rattle.fj_groebner.proofs.Sugar.{StepsTo-IsWithinSugar}
use Rattle.fj_basis.specs.declared.history.Summand.{Summand}
use Rattle.fj_basis.specs.declared.history.Making.{Making}
use Rattle.fj_basis.specs.Finished.{AreDivisors}
use Rattle.fj_basis.specs.History.{IsMaking, IsSourceOf, IsSummand, IsWithNegatives, combined, polynomial_at, subtracted}
use Rattle.fj_basis.proofs.Combined.{IsSummand-at, combined-one, member_at-IsPolynomial, member_at-left, member_at-right, subtracted-is}
use Rattle.fj_basis.proofs.NextMember.{constant-degree, sugar-rises, zero-sum}
use Rattle.fj_basis.proofs.RowBounds.{term-positive}
use Rattle.fj_basis.proofs.Rows.{negation-positive}

pub both-IsPolynomial : {F : Field} (G B : List Sugared) → ArePolynomials F (polynomials_of G) → ArePolynomials F (polynomials_of B) → (k : ℕ) → IsPolynomial F (member_at (G ++ B) k).polynomial
unfolding member_at
both-IsPolynomial [] B P Q k = member_at-IsPolynomial B Q k
both-IsPolynomial (g ∷ G) B P Q zero = ArePolynomials-head P
both-IsPolynomial (g ∷ G) B P Q (suc k) = both-IsPolynomial G B (ArePolynomials-tail P) Q k

module _ {K R : Type 0} {F : Field} (L : IsField F) {key : List ℕ → List ℕ} (O : IsMonomialOrder key) (G B : List Sugared) (P : ArePolynomials F (polynomials_of G)) (divisors : AreDivisors F B)
    (p : ℕ) (l : p < length G) (bound : DegreeAtMost (member_at G p).sugar (member_at G p).polynomial) (last : Division) (D : IsLowDivision F key B (member_at G p) last)
    (first : Summand K R) (place : first.place ≡ p) (one : first.factor ≡ term 1 origin) (all : List (Summand K R)) (with : IsWithNegatives F (first ∷ []) (length G) last.quotients all) where
  abbrev h : Sugared
  h = member_at G p

  H : IsPolynomial F h.polynomial
  H = member_at-IsPolynomial G P p

  Q : ArePolynomials F last.quotients
  Q = IsDivision-quotients O L B divisors.polynomials divisors.nonzero H D.division

  long : length last.quotients ≡ length B
  long = IsDivision-length O L B divisors.polynomials divisors.nonzero H D.division

  inside : IsWithinSugar B last
  inside = StepsTo-IsWithinSugar O L B divisors.polynomials divisors.nonzero divisors.within h H bound D.division.states last D.division.steps

  times-one : {f : Polynomial} → IsPolynomial F f → product F (term 1 origin) f ≡ f
  times-one A = product_comm L (IsPolynomial-one L) A ∙ product_one L A

  first-sum : combined F (polynomial_at (G ++ B)) empty (first ∷ []) ≡ h.polynomial
  first-sum =
      combined-one F (polynomial_at (G ++ B)) empty first
      ∙ ap (sum F empty) (ap₂ (λ f k. product F f (member_at (G ++ B) k).polynomial) one place ∙ ap (λ g. product F (term 1 origin) g.polynomial) (member_at-left G B p l) ∙ times-one H)
      ∙ zero-sum L H

  all-sum : last.remainder ≡ combined F (polynomial_at (G ++ B)) empty all
  unfolding difference
  all-sum =
      IsDivision-remainder O L B divisors.polynomials divisors.nonzero H D.division
      ∙ ap (sum F h.polynomial) (sym (list_combination-negation L Q divisors.polynomials))
      ∙ sym (with.sum_is (polynomial_at (G ++ B)) empty (both-IsPolynomial G B P divisors.polynomials) (subst (IsPolynomial F) (sym first-sum) H)
      ∙ ap (λ f. subtracted F (polynomial_at (G ++ B)) f (length G) last.quotients) first-sum
      ∙ subtracted-is L (polynomial_at (G ++ B)) B divisors.polynomials last.quotients Q long (length G) h.polynomial H (λ k n. ap (λ g. g.polynomial) (member_at-right G B k)))

  whole : (k : ℕ) → k < length G + length B → k < length (G ++ B)
  whole k n = omega (arith, n, length-append G B)

  each-summand : All (IsSummand F (G ++ B) last.sugar) all
  each-summand =
      let rises = sugar-rises F key B h D.division.states last D.division.steps in
      let own = IsSummand-at {G = G ++ B} first p (term 1 origin) place one (whole p (omega (arith, l))) (IsPolynomial-one L)
      (λ a q. let none = ap total (term-positive 1 origin a q) in let same = ap (λ g. g.sugar) (member_at-left G B p l) in omega (arith, none, same, total_origin, rises)) in
      with.each (G ++ B) last.sugar (All-cons (IsSummand F (G ++ B) last.sugar) first [] own (All-nil (IsSummand F (G ++ B) last.sugar)))
      (λ t k n at is.
      IsSummand-at {G = G ++ B} t (length G + k) (negation F (get_or last.quotients k empty)) at is (whole (length G + k) (omega (arith, n, long))) (IsPolynomial-negation L (Q.each k empty n))
      (λ a q.
      let low = inside.quotients k n a (negation-positive L (get_or last.quotients k empty) a q) in
      let same = ap (λ g. g.sugar) (member_at-right G B k) in
      omega (arith, low, same)))

  -- The remainder is made so.
  pub replaced-IsMaking : (N : List Polynomial) (making : Making K R) → making.constant ≡ term 1 origin
      → ((All (IsSummand F (G ++ B) last.sugar) all × (last.remainder ≡ combined F (polynomial_at (G ++ B)) empty all)) → IsSourceOf F N (G ++ B) last.sugar last.remainder making.source)
      → IsMaking F N (G ++ B) (record { polynomial = last.remainder; sugar = last.sugar }) making
  replaced-IsMaking N making constant source = record {
    made_of = last.remainder;
    source = source (each-summand, all-sum);
    constant = subst (IsPolynomial F) (sym constant) (IsPolynomial-one L);
    degree = subst (DegreeAtMost 0) (sym constant) (constant-degree 1);
    is = sym (ap (λ c. product F c last.remainder) constant ∙ times-one (IsDivision-remainder_polynomial O L B divisors.polynomials divisors.nonzero H D.division));
    low = D.low;
  }
