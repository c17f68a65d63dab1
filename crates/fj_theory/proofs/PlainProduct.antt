-- Multiples of a polynomial by a rank, and the product of plain polynomials term by term.
use Rattle.std.proofs.Common.{◌≡◌, ℕ, suc, ◌+◌, ◌-◌, ◌%◌, ◌<◌, Bool, true, false, cond, List, ◌∷◌, drop, All, Contains, Some, slice_get, unwrap_or, refl, sym, ap, ap₂, ◌∙◌, subst, arith, add-one}
use Rattle.std.specs.FinMap.{from_entries, empty}
use Rattle.std.proofs.Math.Nat.{mod_self, mod-eq_of_lt}
use Rattle.std.proofs.Math.Seq.{drop-cons}
use Rattle.std.proofs.lemmas.Option.{slice_get_within, get_or_from_slice_get}
use Rattle.std.proofs.lemmas.List.Elements.{All-head, All-tail, All-drop}
use Rattle.fj_coeff.specs.Field.{Field, IsField, primes}
use Rattle.fj_coeff.specs.PrimeField.{prime_field}
use Rattle.fj_coeff.specs.PrimeFieldLaws.{IsField-prime_field}
use Rattle.fj_algebra.specs.Ring.{CommutativeRing}
use Rattle.fj_algebra.proofs.Ring.{neg_mul, one_mul}
use Rattle.fj_theory.specs.Exponents.{origin}
use Rattle.fj_theory.specs.Polynomial.{Polynomial, IsPolynomial, IsTerm, coefficient, sum, product, power, term, negation}
use Rattle.fj_theory.specs.Plain.{PlainPolynomial, HasRanksBelow}
use Rattle.fj_theory.proofs.Exponents.{IsExponents-origin}
use Rattle.fj_theory.proofs.Field.{one_below}
use Rattle.fj_theory.proofs.FormalSum.{same}
use Rattle.fj_theory.proofs.Polynomial.{polynomial_equal, coefficient-term, IsPolynomial-empty, IsPolynomial-term, IsPolynomial-sum}
use Rattle.fj_theory.proofs.Product.{IsPolynomial-product}
use Rattle.fj_theory.proofs.PolynomialRing.{PolynomialOver, polynomial_ring, map_one, map_neg, map_mul, coefficient-negation, IsPolynomial-negation, sum_comm, sum_empty, sum_assoc, product_sum, product_comm, product_one, product_empty, power_first}
use Rattle.fj_theory.proofs.Monomial.{from_entries-cons}
use Rattle.fj_theory.proofs.Terms.{Apart, find_none, coefficient-from_entries, IsPolynomial-from_entries}
use Rattle.fj_theory.proofs.Plain.{IsTerm-plain, Apart-drop, Apart-from_distinct}

module _ {p : ℕ} (prime : Contains primes p) where
  L : IsField (prime_field p)
  L = IsField-prime_field p prime

  One : IsPolynomial (prime_field p) (term 1 origin)
  One = IsPolynomial-term 1 (one_below L) IsExponents-origin

  neg_one_below : (p - 1) % p < p
  neg_one_below = L.neg_below 1 (one_below L)

  term_neg_one : term ((p - 1) % p) origin ≡ negation (prime_field p) (term 1 origin)
  term_neg_one =
      polynomial_equal (IsPolynomial-term ((p - 1) % p) neg_one_below IsExponents-origin) (IsPolynomial-negation L One)
      (λ a A. coefficient-term ((p - 1) % p) origin a ∙ by (same a origin) ∙ sym (coefficient-negation L (term 1 origin) a ∙ ap (λ c. (p - c) % p) (coefficient-term 1 origin a)))
    where
      by : (s : Bool) → cond s ((p - 1) % p) 0 ≡ (p - cond s 1 0) % p
      by true = refl
      by false = sym (ap (λ n. n % p) (omega arith) ∙ mod_self p)

  module _ {g : Polynomial} (Q : IsPolynomial (prime_field p) g) where
    -- One times a polynomial is the polynomial, and minus one times it is its opposite.
    pub one_multiple : product (prime_field p) (term 1 origin) (power (prime_field p) g 1) ≡ g
    one_multiple = ap (product (prime_field p) (term 1 origin)) (power_first L Q) ∙ product_comm L One Q ∙ product_one L Q

    pub minus_one_multiple : product (prime_field p) (term (p - 1) origin) (power (prime_field p) g 1) ≡ negation (prime_field p) g
    minus_one_multiple =
        let large : 1 < p = one_below L in
        let least : p - 1 < p = omega arith in
        let R : CommutativeRing (PolynomialOver (prime_field p)) = polynomial_ring L in
        let G : PolynomialOver (prime_field p) = record { map = g; is_polynomial = Q } in
        ap₂ (product (prime_field p)) (ap (λ c. term c origin) (sym (mod-eq_of_lt least)) ∙ term_neg_one ∙ ap (negation (prime_field p)) (sym (map_one L)) ∙ sym (map_neg L R.one)) (power_first L Q)
        ∙ sym (map_mul L (R.neg R.one) G) ∙ ap (λ h. h.map) (neg_mul R R.one G ∙ ap R.neg (one_mul R G)) ∙ map_neg L G

    pub sum-nothing : sum (prime_field p) empty g ≡ g
    sum-nothing = sum_comm L (IsPolynomial-empty (prime_field p)) Q ∙ sum_empty L Q

    -- What is added to nothing is the sum.
    pub sum_from_nothing : {start next : Polynomial} → start ≡ empty → next ≡ sum (prime_field p) start g → next ≡ g
    sum_from_nothing nothing added = added ∙ ap (λ f. sum (prime_field p) f g) nothing ∙ sum-nothing

    -- The polynomial of the terms from place i on is the term there plus that of the later terms.
    from_entries-drop : (f : PlainPolynomial) → HasRanksBelow p f → (i : ℕ) (t : List ℕ × ℕ) → slice_get f.terms i ≡ Some t → from_entries (drop i f.terms) ≡ sum (prime_field p) (term t.1 t.0) (from_entries (drop (suc i) f.terms))
    from_entries-drop f ranks i t found =
        let cut : drop i f.terms ≡ t ∷ drop (suc i) f.terms = drop-cons f.terms i t (slice_get_within f.terms i t found) ∙ ap (λ u. u ∷ drop (suc i) f.terms) (get_or_from_slice_get f.terms i t t found) in
        let all : All (IsTerm (prime_field p)) (t ∷ drop (suc i) f.terms) = subst (All (IsTerm (prime_field p))) cut (All-drop (IsTerm (prime_field p)) i f.terms (IsTerm-plain prime f ranks)) in
        let apart : Apart (t ∷ drop (suc i) f.terms) = subst Apart cut (Apart-drop i f.terms (Apart-from_distinct f.terms f.plain.distinct)) in
        let new : coefficient (from_entries (drop (suc i) f.terms)) t.0 ≡ 0 = coefficient-from_entries (drop (suc i) f.terms) t.0 ∙ ap (λ o. unwrap_or o 0) (find_none t.0 (drop (suc i) f.terms) apart.0) in
        ap from_entries cut ∙ from_entries-cons L t (drop (suc i) f.terms) (All-head (IsTerm (prime_field p)) t (drop (suc i) f.terms) all) (All-tail (IsTerm (prime_field p)) t (drop (suc i) f.terms) all) new

    -- The product of no terms is zero, and one term more is added by its multiple.
    pub product-nothing : product (prime_field p) empty g ≡ empty
    product-nothing = product_comm L (IsPolynomial-empty (prime_field p)) Q ∙ product_empty L Q

    pub product_more : (f : PlainPolynomial) → HasRanksBelow p f → (i : ℕ) (t : List ℕ × ℕ) → slice_get f.terms i ≡ Some t → (old new whole : Polynomial) → IsPolynomial (prime_field p) old
        → sum (prime_field p) old (product (prime_field p) (from_entries (drop i f.terms)) g) ≡ whole
        → new ≡ sum (prime_field p) old (product (prime_field p) (term t.1 t.0) (power (prime_field p) g 1))
        → IsPolynomial (prime_field p) new × (sum (prime_field p) new (product (prime_field p) (from_entries (drop (i + 1) f.terms)) g) ≡ whole)
    product_more f ranks i t found old new whole P before is =
        let F : Field = prime_field p in
        let B : IsTerm F t = subst (IsTerm F) (get_or_from_slice_get f.terms i t t found) (IsTerm-plain prime f ranks i t (slice_get_within f.terms i t found)) in
        let T : IsPolynomial F (term t.1 t.0) = IsPolynomial-term t.1 B.below B.exponents in
        let later : Polynomial = from_entries (drop (suc i) f.terms) in
        let M : IsPolynomial F later = IsPolynomial-from_entries (drop (suc i) f.terms) (All-drop (IsTerm F) (suc i) f.terms (IsTerm-plain prime f ranks)) in
        let first : new ≡ sum F old (product F (term t.1 t.0) g) = is ∙ ap (λ h. sum F old (product F (term t.1 t.0) h)) (power_first L Q) in
        let split : product F (from_entries (drop i f.terms)) g ≡ sum F (product F (term t.1 t.0) g) (product F later g) =
        ap (λ h. product F h g) (from_entries-drop f ranks i t found) ∙ product_comm L (IsPolynomial-sum L T M) Q ∙ product_sum L Q T M ∙ ap₂ (sum F) (product_comm L Q T) (product_comm L Q M) in (
          subst (IsPolynomial F) (sym first) (IsPolynomial-sum L P (IsPolynomial-product L T Q)),
          ap (λ n. sum F new (product F (from_entries (drop n f.terms)) g)) (add-one i) ∙ ap (λ h. sum F h (product F later g)) first
              ∙ sum_assoc L P (IsPolynomial-product L T Q) (IsPolynomial-product L M Q) ∙ ap (sum F old) (sym split) ∙ before,
        )
