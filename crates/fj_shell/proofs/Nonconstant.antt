-- The degree of a polynomial with a term of degree 1 or more, and none above 1,000.
use Rattle.std.proofs.Common.{◌≡◌, ℕ, ◌<◌, ◌≤◌, Bool, true, false, ◌||◌, cond, ltb, ltb-true, List, [], ◌∷◌, All, Contains, Option, Some, None, nat_cmp, unwrap_or, refl, sym, ap, ◌∙◌, subst, arith}
use Rattle.std.specs.Cmp.Lexicographic.{slice_cmp}
use Rattle.std.specs.FinMap.{find, get-from_entries}
use Rattle.std.proofs.lemmas.Cmp.{nat_list_cmp_total}
use Rattle.fj_coeff.specs.Field.{IsField, primes}
use Rattle.fj_coeff.specs.PrimeField.{prime_field}
use Rattle.fj_coeff.specs.PrimeFieldLaws.{IsField-prime_field}
use Rattle.fj_theory.specs.Exponents.{IsExponents, total}
use Rattle.fj_theory.specs.Plain.{HasRanksBelow, PlainPolynomial, polynomial}
use Rattle.fj_theory.specs.Polynomial.{IsPolynomial, coefficient, degree}
use Rattle.fj_theory.proofs.Degree.{degree_attained, degree_bounds, empty_from_degree}
use Rattle.fj_theory.proofs.FormalSum.{same, same_itself}
use Rattle.fj_theory.proofs.Plain.{IsPolynomial-polynomial}
use Rattle.fj_theory.proofs.Polynomial.{coefficient-empty, get-coefficient}
use Rattle.fj_theory.proofs.Terms.{coefficient-from_entries, find_All}
use Rattle.fj_script.specs.Session.{Terms, is_nonconstant}

-- A term of degree 1 or more is found by its exponents.
record HasPositiveTerm (ts : Terms) : Type 0 where
  exponents : List ℕ
  rank : ℕ
  positive : 0 < total exponents
  found : find (slice_cmp nat_cmp) exponents ts ≡ Some rank

found_later : (t : List ℕ × ℕ) (ts : Terms) (h : HasPositiveTerm ts) → HasPositiveTerm (t ∷ ts)
found_later t ts h = by (same h.exponents t.0) refl
  where
    by : (s : Bool) → same h.exponents t.0 ≡ s → HasPositiveTerm (t ∷ ts)
    by true s = record { exponents = h.exponents; rank = t.1; positive = h.positive; found = ap (λ b. cond b (Some t.1) (find (slice_cmp nat_cmp) h.exponents ts)) s }
    by false s = record { exponents = h.exponents; rank = h.rank; positive = h.positive; found = ap (λ b. cond b (Some t.1) (find (slice_cmp nat_cmp) h.exponents ts)) s ∙ h.found }

positive_term : (ts : Terms) → is_nonconstant ts ≡ true → HasPositiveTerm ts
positive_term [] some = absurd cc
positive_term (t ∷ ts) some = by (ltb 0 (total t.0)) refl (positive_term ts) some
  where
    by : (b : Bool) → ltb 0 (total t.0) ≡ b → (is_nonconstant ts ≡ true → HasPositiveTerm ts) → (b || is_nonconstant ts) ≡ true → HasPositiveTerm (t ∷ ts)
    by true e later h = record { exponents = t.0; rank = t.1; positive = ltb-true 0 (total t.0) e; found = ap (λ s. cond s (Some t.1) (find (slice_cmp nat_cmp) t.0 ts)) (same_itself t.0) }
    by false e later h = found_later t ts (later h)

pub record HasSmallDegree (f : PlainPolynomial) : Type 0 where
  pub total : ℕ
  pub has_degree : degree (polynomial f) ≡ Some total
  pub nonconstant : 0 < total
  pub bounded : total ≤ 1000

module _ {p : ℕ} (prime : Contains primes p) (f : PlainPolynomial) (ranks : HasRanksBelow p f) (low : All (λ t. total t.0 ≤ 1000) f.terms) (some : is_nonconstant f.terms ≡ true) where
  pub has_small_degree : HasSmallDegree f
  has_small_degree = by (degree (polynomial f)) refl
    where
      P : IsPolynomial (prime_field p) (polynomial f)
      P = IsPolynomial-polynomial prime f ranks

      L : IsField (prime_field p)
      L = IsField-prime_field p prime

      T : HasPositiveTerm f.terms
      T = positive_term f.terms some

      exponents : IsExponents T.exponents
      exponents = find_All (λ t. IsExponents t.0) f.terms T.exponents T.rank f.plain.exponents T.found

      there : 0 < coefficient (polynomial f) T.exponents
      there = subst (λ c. 0 < c) (sym (coefficient-from_entries f.terms T.exponents ∙ ap (λ o. unwrap_or o 0) T.found)) (find_All (λ t. 0 < t.1) f.terms T.exponents T.rank f.plain.nonzero T.found)

      by : (o : Option ℕ) → degree (polynomial f) ≡ o → HasSmallDegree f
      by None e = absurd (let none = ap (λ g. coefficient g T.exponents) (empty_from_degree L P e) in let at = coefficient-empty T.exponents in omega (arith, there, none, at))
      by (Some n) e =
          let least = degree_bounds L P e T.exponents exponents there in
          let positive = T.positive in
          let top = degree_attained L P e in
          let found = sym (get-from_entries nat_list_cmp_total f.terms top.0) ∙ get-coefficient (polynomial f) top.0 top.2 in
          let small : total top.0 ≤ 1000 = find_All (λ t. total t.0 ≤ 1000) f.terms top.0 (coefficient (polynomial f) top.0) low found in
          let is = top.3 in
          record { total = n; has_degree = e; nonconstant = omega (arith, least, positive); bounded = omega (arith, small, is) }
