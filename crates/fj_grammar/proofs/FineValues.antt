-- Values of expressions that are within the limits, and how zero and one are multiplied and added.
use Rattle.std.proofs.Common.{◌≡◌, ℕ, zero, suc, ◌+◌, ◌%◌, ◌<◌, ◌≤◌, Bool, true, false, cond, eqb, List, [], ◌∷◌, length, nat_cmp, Option, Some, None, unwrap_or, refl, sym, ap, ◌∙◌, subst, arith}
use Rattle.std.specs.Cmp.Lexicographic.{slice_cmp}
use Rattle.std.specs.FinMap.{contains_key, empty, entries, insert, len, len-empty, len-entries, len-insert}
use Rattle.std.proofs.lemmas.List.{length-map}
use Rattle.std.proofs.lemmas.Cmp.{nat_list_cmp_total}
use Rattle.std.proofs.lemmas.Nat.{mod_below}
use Rattle.fj_coeff.specs.Field.{Field, IsField}
use Rattle.fj_coeff.specs.PrimeFieldLaws.{prime_bounds}
use Rattle.fj_theory.specs.Exponents.{IsExponents, origin, total}
use Rattle.fj_theory.specs.PointIdeal.{variable_exponents}
use Rattle.fj_theory.specs.Polynomial.{Polynomial, IsPolynomial, coefficient, degree, negation, support, term, with_coefficients}
use Rattle.fj_theory.proofs.Degree.{degree_attained, degree_bounds, empty_from_degree}
use Rattle.fj_theory.proofs.Exponents.{IsExponents-origin, total_origin}
use Rattle.fj_theory.proofs.Field.{one_below, zero_below}
use Rattle.fj_theory.proofs.FormalSum.{same, same_true}
use Rattle.fj_theory.proofs.Monomial.{term_zero}
use Rattle.fj_theory.proofs.Polynomial.{IsPolynomial-empty, IsPolynomial-term, coefficient-empty, coefficient-term}
use Rattle.fj_theory.proofs.PolynomialRing.{IsPolynomial-negation, coefficient-negation, neg_zero_rank, sum_empty, sum_negation, sum_comm}
use Rattle.fj_text.specs.Grammar.{IsWithinLimits}
use Rattle.fj_script.proofs.AcceptedPolynomials.{variable_eight, variable_low}

-- No more terms than exponents that are named.
len_made : (c : List ℕ → ℕ) (es : List (List ℕ)) → len (with_coefficients c es) ≤ length es
unfolding with_coefficients
len_made c [] = let none = len-empty (slice_cmp nat_cmp) ℕ in omega arith
len_made c (a ∷ es) = by (eqb (c a) 0) (len_made c es)
  where
    rest : Polynomial
    rest = with_coefficients c es

    one_more : (b : Bool) → cond b (len rest) (len rest + 1) ≤ len rest + 1
    one_more true = omega arith
    one_more false = omega arith

    by : (b : Bool) → len rest ≤ length es → len (cond b rest (insert rest a (c a))) ≤ suc (length es)
    by true h = omega arith
    by false h = let one = len-insert nat_list_cmp_total rest a (c a) in let more = one_more (contains_key rest a) in omega (arith, one, more)

length_support : (f : Polynomial) → length (support f) ≡ len f
length_support f = length-map (entries f) (λ e. e.0) ∙ sym (len-entries f)

-- A polynomial within the limits.
pub record IsFine (F : Field) (f : Polynomial) : Type 0 where
  pub polynomial : IsPolynomial F f
  pub within : IsWithinLimits f

module _ {F : Field} (L : IsField F) where
  low_degree : {f : Polynomial} → IsPolynomial F f → ((a : List ℕ) → IsExponents a → 0 < coefficient f a → total a ≤ 1000) → unwrap_or (degree f) 0 ≤ 1000
  low_degree {f} P low = by (degree f) refl
    where
      by : (o : Option ℕ) → degree f ≡ o → unwrap_or o 0 ≤ 1000
      by None e = omega arith
      by (Some n) e = let top = degree_attained L P e in let h = low top.0 top.1 top.2 in omega (arith, h, top.3)

  fine_term : (c : ℕ) (a : List ℕ) → c < F.size → IsExponents a → total a ≤ 1000 → IsFine F (term c a)
  unfolding term
  fine_term c a below A small = record {
    polynomial = IsPolynomial-term c below A;
    within = record { few = (let n = len_made (λ _. c) (a ∷ []) in omega (arith, n)); low = low_degree (IsPolynomial-term c below A) (λ b B h. at b (same b a) refl (subst (λ n. 0 < n) (coefficient-term c a b) h)) };
  }
    where
      at : (b : List ℕ) (t : Bool) → same b a ≡ t → 0 < cond t c 0 → total b ≤ 1000
      at b true e h = subst (λ e. total e ≤ 1000) (sym (same_true b a e)) small
      at b false e h = absurd (omega arith)

  pub fine_constant : (n : ℕ) → IsFine F (term (n % F.characteristic) origin)
  fine_constant n = fine_term (n % F.characteristic) origin (omega (arith, (prime_bounds _ L.prime).0, L.characteristic_fits, mod_below n F.characteristic)) IsExponents-origin (omega (arith, total_origin))

  pub fine_variable : (i : ℕ) → IsFine F (term 1 (variable_exponents i))
  fine_variable i = fine_term 1 (variable_exponents i) (one_below L) (variable_eight i) (variable_low i)

  pub fine_one : IsFine F (term 1 origin)
  fine_one = fine_term 1 origin (one_below L) IsExponents-origin (omega (arith, total_origin))

  pub fine_empty : IsFine F empty
  fine_empty = subst (IsFine F) (term_zero L IsExponents-origin) (fine_term 0 origin (zero_below L) IsExponents-origin (omega (arith, total_origin)))

  pub zero_is_empty : term (0 % F.characteristic) origin ≡ empty
  zero_is_empty = let zero_rank : 0 % F.characteristic ≡ 0 = omega (arith, (prime_bounds _ L.prime).0, mod_below 0 F.characteristic) in ap (λ c. term c origin) zero_rank ∙ term_zero L IsExponents-origin

  pub fine_negation : {f : Polynomial} → IsFine F f → IsFine F (negation F f)
  unfolding negation
  fine_negation {f} H =
      let P = IsPolynomial-negation L H.polynomial in
      record {
        polynomial = P;
        within = record {
          few = (let n = len_made (λ a. F.neg (coefficient f a)) (support f) in let all = length_support f in omega (arith, n, all, H.within.few));
          low = low_degree P (λ a A h. at a A (subst (λ n. 0 < n) (coefficient-negation L f a) h) (degree f) refl H.within.low);
        };
      }
    where
      above : (n : ℕ) → 0 < F.neg n → 0 < n
      above zero h = absurd (omega (arith, h, neg_zero_rank L))
      above (suc n) h = omega arith

      at : (a : List ℕ) → IsExponents a → 0 < F.neg (coefficient f a) → (o : Option ℕ) → degree f ≡ o → unwrap_or o 0 ≤ 1000 → total a ≤ 1000
      at a A h None e low = absurd (no_coefficient a (above (coefficient f a) h) e)
        where
          no_coefficient : (a : List ℕ) → 0 < coefficient f a → degree f ≡ None → ⊥
          no_coefficient a k none = let is_empty = ap (λ g. coefficient g a) (empty_from_degree L H.polynomial none) ∙ coefficient-empty a in omega (arith, k, is_empty)
      at a A h (Some n) e low = let bound = degree_bounds L H.polynomial e a A (above (coefficient f a) h) in omega (arith, bound, low)

  pub negation_empty : negation F empty ≡ empty
  negation_empty =
      let E = IsPolynomial-empty F in
      let N = IsPolynomial-negation L E in
      sym (sum_empty L N) ∙ sum_comm L N E ∙ sum_negation L E
