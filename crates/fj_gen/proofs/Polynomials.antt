-- The polynomial x^A + y^B of a generated session.
use Rattle.std.proofs.Common.{◌≡◌, ◌≢◌, ℕ, zero, suc, ◌*◌, ◌<◌, ◌≤◌, Bool, true, false, ◌||◌, cond, ltb, List, [], ◌∷◌, length, All, Contains, Some, nat_cmp, refl, sym, ap, ap₂, ◌∙◌, subst, arith, inl, inr, codes}
use Rattle.std.specs.Cmp.Lexicographic.{slice_cmp}
use Rattle.std.specs.FinMap.{find, from_entries, get, get-from_entries}
use Rattle.std.proofs.lemmas.Bool.{cases_Bool, lt-ltb}
use Rattle.std.proofs.lemmas.Cmp.{nat_list_cmp_total}
use Rattle.std.proofs.lemmas.List.Elements.{All-nil, All-cons}
use Rattle.fj_coeff.specs.Field.{Field, IsField, primes}
use Rattle.fj_coeff.specs.PrimeField.{prime_field}
use Rattle.fj_coeff.specs.PrimeFieldLaws.{IsField-prime_field}
use Rattle.fj_theory.specs.Exponents.{IsExponents, origin, times, total}
use Rattle.fj_theory.specs.MonomialOrder.{grevlex_key}
use Rattle.fj_theory.specs.PointIdeal.{variable_exponents}
use Rattle.fj_theory.specs.Polynomial.{Polynomial, IsPolynomial, IsTerm, power, sum, term, terms_falling}
use Rattle.fj_theory.proofs.Exponents.{IsExponents-times, heads_same, total-times}
use Rattle.fj_theory.proofs.Field.{one_below}
use Rattle.fj_theory.proofs.FormalSum.{same, same_false, same_itself, same_true}
use Rattle.fj_theory.proofs.Keys.{grevlex_key-IsMonomialOrder}
use Rattle.fj_theory.proofs.Polynomial.{IsPolynomial-term}
use Rattle.fj_theory.proofs.Terms.{IsPolynomial-from_entries, find-terms_falling, length-terms_falling}
use Rattle.fj_text.specs.declared.scope.Meaning.TheVariants as meanings
use Rattle.fj_text.specs.Grammar as grammar
use Rattle.fj_text.specs.Grammar.{IsExpression, IsFactor, IsWithinLimits}
use Rattle.fj_text.specs.Reading.{meaning_among}
use Rattle.fj_text.specs.Token.{Word, Number, Sign, caret, plus}
use Rattle.fj_text.proofs.Grammars.{power-small, within-small}
use Rattle.fj_text.proofs.SmallPolynomials.{not_large, power_within_small, single, sum_push, within_small}
use Rattle.fj_script.specs.Session.{Terms, is_nonconstant}

abbrev pub xy : List (List ℕ)
xy = codes "x" ∷ codes "y" ∷ []

-- A term of degree 1 or more is among the terms.
found_nonconstant : (ts : Terms) (q : List ℕ) (c : ℕ) → 0 < total q → find (slice_cmp nat_cmp) q ts ≡ Some c → is_nonconstant ts ≡ true
found_nonconstant [] q c positive found = absurd cc
found_nonconstant (t ∷ ts) q c positive found = by (same q t.0) refl (found_nonconstant ts q c positive) found
  where
    by : (s : Bool) → same q t.0 ≡ s → (find (slice_cmp nat_cmp) q ts ≡ Some c → is_nonconstant ts ≡ true) → cond s (Some t.1) (find (slice_cmp nat_cmp) q ts) ≡ Some c → (ltb 0 (total t.0) || is_nonconstant ts) ≡ true
    by true e later h = let here : ltb 0 (total t.0) ≡ true = lt-ltb _ _ (subst (λ a. 0 < total a) (same_true q t.0 e) positive) in rw here refl
    by false e later h = elim (cases_Bool (ltb 0 (total t.0))) [ inl here ↦ rw here refl | inr other ↦ rw (other, later h) refl ]

-- ---- the variables

exponents_x : IsExponents (variable_exponents 0)
unfolding variable_exponents origin
exponents_x = record { eight = refl }

exponents_y : IsExponents (variable_exponents 1)
unfolding variable_exponents origin
exponents_y = record { eight = refl }

total_x : total (variable_exponents 0) ≡ 1
unfolding variable_exponents origin
total_x = refl

total_y : total (variable_exponents 1) ≡ 1
unfolding variable_exponents origin
total_y = refl

apart : (a b : ℕ) → 0 < a → times a (variable_exponents 0) ≢ times b (variable_exponents 1)
unfolding times variable_exponents origin
apart a b some e = let first : a * 1 ≡ b * 0 = heads_same e in absurd (omega (arith, first))

module _ {p : ℕ} (prime : Contains primes p) where
  abbrev F : Field
  F = prime_field p

  L : IsField F
  L = IsField-prime_field p prime

  -- The power of a variable, as it is read.
  record IsPower (i : ℕ) (w : List ℕ) (k : ℕ) : Type 0 where
    value : power F (term 1 (variable_exponents i)) k ≡ term 1 (times k (variable_exponents i))
    factor : IsFactor F (meaning_among xy) 64 (Word w ∷ Sign caret ∷ Number k ∷ []) (power F (term 1 (variable_exponents i)) k)

  power_of : (i : ℕ) (w : List ℕ) → meaning_among xy w ≡ meanings.Variable i → IsExponents (variable_exponents i) → total (variable_exponents i) ≡ 1 → (k : ℕ) → 0 < k → k ≤ 1000 → IsPower i w k
  power_of i w known E one zero some low = absurd (omega arith)
  power_of i w known E one (suc k) some low =
      let v = variable_exponents i in
      let P : IsPolynomial F (term 1 v) = IsPolynomial-term 1 (one_below L) E in
      let fits : suc k * total v ≤ 1000 = subst (λ t. suc k * t ≤ 1000) (sym one) (omega arith) in
      let small = power-small L P (suc k) (term 1 (times (suc k) v)) (power_within_small L k v E fits) in
      record { value = sym small.0; factor = grammar.raised (grammar.word known) low small.1 }

  module _ (a b : ℕ) (some_a : 0 < a) (low_a : a ≤ 1000) (low_b : b ≤ 1000) where
    abbrev top : List ℕ
    top = times a (variable_exponents 0)

    abbrev other : List ℕ
    other = times b (variable_exponents 1)

    abbrev both : List (List ℕ × ℕ)
    both = (top, 1) ∷ (other, 1) ∷ []

    abbrev pub curve : Polynomial
    curve = sum F (power F (term 1 (variable_exponents 0)) a) (power F (term 1 (variable_exponents 1)) b)

    is_top : IsTerm F (top, 1)
    is_top = record { exponents = IsExponents-times a exponents_x; nonzero = omega arith; below = one_below L }

    is_other : IsTerm F (other, 1)
    is_other = record { exponents = IsExponents-times b exponents_y; nonzero = omega arith; below = one_below L }

    are_terms : All (IsTerm F) both
    are_terms = All-cons (IsTerm F) (top, 1) ((other, 1) ∷ []) is_top (All-cons (IsTerm F) (other, 1) [] is_other (All-nil (IsTerm F)))

    total_top : total top ≡ a
    total_top = total-times a (variable_exponents 0) ∙ ap (λ t. a * t) total_x ∙ omega arith

    total_other : total other ≡ b
    total_other = total-times b (variable_exponents 1) ∙ ap (λ t. b * t) total_y ∙ omega arith

    are_low : All (λ t. total t.0 ≤ 1000) both
    are_low =
        All-cons (λ (t : List ℕ × ℕ). total t.0 ≤ 1000) (top, 1) ((other, 1) ∷ []) (omega (arith, total_top, low_a))
        (All-cons (λ (t : List ℕ × ℕ). total t.0 ≤ 1000) (other, 1) [] (omega (arith, total_other, low_b)) (All-nil (λ (t : List ℕ × ℕ). total t.0 ≤ 1000)))

    added : (some_b : 0 < b) → curve ≡ from_entries both
    added some_b =
        let x = power_of 0 (codes "x") refl exponents_x total_x a some_a low_a in
        let y = power_of 1 (codes "y") refl exponents_y total_y b some_b low_b in
        let fresh : same other top ≡ false = same_false other top (λ e. apart a b some_a (sym e)) in
        ap₂ (sum F) (x.value ∙ sym (single L (top, 1) is_top)) y.value
        ∙ sum_push L ((top, 1) ∷ []) (other, 1) (All-cons (IsTerm F) (top, 1) [] is_top (All-nil (IsTerm F))) is_other
        (All-cons (λ (u : List ℕ × ℕ). same other u.0 ≡ false) (top, 1) [] fresh (All-nil (λ (u : List ℕ × ℕ). same other u.0 ≡ false)))

    -- The expression x^a+y^b, and what its terms are like.
    pub record IsCurve : Type 0 where
      pub expression : IsExpression F (meaning_among xy) 64 (Word (codes "x") ∷ Sign caret ∷ Number a ∷ Sign plus ∷ Word (codes "y") ∷ Sign caret ∷ Number b ∷ []) curve
      pub few : length (terms_falling grevlex_key curve) ≤ 1000
      pub nonconstant : is_nonconstant (terms_falling grevlex_key curve) ≡ true

    pub is_curve : 0 < b → IsCurve
    is_curve some_b =
        let x = power_of 0 (codes "x") refl exponents_x total_x a some_a low_a in
        let y = power_of 1 (codes "y") refl exponents_y total_y b some_b low_b in
        let is = added some_b in
        let limits : IsWithinLimits curve = subst IsWithinLimits (sym is) (within-small (from_entries both) (from_entries both) (within_small (from_entries both) (not_large L both are_terms (omega arith) are_low))).1 in
        let P : IsPolynomial F curve = subst (IsPolynomial F) (sym is) (IsPolynomial-from_entries both are_terms) in
        let here : find (slice_cmp nat_cmp) top both ≡ Some 1 = ap (λ s. cond s (Some 1) (find (slice_cmp nat_cmp) top ((other, 1) ∷ []))) (same_itself top) in
        let found : find (slice_cmp nat_cmp) top (terms_falling grevlex_key curve) ≡ Some 1 =
        find-terms_falling grevlex_key-IsMonomialOrder P top ∙ ap (λ f. get f top) is ∙ get-from_entries nat_list_cmp_total both top ∙ here in
        record {
          expression = grammar.add (grammar.first (grammar.factor x.factor)) (grammar.factor y.factor) limits;
          few = omega (arith, length-terms_falling grevlex_key-IsMonomialOrder P, limits.few);
          nonconstant = found_nonconstant (terms_falling grevlex_key curve) top 1 (omega (arith, total_top, some_a)) found;
        }
