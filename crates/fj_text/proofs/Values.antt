-- Values of an expression: opposites, products and powers.
use Rattle.std.proofs.Common.{◌≡◌, ℕ, zero, suc, ◌+◌, ◌^◌, ◌<◌, ◌≤◌, Bool, true, false, cond, ltb, ◌||◌, List, [], ◌∷◌, length, set, slice_get, All, Option, Some, None, Result, Ok, Err, IfOk, refl, sym, ap, ◌∙◌, subst, arith, unwrap_or}
use Rattle.std.specs.FinMap.{len}
use Rattle.std.specs.Option.{option_and_then, IsSomeAnd}
use Rattle.std.proofs.lemmas.Bool.{lt-ltb}
use Rattle.std.proofs.lemmas.List.Elements.{All-head}
use Rattle.std.proofs.lemmas.Option.{same_Some}
use Rattle.fj_coeff.specs.Field.{Field, IsField}
use Rattle.fj_algebra.specs.Ring.{CommutativeRing}
use Rattle.fj_algebra.proofs.Ring.{neg_mul, one_mul}
use Rattle.fj_theory.specs.Exponents.{origin}
use Rattle.fj_theory.specs.MonomialOrder.{IsMonomialOrder}
use Rattle.fj_theory.specs.PointIdeal.{variable_exponents}
use Rattle.fj_theory.specs.Polynomial.{Polynomial, IsPolynomial, IsTerm, degree, negation, product, term, terms_falling}
use Rattle.fj_theory.proofs.Exponents.{IsExponents-origin}
use Rattle.fj_theory.proofs.Field.{one_below}
use Rattle.fj_theory.proofs.FormalSum.{same}
use Rattle.fj_theory.proofs.Polynomial.{polynomial_equal, coefficient-term, IsPolynomial-term}
use Rattle.fj_theory.proofs.PolynomialRing.{PolynomialOver, polynomial_ring, map_one, map_neg, map_mul, coefficient-negation, IsPolynomial-negation, neg_zero_rank}
use Rattle.fj_theory.proofs.Terms.{IsTerm-terms_falling, from_entries-terms_falling, length-terms_falling}
use Rattle.fj_poly.specs.Limit.{IsHigh}
use Rattle.fj_poly.proofs.Polynomials.{polynomial_of, polynomial_of-term}
use Rattle.fj_text.specs.Expression.{is_large, power_within, within}

module _ {F : Field} (L : IsField F) where
  One : IsPolynomial F (term 1 origin)
  One = IsPolynomial-term 1 (one_below L) IsExponents-origin

  term_neg_one : term (F.neg 1) origin ≡ negation F (term 1 origin)
  term_neg_one =
      polynomial_equal (IsPolynomial-term (F.neg 1) (L.neg_below 1 (one_below L)) IsExponents-origin) (IsPolynomial-negation L One)
      (λ a A. coefficient-term (F.neg 1) origin a ∙ by (same a origin) ∙ sym (coefficient-negation L (term 1 origin) a ∙ ap F.neg (coefficient-term 1 origin a)))
    where
      by : (s : Bool) → cond s (F.neg 1) 0 ≡ F.neg (cond s 1 0)
      by true = refl
      by false = sym (neg_zero_rank L)

  -- minus one times a polynomial is its opposite
  pub minus_one_times : {g : Polynomial} → IsPolynomial F g → product F (term (F.neg 1) origin) g ≡ negation F g
  minus_one_times {g} Q =
      let R : CommutativeRing (PolynomialOver F) = polynomial_ring L in
      let G : PolynomialOver F = record { map = g; is_polynomial = Q } in
      ap (λ h. product F h g) (term_neg_one ∙ ap (negation F) (sym (map_one L)) ∙ sym (map_neg L R.one))
      ∙ sym (map_mul L (R.neg R.one) G) ∙ ap (λ h. h.map) (neg_mul R R.one G ∙ ap R.neg (one_mul R G)) ∙ map_neg L G

pub or_true : (b : Bool) → (b || true) ≡ true
or_true true = refl
or_true false = refl

-- a polynomial above the limit of monomials is large
pub high_is_large : (f : Polynomial) → IsHigh f → within f ≡ None
unfolding is_large
high_is_large f high = by (degree f) high
  where
    by : (o : Option ℕ) → IsSomeAnd o (λ n. 2 ^ 40 < n) → cond (ltb 1000 (len f) || ltb 1000 (unwrap_or o 0)) None (Some f) ≡ None
    by None h = absurd h
    by (Some n) h = let above : ltb 1000 n ≡ true = lt-ltb 1000 n (omega arith) in rw (above, or_true (ltb 1000 (len f))) refl

-- a polynomial of one term
pub single_term : {F : Field} (L : IsField F) {key : List ℕ → List ℕ} (O : IsMonomialOrder key) {g : Polynomial} → IsPolynomial F g → len g ≡ 1 → (t : List ℕ × ℕ)
    → slice_get (terms_falling key g) 0 ≡ Some t → g ≡ term t.1 t.0
single_term {F} L {key} O {g} P one t first =
    let listed : terms_falling key g ≡ t ∷ [] = only (terms_falling key g) (length-terms_falling O P ∙ one) first in
    let positive : 0 < t.1 = (All-head (IsTerm F) t [] (subst (All (IsTerm F)) listed (IsTerm-terms_falling key P))).nonzero in
    sym (from_entries-terms_falling O P) ∙ ap polynomial_of listed ∙ polynomial_of-term L t.0 t.1 positive
  where
    only : (ts : List (List ℕ × ℕ)) → length ts ≡ 1 → slice_get ts 0 ≡ Some t → ts ≡ t ∷ []
    only [] e f = absurd (omega arith)
    only (u ∷ []) e f = ap (λ v. v ∷ []) (same_Some u t f)
    only (u ∷ v ∷ ts) e f = absurd (omega arith)

-- ---- powers

module _ (F : Field) (f : Polynomial) where
  pub power-none : power_within F f 0 ≡ Some (term 1 origin)
  unfolding power_within
  power-none = refl

  pub power-one : power_within F f 1 ≡ Some f
  unfolding power_within
  power-one = refl

  pub power-step : (n : ℕ) → power_within F f (suc (suc n)) ≡ option_and_then (λ g. within (product F g f)) (power_within F f (suc n))
  unfolding power_within
  power-step n = refl

  -- one more product
  pub power-more : (i : ℕ) (g : Polynomial) → 1 ≤ i → power_within F f i ≡ Some g → power_within F f (i + 1) ≡ within (product F g f)
  power-more zero g h e = absurd (omega arith)
  power-more (suc i) g h e =
      let next : suc i + 1 ≡ suc (suc i) = omega arith in
      ap (power_within F f) next ∙ power-step i ∙ ap (option_and_then (λ h. within (product F h f))) e

  -- where a product is large, there is no greater power
  pub power-large : (i d : ℕ) → 1 ≤ i → power_within F f i ≡ None → power_within F f (i + d) ≡ None
  power-large zero d h e = absurd (omega arith)
  power-large (suc i) zero h e = let same : suc i + 0 ≡ suc i = omega arith in ap (power_within F f) same ∙ e
  power-large (suc i) (suc d) h e =
      let next : suc i + suc d ≡ suc (suc (i + d)) = omega arith in
      let before : suc (i + d) ≡ suc i + d = omega arith in
      ap (power_within F f) next ∙ power-step (i + d) ∙ ap (option_and_then (λ h. within (product F h f))) (ap (power_within F f) before ∙ power-large (suc i) d h e)

-- what holds of each value with P holds of the value of a result
pub if_ok : {A E : Type 0} (r : Result A E) (P Q : A → Type 0) → ((x : A) → P x → Q x) → IfOk r P → IfOk r Q
if_ok (Ok x) P Q f h = f x h
if_ok (Err e) P Q f h = tt

-- the exponents of a variable
pub variable_is : (e : List ℕ) (place : ℕ) → e ≡ set (0 ∷ 0 ∷ 0 ∷ 0 ∷ 0 ∷ 0 ∷ 0 ∷ 0 ∷ []) place 1 → e ≡ variable_exponents place
unfolding variable_exponents origin
variable_is e place h = h

pub value_of_ok : {A E : Type 0} (r : Result A E) (x : A) (P : A → Type 0) → r ≡ Ok x → IfOk r P → P x
value_of_ok r x P e h = let Q : Result _ _ → Type 0 = λ u. IfOk u P in subst Q e h
