-- Polynomials over a field in the first variables, of degree at most 1,000, and how they are formed.
use Rattle.std.proofs.Common.{◌≡◌, ℕ, zero, suc, ◌<◌, ◌≤◌, Bool, true, false, true≢false, cond, ◌||◌, ltb-false, length-set, get_or-set_other, List, [], ◌∷◌, get_or, All, Option, Some, None, unwrap_or, refl, ap, ◌∙◌, subst, arith}
use Rattle.std.specs.List.{list_any}
use Rattle.std.specs.Option.{option_and_then}
use Rattle.std.proofs.lemmas.Cmp.{eq_by_cmp_equiv, nat_list_cmp_total}
use Rattle.std.proofs.lemmas.Map.Made.{All-is_member}
use Rattle.std.proofs.lemmas.Option.{none-some, same_Some}
use Rattle.std.proofs.lemmas.List.Elements.{All-nil, All-cons, All-weaker}
use Rattle.fj_coeff.specs.Field.{Field, IsField}
use Rattle.fj_theory.specs.Exponents.{IsExponents, origin, plus, total}
use Rattle.fj_theory.specs.PointIdeal.{UsesFirst, variable_exponents}
use Rattle.fj_theory.specs.Polynomial.{Polynomial, IsPolynomial, coefficient, degree, negation, product, sum, support, term}
use Rattle.fj_theory.proofs.Exponents.{IsExponents-origin, total_origin}
use Rattle.fj_theory.proofs.Field.{one_below}
use Rattle.fj_theory.proofs.FormalSum.{same}
use Rattle.fj_theory.proofs.Degree.{degree_bounds, empty_from_degree}
use Rattle.fj_theory.proofs.Polynomial.{All_same, IsPolynomial-sum, IsPolynomial-term, coefficient-empty, support-with_coefficients, support_found, support_listed}
use Rattle.fj_theory.proofs.PolynomialRing.{IsPolynomial-negation}
use Rattle.fj_theory.proofs.Product.{IsPolynomial-product}
use Rattle.fj_theory.proofs.Plain.{within-product, within-sum}
use Rattle.fj_text.specs.Expression.{is_large, power_within, within}
use Rattle.fj_text.proofs.FirstVariables.{AreZeroFrom}

pub record IsSmallIn (F : Field) (n : ℕ) (f : Polynomial) : Type 0 where
  pub polynomial : IsPolynomial F f
  pub first : All (AreZeroFrom n) (support f)
  pub low : All (λ a. total a ≤ 1000) (support f)

-- What holds of the exponents of all terms holds where there is a coefficient.
pub at_coefficient : (P : List ℕ → Type 0) (f : Polynomial) → All P (support f) → (a : List ℕ) → 0 < coefficient f a → P a
at_coefficient P f all a h = All_same P (support f) a all (support_listed f a h)

pub uses_first_of : (n : ℕ) (f : Polynomial) → All (AreZeroFrom n) (support f) → UsesFirst n f
uses_first_of n f all = record { later = at_coefficient (AreZeroFrom n) f all }

-- What holds where there is a coefficient holds of the exponents of all terms.
at_support : {F : Field} (P : List ℕ → Type 0) {f : Polynomial} → IsPolynomial F f → ((a : List ℕ) → IsExponents a → 0 < coefficient f a → P a) → All P (support f)
at_support P {f} Q each =
    All-weaker (λ a. list_any (same a) (support f) ≡ true) P
    (λ a t. let found = support_found f a t in each a (Q.exponents a _ found) (Q.nonzero a _ found))
    (support f) (All-is_member (eq_by_cmp_equiv nat_list_cmp_total) (support f))

single : (P : List ℕ → Type 0) (a : List ℕ) → P a → All P (a ∷ [])
single P a h = All-cons P a [] h (All-nil P)

pub variable_low : (i : ℕ) → total (variable_exponents i) ≤ 1000
unfolding variable_exponents origin
variable_low zero = omega arith
variable_low (suc zero) = omega arith
variable_low (suc (suc zero)) = omega arith
variable_low (suc (suc (suc zero))) = omega arith
variable_low (suc (suc (suc (suc zero)))) = omega arith
variable_low (suc (suc (suc (suc (suc zero))))) = omega arith
variable_low (suc (suc (suc (suc (suc (suc zero)))))) = omega arith
variable_low (suc (suc (suc (suc (suc (suc (suc zero))))))) = omega arith
variable_low (suc (suc (suc (suc (suc (suc (suc (suc i)))))))) = omega arith

origin_at : (i : ℕ) → get_or origin i 0 ≡ 0
unfolding origin
origin_at zero = refl
origin_at (suc zero) = refl
origin_at (suc (suc zero)) = refl
origin_at (suc (suc (suc zero))) = refl
origin_at (suc (suc (suc (suc zero)))) = refl
origin_at (suc (suc (suc (suc (suc zero))))) = refl
origin_at (suc (suc (suc (suc (suc (suc zero)))))) = refl
origin_at (suc (suc (suc (suc (suc (suc (suc zero))))))) = refl
origin_at (suc (suc (suc (suc (suc (suc (suc (suc i)))))))) = refl

pub or_false : (a b : Bool) → (a || b) ≡ false → b ≡ false
or_false true b h = absurd (true≢false h)
or_false false b h = h

pub variable_eight : (i : ℕ) → IsExponents (variable_exponents i)
unfolding variable_exponents origin
variable_eight i = record { eight = length-set origin i 1 }

variable_first : (n i : ℕ) → i < n → AreZeroFrom n (variable_exponents i)
unfolding variable_exponents
variable_first n i h j k = get_or-set_other origin i j 1 0 (λ e. absurd (omega (arith, h, k, e))) ∙ origin_at j

module _ {F : Field} (L : IsField F) (n : ℕ) where
  pub term_small : (c : ℕ) (a : List ℕ) → c < F.size → IsExponents a → AreZeroFrom n a → total a ≤ 1000 → IsSmallIn F n (term c a)
  unfolding term
  term_small c a below A first low = record {
    polynomial = IsPolynomial-term c below A;
    first = support-with_coefficients (λ _. c) (AreZeroFrom n) (a ∷ []) (single (AreZeroFrom n) a first);
    low = support-with_coefficients (λ _. c) (λ b. total b ≤ 1000) (a ∷ []) (single (λ b. total b ≤ 1000) a low);
  }

  pub constant_small : (c : ℕ) → c < F.size → IsSmallIn F n (term c origin)
  constant_small c below = term_small c origin below IsExponents-origin (λ i h. origin_at i) (omega (arith, total_origin))

  pub variable_small : (i : ℕ) → i < n → IsSmallIn F n (term 1 (variable_exponents i))
  variable_small i h = term_small 1 (variable_exponents i) (one_below L) (variable_eight i) (variable_first n i h) (variable_low i)

  pub negation_small : {f : Polynomial} → IsSmallIn F n f → IsSmallIn F n (negation F f)
  unfolding negation
  negation_small {f} H = record {
    polynomial = IsPolynomial-negation L H.polynomial;
    first = support-with_coefficients (λ a. F.neg (coefficient f a)) (AreZeroFrom n) (support f) H.first;
    low = support-with_coefficients (λ a. F.neg (coefficient f a)) (λ b. total b ≤ 1000) (support f) H.low;
  }

  pub sum_small : {f g : Polynomial} → IsSmallIn F n f → IsSmallIn F n g → IsSmallIn F n (sum F f g)
  sum_small {f} {g} H K = record {
    polynomial = IsPolynomial-sum L H.polynomial K.polynomial;
    first = within-sum (AreZeroFrom n) F f g H.first K.first;
    low = within-sum (λ b. total b ≤ 1000) F f g H.low K.low;
  }

  -- sums of zeros
  plus_at : (a b : List ℕ) (i : ℕ) → get_or a i 0 ≡ 0 → get_or b i 0 ≡ 0 → get_or (plus a b) i 0 ≡ 0
  unfolding plus
  plus_at [] b i h k = refl
  plus_at (x ∷ a) [] i h k = refl
  plus_at (x ∷ a) (y ∷ b) zero h k = omega (arith, h, k)
  plus_at (x ∷ a) (y ∷ b) (suc i) h k = plus_at a b i h k

  -- A polynomial that isn't large has a degree of at most 1,000.
  degree_low : {f : Polynomial} → IsPolynomial F f → (o : Option ℕ) → degree f ≡ o → unwrap_or o 0 ≤ 1000 → (a : List ℕ) → IsExponents a → 0 < coefficient f a → total a ≤ 1000
  degree_low {f} P None e h a A c = let z = ap (λ g. coefficient g a) (empty_from_degree L P e) ∙ coefficient-empty a in absurd (omega arith)
  degree_low P (Some m) e h a A c = let b = degree_bounds L P e a A c in omega arith

  not_large_low : {f : Polynomial} → IsPolynomial F f → is_large f ≡ false → All (λ a. total a ≤ 1000) (support f)
  unfolding is_large
  not_large_low {f} P h = at_support (λ a. total a ≤ 1000) P (degree_low P (degree f) refl (ltb-false _ _ (or_false _ _ h)))

  -- A product that isn't large.
  pub product_small : {f g h : Polynomial} → IsSmallIn F n f → IsSmallIn F n g → within (product F f g) ≡ Some h → IsSmallIn F n h
  product_small {f} {g} {h} H K = by (is_large (product F f g)) refl
    where
      by : (t : Bool) → is_large (product F f g) ≡ t → cond t None (Some (product F f g)) ≡ Some h → IsSmallIn F n h
      by true e found = absurd (none-some _ found)
      by false e found =
          let P = IsPolynomial-product L H.polynomial K.polynomial in
          subst (IsSmallIn F n) (same_Some _ _ found) (record {
            polynomial = P;
            first = within-product (AreZeroFrom n) F f g (All-weaker (AreZeroFrom n) (λ b. All (λ c. AreZeroFrom n (plus b c)) (support g)) (λ b hb. All-weaker (AreZeroFrom n) (λ c. AreZeroFrom n (plus b c)) (λ c hc. (λ i l. plus_at b c i (hb i l) (hc i l))) (support g) K.first) (support f) H.first);
            low = not_large_low P e;
          })

  pub within_small : {f h : Polynomial} → IsSmallIn F n f → within f ≡ Some h → IsSmallIn F n h
  within_small {f} {h} H = by (is_large f)
    where
      by : (t : Bool) → cond t None (Some f) ≡ Some h → IsSmallIn F n h
      by true found = absurd (none-some _ found)
      by false found = subst (IsSmallIn F n) (same_Some _ _ found) H

  pub power_small : {f : Polynomial} → IsSmallIn F n f → (k : ℕ) {h : Polynomial} → power_within F f k ≡ Some h → IsSmallIn F n h
  unfolding power_within
  power_small H zero found = subst (IsSmallIn F n) (same_Some _ _ found) (constant_small 1 (one_below L))
  power_small H (suc zero) found = subst (IsSmallIn F n) (same_Some _ _ found) H
  power_small {f} H (suc (suc k)) {h} found = by (λ g e. power_small H (suc k) e) (power_within F f (suc k)) refl found
    where
      by : ((g : Polynomial) → power_within F f (suc k) ≡ Some g → IsSmallIn F n g) → (o : Option Polynomial) → power_within F f (suc k) ≡ o → option_and_then (λ g. within (product F g f)) o ≡ Some h → IsSmallIn F n h
      by before None e found = absurd (none-some _ found)
      by before (Some g) e found = product_small (before g e) H found
