-- Values of the grammar of expressions.
use Rattle.std.proofs.Common.{◌≡◌, ℕ, zero, suc, ◌%◌, ◌<◌, ◌≤◌, Bool, true, false, cond, ltb, ◌||◌, List, Option, Some, None, refl, sym, ap, ◌∙◌, subst, arith, unwrap_or, inl, inr, ◌⊎◌, ⊎_elim}
use Rattle.std.specs.FinMap.{len}
use Rattle.std.specs.Option.{option_and_then}
use Rattle.std.proofs.lemmas.List.{length-set}
use Rattle.std.proofs.lemmas.Bool.{cases_lt, ltb-false, le-ltb}
use Rattle.std.proofs.lemmas.Nat.{mod_below}
use Rattle.fj_coeff.specs.Field.{Field, IsField}
use Rattle.fj_coeff.specs.PrimeFieldLaws.{prime_bounds}
use Rattle.fj_theory.specs.Exponents.{IsExponents, origin}
use Rattle.fj_theory.specs.PointIdeal.{variable_exponents}
use Rattle.fj_theory.specs.Polynomial.{Polynomial, IsPolynomial, degree, power, product}
use Rattle.fj_theory.proofs.Exponents.{IsExponents-origin}
use Rattle.fj_theory.proofs.Field.{one_below}
use Rattle.fj_theory.proofs.Polynomial.{IsPolynomial-sum, IsPolynomial-term}
use Rattle.fj_theory.proofs.PolynomialRing.{IsPolynomial-negation, IsPolynomial-power, power_zero, power_suc, power_first, product_comm}
use Rattle.fj_theory.proofs.Product.{IsPolynomial-product}
use Rattle.fj_text.specs.declared.scope.Meaning.{Meaning}
use Rattle.fj_text.specs.Expression.{is_large, power_within, within}
use Rattle.fj_text.specs.Grammar as grammar
use Rattle.fj_text.specs.Grammar.{IsAtom, IsExpression, IsFactor, IsWithinLimits, IsTerm}
use Rattle.fj_text.specs.Token.{Token}

last_or : (i k : ℕ) → i ≤ suc k → (i ≡ suc k) ⊎ (i ≤ k)
last_or i k h = ⊎_elim (λ less. inr (omega arith)) (λ up. inl (omega arith)) (cases_lt i (suc k))

neither : (a b : Bool) → (a || b) ≡ false → (a ≡ false) × (b ≡ false)
neither true b e = absurd cc
neither false b e = (refl, e)

-- the values that are not large
pub small-within : (f : Polynomial) → IsWithinLimits f → within f ≡ Some f
unfolding is_large
small-within f h =
    let few : ltb 1000 (len f) ≡ false = le-ltb _ _ h.few in
    let low : ltb 1000 (unwrap_or (degree f) 0) ≡ false = le-ltb _ _ h.low in
    rw (few, low) refl

some_same : {A : Type 0} (x y : A) → ◌≡◌ {A = Option A} (Some x) (Some y) → x ≡ y
some_same x y e = cc

pub within-small : (f g : Polynomial) → within f ≡ Some g → (f ≡ g) × IsWithinLimits f
unfolding is_large
within-small f g = by (ltb 1000 (len f) || ltb 1000 (unwrap_or (degree f) 0)) refl
  where
    by : (b : Bool) → (ltb 1000 (len f) || ltb 1000 (unwrap_or (degree f) 0)) ≡ b → cond b None (Some f) ≡ Some g → (f ≡ g) × IsWithinLimits f
    by true e h = absurd cc
    by false e h = let both = neither _ _ e in (some_same f g h, record { few = ltb-false _ _ both.0; low = ltb-false _ _ both.1 })

module _ {F : Field} (L : IsField F) where
  module _ {f : Polynomial} (P : IsPolynomial F f) where
    more-is : (k : ℕ) → product F (power F f (suc k)) f ≡ power F f (suc (suc k))
    more-is k = product_comm L (IsPolynomial-power L P (suc k)) P ∙ sym (power_suc L P (suc k))

    -- the products for a power are its powers
    pub power-small : (k : ℕ) (g : Polynomial) → power_within F f k ≡ Some g → (g ≡ power F f k) × ((i : ℕ) → 2 ≤ i → i ≤ k → IsWithinLimits (power F f i))
    unfolding power_within
    power-small zero g e = (sym (some_same _ _ e) ∙ sym (power_zero L P), λ i h k. absurd (omega arith))
    power-small (suc zero) g e = (sym (some_same _ _ e) ∙ sym (power_first L P), λ i h k. absurd (omega arith))
    power-small (suc (suc k)) g e = by (power_within F f (suc k)) refl (λ h. power-small (suc k) h) e
      where
        by : (o : Option Polynomial) → power_within F f (suc k) ≡ o → ((h : Polynomial) → power_within F f (suc k) ≡ Some h → (h ≡ power F f (suc k)) × ((i : ℕ) → 2 ≤ i → i ≤ suc k → IsWithinLimits (power F f i)))
            → option_and_then (λ h. within (product F h f)) o ≡ Some g → (g ≡ power F f (suc (suc k))) × ((i : ℕ) → 2 ≤ i → i ≤ suc (suc k) → IsWithinLimits (power F f i))
        by None is before ok = absurd cc
        by (Some h) is before ok =
            let earlier = before h is in
            let now = within-small (product F h f) g ok in
            let value : product F h f ≡ power F f (suc (suc k)) = ap (λ u. product F u f) earlier.0 ∙ more-is k in (
              sym now.0 ∙ value,
              λ i two up. ⊎_elim (λ e. subst (λ n. IsWithinLimits (power F f n)) (sym e) (subst IsWithinLimits value now.1)) (λ less. earlier.1 i two less) (last_or i (suc k) up),
            )

    pub small-power : (k : ℕ) → ((i : ℕ) → 2 ≤ i → i ≤ k → IsWithinLimits (power F f i)) → power_within F f k ≡ Some (power F f k)
    unfolding power_within
    small-power zero h = ap (λ g. Some g) (sym (power_zero L P))
    small-power (suc zero) h = ap (λ g. Some g) (sym (power_first L P))
    small-power (suc (suc k)) h =
        ap (option_and_then (λ g. within (product F g f))) (small-power (suc k) (λ i two up. h i two (omega arith)))
        ∙ ap within (more-is k) ∙ small-within _ (h (suc (suc k)) (omega arith) (omega arith))

  -- ---- each value is a polynomial

  constant-below : (n : ℕ) → n % F.characteristic < F.size
  constant-below n = omega (arith, (prime_bounds _ L.prime).0, L.characteristic_fits, mod_below n F.characteristic)

  IsExponents-variable : (i : ℕ) → IsExponents (variable_exponents i)
  unfolding variable_exponents
  IsExponents-variable i = record { eight = length-set origin i 1 ∙ IsExponents-origin.eight }

  module _ (meaning : List ℕ → Meaning) where
    mutual
      pub IsPolynomial-atom : {depth : ℕ} {ts : List Token} {f : Polynomial} → IsAtom F meaning depth ts f → IsPolynomial F f
      IsPolynomial-atom (grammar.number {depth} {n} h) = IsPolynomial-term (n % F.characteristic) (constant-below n) IsExponents-origin
      IsPolynomial-atom (grammar.word {depth} {i} {w} h) = IsPolynomial-term 1 (one_below L) (IsExponents-variable i)
      IsPolynomial-atom (grammar.parentheses d) = IsPolynomial-expression d

      pub IsPolynomial-factor : {depth : ℕ} {ts : List Token} {f : Polynomial} → IsFactor F meaning depth ts f → IsPolynomial F f
      IsPolynomial-factor (grammar.atom d) = IsPolynomial-atom d
      IsPolynomial-factor (grammar.raised {depth} {k} d few h) = IsPolynomial-power L (IsPolynomial-atom d) k

      pub IsPolynomial-factors : {depth : ℕ} {ts : List Token} {f : Polynomial} → IsTerm F meaning depth ts f → IsPolynomial F f
      IsPolynomial-factors (grammar.factor d) = IsPolynomial-factor d
      IsPolynomial-factors (grammar.times d e h) = IsPolynomial-product L (IsPolynomial-factors d) (IsPolynomial-factor e)

      pub IsPolynomial-expression : {depth : ℕ} {ts : List Token} {f : Polynomial} → IsExpression F meaning depth ts f → IsPolynomial F f
      IsPolynomial-expression (grammar.first d) = IsPolynomial-factors d
      IsPolynomial-expression (grammar.negative d) = IsPolynomial-negation L (IsPolynomial-factors d)
      IsPolynomial-expression (grammar.add d e h) = IsPolynomial-sum L (IsPolynomial-expression d) (IsPolynomial-factors e)
      IsPolynomial-expression (grammar.less d e h) = IsPolynomial-sum L (IsPolynomial-expression d) (IsPolynomial-negation L (IsPolynomial-factors e))
