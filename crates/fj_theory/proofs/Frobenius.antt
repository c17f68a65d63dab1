-- Characteristic p of the polynomials, and the coefficients of p^e-th powers.
use Rattle.std.proofs.Common.{◌≡◌, ◌≢◌, ℕ, zero, suc, ◌^◌, ◌<◌, Bool, true, false, cond, List, All, Contains, refl, sym, ap, ap₂, ◌∙◌, subst, arith, mul-pos, pow-suc}
use Rattle.std.specs.FinMap.{empty}
use Rattle.std.proofs.Math.Nat.{pow-zero}
use Rattle.std.proofs.lemmas.Bool.{true≢false}
use Rattle.std.proofs.lemmas.List.Elements.{All-from_recursion, All-contains}
use Rattle.fj_coeff.specs.Field.{Field, IsField, primes}
use Rattle.fj_coeff.specs.Field as field
use Rattle.fj_algebra.specs.Frobenius.{HasCharacteristic, IsTablePrime, table_primes, IsFrobenius}
use Rattle.fj_algebra.specs.Power as ring
use Rattle.fj_algebra.specs.Ring.{CommutativeRing}
use Rattle.fj_algebra.proofs.Frobenius.{IsFrobenius-power}
use Rattle.fj_algebra.proofs.Sum.{sum_over-RingMap, sum_over-same, sum_over-zero}
use Rattle.fj_theory.specs.Exponents.{origin, times}
use Rattle.fj_theory.specs.Polynomial.{Polynomial, IsPolynomial, coefficient, term, sum, power}
use Rattle.fj_theory.proofs.Exponents.{IsExponents-origin, times_cancel}
use Rattle.fj_theory.proofs.Field.{Element, element_equal, element, rank_element, field_ring, zero_below, one_below, rank_zero, rank_one, characteristic_large}
use Rattle.fj_theory.proofs.FormalSum.{same, same_true, same_itself, same_false, weigh, at_exponents, coefficient_in, IsAdditive, at_exponents-IsAdditive}
use Rattle.fj_theory.proofs.Polynomial.{coefficient_below, IsPolynomial-term}
use Rattle.fj_theory.proofs.Product.{K, terms, coefficient_in-terms, weigh-sum}
use Rattle.fj_theory.proofs.PolynomialRing.{PolynomialOver, over_equal, polynomial_ring, map_zero, map_one, map_add, map_power, weigh-empty, weigh-term, IsPolynomial-power}
use Rattle.fj_theory.proofs.Monomial.{rank_multiple, power_below, multiple_below, element_power, term_zero, sum_terms, power_term, polynomial_induction}

pow_positive : (m k : ℕ) → 0 < m → 0 < m ^ k
pow_positive m zero h = subst (λ n. 0 < n) (sym (pow-zero m)) (omega arith)
pow_positive m (suc k) h = subst (λ n. 0 < n) (sym (pow-suc m k)) (mul-pos (pow_positive m k h) h)

pub same-times : (q : ℕ) (a b : List ℕ) → 0 < q → same (times q a) (times q b) ≡ same a b
same-times q a b h = by (same a b) refl
  where
    by : (s : Bool) → same a b ≡ s → same (times q a) (times q b) ≡ s
    by true e = ap (λ c. same (times q a) (times q c)) (sym (same_true a b e)) ∙ same_itself (times q a)
    by false e = same_false (times q a) (times q b) (λ d. true≢false (sym (same_itself a) ∙ ap (same a) (times_cancel q a b h d) ∙ e))

primes_in_table : All (λ p. Contains table_primes p) primes
unfolding primes
primes_in_table = All-from_recursion (λ p. Contains table_primes p) primes
    ((0, omega arith, refl), ((1, omega arith, refl), ((2, omega arith, refl), ((3, omega arith, refl), ((4, omega arith, refl), ((5, omega arith, refl), ((6, omega arith, refl), ((7, omega arith, refl), ((8, omega arith, refl), ((9, omega arith, refl), ((10, omega arith, refl), tt)))))))))))

module _ {F : Field} (L : IsField F) where
  -- The characteristic is a prime of the table.
  pub characteristic-IsTablePrime : IsTablePrime F.characteristic
  characteristic-IsTablePrime = record { listed = All-contains (λ p. Contains table_primes p) primes F.characteristic primes_in_table L.prime }

  -- The sum of p ones is zero, in the field and among the polynomials.
  pub field-HasCharacteristic : HasCharacteristic (field_ring L) F.characteristic
  field-HasCharacteristic = record {
    vanishes = element_equal _ _ (rank_multiple L (field_ring L).one F.characteristic ∙ ap (field.multiple F F.characteristic) (rank_one L) ∙ L.multiple_characteristic ∙ sym (rank_zero L));
  }

  multiple_one : (n : ℕ) → (ring.multiple (polynomial_ring L) n (polynomial_ring L).one).map ≡ term (field.multiple F n 1) origin
  unfolding ring.multiple field.multiple
  multiple_one zero = map_zero L ∙ sym (term_zero L IsExponents-origin)
  multiple_one (suc n) =
      map_add L _ _ ∙ ap₂ (sum F) (map_one L) (multiple_one n)
      ∙ sum_terms L 1 (field.multiple F n 1) (one_below L) (multiple_below L 1 n (one_below L)) IsExponents-origin

  pub polynomial-HasCharacteristic : HasCharacteristic (polynomial_ring L) F.characteristic
  polynomial-HasCharacteristic = record {
    vanishes = over_equal _ _ (multiple_one F.characteristic ∙ ap (λ c. term c origin) L.multiple_characteristic ∙ term_zero L IsExponents-origin ∙ sym (map_zero L));
  }

  -- Taking p^e-th powers is a ring map, of the field and of the polynomials.
  pub field-IsFrobenius : (e : ℕ) → IsFrobenius (field_ring L) (F.characteristic ^ e)
  field-IsFrobenius e = IsFrobenius-power (field_ring L) field-HasCharacteristic characteristic-IsTablePrime e

  pub polynomial-IsFrobenius : (e : ℕ) → IsFrobenius (polynomial_ring L) (F.characteristic ^ e)
  polynomial-IsFrobenius e = IsFrobenius-power (polynomial_ring L) polynomial-HasCharacteristic characteristic-IsTablePrime e

  pub power_sum : {f g : Polynomial} → IsPolynomial F f → IsPolynomial F g → (e : ℕ)
      → power F (sum F f g) (F.characteristic ^ e) ≡ sum F (power F f (F.characteristic ^ e)) (power F g (F.characteristic ^ e))
  power_sum {f} {g} P Q e =
      let q : ℕ = F.characteristic ^ e in
      let x : PolynomialOver F = record { map = f; is_polynomial = P } in
      let y : PolynomialOver F = record { map = g; is_polynomial = Q } in
      ap (λ h. power F h q) (sym (map_add L x y)) ∙ sym (map_power L ((polynomial_ring L).add x y) q)
      ∙ ap (λ h. h.map) ((polynomial-IsFrobenius e).ring_map.keeps_add x y)
      ∙ map_add L _ _ ∙ ap₂ (sum F) (map_power L x q) (map_power L y q)

  pub power_empty : (e : ℕ) → power F empty (F.characteristic ^ e) ≡ empty
  power_empty e =
      let q : ℕ = F.characteristic ^ e in
      ap (λ h. power F h q) (sym (map_zero L)) ∙ sym (map_power L (polynomial_ring L).zero q)
      ∙ ap (λ h. h.map) ((polynomial-IsFrobenius e).ring_map.keeps_zero) ∙ map_zero L

  -- The p^e-th power of a polynomial as a formal sum: the exponents are multiplied, and the coefficients taken to the power.
  module _ (e : ℕ) where
    abbrev pub raise : Element F → Element F
    raise x = ring.power (field_ring L) x (F.characteristic ^ e)

    module _ {B : Type 0} {S : CommutativeRing B} {w : List ℕ → Element F → B} (W : IsAdditive (K L) S w) where
      raised : IsAdditive (K L) S (λ a x. w (times (F.characteristic ^ e) a) (raise x))
      raised = record { keeps_add = λ a x y. ap (w (times (F.characteristic ^ e) a)) ((field-IsFrobenius e).ring_map.keeps_add x y) ∙ W.keeps_add _ (raise x) (raise y) }

      pub weigh-power : {f : Polynomial} → IsPolynomial F f
          → weigh S w (terms L (power F f (F.characteristic ^ e))) ≡ weigh S (λ a x. w (times (F.characteristic ^ e) a) (raise x)) (terms L f)
      weigh-power P = polynomial_induction L
          (λ f. weigh S w (terms L (power F f (F.characteristic ^ e))) ≡ weigh S (λ a x. w (times (F.characteristic ^ e) a) (raise x)) (terms L f))
          (ap (λ f. weigh S w (terms L f)) (power_empty e) ∙ weigh-empty L W ∙ sym (weigh-empty L raised))
          (λ c a f T Q new rec.
          let M = IsPolynomial-term c T.below T.exponents in
          ap (λ f. weigh S w (terms L f)) (power_sum M Q e)
          ∙ weigh-sum L (IsPolynomial-power L M (F.characteristic ^ e)) (IsPolynomial-power L Q (F.characteristic ^ e)) W
          ∙ ap₂ S.add
          (ap (λ f. weigh S w (terms L f)) (power_term L c T.below T.exponents (F.characteristic ^ e)) ∙ weigh-term L W (field.power F c (F.characteristic ^ e)) (times (F.characteristic ^ e) a)
          ∙ ap (w (times (F.characteristic ^ e) a)) (element_power L c (F.characteristic ^ e) T.below) ∙ sym (weigh-term L raised c a))
          rec
          ∙ sym (weigh-sum L M Q raised))
          P

    pub power_positive : 0 < F.characteristic ^ e
    power_positive = pow_positive F.characteristic e (omega (arith, characteristic_large L))

    module _ {f : Polynomial} (P : IsPolynomial F f) where
      -- The coefficient at q times an exponent list is the q-th power of the coefficient.
      pub coefficient_in-power : (b : List ℕ)
          → coefficient_in (K L) (terms L (power F f (F.characteristic ^ e))) (times (F.characteristic ^ e) b) ≡ raise (coefficient_in (K L) (terms L f) b)
      coefficient_in-power b =
          weigh-power (at_exponents-IsAdditive (K L) (times (F.characteristic ^ e) b)) P
          ∙ sum_over-same (K L) _ (λ t. raise (at_exponents (K L) b t.0 t.1))
          (λ t. ap (λ s. cond s (raise t.1) (K L).zero) (same-times (F.characteristic ^ e) b t.0 power_positive) ∙ by t.1 (same b t.0)) (terms L f)
          ∙ sym (sum_over-RingMap (field-IsFrobenius e).ring_map (λ t. at_exponents (K L) b t.0 t.1) (terms L f))
        where
          by : (x : Element F) (s : Bool) → cond s (raise x) (K L).zero ≡ raise (cond s x (K L).zero)
          by x true = refl
          by x false = sym (field-IsFrobenius e).ring_map.keeps_zero

      pub coefficient-power : (b : List ℕ)
          → coefficient (power F f (F.characteristic ^ e)) (times (F.characteristic ^ e) b) ≡ field.power F (coefficient f b) (F.characteristic ^ e)
      coefficient-power b =
          let below = coefficient_below P (zero_below L) b in
          let whole =
          sym (coefficient_in-terms L (power F f (F.characteristic ^ e)) (times (F.characteristic ^ e) b)) ∙ coefficient_in-power b
          ∙ ap raise (coefficient_in-terms L f b) ∙ sym (element_power L (coefficient f b) (F.characteristic ^ e) below) in
          sym (rank_element L _ (coefficient_below (IsPolynomial-power L P (F.characteristic ^ e)) (zero_below L) _)) ∙ ap (λ x. x.rank) whole
          ∙ rank_element L _ (power_below L (coefficient f b) (F.characteristic ^ e) below)

      -- All other coefficients are zero.
      pub coefficient-power_other : (a : List ℕ) → ((b : List ℕ) → a ≢ times (F.characteristic ^ e) b)
          → coefficient (power F f (F.characteristic ^ e)) a ≡ 0
      coefficient-power_other a other =
          let whole : element L (coefficient (power F f (F.characteristic ^ e)) a) ≡ (K L).zero =
          sym (coefficient_in-terms L (power F f (F.characteristic ^ e)) a) ∙ weigh-power (at_exponents-IsAdditive (K L) a) P
          ∙ sum_over-same (K L) _ (λ t. (K L).zero) (λ t. ap (λ s. cond s (raise t.1) (K L).zero) (same_false a (times (F.characteristic ^ e) t.0) (other t.0))) (terms L f)
          ∙ sum_over-zero (K L) (terms L f) in
          sym (rank_element L _ (coefficient_below (IsPolynomial-power L P (F.characteristic ^ e)) (zero_below L) a)) ∙ ap (λ x. x.rank) whole
          ∙ rank_zero L
