-- The polynomials over a field are a commutative ring.
use Rattle.std.proofs.Common.{◌≡◌, ℕ, zero, suc, ◌+◌, ◌*◌, ◌<◌, Bool, true, false, cond, List, [], ◌∷◌, refl, sym, ap, ap₂, ◌∙◌, subst}
use Rattle.std.specs.List.{list_any}
use Rattle.std.specs.FinMap.{empty}
use Rattle.fj_coeff.specs.Field.{Field, IsField}
use Rattle.fj_algebra.specs.Power as ring
use Rattle.fj_algebra.specs.Ring.{CommutativeRing, subtract}
use Rattle.fj_algebra.specs.Sum.{sum_over}
use Rattle.fj_algebra.proofs.Power.{power-add, power-mul, power-power}
use Rattle.fj_algebra.proofs.Ring.{add_zero, add_mul, mul_zero}
use Rattle.fj_algebra.proofs.Sum.{sum_over-same, sum_over-exchange, sum_over-add}
use Rattle.fj_theory.specs.Exponents.{IsExponents, origin, plus}
use Rattle.fj_theory.specs.Polynomial.{Polynomial, IsPolynomial, coefficient, difference, support, term, sum, negation, product, power}
use Rattle.fj_theory.proofs.Exponents.{plus_comm, plus_assoc, plus_origin, IsExponents-origin}
use Rattle.fj_theory.proofs.Field.{Element, element, rank_element, element_zero, element_one, zero_below, one_below}
use Rattle.fj_theory.proofs.FormalSum.{same, FormalSum, weigh, at_exponents, coefficient_in, IsAdditive, at_exponents-IsAdditive, weigh_same}
use Rattle.fj_theory.proofs.Polynomial.{polynomial_equal, support_exponents, coefficient_below, coefficient_outside, coefficient-with_coefficients, IsPolynomial-with_coefficients, coefficient-sum, coefficient-empty, coefficient-term, IsPolynomial-empty, IsPolynomial-term, IsPolynomial-sum}
use Rattle.fj_theory.proofs.Product.{K, terms, coefficient_in-terms, terms_exponents, sum_over_each, IsPolynomial-product, weigh-product, weigh-sum}
use native.Mathlib.Bridge.{le_prop}
use native.Mathlib.Nat.{ℕ_set}
use mathlib.Core.HLevel.{Σ_prop_path}
pub use Rattle.fj_theory.specs.Polynomial.{PolynomialOver}

IsPolynomial-prop : (F : Field) (f : Polynomial) → IsProp (IsPolynomial F f)
IsPolynomial-prop F f = hlevel (le_prop, ℕ_set)

pub over_equal : {F : Field} (f g : PolynomialOver F) → f.map ≡ g.map → f ≡ g
over_equal {F} f g e =
    let pairs : ◌≡◌ {A = (h : Polynomial) × IsPolynomial F h} (f.map, f.is_polynomial) (g.map, g.is_polynomial) = Σ_prop_path (IsPolynomial-prop F) e in
    λ i. record { map = (pairs i).0; is_polynomial = (pairs i).1 }

module _ {F : Field} (L : IsField F) where
  -- Polynomials with the same formal coefficients are equal.
  pub from_terms : {f g : Polynomial} → IsPolynomial F f → IsPolynomial F g
      → ((a : List ℕ) → coefficient_in (K L) (terms L f) a ≡ coefficient_in (K L) (terms L g) a) → f ≡ g
  from_terms {f} {g} P Q e =
      polynomial_equal P Q (λ a A. sym (rank_element L _ (coefficient_below P (zero_below L) a))
      ∙ ap (λ x. x.rank) (sym (coefficient_in-terms L f a) ∙ e a ∙ coefficient_in-terms L g a)
      ∙ rank_element L _ (coefficient_below Q (zero_below L) a))

  pub neg_zero_rank : F.neg 0 ≡ 0
  neg_zero_rank =
      let n = L.neg_below 0 (zero_below L) in
      sym (L.add_zero (F.neg 0) n) ∙ L.add_comm (F.neg 0) 0 n (zero_below L) ∙ L.add_neg 0 (zero_below L)

  pub coefficient-negation : (f : Polynomial) (a : List ℕ) → coefficient (negation F f) a ≡ F.neg (coefficient f a)
  unfolding negation
  coefficient-negation f a = coefficient-with_coefficients (λ b. F.neg (coefficient f b)) a (support f) ∙ by (list_any (same a) (support f)) refl
    where
      by : (t : Bool) → list_any (same a) (support f) ≡ t → cond t (F.neg (coefficient f a)) 0 ≡ F.neg (coefficient f a)
      by true e = refl
      by false e = sym (ap F.neg (coefficient_outside f a e) ∙ neg_zero_rank)

  pub IsPolynomial-negation : {f : Polynomial} → IsPolynomial F f → IsPolynomial F (negation F f)
  unfolding negation
  IsPolynomial-negation {f} P = IsPolynomial-with_coefficients (λ a. F.neg (coefficient f a)) (support f) (support_exponents P) (λ k d h. L.neg_below _ (coefficient_below P (zero_below L) _))

  -- The weight of a term, and of zero.
  pub weigh-empty : {B : Type 0} {S : CommutativeRing B} {w : List ℕ → Element F → B} → IsAdditive (K L) S w → weigh S w (terms L empty) ≡ S.zero
  weigh-empty {S} {w} W = weigh_same W (terms L empty) [] (λ a. coefficient_in-terms L empty a ∙ ap (element L) (coefficient-empty a) ∙ element_zero L)

  pub weigh-term : {B : Type 0} {S : CommutativeRing B} {w : List ℕ → Element F → B} → IsAdditive (K L) S w → (c : ℕ) (a : List ℕ)
      → weigh S w (terms L (term c a)) ≡ w a (element L c)
  weigh-term {S} {w} W c a =
      weigh_same W (terms L (term c a)) ((a, element L c) ∷ []) (λ b. coefficient_in-terms L (term c a) b ∙ ap (element L) (coefficient-term c a b) ∙ by (same b a) ∙ sym (add_zero (K L) _))
      ∙ add_zero S _
    where
      by : (t : Bool) → element L (cond t c 0) ≡ cond t (element L c) (K L).zero
      by true = refl
      by false = element_zero L

  -- The weights by which the laws of the product are compared: the terms that meet a given one, and those that meet a list.
  unfoldable pub meets : List ℕ → List ℕ → Element F → List ℕ → Element F → Element F
  meets a b x c y = at_exponents (K L) a (plus b c) ((K L).mul x y)

  pub meets_right-IsAdditive : (a b : List ℕ) (x : Element F) → IsAdditive (K L) (K L) (meets a b x)
  unfolding meets
  meets_right-IsAdditive a b x = record { keeps_add = λ c y z. ap (at_exponents (K L) a (plus b c)) ((K L).mul_add x y z) ∙ (at_exponents-IsAdditive (K L) a).keeps_add (plus b c) _ _ }

  pub meets_left-IsAdditive : (a : List ℕ) (fs : FormalSum (Element F)) → IsAdditive (K L) (K L) (λ b x. sum_over (K L) (λ d. meets a b x d.0 d.1) fs)
  unfolding meets
  meets_left-IsAdditive a fs = record {
    keeps_add = λ b x y.
        sum_over-same (K L) _ (λ d. (K L).add (meets a b x d.0 d.1) (meets a b y d.0 d.1)) (λ d. ap (at_exponents (K L) a (plus b d.0)) (add_mul (K L) x y d.1) ∙ (at_exponents-IsAdditive (K L) a).keeps_add (plus b d.0) _ _) fs
        ∙ sum_over-add (K L) (λ d. meets a b x d.0 d.1) (λ d. meets a b y d.0 d.1) fs;
  }

  module _ {f g : Polynomial} (P : IsPolynomial F f) (Q : IsPolynomial F g) where
    product_terms : (a : List ℕ)
        → coefficient_in (K L) (terms L (product F f g)) a ≡ sum_over (K L) (λ e. weigh (K L) (meets a e.0 e.1) (terms L g)) (terms L f)
    unfolding meets
    product_terms a = weigh-product L P Q (at_exponents-IsAdditive (K L) a)

    pub sum_comm : sum F f g ≡ sum F g f
    sum_comm = polynomial_equal (IsPolynomial-sum L P Q) (IsPolynomial-sum L Q P)
        (λ a A. coefficient-sum L f g a ∙ L.add_comm _ _ (coefficient_below P (zero_below L) a) (coefficient_below Q (zero_below L) a) ∙ sym (coefficient-sum L g f a))

    pub product_comm : product F f g ≡ product F g f
    product_comm = from_terms (IsPolynomial-product L P Q) (IsPolynomial-product L Q P)
        (λ a. weigh-product L P Q (at_exponents-IsAdditive (K L) a)
        ∙ sum_over-exchange (K L) (λ e d. at_exponents (K L) a (plus e.0 d.0) ((K L).mul e.1 d.1)) (terms L f) (terms L g)
        ∙ sum_over-same (K L) _ _ (λ d. sum_over-same (K L) _ _ (λ e. ap₂ (at_exponents (K L) a) (plus_comm e.0 d.0) ((K L).mul_comm e.1 d.1)) (terms L f)) (terms L g)
        ∙ sym (weigh-product L Q P (at_exponents-IsAdditive (K L) a)))

  module _ {f : Polynomial} (P : IsPolynomial F f) where
    pub sum_empty : sum F f empty ≡ f
    sum_empty = polynomial_equal (IsPolynomial-sum L P (IsPolynomial-empty F)) P
        (λ a A. coefficient-sum L f empty a ∙ ap (F.add (coefficient f a)) (coefficient-empty a) ∙ L.add_zero _ (coefficient_below P (zero_below L) a))

    pub sum_negation : sum F f (negation F f) ≡ empty
    sum_negation = polynomial_equal (IsPolynomial-sum L P (IsPolynomial-negation P)) (IsPolynomial-empty F)
        (λ a A. coefficient-sum L f (negation F f) a ∙ ap (F.add (coefficient f a)) (coefficient-negation f a) ∙ L.add_neg _ (coefficient_below P (zero_below L) a) ∙ sym (coefficient-empty a))

    pub product_one : product F f (term 1 origin) ≡ f
    product_one = from_terms (IsPolynomial-product L P IsPolynomial-one) P
        (λ a. product_terms P IsPolynomial-one a
        ∙ sum_over_each (K L) _ (λ e. at_exponents (K L) a e.0 e.1) (terms L f)
        (λ k d h. weigh-term (meets_right-IsAdditive a _ _) 1 origin ∙ one_meets a _ (terms_exponents L P k d h)))
      where
        IsPolynomial-one : IsPolynomial F (term 1 origin)
        IsPolynomial-one = IsPolynomial-term 1 (one_below L) IsExponents-origin

        one_meets : (a : List ℕ) {b : List ℕ} (x : Element F) → IsExponents b → meets a b x origin (element L 1) ≡ at_exponents (K L) a b x
        one_meets a {b} x B = unfold meets in ap₂ (at_exponents (K L) a) (plus_origin B) (ap ((K L).mul x) (element_one L) ∙ (K L).mul_one x)

    module _ {g h : Polynomial} (Q : IsPolynomial F g) (H : IsPolynomial F h) where
      pub sum_assoc : sum F (sum F f g) h ≡ sum F f (sum F g h)
      sum_assoc = polynomial_equal (IsPolynomial-sum L (IsPolynomial-sum L P Q) H) (IsPolynomial-sum L P (IsPolynomial-sum L Q H))
          (λ a A. coefficient-sum L (sum F f g) h a ∙ ap (λ c. F.add c (coefficient h a)) (coefficient-sum L f g a)
          ∙ L.add_assoc _ _ _ (coefficient_below P (zero_below L) a) (coefficient_below Q (zero_below L) a) (coefficient_below H (zero_below L) a)
          ∙ sym (coefficient-sum L f (sum F g h) a ∙ ap (F.add (coefficient f a)) (coefficient-sum L g h a)))

      -- The product distributes over the sum.
      pub product_sum : product F f (sum F g h) ≡ sum F (product F f g) (product F f h)
      product_sum = from_terms (IsPolynomial-product L P (IsPolynomial-sum L Q H)) (IsPolynomial-sum L (IsPolynomial-product L P Q) (IsPolynomial-product L P H))
          (λ a. product_terms P (IsPolynomial-sum L Q H) a
          ∙ sum_over-same (K L) _ _ (λ e. weigh-sum L Q H (meets_right-IsAdditive a e.0 e.1)) (terms L f)
          ∙ sum_over-add (K L) (λ e. weigh (K L) (meets a e.0 e.1) (terms L g)) (λ e. weigh (K L) (meets a e.0 e.1) (terms L h)) (terms L f)
          ∙ sym (weigh-sum L (IsPolynomial-product L P Q) (IsPolynomial-product L P H) (at_exponents-IsAdditive (K L) a) ∙ ap₂ (K L).add (product_terms P Q a) (product_terms P H a)))

      pub product_assoc : product F (product F f g) h ≡ product F f (product F g h)
      unfolding meets
      product_assoc = from_terms (IsPolynomial-product L (IsPolynomial-product L P Q) H) (IsPolynomial-product L P (IsPolynomial-product L Q H))
          (λ a. product_terms (IsPolynomial-product L P Q) H a
          ∙ weigh-product L P Q (meets_left-IsAdditive a (terms L h))
          ∙ sum_over-same (K L) _ _ (λ e. sum_over-same (K L) _ _ (λ d. sum_over-same (K L) _ _
          (λ c. ap₂ (at_exponents (K L) a) (plus_assoc e.0 d.0 c.0) ((K L).mul_assoc e.1 d.1 c.1)) (terms L h)) (terms L g)
          ∙ sym (weigh-product L Q H (meets_right-IsAdditive a e.0 e.1))) (terms L f)
          ∙ sym (product_terms P (IsPolynomial-product L Q H) a))

  -- The ring of polynomials.
  pub polynomial_ring : CommutativeRing (PolynomialOver F)
  polynomial_ring = record {
    zero = record { map = empty; is_polynomial = IsPolynomial-empty F };
    one = record { map = term 1 origin; is_polynomial = IsPolynomial-term 1 (one_below L) IsExponents-origin };
    add = λ f g. record { map = sum F f.map g.map; is_polynomial = IsPolynomial-sum L f.is_polynomial g.is_polynomial };
    neg = λ f. record { map = negation F f.map; is_polynomial = IsPolynomial-negation f.is_polynomial };
    mul = λ f g. record { map = product F f.map g.map; is_polynomial = IsPolynomial-product L f.is_polynomial g.is_polynomial };
    add_assoc = λ f g h. over_equal _ _ (sum_assoc f.is_polynomial g.is_polynomial h.is_polynomial);
    add_comm = λ f g. over_equal _ _ (sum_comm f.is_polynomial g.is_polynomial);
    add_zero = λ f. over_equal _ _ (sum_empty f.is_polynomial);
    add_neg = λ f. over_equal _ _ (sum_negation f.is_polynomial);
    mul_assoc = λ f g h. over_equal _ _ (product_assoc f.is_polynomial g.is_polynomial h.is_polynomial);
    mul_comm = λ f g. over_equal _ _ (product_comm f.is_polynomial g.is_polynomial);
    mul_one = λ f. over_equal _ _ (product_one f.is_polynomial);
    mul_add = λ f g h. over_equal _ _ (product_sum f.is_polynomial g.is_polynomial h.is_polynomial);
  }

  -- What the ring's operations are on maps.
  pub map_zero : polynomial_ring.zero.map ≡ empty
  unfolding polynomial_ring
  map_zero = refl

  pub map_one : polynomial_ring.one.map ≡ term 1 origin
  unfolding polynomial_ring
  map_one = refl

  pub map_add : (f g : PolynomialOver F) → (polynomial_ring.add f g).map ≡ sum F f.map g.map
  unfolding polynomial_ring
  map_add f g = refl

  pub map_neg : (f : PolynomialOver F) → (polynomial_ring.neg f).map ≡ negation F f.map
  unfolding polynomial_ring
  map_neg f = refl

  pub map_mul : (f g : PolynomialOver F) → (polynomial_ring.mul f g).map ≡ product F f.map g.map
  unfolding polynomial_ring
  map_mul f g = refl

  pub map_power : (f : PolynomialOver F) (k : ℕ) → (ring.power polynomial_ring f k).map ≡ power F f.map k
  unfolding power ring.power
  map_power f zero = map_one
  map_power f (suc k) = map_mul f (ring.power polynomial_ring f k) ∙ ap (product F f.map) (map_power f k)

  -- A monomial with a coefficient, as an element of the ring.
  pub monomial : (c : ℕ) → c < F.size → (a : List ℕ) → IsExponents a → PolynomialOver F
  monomial c h a A = record { map = term c a; is_polynomial = IsPolynomial-term c h A }

  module _ {f : Polynomial} (P : IsPolynomial F f) where
    over : PolynomialOver F
    over = record { map = f; is_polynomial = P }

    pub IsPolynomial-power : (k : ℕ) → IsPolynomial F (power F f k)
    unfolding over
    IsPolynomial-power k = subst (IsPolynomial F) (map_power over k) (ring.power polynomial_ring over k).is_polynomial

    pub power_zero : power F f 0 ≡ term 1 origin
    unfolding power
    power_zero = refl

    pub power_suc : (k : ℕ) → power F f (suc k) ≡ product F f (power F f k)
    unfolding power
    power_suc k = refl

    pub power_first : power F f 1 ≡ f
    unfolding power
    power_first = product_one P

    -- The laws of powers.
    pub power_add : (m n : ℕ) → power F f (m + n) ≡ product F (power F f m) (power F f n)
    unfolding over
    power_add m n =
        sym (map_power over (m + n)) ∙ ap (λ x. x.map) (power-add polynomial_ring over m n) ∙ map_mul _ _
        ∙ ap₂ (product F) (map_power over m) (map_power over n)

    pub power_power : (m n : ℕ) → power F (power F f m) n ≡ power F f (m * n)
    unfolding over
    power_power m n =
        ap (λ h. power F h n) (sym (map_power over m)) ∙ sym (map_power (ring.power polynomial_ring over m) n)
        ∙ ap (λ x. x.map) (power-power polynomial_ring over m n) ∙ map_power over (m * n)

    pub power_product : {g : Polynomial} → IsPolynomial F g → (n : ℕ) → power F (product F f g) n ≡ product F (power F f n) (power F g n)
    unfolding over
    power_product {g} Q n =
        let other : PolynomialOver F = record { map = g; is_polynomial = Q } in
        ap (λ h. power F h n) (sym (map_mul over other)) ∙ sym (map_power (polynomial_ring.mul over other) n)
        ∙ ap (λ x. x.map) (power-mul polynomial_ring over other n)
        ∙ map_mul _ _ ∙ ap₂ (product F) (map_power over n) (map_power other n)

    pub product_empty : product F f empty ≡ empty
    unfolding over
    product_empty = sym (map_mul over polynomial_ring.zero ∙ ap (product F f) map_zero) ∙ ap (λ x. x.map) (mul_zero polynomial_ring over) ∙ map_zero

module _ {F : Field} (L : IsField F) where
  -- The difference in the ring.
  pub map_subtract : (f g : PolynomialOver F) → (subtract (polynomial_ring L) f g).map ≡ difference F f.map g.map
  unfolding difference
  map_subtract f g = map_add L f ((polynomial_ring L).neg g) ∙ ap (sum F f.map) (map_neg L g)
