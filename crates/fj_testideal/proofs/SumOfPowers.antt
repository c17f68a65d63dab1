-- The coefficients of products of polynomials x^s + y^s + z^s.
use Rattle.std.proofs.Common.{◌≡◌, ℕ, ◌-◌, ◌<◌, Bool, true, false, cond, nat_le, ◌&&◌, List, [], ◌∷◌, ◌++◌, refl, sym, ap, ap₂, ◌∙◌}
use Rattle.std.proofs.Math.Dec.{leb-zero}
use Rattle.std.proofs.Math.Nat.{sub-zero}
use Rattle.fj_coeff.specs.Field.{Field, IsField}
use Rattle.fj_algebra.proofs.Ring.{add_mul}
use Rattle.fj_theory.specs.Exponents.{IsExponents, origin, divides, minus}
use Rattle.fj_theory.specs.Polynomial.{Polynomial, IsPolynomial, coefficient, sum, product, term}
use Rattle.fj_theory.proofs.Field.{one_below, zero_below}
use Rattle.fj_theory.proofs.FormalSum.{same}
use Rattle.fj_theory.proofs.IdealBridge.{over, IsPolynomial-one}
use Rattle.fj_theory.proofs.Monomial.{coefficient-product_term}
use Rattle.fj_theory.proofs.Polynomial.{IsPolynomial-term, IsPolynomial-sum, coefficient-sum, coefficient-term, coefficient_below}
use Rattle.fj_theory.proofs.PolynomialRing.{polynomial_ring, map_add, map_mul, product_assoc, product_one, product_comm}
use Rattle.fj_theory.proofs.Product.{IsPolynomial-product}

-- The exponents of x^i y^j z^k.
abbrev pub exponents : ℕ → ℕ → ℕ → List ℕ
exponents i j k = i ∷ j ∷ k ∷ 0 ∷ 0 ∷ 0 ∷ 0 ∷ 0 ∷ []

pub IsExponents-exponents : (i j k : ℕ) → IsExponents (exponents i j k)
IsExponents-exponents i j k = record { eight = refl }

-- x^s + y^s + z^s, and a product of such sums.
unfoldable pub power_sum : Field → ℕ → Polynomial
power_sum F s = sum F (term 1 (exponents s 0 0)) (sum F (term 1 (exponents 0 s 0)) (term 1 (exponents 0 0 s)))

unfoldable pub power_sums : Field → List ℕ → Polynomial
power_sums F [] = term 1 origin
power_sums F (s ∷ ss) = product F (power_sum F s) (power_sums F ss)

-- Its coefficient at x^i y^j z^k.
unfoldable pub count : Field → List ℕ → ℕ → ℕ → ℕ → ℕ
count F [] i j k = elim (same (exponents i j k) origin) [ true ↦ 1 | false ↦ 0 ]
count F (s ∷ ss) i j k =
    F.add (elim (nat_le s i) [ true ↦ count F ss (i - s) j k | false ↦ 0 ])
    (F.add (elim (nat_le s j) [ true ↦ count F ss i (j - s) k | false ↦ 0 ]) (elim (nat_le s k) [ true ↦ count F ss i j (k - s) | false ↦ 0 ]))

chosen : (t : Bool) (x y : ℕ) → x ≡ y → cond t x 0 ≡ elim t [ true ↦ y | false ↦ 0 ]
chosen true x y e = e
chosen false x y e = refl

and_true : (t : Bool) → (t && true) ≡ t
and_true true = refl
and_true false = refl

module _ (s i j k : ℕ) where
  pub divides_first : divides (exponents s 0 0) (exponents i j k) ≡ nat_le s i
  unfolding divides
  divides_first = rw (leb-zero j, leb-zero k) (and_true (nat_le s i))

  pub divides_second : divides (exponents 0 s 0) (exponents i j k) ≡ nat_le s j
  unfolding divides
  divides_second = rw (leb-zero i, leb-zero k) (and_true (nat_le s j))

  pub divides_third : divides (exponents 0 0 s) (exponents i j k) ≡ nat_le s k
  unfolding divides
  divides_third = rw (leb-zero i, leb-zero j) (and_true (nat_le s k))

  minus_first : minus (exponents i j k) (exponents s 0 0) ≡ exponents (i - s) j k
  unfolding minus
  minus_first = rw (sub-zero j, sub-zero k) refl

  minus_second : minus (exponents i j k) (exponents 0 s 0) ≡ exponents i (j - s) k
  unfolding minus
  minus_second = rw (sub-zero i, sub-zero k) refl

  minus_third : minus (exponents i j k) (exponents 0 0 s) ≡ exponents i j (k - s)
  unfolding minus
  minus_third = rw (sub-zero i, sub-zero j) refl

module _ {F : Field} (L : IsField F) where
  pub IsPolynomial-exponents : (i j k : ℕ) → IsPolynomial F (term 1 (exponents i j k))
  IsPolynomial-exponents i j k = IsPolynomial-term 1 (one_below L) (IsExponents-exponents i j k)

  pub IsPolynomial-power_sum : (s : ℕ) → IsPolynomial F (power_sum F s)
  unfolding power_sum
  IsPolynomial-power_sum s = IsPolynomial-sum L (IsPolynomial-exponents s 0 0) (IsPolynomial-sum L (IsPolynomial-exponents 0 s 0) (IsPolynomial-exponents 0 0 s))

  pub IsPolynomial-power_sums : (ss : List ℕ) → IsPolynomial F (power_sums F ss)
  unfolding power_sums
  IsPolynomial-power_sums [] = IsPolynomial-one L
  IsPolynomial-power_sums (s ∷ ss) = IsPolynomial-product L (IsPolynomial-power_sum s) (IsPolynomial-power_sums ss)

  sum_product : {f g h : Polynomial} → IsPolynomial F f → IsPolynomial F g → IsPolynomial F h → product F (sum F f g) h ≡ sum F (product F f h) (product F g h)
  sum_product {f} {g} {h} P Q S =
      let R = polynomial_ring L in
      ap (λ k. product F k h) (sym (map_add L (over P) (over Q))) ∙ sym (map_mul L (R.add (over P) (over Q)) (over S))
      ∙ ap (λ k. k.map) (add_mul R (over P) (over Q) (over S)) ∙ map_add L (R.mul (over P) (over S)) (R.mul (over Q) (over S))
      ∙ ap₂ (sum F) (map_mul L (over P) (over S)) (map_mul L (over Q) (over S))

  module _ {h : Polynomial} (H : IsPolynomial F h) (i j k : ℕ) where
    -- The coefficient of a multiple by a monomial with coefficient 1.
    pub coefficient_multiple : (a b c : ℕ) (t : Bool) {x : List ℕ} → divides (exponents a b c) (exponents i j k) ≡ t → minus (exponents i j k) (exponents a b c) ≡ x
        → coefficient (product F (term 1 (exponents a b c)) h) (exponents i j k) ≡ cond t (coefficient h x) 0
    coefficient_multiple a b c t {x} d m =
        coefficient-product_term L H 1 (one_below L) (IsExponents-exponents a b c) (IsExponents-exponents i j k)
        ∙ ap₂ (λ s y. cond s (F.mul 1 (coefficient h y)) 0) d m ∙ ap (λ y. cond t y 0) (unit (coefficient h x) (coefficient_below H (zero_below L) x))
      where
        unit : (y : ℕ) → y < F.size → F.mul 1 y ≡ y
        unit y below = L.mul_comm 1 y (one_below L) below ∙ L.mul_one y below

    coefficient-power_sum : (s : ℕ) → coefficient (product F (power_sum F s) h) (exponents i j k)
        ≡ F.add (cond (nat_le s i) (coefficient h (exponents (i - s) j k)) 0) (F.add (cond (nat_le s j) (coefficient h (exponents i (j - s) k)) 0) (cond (nat_le s k) (coefficient h (exponents i j (k - s))) 0))
    unfolding power_sum
    coefficient-power_sum s =
        let X = IsPolynomial-exponents s 0 0 in
        let Y = IsPolynomial-exponents 0 s 0 in
        let Z = IsPolynomial-exponents 0 0 s in
        ap (λ g. coefficient g (exponents i j k)) (sum_product X (IsPolynomial-sum L Y Z) H ∙ ap (sum F (product F (term 1 (exponents s 0 0)) h)) (sum_product Y Z H))
        ∙ coefficient-sum L _ _ (exponents i j k)
        ∙ ap₂ F.add (coefficient_multiple s 0 0 (nat_le s i) (divides_first s i j k) (minus_first s i j k))
        (coefficient-sum L _ _ (exponents i j k)
        ∙ ap₂ F.add (coefficient_multiple 0 s 0 (nat_le s j) (divides_second s i j k) (minus_second s i j k)) (coefficient_multiple 0 0 s (nat_le s k) (divides_third s i j k) (minus_third s i j k)))

  -- The coefficients of a product of sums are counted.
  pub coefficient-power_sums : (ss : List ℕ) (i j k : ℕ) → coefficient (power_sums F ss) (exponents i j k) ≡ count F ss i j k
  unfolding power_sums count
  coefficient-power_sums [] i j k = coefficient-term 1 origin (exponents i j k) ∙ chosen (same (exponents i j k) origin) 1 1 refl
  coefficient-power_sums (s ∷ ss) i j k =
      coefficient-power_sum (IsPolynomial-power_sums ss) i j k s
      ∙ ap₂ F.add (chosen (nat_le s i) _ _ (coefficient-power_sums ss (i - s) j k))
      (ap₂ F.add (chosen (nat_le s j) _ _ (coefficient-power_sums ss i (j - s) k)) (chosen (nat_le s k) _ _ (coefficient-power_sums ss i j (k - s))))

  -- Products of products.
  pub power_sums-append : (ss ts : List ℕ) → power_sums F (ss ++ ts) ≡ product F (power_sums F ss) (power_sums F ts)
  unfolding power_sums
  power_sums-append [] ts = sym (product_comm L (IsPolynomial-one L) (IsPolynomial-power_sums ts) ∙ product_one L (IsPolynomial-power_sums ts))
  power_sums-append (s ∷ ss) ts =
      ap (product F (power_sum F s)) (power_sums-append ss ts)
      ∙ sym (product_assoc L (IsPolynomial-power_sum s) (IsPolynomial-power_sums ss) (IsPolynomial-power_sums ts))
