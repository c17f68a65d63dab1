-- A field with as many elements as its characteristic: its sums and products, and those of polynomials over it, are those of
-- the prime field.
use Rattle.std.proofs.Common.{◌≡◌, ℕ, zero, suc, ◌+◌, ◌*◌, ◌/◌, ◌%◌, ◌<◌, Bool, true, false, cond, List, [], ◌∷◌, ◌++◌, map, refl, sym, ap, ap₂, ◌∙◌, arith}
use Rattle.std.specs.List.{flat_map}
use Rattle.std.proofs.lemmas.Nat.{mod_below, div-add-mod'}
use Rattle.fj_coeff.specs.Field.{Field, IsField, multiple}
use Rattle.fj_coeff.specs.PrimeField.{prime_field}
use Rattle.fj_theory.specs.Exponents.{divides, minus, plus}
use Rattle.fj_theory.specs.Polynomial.{Polynomial, IsPolynomial, coefficient, convolution, power, product, sum, support, total_over, with_coefficients}
use Rattle.fj_theory.specs.Ideal.{ArePolynomials, list_combination}
use Rattle.fj_theory.proofs.Field.{characteristic_large, one_below, zero_below}
use Rattle.fj_theory.proofs.Polynomial.{coefficient_below}
use Rattle.fj_theory.proofs.Product.{IsPolynomial-product, total_over_below}
use Rattle.fj_theory.proofs.PolynomialRing.{IsPolynomial-power}
use Rattle.fj_theory.proofs.IdealBridge.{ArePolynomials-head, ArePolynomials-tail}
use Rattle.fj_groebner.proofs.Rows.{IsPolynomial-list_combination}

module _ {F : Field} (L : IsField F) where
  zero_add : (a : ℕ) → a < F.size → F.add 0 a ≡ a
  zero_add a l = L.add_comm 0 a (zero_below L) l ∙ L.add_zero a l

  mul_zero : (a : ℕ) → a < F.size → F.mul a 0 ≡ 0
  mul_zero a l =
      let z = F.mul a 0 in
      let small = L.mul_below a 0 l (zero_below L) in
      let twice : z ≡ F.add z z = ap (F.mul a) (sym (L.add_zero 0 (zero_below L))) ∙ L.mul_add a 0 0 l (zero_below L) (zero_below L) in
      sym (L.add_zero z small) ∙ ap (F.add z) (sym (L.add_neg z small)) ∙ sym (L.add_assoc z z (F.neg z) small small (L.neg_below z small))
      ∙ ap (λ y. F.add y (F.neg z)) (sym twice) ∙ L.add_neg z small

  -- The element that is the sum of k ones.
  ones_below : (k : ℕ) → multiple F k 1 < F.size
  unfolding multiple
  ones_below zero = zero_below L
  ones_below (suc k) = L.add_below 1 (multiple F k 1) (one_below L) (ones_below k)

  ones_add : (j k : ℕ) → multiple F (j + k) 1 ≡ F.add (multiple F j 1) (multiple F k 1)
  unfolding multiple
  ones_add zero k = let e : 0 + k ≡ k = omega arith in ap (λ n. multiple F n 1) e ∙ sym (zero_add (multiple F k 1) (ones_below k))
  ones_add (suc j) k =
      let e : suc j + k ≡ suc (j + k) = omega arith in
      ap (λ n. multiple F n 1) e ∙ ap (F.add 1) (ones_add j k) ∙ sym (L.add_assoc 1 (multiple F j 1) (multiple F k 1) (one_below L) (ones_below j) (ones_below k))

  ones_period : (q r : ℕ) → multiple F (q * F.characteristic + r) 1 ≡ multiple F r 1
  ones_period zero r = let e : 0 * F.characteristic + r ≡ r = omega arith in ap (λ n. multiple F n 1) e
  ones_period (suc q) r =
      let p = F.characteristic in
      let e : suc q * p + r ≡ p + (q * p + r) = omega arith in
      ap (λ n. multiple F n 1) e ∙ ones_add p (q * p + r) ∙ ap (λ z. F.add z (multiple F (q * p + r) 1)) L.multiple_characteristic
      ∙ zero_add (multiple F (q * p + r) 1) (ones_below (q * p + r)) ∙ ones_period q r

  ones_mod : (k : ℕ) → multiple F k 1 ≡ k % F.characteristic
  ones_mod k =
      let p = F.characteristic in
      let small : k % p < p = mod_below k p (omega (arith, characteristic_large L)) in
      ap (λ n. multiple F n 1) (sym (div-add-mod' k p)) ∙ ones_period (k / p) (k % p) ∙ L.multiple_one (k % p) small

  module _ (e : F.size ≡ F.characteristic) where
    is_ones : (a : ℕ) → a < F.size → multiple F a 1 ≡ a
    is_ones a l = L.multiple_one a (omega (arith, l, e))

    -- Its operations are those modulo p.
    pub add_is : (a b : ℕ) → a < F.size → b < F.size → F.add a b ≡ (a + b) % F.characteristic
    add_is a b l m = sym (ap₂ F.add (is_ones a l) (is_ones b m)) ∙ sym (ones_add a b) ∙ ones_mod (a + b)

    times_ones : (k b : ℕ) → b < F.size → F.mul b (multiple F k 1) ≡ multiple F (k * b) 1
    unfolding multiple
    times_ones zero b l = let z : 0 * b ≡ 0 = omega arith in mul_zero b l ∙ ap (λ n. multiple F n 1) (sym z)
    times_ones (suc k) b l =
        let z : suc k * b ≡ b + k * b = omega arith in
        L.mul_add b 1 (multiple F k 1) l (one_below L) (ones_below k) ∙ ap₂ F.add (L.mul_one b l ∙ sym (is_ones b l)) (times_ones k b l) ∙ sym (ones_add b (k * b))
        ∙ ap (λ n. multiple F n 1) (sym z)

    pub mul_is : (a b : ℕ) → a < F.size → b < F.size → F.mul a b ≡ a * b % F.characteristic
    mul_is a b l m = L.mul_comm a b l m ∙ ap (F.mul b) (sym (is_ones a l)) ∙ times_ones a b m ∙ ones_mod (a * b)

    pub sum_is : {f g : Polynomial} → IsPolynomial F f → IsPolynomial F g → sum F f g ≡ sum (prime_field F.characteristic) f g
    unfolding sum
    sum_is {f} {g} P Q =
        let here : List ℕ → ℕ = λ a. F.add (coefficient f a) (coefficient g a) in
        let there : List ℕ → ℕ = λ a. (coefficient f a + coefficient g a) % F.characteristic in
        let same : here ≡ there = (λ i a. add_is (coefficient f a) (coefficient g a) (coefficient_below P (zero_below L) a) (coefficient_below Q (zero_below L) a) i) in
        ap (λ (c : List ℕ → ℕ). with_coefficients c (support f ++ support g)) same

    total_is : (c d : List ℕ → ℕ) → ((b : List ℕ) → c b < F.size) → ((b : List ℕ) → c b ≡ d b) → (xs : List (List ℕ)) → total_over F c xs ≡ total_over (prime_field F.characteristic) d xs
    unfolding total_over
    total_is c d low same [] = refl
    total_is c d low same (x ∷ xs) =
        add_is (c x) (total_over F c xs) (low x) (total_over_below L c low xs) ∙ ap₂ (λ m n. (m + n) % F.characteristic) (same x) (total_is c d low same xs)

    part_below : (t : Bool) (a b : ℕ) → a < F.size → b < F.size → cond t (F.mul a b) 0 < F.size
    part_below true a b l m = L.mul_below a b l m
    part_below false a b l m = zero_below L

    part_is : (t : Bool) (a b : ℕ) → a < F.size → b < F.size → cond t (F.mul a b) 0 ≡ cond t (a * b % F.characteristic) 0
    part_is true a b l m = mul_is a b l m
    part_is false a b l m = refl

    pub product_is : {f g : Polynomial} → IsPolynomial F f → IsPolynomial F g → product F f g ≡ product (prime_field F.characteristic) f g
    unfolding product convolution
    product_is {f} {g} P Q =
        let low : (a b : List ℕ) → cond (divides b a) (F.mul (coefficient f b) (coefficient g (minus a b))) 0 < F.size =
        (λ a b. part_below (divides b a) _ _ (coefficient_below P (zero_below L) b) (coefficient_below Q (zero_below L) (minus a b))) in
        let same : convolution F f g ≡ convolution (prime_field F.characteristic) f g =
        (λ i a. total_is _ _ (low a) (λ b. part_is (divides b a) (coefficient f b) (coefficient g (minus a b)) (coefficient_below P (zero_below L) b) (coefficient_below Q (zero_below L) (minus a b))) (support f) i) in
        ap (λ (c : List ℕ → ℕ). with_coefficients c (flat_map (λ b. map (plus b) (support g)) (support f))) same

    pub power_is : {f : Polynomial} → IsPolynomial F f → (k : ℕ) → power F f k ≡ power (prime_field F.characteristic) f k
    unfolding power
    power_is P zero = refl
    power_is {f} P (suc k) = product_is P (IsPolynomial-power L P k) ∙ ap (product (prime_field F.characteristic) f) (power_is P k)

    -- Combinations are those over the prime field.
    pub combination_is : (cs N : List Polynomial) → ArePolynomials F cs → ArePolynomials F N → list_combination F cs N ≡ list_combination (prime_field F.characteristic) cs N
    unfolding list_combination
    combination_is [] N C A = refl
    combination_is (c ∷ cs) [] C A = refl
    combination_is (c ∷ cs) (g ∷ N) C A =
        let P = ArePolynomials-head C in
        let Q = ArePolynomials-head A in
        sum_is (IsPolynomial-product L P Q) (IsPolynomial-list_combination L (ArePolynomials-tail C) (ArePolynomials-tail A))
        ∙ ap₂ (sum (prime_field F.characteristic)) (product_is P Q) (combination_is cs N (ArePolynomials-tail C) (ArePolynomials-tail A))
