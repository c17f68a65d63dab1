-- The powers of x^3 + y^3 + z^3 over GF(5), and the threshold at (x, y, z).
use Rattle.std.proofs.Common.{◌≡◌, ℕ, zero, suc, ◌+◌, ◌*◌, ◌%◌, false, nat_le, List, [], ◌∷◌, Contains, refl, sym, ap, ap₂, ◌∙◌, subst, arith}
use Rattle.fj_coeff.specs.Field.{Field, IsField, primes}
use Rattle.fj_coeff.specs.Field as field
use Rattle.fj_coeff.specs.PrimeField.{prime_field}
use Rattle.fj_coeff.specs.PrimeFieldLaws.{IsField-prime_field}
use Rattle.fj_algebra.specs.Ring.{CommutativeRing}
use Rattle.fj_algebra.specs.Ideal as ring_ideal
use Rattle.fj_algebra.proofs.Ring.{ring_laws}
use Rattle.fj_algebra.proofs.Ideal.{Member-add, Member-mul, Member-same, Member-head, Member-tail}
use Rattle.fj_theory.specs.Exponents.{IsExponents, origin, times, plus, divides}
use Rattle.fj_theory.specs.Polynomial.{Polynomial, coefficient, sum, product, power, term}
use Rattle.fj_theory.specs.PointIdeal.{variable_exponents}
use Rattle.fj_theory.specs.Ideal.{Member, combination}
use Rattle.fj_theory.specs.FrobeniusPower.{frobenius_power}
use Rattle.fj_theory.proofs.Field.{one_below}
use Rattle.fj_theory.proofs.Monomial.{power_term, product_terms}
use Rattle.fj_theory.proofs.Polynomial.{IsPolynomial-sum, coefficient-sum, coefficient-empty}
use Rattle.fj_theory.proofs.PolynomialRing.{PolynomialOver, polynomial_ring, over_equal, map_add, map_mul, map_power, product_comm, power_add, power_power}
use Rattle.fj_theory.proofs.IdealBridge.{over, maps, InRing-maps, Member_map}
use Rattle.fj_theory.specs.Fraction.{ceil_times}
use Rattle.fj_algebra.specs.Power as ring
use Rattle.fj_theory.proofs.Frobenius as frobenius
use Rattle.fj_testideal.specs.SearchExamples.{sum_of_cubes, first_three, OneExponentTellsNoThreshold}
use Rattle.fj_testideal.proofs.SumOfPowers.{exponents, IsExponents-exponents, power_sum, power_sums, count, IsPolynomial-exponents, IsPolynomial-power_sum, coefficient_multiple, divides_first, divides_second, divides_third, coefficient-power_sums, power_sums-append}

five : Contains primes 5
unfolding primes
five = (2, omega arith, refl)

F : Field
F = prime_field 5

L : IsField (prime_field 5)
L = IsField-prime_field 5 five

-- The powers of monomials with coefficient 1.
one_power : (k : ℕ) → field.power (prime_field 5) 1 k ≡ 1
unfolding field.power
one_power zero = refl
one_power (suc k) = ap (λ c. 1 * c % 5) (one_power k)

monomial_power : {a : List ℕ} → IsExponents a → (k : ℕ) → power (prime_field 5) (term 1 a) k ≡ term 1 (times k a)
monomial_power {a} A k = power_term L 1 (one_below L) A k ∙ ap (λ c. term c (times k a)) (one_power k)

-- The q-th powers of the variables.
list_of_powers : ℕ → List Polynomial
list_of_powers q = term 1 (exponents q 0 0) ∷ term 1 (exponents 0 q 0) ∷ term 1 (exponents 0 0 q) ∷ []

powers_at_one : frobenius_power (prime_field 5) 5 first_three ≡ list_of_powers 5
unfolding list_of_powers variable_exponents origin times
powers_at_one =
    ap₂ ◌∷◌ (monomial_power (IsExponents-exponents 1 0 0) 5)
    (ap₂ ◌∷◌ (monomial_power (IsExponents-exponents 0 1 0) 5) (ap (λ g. g ∷ []) (monomial_power (IsExponents-exponents 0 0 1) 5)))

powers_at_two : frobenius_power (prime_field 5) 25 first_three ≡ list_of_powers 25
unfolding list_of_powers variable_exponents origin times
powers_at_two =
    ap₂ ◌∷◌ (monomial_power (IsExponents-exponents 1 0 0) 25)
    (ap₂ ◌∷◌ (monomial_power (IsExponents-exponents 0 1 0) 25) (ap (λ g. g ∷ []) (monomial_power (IsExponents-exponents 0 0 1) 25)))

-- A member of (x^q, y^q, z^q) has no term x^i y^j z^k with i, j, k below q.
no_small_term : (q i j k : ℕ) → nat_le q i ≡ false → nat_le q j ≡ false → nat_le q k ≡ false → {h : Polynomial}
    → Member (prime_field 5) (list_of_powers q) h → coefficient h (exponents i j k) ≡ 0
unfolding list_of_powers combination
no_small_term q i j k first second third {h} H =
    ap (λ g. coefficient g (exponents i j k)) H.is
    ∙ coefficient-sum L _ _ (exponents i j k) ∙ ap₂ (λ m n. (m + n) % 5) (none 0 q 0 0 (divides_first q i j k ∙ first))
    (coefficient-sum L _ _ (exponents i j k) ∙ ap₂ (λ m n. (m + n) % 5) (none 1 0 q 0 (divides_second q i j k ∙ second))
    (coefficient-sum L _ _ (exponents i j k) ∙ ap₂ (λ m n. (m + n) % 5) (none 2 0 0 q (divides_third q i j k ∙ third)) (coefficient-empty (exponents i j k))))
  where
    none : (n a b c : ℕ) → divides (exponents a b c) (exponents i j k) ≡ false → coefficient (product (prime_field 5) (H.cofactors n) (term 1 (exponents a b c))) (exponents i j k) ≡ 0
    none n a b c d =
        ap (λ g. coefficient g (exponents i j k)) (product_comm L (H.polynomials n) (IsPolynomial-exponents L a b c))
        ∙ coefficient_multiple L (H.polynomials n) i j k a b c false d refl

-- The powers of the sum of cubes.
cubes : sum_of_cubes (prime_field 5) ≡ power_sum (prime_field 5) 3
unfolding power_sum variable_exponents origin times
cubes =
    ap₂ (sum (prime_field 5)) (monomial_power (IsExponents-exponents 1 0 0) 3)
    (ap₂ (sum (prime_field 5)) (monomial_power (IsExponents-exponents 0 1 0) 3) (monomial_power (IsExponents-exponents 0 0 1) 3))

third_power : (g : ℕ) → power (prime_field 5) (power_sum (prime_field 5) g) 3 ≡ power_sums (prime_field 5) (g ∷ g ∷ g ∷ [])
unfolding power power_sums
third_power g = refl

fourth_power : power (prime_field 5) (power_sum (prime_field 5) 3) 4 ≡ power_sums (prime_field 5) (3 ∷ 3 ∷ 3 ∷ 3 ∷ [])
unfolding power power_sums
fourth_power = refl

fifth_power : power (prime_field 5) (power_sum (prime_field 5) 3) 5 ≡ power_sum (prime_field 5) 15
unfolding power_sum times
fifth_power =
    let X = IsPolynomial-exponents L 3 0 0 in
    let Y = IsPolynomial-exponents L 0 3 0 in
    let Z = IsPolynomial-exponents L 0 0 3 in
    frobenius.power_sum L X (IsPolynomial-sum L Y Z) 1
    ∙ ap₂ (sum (prime_field 5)) (monomial_power (IsExponents-exponents 3 0 0) 5)
    (frobenius.power_sum L Y Z 1 ∙ ap₂ (sum (prime_field 5)) (monomial_power (IsExponents-exponents 0 3 0) 5) (monomial_power (IsExponents-exponents 0 0 3) 5))

nineteenth_power : power (prime_field 5) (power_sum (prime_field 5) 3) 19 ≡ power_sums (prime_field 5) (15 ∷ 15 ∷ 15 ∷ 3 ∷ 3 ∷ 3 ∷ 3 ∷ [])
nineteenth_power =
    let G = IsPolynomial-power_sum L 3 in
    power_add L G 15 4
    ∙ ap₂ (product (prime_field 5)) (sym (power_power L G 5 3) ∙ ap (λ g. power (prime_field 5) g 3) fifth_power ∙ third_power 15) fourth_power
    ∙ sym (power_sums-append L (15 ∷ 15 ∷ 15 ∷ []) (3 ∷ 3 ∷ 3 ∷ 3 ∷ []))

coefficient_of_third : count (prime_field 5) (3 ∷ 3 ∷ 3 ∷ []) 3 3 3 ≡ 1
unfolding count origin
coefficient_of_third = refl

coefficient_of_nineteenth : count (prime_field 5) (15 ∷ 15 ∷ 15 ∷ 3 ∷ 3 ∷ 3 ∷ 3 ∷ []) 24 18 15 ≡ 4
unfolding count origin
coefficient_of_nineteenth = refl

-- Where the squares of three elements are in an ideal, the fourth power of their sum is.
module _ {A : Type 0} (R : CommutativeRing A) where
  open R use {one as 𝟙, add as ◌⊕◌, mul as ◌⊗◌}

  infixl 60 ◌⊕◌
  infixl 70 ◌⊗◌
  products_square : (a b c : A) → (a ⊗ b ⊕ (b ⊗ c ⊕ c ⊗ a)) ⊗ (a ⊗ b ⊕ (b ⊗ c ⊕ c ⊗ a))
      ≡ (b ⊗ b ⊕ (b ⊗ c ⊕ b ⊗ c)) ⊗ (a ⊗ a) ⊕ ((c ⊗ c ⊕ (c ⊗ a ⊕ c ⊗ a)) ⊗ (b ⊗ b) ⊕ (a ⊗ a ⊕ (a ⊗ b ⊕ a ⊗ b)) ⊗ (c ⊗ c))
  products_square a b c = simp ring_laws

  sum_square : (a b c : A) → (a ⊕ (b ⊕ c)) ⊗ (a ⊕ (b ⊕ c)) ≡ (a ⊗ a ⊕ (b ⊗ b ⊕ c ⊗ c)) ⊕ ((a ⊗ b ⊕ (b ⊗ c ⊕ c ⊗ a)) ⊕ (a ⊗ b ⊕ (b ⊗ c ⊕ c ⊗ a)))
  sum_square a b c = simp ring_laws

  square_of_sum : (t s : A) → (t ⊕ (s ⊕ s)) ⊗ (t ⊕ (s ⊕ s)) ≡ (t ⊕ (s ⊕ s) ⊕ (s ⊕ s)) ⊗ t ⊕ ((s ⊗ s ⊕ s ⊗ s) ⊕ (s ⊗ s ⊕ s ⊗ s))
  square_of_sum t s = simp ring_laws

  fourth : (f : A) → f ⊗ (f ⊗ (f ⊗ (f ⊗ 𝟙))) ≡ f ⊗ f ⊗ (f ⊗ f)
  fourth f = simp ring_laws

  module _ {I : List A} {a b c : A} (first : ring_ideal.Member R I (a ⊗ a)) (second : ring_ideal.Member R I (b ⊗ b)) (third : ring_ideal.Member R I (c ⊗ c)) where
    products_inside : ring_ideal.Member R I ((a ⊗ b ⊕ (b ⊗ c ⊕ c ⊗ a)) ⊗ (a ⊗ b ⊕ (b ⊗ c ⊕ c ⊗ a)))
    products_inside = Member-same (products_square a b c) (Member-add (Member-mul _ first) (Member-add (Member-mul _ second) (Member-mul _ third)))

    fourth_inside : ring_ideal.Member R I ((a ⊕ (b ⊕ c)) ⊗ ((a ⊕ (b ⊕ c)) ⊗ ((a ⊕ (b ⊕ c)) ⊗ ((a ⊕ (b ⊕ c)) ⊗ 𝟙))))
    fourth_inside =
        let t = a ⊗ a ⊕ (b ⊗ b ⊕ c ⊗ c) in
        let s = a ⊗ b ⊕ (b ⊗ c ⊕ c ⊗ a) in
        let four = Member-add products_inside products_inside in
        Member-same (fourth (a ⊕ (b ⊕ c)) ∙ ap (λ u. u ⊗ u) (sum_square a b c) ∙ square_of_sum t s)
        (Member-add (Member-mul (t ⊕ (s ⊕ s) ⊕ (s ⊕ s)) (Member-add first (Member-add second third))) (Member-add four four))

-- The cubes of the variables, and the ideal of their fifth powers, in the ring.
element : ℕ → ℕ → ℕ → PolynomialOver (prime_field 5)
element i j k = over (IsPolynomial-exponents L i j k)

fifth_powers : List (PolynomialOver (prime_field 5))
fifth_powers = element 5 0 0 ∷ element 0 5 0 ∷ element 0 0 5 ∷ []

-- The product of x^i y^j z^k with x^a y^b z^c.
element_product : (i j k a b c : ℕ) → ((polynomial_ring L).mul (element i j k) (element a b c)).map ≡ term 1 (plus (exponents i j k) (exponents a b c))
unfolding element
element_product i j k a b c =
    map_mul L (element i j k) (element a b c) ∙ product_terms L 1 1 (one_below L) (one_below L) (IsExponents-exponents i j k) (IsExponents-exponents a b c)

first_square : ring_ideal.Member (polynomial_ring L) fifth_powers ((polynomial_ring L).mul (element 3 0 0) (element 3 0 0))
unfolding fifth_powers plus
first_square = Member-same (over_equal _ _ (element_product 3 0 0 3 0 0 ∙ sym (element_product 1 0 0 5 0 0))) (Member-mul (element 1 0 0) (Member-head _ _))

second_square : ring_ideal.Member (polynomial_ring L) fifth_powers ((polynomial_ring L).mul (element 0 3 0) (element 0 3 0))
unfolding fifth_powers plus
second_square = Member-same (over_equal _ _ (element_product 0 3 0 0 3 0 ∙ sym (element_product 0 1 0 0 5 0))) (Member-mul (element 0 1 0) (Member-tail (Member-head _ _)))

third_square : ring_ideal.Member (polynomial_ring L) fifth_powers ((polynomial_ring L).mul (element 0 0 3) (element 0 0 3))
unfolding fifth_powers plus
third_square = Member-same (over_equal _ _ (element_product 0 0 3 0 0 3 ∙ sym (element_product 0 0 1 0 0 5))) (Member-mul (element 0 0 1) (Member-tail (Member-tail (Member-head _ _))))

inside : Member (prime_field 5) (list_of_powers 5) (power (prime_field 5) (power_sum (prime_field 5) 3) 4)
unfolding list_of_powers fifth_powers element power_sum ring.power
inside =
    let R = polynomial_ring L in
    let s = R.add (element 3 0 0) (R.add (element 0 3 0) (element 0 0 3)) in
    let is : s.map ≡ power_sum (prime_field 5) 3 = map_add L (element 3 0 0) (R.add (element 0 3 0) (element 0 0 3)) ∙ ap (sum (prime_field 5) (term 1 (exponents 3 0 0))) (map_add L (element 0 3 0) (element 0 0 3)) in
    subst (Member (prime_field 5) (maps fifth_powers)) (map_power L s 4 ∙ ap (λ g. power (prime_field 5) g 4) is)
    (Member_map L (InRing-maps fifth_powers) (fourth_inside R first_square second_square third_square))

-- f^3 has the term x^3 y^3 z^3, and f^19 has x^24 y^18 z^15.
third_outside : Member (prime_field 5) (frobenius_power (prime_field 5) 5 first_three) (power (prime_field 5) (sum_of_cubes (prime_field 5)) 3) → ⊥
third_outside H =
    let none = no_small_term 5 3 3 3 refl refl refl (subst (λ M. Member (prime_field 5) M (power (prime_field 5) (sum_of_cubes (prime_field 5)) 3)) powers_at_one H) in
    let some : coefficient (power (prime_field 5) (sum_of_cubes (prime_field 5)) 3) (exponents 3 3 3) ≡ 1 =
    ap (λ g. coefficient g (exponents 3 3 3)) (ap (λ g. power (prime_field 5) g 3) cubes ∙ third_power 3) ∙ coefficient-power_sums L (3 ∷ 3 ∷ 3 ∷ []) 3 3 3 ∙ coefficient_of_third in
    omega (arith, none, some)

nineteenth_outside : Member (prime_field 5) (frobenius_power (prime_field 5) 25 first_three) (power (prime_field 5) (sum_of_cubes (prime_field 5)) 19) → ⊥
nineteenth_outside H =
    let none = no_small_term 25 24 18 15 refl refl refl (subst (λ M. Member (prime_field 5) M (power (prime_field 5) (sum_of_cubes (prime_field 5)) 19)) powers_at_two H) in
    let some : coefficient (power (prime_field 5) (sum_of_cubes (prime_field 5)) 19) (exponents 24 18 15) ≡ 4 =
    ap (λ g. coefficient g (exponents 24 18 15)) (ap (λ g. power (prime_field 5) g 19) cubes ∙ nineteenth_power)
    ∙ coefficient-power_sums L (15 ∷ 15 ∷ 15 ∷ 3 ∷ 3 ∷ 3 ∷ 3 ∷ []) 24 18 15 ∙ coefficient_of_nineteenth in
    omega (arith, none, some)

-- 3/4 is as the threshold at e = 1, and isn't the threshold.
pub not_told_at_one : OneExponentTellsNoThreshold
unfolding ceil_times
not_told_at_one = record {
  inside_at_one = subst (λ M. Member (prime_field 5) M (power (prime_field 5) (sum_of_cubes (prime_field 5)) 4)) (sym powers_at_one)
      (subst (λ g. Member (prime_field 5) (list_of_powers 5) (power (prime_field 5) g 4)) (sym cubes) inside);
  outside_at_one = third_outside;
  not_threshold = λ h. nineteenth_outside (h.inside 2);
}
