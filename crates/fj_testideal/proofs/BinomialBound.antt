-- The number of monomials of bounded degree rises in the number of variables and in the degree, and how large it is.
use Rattle.std.proofs.Common.{◌≡◌, ℕ, zero, suc, ◌+◌, ◌-◌, ◌*◌, ◌^◌, ◌<◌, ◌≤◌, refl, sym, ap, subst, arith}
use Rattle.std.proofs.Math.Nat.{eq_of_mul-eq-mul_right}
use Rattle.fj_algebra.specs.StrictSteps.{monomial_count}
use Rattle.fj_theory.proofs.Digits.{product_positive}
use Rattle.fj_testideal.specs.LeadLaws.{factorial}
use Rattle.fj_testideal.proofs.Binomial.{monomial_count-binomial}

one_variable_more : (n D : ℕ) → monomial_count n D ≤ monomial_count (suc n) D
unfolding monomial_count
one_variable_more zero zero = omega arith
one_variable_more (suc n) zero = omega arith
one_variable_more zero (suc D) = omega arith
one_variable_more (suc n) (suc D) = omega arith

one_degree_more : (n D : ℕ) → monomial_count n D ≤ monomial_count n (suc D)
unfolding monomial_count
one_degree_more zero D = omega arith
one_degree_more (suc n) D = omega arith

variables_more : (k m D : ℕ) → monomial_count m D ≤ monomial_count (k + m) D
variables_more zero m D = let same : 0 + m ≡ m = omega arith in subst (λ n. monomial_count m D ≤ monomial_count n D) (sym same) (omega arith)
variables_more (suc k) m D =
    let next : suc (k + m) ≡ suc k + m = omega arith in
    subst (λ n. monomial_count m D ≤ monomial_count n D) next (omega (arith, variables_more k m D, one_variable_more (k + m) D))

degrees_more : (k n D : ℕ) → monomial_count n D ≤ monomial_count n (k + D)
degrees_more zero n D = let same : 0 + D ≡ D = omega arith in subst (λ e. monomial_count n D ≤ monomial_count n e) (sym same) (omega arith)
degrees_more (suc k) n D =
    let next : suc (k + D) ≡ suc k + D = omega arith in
    subst (λ e. monomial_count n D ≤ monomial_count n e) next (omega (arith, degrees_more k n D, one_degree_more n (k + D)))

pub monomial_count-rises : (m n D E : ℕ) → m ≤ n → D ≤ E → monomial_count m D ≤ monomial_count n E
monomial_count-rises m n D E h k =
    let wide : n - m + m ≡ n = omega arith in
    let high : E - D + D ≡ E = omega arith in
    let first : monomial_count m D ≤ monomial_count n D = subst (λ i. monomial_count m D ≤ monomial_count i D) wide (variables_more (n - m) m D) in
    let second : monomial_count n D ≤ monomial_count n E = subst (λ e. monomial_count n D ≤ monomial_count n e) high (degrees_more (E - D) n D) in
    omega (arith, first, second)

factorial-suc : (n : ℕ) → factorial (suc n) ≡ suc n * factorial n
unfolding factorial
factorial-suc n = refl

factorial-positive : (n : ℕ) → 0 < factorial n
unfolding factorial
factorial-positive zero = omega arith
factorial-positive (suc n) = product_positive (suc n) (factorial n) (omega arith) (factorial-positive n)

seven : factorial 7 ≡ 5040
unfolding factorial
seven = refl

-- 1007! = 1001 .. 1007 * 1000!.
seven_more : factorial 1007 ≡ 1028323966782145073040 * factorial 1000
seven_more =
    let s1007 : factorial 1007 ≡ 1007 * factorial 1006 = factorial-suc 1006 in
    let s1006 : factorial 1006 ≡ 1006 * factorial 1005 = factorial-suc 1005 in
    let s1005 : factorial 1005 ≡ 1005 * factorial 1004 = factorial-suc 1004 in
    let s1004 : factorial 1004 ≡ 1004 * factorial 1003 = factorial-suc 1003 in
    let s1003 : factorial 1003 ≡ 1003 * factorial 1002 = factorial-suc 1002 in
    let s1002 : factorial 1002 ≡ 1002 * factorial 1001 = factorial-suc 1001 in
    let s1001 : factorial 1001 ≡ 1001 * factorial 1000 = factorial-suc 1000 in
    omega (arith, s1007, s1006, s1005, s1004, s1003, s1002, s1001)

-- C(1007, 7) is below 2^64.
largest : monomial_count 7 1000 + 1 < 2 ^ 64
largest =
    let whole : monomial_count 7 1000 * (factorial 7 * factorial 1000) ≡ factorial 1007 = monomial_count-binomial 7 1000 in
    let scaled : monomial_count 7 1000 * (factorial 7 * factorial 1000) ≡ monomial_count 7 1000 * (5040 * factorial 1000) = ap (λ n. monomial_count 7 1000 * (n * factorial 1000)) seven in
    let products : monomial_count 7 1000 * 5040 * factorial 1000 ≡ 1028323966782145073040 * factorial 1000 = omega (arith, whole, scaled, seven_more) in
    let count : monomial_count 7 1000 * 5040 ≡ 1028323966782145073040 = eq_of_mul-eq-mul_right (factorial 1000) (factorial-positive 1000) (monomial_count 7 1000 * 5040) 1028323966782145073040 products in
    omega (arith, count)

pub monomial_count-fits : (n D : ℕ) → n ≤ 7 → D ≤ 1000 → monomial_count n D + 1 < 2 ^ 64
monomial_count-fits n D h k = let most = largest in omega (arith, most, monomial_count-rises n 7 D 1000 h k)
