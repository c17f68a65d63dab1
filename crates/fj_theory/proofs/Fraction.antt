-- The order of fractions by value, and the least whole number not below a multiple of a fraction.
use Rattle.std.proofs.Common.{◌≡◌, ℕ, ◌+◌, ◌-◌, ◌*◌, ◌/◌, ◌%◌, ◌<◌, ◌≤◌, min, sym, ap, ◌∙◌, subst, arith, inl, inr, ◌⊎◌, ⊎_elim}
use Rattle.std.specs.Int.{div_ceil}
use Rattle.std.specs.Ordering.{nat_cmp}
use Rattle.std.specs.Cmp.{IsTotalOrder, nat_cmp_total}
use Rattle.std.specs.declared.cmp.Ordering.TheVariants.{Less, Equal}
use Rattle.std.proofs.lemmas.Bool.{cases_order}
use Rattle.std.proofs.lemmas.Bool.Decides.{nat_tests}
use Rattle.std.proofs.lemmas.Cmp.{ranked}
use Rattle.std.proofs.lemmas.Nat.{mod_below}
use Rattle.std.proofs.Math.Nat.{div-add-mod, eq-zero-or-pos, le_of_mul-le-mul_right, lt_of_mul-lt-mul_right, mul-le-mul_left, mul-le-mul_right, mul-lt-mul_of_pos_right, eq_of_mul-eq-mul_right}
use Rattle.fj_theory.specs.Fraction.{Fraction, SameValue, compare, ceil_times}

-- A quotient rounded up is the least number whose product with the divisor isn't below.
div_ceil_cases : (x y : ℕ) → 0 < y → (div_ceil x y * y ≡ x) ⊎ ((x < div_ceil x y * y) × (div_ceil x y * y < x + y))
div_ceil_cases x y positive =
    let whole = div-add-mod x y in
    let below : x % y < y = mod_below x y positive in
    ⊎_elim
    (λ (none : x % y ≡ 0). inl (let up : x / y + min 1 (x % y) ≡ x / y = omega arith in ap (λ n. n * y) up ∙ omega arith))
    (λ (some : 0 < x % y). inr (let up : x / y + min 1 (x % y) ≡ x / y + 1 = omega arith in
    let product : div_ceil x y * y ≡ (x / y + 1) * y = ap (λ n. n * y) up in
    (omega arith, omega arith)))
    (eq-zero-or-pos (x % y))

div_ceil_least : (x y k : ℕ) → 0 < y → x ≤ k * y → div_ceil x y ≤ k
div_ceil_least x y k positive enough =
    let less : div_ceil x y * y < (k + 1) * y = ⊎_elim (λ (e : div_ceil x y * y ≡ x). omega arith) (λ (e : (x < div_ceil x y * y) × (div_ceil x y * y < x + y)). omega arith) (div_ceil_cases x y positive) in
    let below : div_ceil x y < k + 1 = lt_of_mul-lt-mul_right y less in
    omega arith

-- What ceil(t*q) is: not below t*q, and at most each whole number that isn't.
pub record IsCeiling (t : Fraction) (q c : ℕ) : Type 0 where
  pub enough : t.numerator * q ≤ c * t.denominator
  pub least : (k : ℕ) → t.numerator * q ≤ k * t.denominator → c ≤ k

pub ceil_times-IsCeiling : (t : Fraction) (q : ℕ) → IsCeiling t q (ceil_times t q)
unfolding ceil_times
ceil_times-IsCeiling t q = record {
  enough = ⊎_elim (λ (e : div_ceil (t.numerator * q) t.denominator * t.denominator ≡ t.numerator * q). omega arith) (λ (e : (t.numerator * q < div_ceil (t.numerator * q) t.denominator * t.denominator) × (div_ceil (t.numerator * q) t.denominator * t.denominator < t.numerator * q + t.denominator)). omega arith) (div_ceil_cases (t.numerator * q) t.denominator t.positive);
  least = λ k. div_ceil_least (t.numerator * q) t.denominator k t.positive;
}

pub SameValue-sym : (s t : Fraction) → SameValue s t → SameValue t s
SameValue-sym s t e = sym e

pub SameValue-trans : (s t u : Fraction) → SameValue s t → SameValue t u → SameValue s u
SameValue-trans s t u e f =
    eq_of_mul-eq-mul_right t.denominator t.positive (s.numerator * u.denominator) (u.numerator * s.denominator)
    (omega (arith, ap (λ n. n * u.denominator) e, ap (λ n. n * s.denominator) f))

-- ceil(t*q) rises with t.
pub ceil_times-le : (s t : Fraction) (q : ℕ) → s.numerator * t.denominator ≤ t.numerator * s.denominator → ceil_times s q ≤ ceil_times t q
ceil_times-le s t q at_most =
    let enough : t.numerator * q ≤ ceil_times t q * t.denominator = (ceil_times-IsCeiling t q).enough in
    let scaled : (t.numerator * q) * s.denominator ≤ (ceil_times t q * t.denominator) * s.denominator = mul-le-mul_right s.denominator enough in
    let value : (s.numerator * t.denominator) * q ≤ (t.numerator * s.denominator) * q = mul-le-mul_right q at_most in
    let product : (s.numerator * q) * t.denominator ≤ (ceil_times t q * s.denominator) * t.denominator = omega arith in
    (ceil_times-IsCeiling s q).least (ceil_times t q) (le_of_mul-le-mul_right product t.positive)

-- ceil(t*q) depends on the value of t alone.
pub ceil_times-SameValue : (s t : Fraction) (q : ℕ) → SameValue s t → ceil_times s q ≡ ceil_times t q
ceil_times-SameValue s t q e = omega (arith, ceil_times-le s t q (omega arith), ceil_times-le t s q (omega arith))

nat_cmp_scaled : (a b k : ℕ) → 0 < k → nat_cmp (a * k) (b * k) ≡ nat_cmp a b
nat_cmp_scaled a b k positive =
    elim (cases_order a b) [
      | inl same ↦ let products : a * k ≡ b * k = ap (λ n. n * k) same in grind (arith, nat_tests)
      | inr (inl less) ↦ let products : a * k < b * k = mul-lt-mul_of_pos_right less positive in grind (arith, nat_tests)
      | inr (inr more) ↦ let products : b * k < a * k = mul-lt-mul_of_pos_right more positive in grind (arith, nat_tests)
    ]

-- What the order by value says.
pub less_from_compare : (s t : Fraction) → compare s t ≡ Less → s.numerator * t.denominator < t.numerator * s.denominator
less_from_compare s t e = ranked (s.numerator * t.denominator) (t.numerator * s.denominator) Less (sym e)

pub compare-less : (s t : Fraction) → s.numerator * t.denominator < t.numerator * s.denominator → compare s t ≡ Less
compare-less s t less = grind (arith, nat_tests)

-- The order by value is total, and ties exactly fractions of one value.
pub compare-IsTotalOrder : IsTotalOrder compare
compare-IsTotalOrder = record {
  antisymm = λ s t. nat_cmp_total.antisymm (s.numerator * t.denominator) (t.numerator * s.denominator);
  trans = λ s t u e f.
      let first : (s.numerator * t.denominator) * u.denominator < (t.numerator * s.denominator) * u.denominator = mul-lt-mul_of_pos_right (less_from_compare s t e) u.positive in
      let second : (t.numerator * u.denominator) * s.denominator < (u.numerator * t.denominator) * s.denominator = mul-lt-mul_of_pos_right (less_from_compare t u f) s.positive in
      let both : (s.numerator * u.denominator) * t.denominator < (u.numerator * s.denominator) * t.denominator = omega arith in
      let less : s.numerator * u.denominator < u.numerator * s.denominator = lt_of_mul-lt-mul_right t.denominator both in
      grind (arith, nat_tests);
  congr = λ s t u e.
      let value : s.numerator * t.denominator ≡ t.numerator * s.denominator = ranked (s.numerator * t.denominator) (t.numerator * s.denominator) Equal (sym e) in
      let scaled : (s.numerator * u.denominator) * t.denominator ≡ (t.numerator * u.denominator) * s.denominator = omega (arith, ap (λ n. n * u.denominator) value) in
      let other : (u.numerator * s.denominator) * t.denominator ≡ (u.numerator * t.denominator) * s.denominator = omega arith in
      sym (nat_cmp_scaled (s.numerator * u.denominator) (u.numerator * s.denominator) t.denominator t.positive) ∙ rw (scaled, other) (nat_cmp_scaled (t.numerator * u.denominator) (u.numerator * t.denominator) s.denominator s.positive);
}

pub SameValue-from_compare : (s t : Fraction) → compare s t ≡ Equal → SameValue s t
SameValue-from_compare s t e = ranked (s.numerator * t.denominator) (t.numerator * s.denominator) Equal (sym e)

-- ceil(t*(p*q)) <= p*ceil(t*q).
pub ceil_times-mul : (t : Fraction) (p q : ℕ) → ceil_times t (p * q) ≤ p * ceil_times t q
ceil_times-mul t p q =
    let enough : p * (t.numerator * q) ≤ p * (ceil_times t q * t.denominator) = mul-le-mul_left p (ceil_times-IsCeiling t q).enough in
    (ceil_times-IsCeiling t (p * q)).least (p * ceil_times t q) (omega arith)

-- ceil(t*q) is t*q where that is whole.
pub ceil_times-whole : (t : Fraction) (q c : ℕ) → t.numerator * q ≡ c * t.denominator → ceil_times t q ≡ c
ceil_times-whole t q c whole =
    let ceiling = ceil_times-IsCeiling t q in
    let low : c ≤ ceil_times t q = le_of_mul-le-mul_right (omega (arith, ceiling.enough)) t.positive in
    omega (arith, ceiling.least c (omega arith))

-- ceil((t + k)*q) = ceil(t*q) + k*q.
pub ceil_times-add : (s t : Fraction) (k q : ℕ) → s.denominator ≡ t.denominator → s.numerator ≡ t.numerator + k * t.denominator
    → ceil_times s q ≡ ceil_times t q + k * q
ceil_times-add s t k q same more =
    let first = ceil_times-IsCeiling s q in
    let second = ceil_times-IsCeiling t q in
    let numerators : s.numerator * q ≡ t.numerator * q + k * q * t.denominator = ap (λ n. n * q) more ∙ omega arith in
    let enough : s.numerator * q ≤ ceil_times s q * t.denominator = subst (λ n. s.numerator * q ≤ ceil_times s q * n) same first.enough in
    let high : ceil_times s q ≤ ceil_times t q + k * q = first.least (ceil_times t q + k * q) (rw same (omega (arith, second.enough))) in
    let room : k * q ≤ ceil_times s q = le_of_mul-le-mul_right (omega arith) t.positive in
    let difference : (ceil_times s q - k * q) + k * q ≡ ceil_times s q = omega arith in
    let product : ((ceil_times s q - k * q) + k * q) * t.denominator ≡ ceil_times s q * t.denominator = ap (λ n. n * t.denominator) difference in
    let low : ceil_times t q ≤ ceil_times s q - k * q = second.least (ceil_times s q - k * q) (omega arith) in
    omega arith
