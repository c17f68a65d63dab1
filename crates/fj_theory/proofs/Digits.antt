-- The digits of a fraction of (0, 1]: the recurrence, the numbers that they write, and the period.
use Rattle.std.proofs.Common.{◌≡◌, ℕ, zero, suc, ◌+◌, ◌-◌, ◌*◌, ◌^◌, ◌<◌, ◌≤◌, List, [], ◌∷◌, ◌++◌, length, All, Any, refl, sym, ap, ◌∙◌, subst, arith, add-one, inl, inr, ◌⊎◌, ⊎_elim}
use Rattle.std.specs.Prelude.{fold}
use Rattle.std.proofs.lemmas.Bool.{cases_lt}
use Rattle.std.proofs.lemmas.List.Elements.{All-nil, All-cons}
use Rattle.std.proofs.Math.Nat.{pow-zero, pow-suc, one-le-pow, lt_of_mul-lt-mul_right, mul-le-mul_left, mul-le-mul_right, mul-lt-mul_of_pos_left, mul-lt-mul_of_pos_right}
use Rattle.fj_theory.specs.Fraction.{Fraction, SameValue, IsInUnitInterval, ceil_times}
use Rattle.fj_theory.specs.Digits.{ceiling_less_one, digit, digits, value_of}
use Rattle.fj_theory.proofs.Fraction.{ceil_times-IsCeiling, ceil_times-SameValue}

-- N is the greatest whole number below t*p^e.
pub record IsTruncation (p : ℕ) (t : Fraction) (e N : ℕ) : Type 0 where
  pub below : N * t.denominator < t.numerator * p ^ e
  pub next : t.numerator * p ^ e ≤ (N + 1) * t.denominator

pub product_positive : (a b : ℕ) → 0 < a → 0 < b → 0 < a * b
product_positive a b h k = let e : 0 * b < a * b = mul-lt-mul_of_pos_right h k in omega arith

ceil_times_positive : (p : ℕ) (t : Fraction) (e : ℕ) → 0 < p → 0 < t.numerator → 0 < ceil_times t (p ^ e)
ceil_times_positive p t e positive above = elim (cases_lt 0 (ceil_times t (p ^ e))) [
  | inl some ↦ some
  | inr none ↦
      let product : ceil_times t (p ^ e) * t.denominator ≤ 0 * t.denominator = mul-le-mul_right t.denominator none in
      absurd (omega (arith, (ceil_times-IsCeiling t (p ^ e)).enough, product_positive t.numerator (p ^ e) above (one-le-pow e p positive)))
]

-- ceil(t*p^e) = N_e + 1.
pub ceil_times-ceiling_less_one : (p : ℕ) (t : Fraction) (e : ℕ) → 0 < p → 0 < t.numerator → ceil_times t (p ^ e) ≡ ceiling_less_one p t e + 1
unfolding ceiling_less_one
ceil_times-ceiling_less_one p t e positive above = omega (arith, ceil_times_positive p t e positive above)

-- N_e is the greatest whole number below t*p^e.
pub ceiling_less_one-IsTruncation : (p : ℕ) (t : Fraction) (e : ℕ) → 0 < p → 0 < t.numerator → IsTruncation p t e (ceiling_less_one p t e)
ceiling_less_one-IsTruncation p t e positive above =
    let ceiling = ceil_times-IsCeiling t (p ^ e) in
    let next = ceil_times-ceiling_less_one p t e positive above in
    record {
      below = elim (cases_lt (ceiling_less_one p t e * t.denominator) (t.numerator * p ^ e)) [
        | inl less ↦ less
        | inr enough ↦ absurd (omega (arith, ceiling.least (ceiling_less_one p t e) enough))
      ];
      next = subst (λ c. t.numerator * p ^ e ≤ c * t.denominator) next ceiling.enough;
    }

IsTruncation-le : (p : ℕ) (t : Fraction) (e N M : ℕ) → IsTruncation p t e N → IsTruncation p t e M → N ≤ M
IsTruncation-le p t e N M h k =
    let less : N * t.denominator < (M + 1) * t.denominator = omega (arith, h.below, k.next) in
    let below : N < M + 1 = lt_of_mul-lt-mul_right t.denominator less in
    omega arith

pub IsTruncation-unique : (p : ℕ) (t : Fraction) (e N M : ℕ) → IsTruncation p t e N → IsTruncation p t e M → N ≡ M
IsTruncation-unique p t e N M h k = omega (arith, IsTruncation-le p t e N M h k, IsTruncation-le p t e M N k h)

-- The recurrence N_(e+1) = p*N_e + d, with a digit below p.
pub record IsDigit (p : ℕ) (t : Fraction) (e : ℕ) : Type 0 where
  pub recurrence : ceiling_less_one p t (e + 1) ≡ p * ceiling_less_one p t e + digit p t e
  pub below : digit p t e < p

pub digit-IsDigit : (p : ℕ) (t : Fraction) (e : ℕ) → 0 < p → 0 < t.numerator → IsDigit p t e
unfolding digit
digit-IsDigit p t e positive above =
    let now = ceiling_less_one-IsTruncation p t e positive above in
    let after = ceiling_less_one-IsTruncation p t (e + 1) positive above in
    let power : p ^ (e + 1) ≡ p * p ^ e = rw add-one (pow-suc p e ∙ omega arith) in
    let product : t.numerator * p ^ (e + 1) ≡ p * (t.numerator * p ^ e) = ap (λ n. t.numerator * n) power ∙ omega arith in
    let low : p * (ceiling_less_one p t e * t.denominator) < p * (t.numerator * p ^ e) = mul-lt-mul_of_pos_left now.below positive in
    let high : p * (t.numerator * p ^ e) ≤ p * ((ceiling_less_one p t e + 1) * t.denominator) = mul-le-mul_left p now.next in
    let first : (p * ceiling_less_one p t e) * t.denominator < (ceiling_less_one p t (e + 1) + 1) * t.denominator = omega (arith, after.next) in
    let second : ceiling_less_one p t (e + 1) * t.denominator < (p * ceiling_less_one p t e + p) * t.denominator = omega (arith, after.below) in
    let from : p * ceiling_less_one p t e < ceiling_less_one p t (e + 1) + 1 = lt_of_mul-lt-mul_right t.denominator first in
    let to : ceiling_less_one p t (e + 1) < p * ceiling_less_one p t e + p = lt_of_mul-lt-mul_right t.denominator second in
    record { recurrence = omega arith; below = omega arith }

-- N_0 = 0.
pub ceiling_less_one-zero : (p : ℕ) (t : Fraction) → t.numerator ≤ t.denominator → ceiling_less_one p t 0 ≡ 0
unfolding ceiling_less_one
ceiling_less_one-zero p t small =
    let one : t.numerator * p ^ 0 ≤ 1 * t.denominator = rw (pow-zero p) (omega arith) in
    omega (arith, (ceil_times-IsCeiling t (p ^ 0)).least 1 one)

-- The digits depend on the value of t alone.
pub ceiling_less_one-SameValue : (p : ℕ) (s t : Fraction) (e : ℕ) → SameValue s t → ceiling_less_one p s e ≡ ceiling_less_one p t e
unfolding ceiling_less_one
ceiling_less_one-SameValue p s t e same = ap (λ n. n - 1) (ceil_times-SameValue s t (p ^ e) same)

pub length-digits : (p : ℕ) (t : Fraction) (from count : ℕ) → length (digits p t from count) ≡ count
unfolding digits
length-digits p t from zero = refl
length-digits p t from (suc count) = ap suc (length-digits p t (from + 1) count)

-- One more digit.
pub digits-push : (p : ℕ) (t : Fraction) (from count : ℕ) → digits p t from (suc count) ≡ digits p t from count ++ digit p t (from + count) ∷ []
unfolding digits
digits-push p t from zero = let place : from + 0 ≡ from = omega arith in rw place refl
digits-push p t from (suc count) =
    ap (λ ds. digit p t from ∷ ds) (digits-push p t (from + 1) count ∙ (let place : from + 1 + count ≡ from + suc count = omega arith in rw place refl))

-- The digits are below p.
pub digits_below : (p : ℕ) (t : Fraction) (from count : ℕ) → 0 < p → 0 < t.numerator → All (λ d. d < p) (digits p t from count)
unfolding digits
digits_below p t from zero positive above = All-nil (λ d. d < p)
digits_below p t from (suc count) positive above =
    All-cons (λ d. d < p) (digit p t from) (digits p t (from + 1) count) (digit-IsDigit p t from positive above).below (digits_below p t (from + 1) count positive above)

fold_digits : (p : ℕ) (t : Fraction) (from count : ℕ) → 0 < p → 0 < t.numerator
    → fold (λ n d. p * n + d) (ceiling_less_one p t from) (digits p t from count) ≡ ceiling_less_one p t (from + count)
unfolding digits
fold_digits p t from zero positive above = ap (ceiling_less_one p t) (omega arith)
fold_digits p t from (suc count) positive above =
    ap (λ n. fold (λ n d. p * n + d) n (digits p t (from + 1) count)) (sym (digit-IsDigit p t from positive above).recurrence)
    ∙ fold_digits p t (from + 1) count positive above
    ∙ ap (ceiling_less_one p t) (omega arith)

-- The first c digits write N_c.
pub value_of-digits : (p : ℕ) (t : Fraction) (c : ℕ) → 0 < p → IsInUnitInterval t → value_of p (digits p t 0 c) ≡ ceiling_less_one p t c
unfolding value_of
value_of-digits p t c positive unit =
    ap (λ n. fold (λ n d. p * n + d) n (digits p t 0 c)) (sym (ceiling_less_one-zero p t unit.at_most_one))
    ∙ fold_digits p t 0 c positive unit.above_zero
    ∙ ap (ceiling_less_one p t) (omega arith)

fold_from : (p n : ℕ) (ds : List ℕ) → fold (λ n d. p * n + d) n ds ≡ p ^ length ds * n + fold (λ n d. p * n + d) 0 ds
fold_from p n [] = rw (pow-zero p) (omega arith)
fold_from p n (d ∷ ds) =
    let left = fold_from p (p * n + d) ds in
    let right = fold_from p (p * 0 + d) ds in
    let power : p ^ suc (length ds) ≡ p ^ length ds * p = pow-suc p (length ds) in
    let product : p ^ suc (length ds) * n ≡ p ^ length ds * p * n = ap (λ m. m * n) power in
    omega arith

-- More digits: N_(e+k) is p^k*N_e and the number that the k digits from e on write.
pub ceiling_less_one-more : (p : ℕ) (t : Fraction) (e k : ℕ) → 0 < p → 0 < t.numerator
    → ceiling_less_one p t (e + k) ≡ p ^ k * ceiling_less_one p t e + value_of p (digits p t e k)
unfolding value_of
ceiling_less_one-more p t e k positive above =
    sym (fold_digits p t e k positive above)
    ∙ fold_from p (ceiling_less_one p t e) (digits p t e k)
    ∙ ap (λ n. p ^ n * ceiling_less_one p t e + fold (λ n d. p * n + d) 0 (digits p t e k)) (length-digits p t e k)

-- The first digit counts most, the last digit least.
pub value_of-cons : (p d : ℕ) (ds : List ℕ) → value_of p (d ∷ ds) ≡ p ^ length ds * d + value_of p ds
unfolding value_of
value_of-cons p d ds = fold_from p (p * 0 + d) ds ∙ (let e : p * 0 + d ≡ d = omega arith in ap (λ n. p ^ length ds * n + fold (λ n d. p * n + d) 0 ds) e)

fold-push : (p n d : ℕ) (ds : List ℕ) → fold (λ n d. p * n + d) n (ds ++ d ∷ []) ≡ p * fold (λ n d. p * n + d) n ds + d
fold-push p n d [] = refl
fold-push p n d (x ∷ ds) = fold-push p (p * n + x) d ds

pub value_of-push : (p d : ℕ) (ds : List ℕ) → value_of p (ds ++ d ∷ []) ≡ p * value_of p ds + d
unfolding value_of
value_of-push p d ds = fold-push p 0 d ds

value_of_positive_from : (p n : ℕ) (ds : List ℕ) → 0 < fold (λ n d. p * n + d) n ds → (0 < n) ⊎ Any (λ d. 0 < d) ds
value_of_positive_from p n [] positive = inl positive
value_of_positive_from p n (d ∷ ds) positive =
    elim (value_of_positive_from p (p * n + d) ds positive) [
      | inl some ↦ elim (cases_lt 0 d) [
        | inl here ↦ inr (0, d, omega arith, refl, here)
        | inr none ↦ elim (cases_lt 0 n) [
          | inl before ↦ inl before
          | inr nothing ↦ let product : p * n ≤ p * 0 = mul-le-mul_left p nothing in absurd (omega arith)
        ]
      ]
      | inr later ↦ inr (later.0 + 1, later.1, omega (arith, later.2), rw add-one later.3, later.4)
    ]

-- Digits that write a positive number aren't all zero.
pub Any-value_of : (p : ℕ) (ds : List ℕ) → 0 < value_of p ds → Any (λ d. 0 < d) ds
unfolding value_of
Any-value_of p ds positive = ⊎_elim (λ (none : 0 < 0). absurd (omega arith)) (λ (some : Any (λ d. 0 < d) ds). some) (value_of_positive_from p 0 ds positive)
