-- The digits in base p of a fraction of (0, 1], in the expansion that doesn't end in zeros
-- (Blickle, Mustață and Smith 2008 use the numbers ceil(t*p^e); the digits are those of ceil(t*p^e) - 1).
use Rattle.std.specs.Prelude.{◌≡◌, ℕ, zero, suc, ◌+◌, ◌-◌, ◌*◌, ◌%◌, ◌^◌, ◌<◌, ◌≤◌, List, [], ◌∷◌, length, fold}
use Rattle.std.specs.Int.{IsGcd}
use Rattle.fj_theory.specs.Fraction.{Fraction, IsLowest, ceil_times}

-- N_e = ceil(t*p^e) - 1.
unfoldable pub ceiling_less_one : ℕ → Fraction → ℕ → ℕ
ceiling_less_one p t e = ceil_times t (p ^ e) - 1

-- The digit at a place, counted from 0: d with N_(e+1) = p*N_e + d.
unfoldable pub digit : ℕ → Fraction → ℕ → ℕ
digit p t e = ceiling_less_one p t (e + 1) - p * ceiling_less_one p t e

-- The digits from a place on, as many as the count, the most significant first.
unfoldable pub digits : ℕ → Fraction → ℕ → ℕ → List ℕ
digits p t from zero = []
digits p t from (suc count) = digit p t from ∷ digits p t (from + 1) count

-- The number with these digits in base p, the most significant first.
unfoldable pub value_of : ℕ → List ℕ → ℕ
value_of p ds = fold (λ n d. p * n + d) 0 ds

-- b is the order of p modulo n, 1 where n is 1.
pub record IsOrder (p n b : ℕ) : Type 0 where
  pub positive : 0 < b
  pub one : p ^ b % n ≡ 1 % n
  pub least : (k : ℕ) → 0 < k → p ^ k % n ≡ 1 % n → b ≤ k

-- The lengths c and b of pre-period and period for the denominator n: n = p^c*rest with p prime to rest, and b is the
-- order of p modulo rest.
pub record IsPeriod (p n c b : ℕ) : Type 0 where
  pub rest : ℕ
  pub split : n ≡ p ^ c * rest
  pub prime_to : IsGcd p rest 1
  pub order : IsOrder p rest b

-- A prime p, and the digits in base p of a pre-period and of a period.
pub record Expansion : Type 0 where
  pub prime : ℕ
  pub pre : List ℕ
  pub period : List ℕ

-- The expansion of a fraction in lowest terms in base p.
pub record IsExpansion (p : ℕ) (t : Fraction) (d : Expansion) : Type 0 where
  pub prime : d.prime ≡ p
  pub lowest : IsLowest t
  pub lengths : IsPeriod p t.denominator (length d.pre) (length d.period)
  pub pre : d.pre ≡ digits p t 0 (length d.pre)
  pub period : d.period ≡ digits p t (length d.pre) (length d.period)

-- a*(1 + q + .. + q^(k-1)), the number with the digit a written k times in base q.
unfoldable pub repeated_value : ℕ → ℕ → ℕ → ℕ
repeated_value q a zero = 0
repeated_value q a (suc k) = q ^ k * a + repeated_value q a k
