-- F-thresholds of a polynomial f at a proper ideal (J) that has f among its members
-- (Mustață, Takagi and Watanabe 2005, section 1; Blickle, Mustață and Smith 2008, section 2).
use Rattle.std.specs.Prelude.{ℕ, ◌-◌, ◌^◌, ◌<◌, List}
use Rattle.fj_coeff.specs.Field.{Field}
use Rattle.fj_theory.specs.Exponents.{origin}
use Rattle.fj_theory.specs.Polynomial.{Polynomial, power, term}
use Rattle.fj_theory.specs.Ideal.{Member}
use Rattle.fj_theory.specs.FrobeniusPower.{frobenius_power}
use Rattle.fj_theory.specs.Fraction.{Fraction, ceil_times}
use Rattle.fj_theory.specs.Candidates.{IsCandidate, Gap}

-- (J) is proper: 1 isn't in it.
abbrev pub IsProper : Field → List Polynomial → Type 0
IsProper F J = Member F J (term 1 origin) → ⊥

-- f^k is in (J^[q]), for q = p^e.
abbrev pub IsPowerInside : Field → Polynomial → List Polynomial → ℕ → ℕ → Type 0
IsPowerInside F f J e k = Member F (frobenius_power F (F.characteristic ^ e) J) (power F f k)

-- nu(e) = r: f^r isn't in (J^[q]), and each higher power of f is.
pub record IsNu (F : Field) (f : Polynomial) (J : List Polynomial) (e r : ℕ) : Type 0 where
  pub outside : IsPowerInside F f J e r → ⊥
  pub greatest : (k : ℕ) → r < k → IsPowerInside F f J e k

-- t > 0 is the threshold of f at J: for every e f^ceil(t*p^e) is in (J^[q]), and f^(ceil(t*p^e) - 1) isn't.
pub record IsThreshold (F : Field) (f : Polynomial) (J : List Polynomial) (t : Fraction) : Type 0 where
  pub above_zero : 0 < t.numerator
  pub inside : (e : ℕ) → IsPowerInside F f J e (ceil_times t (F.characteristic ^ e))
  pub outside : (e : ℕ) → IsPowerInside F f J e (ceil_times t (F.characteristic ^ e) - 1) → ⊥

-- The gap (s, t) has the threshold inside: no candidate of C_E is the threshold, there is an e with f^ceil(s*p^e) not in
-- (J^[q]), and there is an e with f^(ceil(t*p^e) - 1) in (J^[q]).
pub record HasThresholdInside (F : Field) (f : Polynomial) (J : List Polynomial) (E : ℕ) (gap : Gap) : Type 0 where
  pub no_candidate : (u : Fraction) → IsCandidate F.characteristic E u → IsThreshold F f J u → ⊥
  pub low : ℕ
  pub outside : IsPowerInside F f J low (ceil_times gap.lower (F.characteristic ^ low)) → ⊥
  pub high : ℕ
  pub inside : IsPowerInside F f J high (ceil_times gap.upper (F.characteristic ^ high) - 1)
