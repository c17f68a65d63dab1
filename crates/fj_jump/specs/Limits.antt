-- What contracts see of limits: the polynomial, the turn budget, and the count of exponents that were asked for.
use Rattle.std.specs.Prelude.{◌≡◌, ℕ, ◌+◌, ◌-◌, ◌^◌, min}
use Rattle.std.specs.FinMap.{code}
use Rattle.std.specs.Coded.{Coded, coded_list, coded×, coded_ℕ}
use base.Stored.{coded_via}
use Rattle.fj_theory.specs.Polynomial.{Polynomial}

pub record CountedLimits : Type 0 where
  pub f : Polynomial
  pub pairs : ℕ
  pub evaluated : ℕ

-- The count after one more exponent: it stays at the greatest number of 64 bits.
abbrev pub next_count : ℕ → ℕ
next_count n = min (n + 1) (2 ^ 64 - 1)

abbrev parts : CountedLimits → Polynomial × (ℕ × ℕ)
parts l = (l.f, (l.pairs, l.evaluated))

pub same_parts : (l m : CountedLimits) → parts l ≡ parts m → l ≡ m
same_parts l m h = λ i. record { f = (h i).0; pairs = (h i).1.0; evaluated = (h i).1.1 }

-- They are stored by their parts.
abbrev pub limits_code : Coded CountedLimits
limits_code = coded_via (coded× (code (coded_list coded_ℕ) coded_ℕ) (coded× coded_ℕ coded_ℕ)) parts same_parts
