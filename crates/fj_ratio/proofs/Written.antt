-- What the digits of an expansion write.
use Rattle.std.proofs.Common.{◌≡◌, ℕ, ◌+◌, ◌*◌, ◌^◌, ◌<◌, length, Contains, sym, ap, ◌∙◌, arith}
use Rattle.fj_coeff.specs.Field.{primes}
use Rattle.fj_coeff.specs.PrimeFieldLaws.{prime_bounds}
use Rattle.fj_theory.specs.Fraction.{Fraction, IsInUnitInterval}
use Rattle.fj_theory.specs.Digits.{ceiling_less_one, digits, value_of, Expansion, IsExpansion, repeated_value}
use Rattle.fj_theory.proofs.Digits.{value_of-digits}
use Rattle.fj_theory.proofs.Period.{period_value, ceil_times-periods}
use Rattle.fj_ratio.specs.ExpansionLaws.{IsWritten}

pub IsWritten-from_expansion : (p : ℕ) (t : Fraction) (d : Expansion) → Contains primes p → IsInUnitInterval t → IsExpansion p t d → IsWritten p t d
IsWritten-from_expansion p t d prime unit h =
    let large : 1 < p = (prime_bounds p prime).0 in
    let parts = period_value p t (length d.pre) (length d.period) large unit.above_zero h.lengths in
    let first : value_of p d.pre ≡ ceiling_less_one p t (length d.pre) = ap (value_of p) h.pre ∙ value_of-digits p t (length d.pre) (omega arith) unit in
    let second : value_of p d.period ≡ value_of p (digits p t (length d.pre) (length d.period)) = ap (value_of p) h.period in
    record {
      pre = first;
      rest = h.lengths.rest;
      remainder = parts.remainder;
      denominator = h.lengths.split;
      whole = parts.whole ∙ ap (λ n. n * h.lengths.rest + parts.remainder) (sym first);
      above_zero = parts.above_zero;
      at_most_one = parts.at_most_one;
      period = ap (λ n. n * h.lengths.rest + parts.remainder) second ∙ parts.multiple;
      period_positive = omega (arith, second, parts.value_positive);
      period_below = omega (arith, second, parts.value_below);
      ceilings = λ k. ceil_times-periods p t (length d.pre) (length d.period) k (omega arith) unit.above_zero h.lengths
          ∙ ap (λ n. p ^ (k * length d.period) * n + repeated_value (p ^ length d.period) (value_of p (digits p t (length d.pre) (length d.period))) k + 1) (sym first)
          ∙ ap (λ n. p ^ (k * length d.period) * value_of p d.pre + repeated_value (p ^ length d.period) n k + 1) (sym second);
    }
