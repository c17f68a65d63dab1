-- The exponent M/p of a test ideal, in lowest terms.
use Rattle.std.proofs.Common.{ℕ, ◌+◌, ◌*◌, ◌<◌, ◌≤◌, arith, inl, inr}
use Rattle.std.proofs.lemmas.Bool.{cases_lt}
use Rattle.std.proofs.lemmas.Nat.{mul-le}
use Rattle.fj_coeff.specs.Field.{greatest_prime}
use Rattle.fj_theory.specs.Fraction.{Fraction}
use Rattle.fj_grammar.specs.Grammar.{IsExponent}
use Rattle.fj_script.proofs.Ratios.{reduced}

-- A numerator of 1 to the denominator, which is at most the greatest prime.
pub exponent_at : (m n : ℕ) → 0 < m → m ≤ n → n ≤ greatest_prime → (t : Fraction) × IsExponent m n t
exponent_at m n some below small =
    let r = reduced m n (omega arith) in
    let t = r.0 in
    let value = r.1.form.value in
    let below_one : t.numerator ≤ t.denominator =
    elim (cases_lt t.denominator t.numerator) [
      | inr low ↦ low
      | inl high ↦ absurd (
          let first : (t.denominator + 1) * n ≤ t.numerator * n = mul-le (t.denominator + 1) n t.numerator n (omega (arith, high)) (omega arith) in
          let second : m * t.denominator ≤ n * t.denominator = mul-le m t.denominator n t.denominator below (omega arith) in
          omega (arith, first, second, value, some, below))
    ] in
    let upper : t.numerator * n ≤ greatest_prime * greatest_prime = mul-le t.numerator n greatest_prime greatest_prime (omega (arith, r.1.below, below, small)) small in
    let lower : 1 * t.denominator ≤ m * t.denominator = mul-le 1 t.denominator m t.denominator some (omega arith) in (
      t,
      record { numerator_fits = omega (arith, below, small); denominator_fits = omega (arith, small); divides = omega (arith, some, below); form = r.1.form; low = omega (arith, below_one); short = omega (arith, upper, lower, value) },
    )
