use Rattle.std.proofs.Common.{◌≡◌, drop}
use Rattle.std.specs.FinMap.{from_entries}
use Rattle.fj_coeff.specs.PrimeField.{prime_field}
use Rattle.fj_theory.specs.Polynomial.{IsPolynomial, sum, product}
use Rattle.fj_theory.specs.Plain.{polynomial}
use Rattle.fj_plain.proofs.tally.Tally.add_product.Given as goal

-- the product of the terms to come completes the sum
abbrev pub invariant-loop-i : goal.invariant-loop-i
invariant-loop-i l = record {
  over : IsPolynomial (prime_field l.p) l.self;
  whole : sum (prime_field l.p) l.self (product (prime_field l.p) (from_entries (drop l.i l.f.terms)) (polynomial l.g))
      ≡ sum (prime_field l.p) l.initial.self (product (prime_field l.p) (from_entries l.f.terms) (polynomial l.g));
}
