use Rattle.std.proofs.Common.{◌≡◌, drop}
use Rattle.fj_coeff.specs.PrimeField.{prime_field}
use Rattle.fj_theory.specs.Polynomial.{IsPolynomial, sum}
use Rattle.fj_theory.proofs.Plain.{multiple}
use Rattle.fj_plain.proofs.tally.Tally.add_multiple.Given as goal

-- the multiples of the terms to come complete the sum
abbrev pub invariant-loop-i : goal.invariant-loop-i
invariant-loop-i l = record {
  over : IsPolynomial (prime_field l.p) l.self;
  whole : sum (prime_field l.p) l.self (multiple l.p l.e l.factor.rank l.factor.exps (drop l.i l.f.terms))
      ≡ sum (prime_field l.p) l.initial.self (multiple l.p l.e l.factor.rank l.factor.exps l.f.terms);
}
