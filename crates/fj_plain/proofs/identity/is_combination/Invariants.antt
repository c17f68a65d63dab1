use Rattle.std.proofs.Common.{◌≡◌, drop, map}
use Rattle.fj_coeff.specs.PrimeField.{prime_field}
use Rattle.fj_theory.specs.Ideal.{list_combination}
use Rattle.fj_theory.specs.Polynomial.{IsPolynomial, sum}
use Rattle.fj_theory.specs.Plain.{polynomial}
use Rattle.fj_plain.proofs.identity.is_combination.Given as goal

-- the products to come complete the combination
abbrev pub invariant-loop-i : goal.invariant-loop-i
invariant-loop-i l = record {
  over : IsPolynomial (prime_field l.p) l.difference;
  whole : sum (prime_field l.p) l.difference (list_combination (prime_field l.p) (drop l.i (map polynomial l.row)) (drop l.i (map polynomial l.sources)))
      ≡ list_combination (prime_field l.p) (map polynomial l.row) (map polynomial l.sources);
}
