use Rattle.std.proofs.Common.{◌≡◌, drop, map}
use Rattle.fj_coeff.specs.PrimeField.{prime_field}
use Rattle.fj_theory.specs.Ideal.{list_combination}
use Rattle.fj_theory.specs.Polynomial.{IsPolynomial, sum, power}
use Rattle.fj_theory.specs.Plain.{polynomial}
use Rattle.fj_theory.specs.Certificate.{IsResidue}
use Rattle.fj_plain.proofs.Each.{EachBefore}
use Rattle.fj_plain.proofs.identity.is_sum_of_parts.Given as goal

-- the products to come complete the sum
abbrev pub invariant-loop-i : goal.invariant-loop-i
invariant-loop-i l = record {
  residues : EachBefore (IsResidue l.q) l.residues l.i;
  over : IsPolynomial (prime_field l.p) l.difference;
  whole : sum (prime_field l.p) l.difference (list_combination (prime_field l.p) (drop l.i (map polynomial l.residues)) (drop l.i (map (λ g. power (prime_field l.p) (polynomial g) l.q) l.parts)))
      ≡ list_combination (prime_field l.p) (map polynomial l.residues) (map (λ g. power (prime_field l.p) (polynomial g) l.q) l.parts);
}
