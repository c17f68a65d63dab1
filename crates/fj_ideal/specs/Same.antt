-- Certificates that two lists generate one ideal.
use Rattle.std.specs.Prelude.{◌≡◌, ℕ, List, map}
use Rattle.fj_theory.specs.Polynomial.{Polynomial}
use Rattle.fj_theory.specs.Plain.{PlainPolynomial, polynomial}
use Rattle.fj_plain.specs.declared.cert.Cert.{Cert}
use Rattle.fj_plain.specs.declared.cert.Cert.TheVariants.{Same}

-- The certificate has the lists L and M.
pub record IsSameCertificateOf (p : ℕ) (L M : List Polynomial) (c : Cert) : Type 0 where
  pub first : List PlainPolynomial
  pub second : List PlainPolynomial
  pub to_second : List (List PlainPolynomial)
  pub to_first : List (List PlainPolynomial)
  pub is : c ≡ Same p first second to_second to_first
  pub first_are : map polynomial first ≡ L
  pub second_are : map polynomial second ≡ M
