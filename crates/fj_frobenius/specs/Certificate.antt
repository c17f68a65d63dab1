-- Certificates of the parts over q-th powers of a list.
use Rattle.std.specs.Prelude.{◌≡◌, ℕ, List, map}
use Rattle.fj_theory.specs.Polynomial.{Polynomial}
use Rattle.fj_theory.specs.Plain.{PlainPolynomial, polynomial}
use Rattle.fj_plain.specs.declared.cert.Cert.{Cert}
use Rattle.fj_plain.specs.declared.cert.Cert.TheVariants.{Root}

-- The certificate has the list L, q = p^e.
pub record IsRootCertificateOf (p e : ℕ) (L : List Polynomial) (c : Cert) : Type 0 where
  pub list : List PlainPolynomial
  pub residues : List (List PlainPolynomial)
  pub parts : List (List PlainPolynomial)
  pub is : c ≡ Root p e list residues parts
  pub list_are : map polynomial list ≡ L
