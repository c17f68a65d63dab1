-- What a certificate says.
use Rattle.fj_theory.specs.Certificate.{IsExpressedBothWays, IsRootCertificate}
use Rattle.fj_plain.specs.declared.cert.Cert.{Cert}
use Rattle.fj_plain.specs.declared.cert.Cert.TheVariants.{Basis, Same, Root}

-- The identities of the certificate are true.
abbrev pub Holds : Cert → Type 0
Holds (Basis p order given found down up) = IsExpressedBothWays p given found down up
Holds (Same p first second to_second to_first) = IsExpressedBothWays p first second to_second to_first
Holds (Root p e list residues parts) = IsRootCertificate p e list residues parts
