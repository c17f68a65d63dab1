-- What the certificates of answers are about. Each is over GF(p).
use Rattle.std.specs.Prelude.{◌≡◌, ℕ, List, []}
use Rattle.fj_theory.specs.Plain.{PlainPolynomial}
use Rattle.fj_theory.specs.Polynomial.{Polynomial}
use Rattle.fj_plain.specs.declared.cert.Cert.{Cert}
use Rattle.fj_plain.specs.declared.cert.Cert.TheVariants.{Basis, Same, Root}
use Rattle.fj_plain.specs.declared.order_name.OrderName.{OrderName}
use Rattle.fj_shell.specs.Named.{polynomials}

-- That the members of the list are a basis, for this order, of the ideal of L.
abbrev pub IsBasisCertificate : ℕ → OrderName → List Polynomial → List PlainPolynomial → Cert → Type 0
IsBasisCertificate p order L list (Basis q o given found down up) = (q ≡ p) × (o ≡ order) × (polynomials given ≡ L) × (polynomials found ≡ polynomials list)
IsBasisCertificate p order L list _ = ⊥

-- That the lists J and K generate one ideal.
abbrev pub IsSameCertificate : ℕ → List Polynomial → List Polynomial → Cert → Type 0
IsSameCertificate p J K (Same q first second to_second to_first) = (q ≡ p) × (polynomials first ≡ J) × (polynomials second ≡ K)
IsSameCertificate p J K _ = ⊥

-- What the parts of the list G over p^e-th powers are.
abbrev pub IsPartsCertificate : ℕ → ℕ → List Polynomial → Cert → Type 0
IsPartsCertificate p e G (Root q d list residues parts) = (q ≡ p) × (d ≡ e) × (polynomials list ≡ G)
IsPartsCertificate p e G _ = ⊥
