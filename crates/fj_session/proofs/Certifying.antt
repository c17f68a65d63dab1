-- The certificate of an ideal that is printed.
use Rattle.std.proofs.Common.{◌≡◌, ◌≢◌, ◌∙◌, ℕ, List, Result, Ok, Err, IfOk, inr, sym, ap, subst, refl}
use Rattle.fj_coeff.specs.Field.{Field}
use Rattle.fj_coeff.specs.PrimeField.{prime_field}
use Rattle.fj_theory.specs.Plain.{PlainPolynomial}
use Rattle.fj_theory.specs.Polynomial.{Polynomial}
use Rattle.fj_plain.specs.Holds.{Holds}
use Rattle.fj_plain.specs.declared.cert.Cert.{Cert}
use Rattle.fj_plain.specs.declared.order_name.OrderName.{OrderName}
use Rattle.fj_plain.specs.declared.order_name.OrderName.TheVariants.{Grevlex}
use Rattle.fj_basis.specs.Basis.{IsCertificateOf, WithCofactors}
use Rattle.fj_ideal.specs.Ideal.{WithBasis}
use Rattle.fj_ideal.specs.Same.{IsSameCertificateOf}
use Rattle.fj_ideal.specs.Stop.{key_of}
use Rattle.fj_frobenius.specs.Certificate.{IsRootCertificateOf}
use Rattle.fj_shell.specs.Named.{polynomials}
use Rattle.fj_session.specs.Certificates.{IsBasisCertificate, IsPartsCertificate, IsSameCertificate}
use Rattle.fj_session.specs.Meaning.{IsShownBasis}
use Rattle.fj_session.specs.Outcome.{IsShown}

-- A field that is GF(p) has as many elements as its characteristic says.
pub prime_size : {F : Field} {size characteristic p : ℕ} → size ≡ F.size → characteristic ≡ F.characteristic → F ≡ prime_field p → size ≡ characteristic
prime_size s c is = s ∙ ap (λ (F : Field). F.size) is ∙ sym (c ∙ ap (λ (F : Field). F.characteristic) is)

-- The certificate of a basis is one of the list that has its members.
pub basis_certificate : {p characteristic : ℕ} {order : OrderName} {L M : List Polynomial} (b : WithCofactors) (list : List PlainPolynomial) {cert : Cert} → p ≡ characteristic → L ≡ M → polynomials list ≡ b.members
    → IsCertificateOf p order L b cert → IsBasisCertificate characteristic order M list cert
basis_certificate {characteristic = characteristic} {order = order} {M = M} b list q e f is =
    subst (IsBasisCertificate characteristic order M list) (sym is.is) (q, refl, is.given_are ∙ e, is.found_are ∙ sym f)

-- A basis for another order than Grevlex is calculated of the members.
pub shown_for : (F : Field) (J : WithBasis) {order printing : OrderName} → order ≡ printing → order ≢ Grevlex → {E : Type 0} (r : Result (List PlainPolynomial × Cert) E) → IfOk r (λ s. IsShownBasis F (key_of order) J.given s.0)
    → IfOk r (λ s. IsBasisCertificate F.characteristic order J.members s.0 s.1) → IfOk r (λ s. Holds s.1) → IfOk r (λ s. IsShown F printing J s.0 s.1)
shown_for F J is other (Ok s) basis certificate holds =
    subst (λ (o : OrderName). IsShown F o J s.0 s.1) is (record { basis = basis; given = J.members; run = inr (other, refl); certificate = certificate; holds = holds })
shown_for F J is other (Err e) basis certificate holds = tt

-- The certificate of the parts of a list.
pub parts_certificate : {p characteristic : ℕ} (e : ℕ) {L M : List Polynomial} {cert : Cert} → p ≡ characteristic → L ≡ M → IsRootCertificateOf p e L cert → IsPartsCertificate characteristic e M cert
parts_certificate {characteristic = characteristic} e {M = M} q same is = subst (IsPartsCertificate characteristic e M) (sym is.is) (q, refl, is.list_are ∙ same)

-- The certificate that two lists generate one ideal.
pub same_certificate : {p characteristic : ℕ} {J K : List Polynomial} {cert : Cert} → p ≡ characteristic → IsSameCertificateOf p J K cert → IsSameCertificate characteristic J K cert
same_certificate {characteristic = characteristic} {J} {K} q is = subst (IsSameCertificate characteristic J K) (sym is.is) (q, is.first_are, is.second_are)
