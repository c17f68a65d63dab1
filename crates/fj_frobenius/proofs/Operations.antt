-- Frobenius powers and roots of an ideal are those of its members.
use Rattle.std.proofs.Common.{◌≡◌, ℕ, ◌^◌, List, All}
use Rattle.std.proofs.lemmas.List.Elements.{All-contains}
use Rattle.fj_algebra.proofs.Lists.{All-map_back}
use Rattle.fj_coeff.specs.Field.{Field, IsField}
use Rattle.fj_theory.specs.FrobeniusPower.{frobenius_power}
use Rattle.fj_theory.specs.Ideal.{ArePolynomials, SameIdeal, multiples}
use Rattle.fj_theory.specs.MonomialOrder.{grevlex_key}
use Rattle.fj_theory.specs.Polynomial.{Polynomial, IsPolynomial, power, product}
use Rattle.fj_theory.specs.Root.{IsRoot}
use Rattle.fj_theory.proofs.FrobeniusPower.{SameIdeal-frobenius_power}
use Rattle.fj_theory.proofs.Ideal.{ArePolynomials-multiples, SameIdeal-multiples, SameIdeal-sym}
use Rattle.fj_theory.proofs.Keys.{grevlex_key-IsMonomialOrder}
use Rattle.fj_theory.proofs.Root.{IsRoot-SameIdeal}
use Rattle.fj_groebner.specs.ReducedBasis.{IsReducedBasis}
use Rattle.fj_groebner.proofs.ReducedBasis.{IsReducedBasis_polynomials, IsReducedBasis-SameIdeal}
use Rattle.fj_poly.specs.Limit.{IsHigh}
use Rattle.fj_ideal.specs.Ideal.{IsIdeal, WithBasis}
use Rattle.fj_ideal.specs.Lists.{AreLow}
use Rattle.fj_ideal.proofs.ReducedBasis.{ArePolynomials-members, SameIdeal-members}
use Rattle.fj_frobenius.specs.Lists.{IsHighMember, IsHighMultiple}

-- Where no power of a member is high, no member has one that is.
pub low_members : (F : Field) (q : ℕ) (G : List Polynomial) → AreLow (frobenius_power F q G) → (M : List Polynomial) → IsHighMember F q G M → ⊥
low_members F q G low M e = All-contains (λ g. IsHigh (power F g q) → ⊥) G e.g (All-map_back (λ h. IsHigh h → ⊥) (λ g. power F g q) G low) e.there e.high

-- So it is with any list N of polynomials and the reduced basis G of its ideal.
pub root_of_basis_multiples : {F : Field} (L : IsField F) (e : ℕ) {N G : List Polynomial} → ArePolynomials F N → IsReducedBasis F grevlex_key N G → {h : Polynomial} → IsPolynomial F h → {M : List Polynomial}
    → IsRoot F (F.characteristic ^ e) (multiples F h G) M → IsRoot F (F.characteristic ^ e) (multiples F h N) M
root_of_basis_multiples {F} L e P S H R =
    let Q = IsReducedBasis_polynomials grevlex_key-IsMonomialOrder L P S in
    IsRoot-SameIdeal L (ArePolynomials-multiples L H Q) (ArePolynomials-multiples L H P) (SameIdeal-multiples L H Q P (SameIdeal-sym (IsReducedBasis-SameIdeal grevlex_key-IsMonomialOrder L P S))) R

module _ {F : Field} (L : IsField F) (e : ℕ) {J : WithBasis} (I : IsIdeal F J) where
  pub power_of_members : SameIdeal F (frobenius_power F (F.characteristic ^ e) J.given) (frobenius_power F (F.characteristic ^ e) J.members)
  power_of_members = SameIdeal-frobenius_power L e I.polynomials (ArePolynomials-members L I) (SameIdeal-members L I)

  pub root_of_members : {M : List Polynomial} → IsRoot F (F.characteristic ^ e) J.members M → IsRoot F (F.characteristic ^ e) J.given M
  root_of_members R = IsRoot-SameIdeal L (ArePolynomials-members L I) I.polynomials (SameIdeal-sym (SameIdeal-members L I)) R

  pub root_of_member_multiples : {h : Polynomial} → IsPolynomial F h → {M : List Polynomial} → IsRoot F (F.characteristic ^ e) (multiples F h J.members) M → IsRoot F (F.characteristic ^ e) (multiples F h J.given) M
  root_of_member_multiples = root_of_basis_multiples L e I.polynomials I.reduced
