-- Laws of Frobenius roots of ideals of polynomials. Those of this file need no parts.
use Rattle.std.proofs.Common.{◌↔◌, ℕ, ◌+◌, ◌^◌, List, [], ◌++◌, sym, subst}
use Rattle.std.proofs.lemmas.Nat.{pow-add}
use Rattle.fj_coeff.specs.Field.{Field, IsField}
use Rattle.fj_algebra.specs.Root as ring_root
use Rattle.fj_algebra.proofs.Root as ring_laws
use Rattle.fj_theory.specs.Polynomial.{Polynomial}
use Rattle.fj_theory.specs.Ideal.{ArePolynomials, Inside, SameIdeal}
use Rattle.fj_theory.specs.FrobeniusPower.{frobenius_power}
use Rattle.fj_theory.specs.Root.{IsRoot}
use Rattle.fj_theory.proofs.PolynomialRing.{polynomial_ring}
use Rattle.fj_theory.proofs.IdealBridge.{ArePolynomials-nil, maps, in_ring, InRing, InRing-maps, Inside_map, Inside_over, SameIdeal_over, ArePolynomials-InRing, ArePolynomials-maps, InRing-append, InRing-frobenius_power}
use Rattle.fj_theory.proofs.Ideal.{Inside-nil}
use Rattle.fj_theory.proofs.Frobenius.{polynomial-IsFrobenius}

-- Two roots of one list are one ideal.
pub IsRoot-unique : {F : Field} {q : ℕ} {M N K : List Polynomial} → IsRoot F q M N → IsRoot F q M K → SameIdeal F N K
IsRoot-unique {N} {K} X Y = record { forth = X.least K Y.polynomials Y.inside; back = Y.least N X.polynomials X.inside }

-- The root of the empty list.
pub IsRoot-nil : (F : Field) (q : ℕ) → IsRoot F q [] []
IsRoot-nil F q = record { polynomials = ArePolynomials-nil; inside = Inside-nil []; least = λ N Q I. Inside-nil N }

module _ {F : Field} (L : IsField F) where
  -- Roots, to the ring of polynomials and back.
  module _ {q : ℕ} {M N : List Polynomial} (X : InRing F M) (Y : InRing F N) where
    pub Root_over : IsRoot F q M N → ring_root.Root (polynomial_ring L) q X.list Y.list
    Root_over S = record {
      inside = Inside_over L X (InRing-frobenius_power L q Y) S.inside;
      least = λ K I.
          let Z = InRing-maps K in
          Inside_over L Y Z (S.least (maps K) (ArePolynomials-maps K) (Inside_map L X (InRing-frobenius_power L q Z) I));
    }

    pub Root_map : ring_root.Root (polynomial_ring L) q X.list Y.list → IsRoot F q M N
    Root_map S = record {
      polynomials = ArePolynomials-InRing Y;
      inside = Inside_map L X (InRing-frobenius_power L q Y) S.inside;
      least = λ K Q I.
          let Z = in_ring Q in
          Inside_map L Y Z (S.least Z.list (Inside_over L X (InRing-frobenius_power L q Z) I));
    }

  -- An ideal is its own root at 1.
  pub IsRoot-1 : {M : List Polynomial} → ArePolynomials F M → IsRoot F 1 M M
  IsRoot-1 P =
      let X = in_ring P in
      Root_map X X (ring_laws.Root-1 X.list)

  module _ {q : ℕ} {M M' : List Polynomial} (P : ArePolynomials F M) (P' : ArePolynomials F M') where
    -- The root of a smaller ideal is smaller.
    pub IsRoot-monotone : {N N' : List Polynomial} → Inside F M M' → IsRoot F q M N → IsRoot F q M' N' → Inside F N N'
    IsRoot-monotone I S T =
        let X = in_ring P in
        let X' = in_ring P' in
        let Y = in_ring S.polynomials in
        let Y' = in_ring T.polynomials in
        Inside_map L Y Y' (ring_laws.Root-monotone (Inside_over L X X' I) (Root_over X Y S) (Root_over X' Y' T))

    -- The root depends on the ideal alone.
    pub IsRoot-SameIdeal : {N : List Polynomial} → SameIdeal F M M' → IsRoot F q M N → IsRoot F q M' N
    IsRoot-SameIdeal E S =
        let X = in_ring P in
        let X' = in_ring P' in
        let Y = in_ring S.polynomials in
        Root_map X' Y (ring_laws.Root-SameIdeal (SameIdeal_over L X X' E) (Root_over X Y S))

  module _ (e : ℕ) {M N : List Polynomial} (P : ArePolynomials F M) (S : IsRoot F (F.characteristic ^ e) M N) where
    -- A list that generates the root is the root.
    pub IsRoot-SameIdeal_root : {N' : List Polynomial} → ArePolynomials F N' → SameIdeal F N N' → IsRoot F (F.characteristic ^ e) M N'
    IsRoot-SameIdeal_root Q E =
        let X = in_ring P in
        let Y = in_ring S.polynomials in
        let Y' = in_ring Q in
        Root_map X Y' (ring_laws.Root-SameIdeal_root (polynomial-IsFrobenius L e) (SameIdeal_over L Y Y' E) (Root_over X Y S))

    -- The adjunction: the root is inside (K) exactly where the list is inside (K^[q]).
    pub Inside-IsRoot : {K : List Polynomial} → ArePolynomials F K → Inside F N K ↔ Inside F M (frobenius_power F (F.characteristic ^ e) K)
    Inside-IsRoot {K} Q =
        let X = in_ring P in
        let Y = in_ring S.polynomials in
        let Z = in_ring Q in
        (λ I. Inside_map L X (InRing-frobenius_power L (F.characteristic ^ e) Z) (ring_laws.Inside-Root (polynomial-IsFrobenius L e) (Root_over X Y S) (Inside_over L Y Z I)), S.least K Q)

    -- The root of a sum is the sum of the roots.
    pub IsRoot-append : {M' N' : List Polynomial} → ArePolynomials F M' → IsRoot F (F.characteristic ^ e) M' N' → IsRoot F (F.characteristic ^ e) (M ++ M') (N ++ N')
    IsRoot-append P' T =
        let X = in_ring P in
        let X' = in_ring P' in
        let Y = in_ring S.polynomials in
        let Y' = in_ring T.polynomials in
        Root_map (InRing-append X X') (InRing-append Y Y') (ring_laws.Root-append (polynomial-IsFrobenius L e) (Root_over X Y S) (Root_over X' Y' T))

    -- Roots of roots: where N is the root of M at e and K the root of N at d, K is the root of M at d + e.
    pub IsRoot-IsRoot : (d : ℕ) {K : List Polynomial} → IsRoot F (F.characteristic ^ d) N K → IsRoot F (F.characteristic ^ (d + e)) M K
    IsRoot-IsRoot d {K} T =
        let X = in_ring P in
        let Y = in_ring S.polynomials in
        let Z = in_ring T.polynomials in
        subst (λ q. IsRoot F q M K) (sym (pow-add F.characteristic d e)) (Root_map X Z (ring_laws.Root-Root (polynomial-IsFrobenius L e) (Root_over X Y S) (Root_over Y Z T)))

  -- Where M' is inside (M^[p^e]), its root at d + e is inside the root of M at d.
  pub IsRoot-falling : (d e : ℕ) {M M' N N' : List Polynomial} → ArePolynomials F M → ArePolynomials F M' → IsRoot F (F.characteristic ^ d) M N → IsRoot F (F.characteristic ^ (d + e)) M' N' → Inside F M' (frobenius_power F (F.characteristic ^ e) M) → Inside F N' N
  IsRoot-falling d e {M' = M'} {N' = N'} P P' S T I =
      let X = in_ring P in
      let X' = in_ring P' in
      let Y = in_ring S.polynomials in
      let Y' = in_ring T.polynomials in
      Inside_map L Y' Y (ring_laws.Root-falling (polynomial-IsFrobenius L e) (Root_over X Y S)
      (Root_over X' Y' (subst (λ q. IsRoot F q M' N') (pow-add F.characteristic d e) T)) (Inside_over L X' (InRing-frobenius_power L (F.characteristic ^ e) X) I))
