-- Laws of Frobenius powers of ideals of polynomials.
use Rattle.std.proofs.Common.{◌≡◌, ℕ, ◌*◌, ◌^◌, List, ◌++◌, sym, ap, ◌∙◌, subst}
use Rattle.std.proofs.lemmas.List.{map-append}
use Rattle.fj_coeff.specs.Field.{Field, IsField}
use Rattle.fj_algebra.specs.Power as ring
use Rattle.fj_algebra.specs.Ideal as ring_ideal
use Rattle.fj_algebra.proofs.Frobenius as ring_laws
use Rattle.fj_theory.specs.Polynomial.{Polynomial, IsPolynomial, power}
use Rattle.fj_theory.specs.Ideal.{ArePolynomials, Member, Inside, SameIdeal, multiples, products}
use Rattle.fj_theory.specs.FrobeniusPower.{frobenius_power}
use Rattle.fj_theory.proofs.PolynomialRing.{PolynomialOver, polynomial_ring, map_power}
use Rattle.fj_theory.proofs.IdealBridge.{over, maps, in_ring, Member_map, Member_over, Inside_map, Inside_over, SameIdeal_map, SameIdeal_over, ArePolynomials-InRing, InRing-multiples, InRing-products, InRing-frobenius_power, Member_polynomial, multiples_maps}
use Rattle.fj_theory.proofs.Frobenius.{polynomial-IsFrobenius}

pub frobenius_power-append : (F : Field) (q : ℕ) (M N : List Polynomial) → frobenius_power F q (M ++ N) ≡ frobenius_power F q M ++ frobenius_power F q N
frobenius_power-append F q M N = map-append (λ g. power F g q) M N

module _ {F : Field} (L : IsField F) where
  module _ {M : List Polynomial} (P : ArePolynomials F M) where
    pub ArePolynomials-frobenius_power : (q : ℕ) → ArePolynomials F (frobenius_power F q M)
    ArePolynomials-frobenius_power q = ArePolynomials-InRing (InRing-frobenius_power L q (in_ring P))

    pub frobenius_power-1 : frobenius_power F 1 M ≡ M
    frobenius_power-1 =
        let X = in_ring P in
        let Y = InRing-frobenius_power L 1 X in
        sym Y.are ∙ ap maps (ring_laws.frobenius_power-1 (polynomial_ring L) X.list) ∙ X.are

    -- Frobenius powers of Frobenius powers: the exponents are multiplied.
    pub frobenius_power-frobenius_power : (q r : ℕ) → frobenius_power F r (frobenius_power F q M) ≡ frobenius_power F (q * r) M
    frobenius_power-frobenius_power q r =
        let X = in_ring P in
        let Y = InRing-frobenius_power L r (InRing-frobenius_power L q X) in
        let Z = InRing-frobenius_power L (q * r) X in
        sym Y.are ∙ ap maps (ring_laws.frobenius_power-frobenius_power (polynomial_ring L) q r X.list) ∙ Z.are

    pub frobenius_power-multiples : (q : ℕ) {f : Polynomial} → IsPolynomial F f → frobenius_power F q (multiples F f M) ≡ multiples F (power F f q) (frobenius_power F q M)
    frobenius_power-multiples q {f} A =
        let X = in_ring P in
        let Y = InRing-frobenius_power L q (InRing-multiples L A X) in
        let Z = InRing-frobenius_power L q X in
        sym Y.are ∙ ap maps (ring_laws.frobenius_power-multiples (polynomial_ring L) q (over A) X.list) ∙ multiples_power Z.list
        ∙ ap (multiples F (power F f q)) Z.are
      where
        multiples_power : (N : List (PolynomialOver F)) → maps (ring_ideal.multiples (polynomial_ring L) (ring.power (polynomial_ring L) (over A) q) N) ≡ multiples F (power F f q) (maps N)
        multiples_power N = multiples_maps L (ring.power (polynomial_ring L) (over A) q).is_polynomial N ∙ ap (λ h. multiples F h (maps N)) (map_power L (over A) q)

    pub frobenius_power-products : (q : ℕ) {N : List Polynomial} → ArePolynomials F N → frobenius_power F q (products F M N) ≡ products F (frobenius_power F q M) (frobenius_power F q N)
    frobenius_power-products q {N} Q =
        let X = in_ring P in
        let Y = in_ring Q in
        let Z = InRing-frobenius_power L q (InRing-products L X Y) in
        let W = InRing-products L (InRing-frobenius_power L q X) (InRing-frobenius_power L q Y) in
        sym Z.are ∙ ap maps (ring_laws.frobenius_power-products (polynomial_ring L) q X.list Y.list) ∙ W.are

  -- At powers of the characteristic.
  module _ (e : ℕ) {M : List Polynomial} (P : ArePolynomials F M) where
    pub Member-frobenius_power : {h : Polynomial} → Member F M h → Member F (frobenius_power F (F.characteristic ^ e) M) (power F h (F.characteristic ^ e))
    Member-frobenius_power {h} H =
        let X = in_ring P in
        let A = Member_polynomial L P H in
        subst (Member F (frobenius_power F (F.characteristic ^ e) M)) (map_power L (over A) (F.characteristic ^ e))
        (Member_map L (InRing-frobenius_power L (F.characteristic ^ e) X) (ring_laws.Member-frobenius_power (polynomial-IsFrobenius L e) (Member_over L X A H)))

    module _ {N : List Polynomial} (Q : ArePolynomials F N) where
      pub Inside-frobenius_power : Inside F M N → Inside F (frobenius_power F (F.characteristic ^ e) M) (frobenius_power F (F.characteristic ^ e) N)
      Inside-frobenius_power I =
          let X = in_ring P in
          let Y = in_ring Q in
          Inside_map L (InRing-frobenius_power L (F.characteristic ^ e) X) (InRing-frobenius_power L (F.characteristic ^ e) Y) (ring_laws.Inside-frobenius_power (polynomial-IsFrobenius L e) (Inside_over L X Y I))

      pub SameIdeal-frobenius_power : SameIdeal F M N → SameIdeal F (frobenius_power F (F.characteristic ^ e) M) (frobenius_power F (F.characteristic ^ e) N)
      SameIdeal-frobenius_power E =
          let X = in_ring P in
          let Y = in_ring Q in
          SameIdeal_map L (InRing-frobenius_power L (F.characteristic ^ e) X) (InRing-frobenius_power L (F.characteristic ^ e) Y) (ring_laws.SameIdeal-frobenius_power (polynomial-IsFrobenius L e) (SameIdeal_over L X Y E))
