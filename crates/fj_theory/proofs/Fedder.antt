-- Fedder's criterion, and compatible ideals by roots, for polynomials.
use Rattle.std.proofs.Common.{◌≡◌, ◌≢◌, ◌↔◌, ℕ, ◌^◌, List, Any, sym, ap, ◌∙◌, subst, zero, suc, refl, pow-suc, arith}
use Rattle.std.proofs.Math.Nat.{pow-zero}
use Rattle.fj_coeff.specs.Field.{Field, IsField}
use Rattle.fj_algebra.specs.Ring.{subtract}
use Rattle.fj_algebra.specs.Frobenius as ring_frobenius
use Rattle.fj_algebra.specs.Colon as ring_colon
use Rattle.fj_algebra.specs.Root as ring_root
use Rattle.fj_algebra.specs.Splitting as ring_splitting
use Rattle.fj_algebra.proofs.Lists.{Any-element}
use Rattle.fj_algebra.proofs.Pairs.{contains_map, contains_map_back}
use Rattle.fj_algebra.proofs.Splitting as ring_laws
use Rattle.fj_algebra.proofs.Fedder as ring_criteria
use Rattle.fj_theory.specs.Exponents.{origin}
use Rattle.fj_theory.specs.Polynomial.{difference, Polynomial, IsPolynomial, term}
use Rattle.fj_theory.specs.Parts.{IsParts}
use Rattle.fj_theory.specs.Ideal.{ArePolynomials, Member, Inside, SameIdeal, multiples}
use Rattle.fj_theory.specs.FrobeniusPower.{frobenius_power}
use Rattle.fj_theory.specs.Root.{IsRoot}
use Rattle.fj_theory.specs.Colon.{IsColon}
use Rattle.fj_theory.specs.Evaluation.{IsPoint, value}
use Rattle.fj_theory.specs.Splitting.{IsInverseLinear, Keeps, IsFPure, IsFPureAt, IsCompatible}
use Rattle.fj_theory.proofs.Field.{Element, element, element_equal, rank_element, element_zero, rank_zero, field_ring}
use Rattle.fj_theory.proofs.PolynomialRing.{map_subtract, PolynomialOver, polynomial_ring, map_one, map_mul}
use Rattle.fj_theory.proofs.IdealBridge.{over, maps, InRing, in_ring, InRing-multiples, InRing-frobenius_power, Member_map, Member_over, Member_polynomial, Inside_map, Inside_over}
use Rattle.fj_theory.proofs.Ideal.{Member-Inside}
use Rattle.fj_theory.proofs.Evaluation.{value_below, value-RingMap}
use Rattle.fj_theory.proofs.Root.{Root_over}
use Rattle.fj_theory.proofs.Colon.{Colon_over}
use Rattle.fj_theory.proofs.PartsExistence.{parts_of, IsParts-parts_of}
use Rattle.fj_theory.proofs.PartsRing.{polynomial-Parts}
use Rattle.fj_theory.proofs.Trace.{polynomial-Trace}
use Rattle.fj_theory.proofs.Splitting.{map_with, values_over, map_with-phi, map_on_polynomials, map_on_polynomials-IsInverseLinear, map_with-map_on_polynomials, map_trace}

pub power_one : (p : ℕ) → p ^ 1 ≡ p
power_one p = pow-suc p 0 ∙ (let one = pow-zero p in rw one (omega arith))

-- On polynomials the map of the ring with the values k is phi.
record IsMap {F : Field} (L : IsField F) (e : ℕ) (k : List ℕ → PolynomialOver F) (phi : Polynomial → Polynomial) : Type 0 where
  pub each : (h : PolynomialOver F) → (map_with L e k h).map ≡ phi h.map

is_zero : (n : ℕ) → Dec (n ≡ 0)
is_zero zero = yes refl
is_zero (suc n) = no (λ e. absurd (omega arith))

module _ {F : Field} (L : IsField F) where
  -- Maps that keep an ideal, to the ring of polynomials and back.
  module _ (e : ℕ) {phi : Polynomial → Polynomial} {k : List ℕ → PolynomialOver F} (agree : IsMap L e k phi) {I : List Polynomial} (X : InRing F I) where
    Keeps_over : Keeps F phi I → ring_splitting.KeepsIdeal (polynomial_ring L) (map_with L e k) X.list
    Keeps_over V = record { each = λ g G. Member_over L X (map_with L e k g).is_polynomial (subst (Member F I) (sym (agree.each g)) (V.each g.map (Member_map L X G))) }

    Keeps_map : ArePolynomials F I → ring_splitting.KeepsIdeal (polynomial_ring L) (map_with L e k) X.list → Keeps F phi I
    Keeps_map P V = record {
      each = λ g G.
          let H = Member_polynomial L P G in
          subst (Member F I) (agree.each (over H)) (Member_map L X (V.each (over H) (Member_over L X H G)));
    }

  -- phi (1), in the ring and as a map.
  value_at_one : {phi : Polynomial → Polynomial} {k : List ℕ → PolynomialOver F} → IsMap L 1 k phi
      → (map_with L 1 k (polynomial_ring L).one).map ≡ phi (term 1 origin)
  value_at_one {phi} agree = agree.each (polynomial_ring L).one ∙ ap phi (map_one L)

  value_less_one : {phi : Polynomial → Polynomial} {k : List ℕ → PolynomialOver F} → IsMap L 1 k phi
      → (subtract (polynomial_ring L) (map_with L 1 k (polynomial_ring L).one) (polynomial_ring L).one).map ≡ difference F (phi (term 1 origin)) (term 1 origin)
  value_less_one {k = k} agree =
      map_subtract L (map_with L 1 k (polynomial_ring L).one) (polynomial_ring L).one ∙ ap (λ f. difference F f (polynomial_ring L).one.map) (value_at_one agree) ∙ ap (difference F _) (map_one L)

  -- The value at a point is zero exactly where its element is.
  zero_from_element : {point : List ℕ} → IsPoint F point → (f : PolynomialOver F) → element L (value F f.map point) ≡ (field_ring L).zero → value F f.map point ≡ 0
  zero_from_element at f z = sym (rank_element L _ (value_below L at f.is_polynomial)) ∙ ap (λ x. x.rank) z ∙ rank_zero L

  decide_zero : (x : Element F) → Dec (x ≡ (field_ring L).zero)
  decide_zero x = elim (is_zero x.rank) [ yes z ↦ yes (element_equal _ _ (z ∙ sym (rank_zero L))) | no n ↦ no (λ z. n (ap (λ y. y.rank) z ∙ rank_zero L)) ]

  -- Some member of a list, in the ring and as a map, isn't zero at the point.
  module _ {point : List ℕ} (at : IsPoint F point) {M : List Polynomial} (Y : InRing F M) where
    Any_map : Any (λ r. element L (value F r.map point) ≢ (field_ring L).zero) Y.list → Any (λ r. value F r point ≢ 0) M
    Any_map some =
        let E = Any-element (λ (r : PolynomialOver F). element L (value F r.map point) ≢ (field_ring L).zero) Y.list some in
        let C = contains_map (λ f. f.map) Y.list E.0 E.1 in
        subst (Any (λ r. value F r point ≢ 0)) Y.are (C.0, E.0.map, C.1, C.2, λ z. E.2 (ap (element L) z ∙ element_zero L))

    Any_over : Any (λ r. value F r point ≢ 0) M → Any (λ r. element L (value F r.map point) ≢ (field_ring L).zero) Y.list
    Any_over some =
        let E = Any-element (λ (r : Polynomial). value F r point ≢ 0) (maps Y.list) (subst (Any (λ r. value F r point ≢ 0)) (sym Y.are) some) in
        let C = contains_map_back (λ f. f.map) Y.list E.0 E.1 in
        (C.1.0, C.0, C.1.1, C.1.2, λ z. E.2 (ap (λ f. value F f point) (sym C.2) ∙ zero_from_element at C.0 z))

  -- The p^-1-linear maps of the definitions are the p^-e-linear maps at e = 1.
  at_one : {phi : Polynomial → Polynomial} → IsInverseLinear F F.characteristic phi → IsInverseLinear F (F.characteristic ^ 1) phi
  at_one {phi} V = subst (λ q. IsInverseLinear F q phi) (sym (power_one F.characteristic)) V

  from_one : {phi : Polynomial → Polynomial} → IsInverseLinear F (F.characteristic ^ 1) phi → IsInverseLinear F F.characteristic phi
  from_one {phi} V = subst (λ q. IsInverseLinear F q phi) (power_one F.characteristic) V

  module _ {I : List Polynomial} (X : InRing F I) where
    IsFPure_over : IsFPure F I → ring_splitting.IsFPure (polynomial-Parts L 1) X.list
    IsFPure_over V =
        let Y = at_one V.linear in
        let agree : IsMap L 1 (values_over L 1 Y).at V.phi = record { each = map_with-phi L 1 Y } in
        record {
          values = (values_over L 1 Y).at;
          keeps = Keeps_over 1 agree X V.keeps;
          splits = Member_over L X (subtract (polynomial_ring L) (map_with L 1 (values_over L 1 Y).at (polynomial_ring L).one) (polynomial_ring L).one).is_polynomial (subst (Member F I) (sym (value_less_one agree)) V.splits);
        }

    IsFPure_map : ArePolynomials F I → ring_splitting.IsFPure (polynomial-Parts L 1) X.list → IsFPure F I
    IsFPure_map P V =
        let agree : IsMap L 1 V.values (map_on_polynomials L 1 V.values) = record { each = map_with-map_on_polynomials L 1 V.values } in
        record {
          phi = map_on_polynomials L 1 V.values;
          linear = from_one (map_on_polynomials-IsInverseLinear L 1 V.values);
          keeps = Keeps_map 1 agree X P V.keeps;
          splits = subst (Member F I) (value_less_one agree) (Member_map L X V.splits);
        }

    module _ {point : List ℕ} (at : IsPoint F point) where
      IsFPureAt_over : IsFPureAt F I point → ring_splitting.IsFPureAt (field_ring L) (λ f. element L (value F f.map point)) (polynomial-Parts L 1) X.list
      IsFPureAt_over V =
          let Y = at_one V.linear in
          let agree : IsMap L 1 (values_over L 1 Y).at V.phi = record { each = map_with-phi L 1 Y } in
          record {
            values = (values_over L 1 Y).at;
            keeps = Keeps_over 1 agree X V.keeps;
            nonzero = λ z. V.nonzero (ap (λ f. value F f point) (sym (value_at_one agree)) ∙ zero_from_element at (map_with L 1 (values_over L 1 Y).at (polynomial_ring L).one) z);
          }

      IsFPureAt_map : ArePolynomials F I → ring_splitting.IsFPureAt (field_ring L) (λ f. element L (value F f.map point)) (polynomial-Parts L 1) X.list → IsFPureAt F I point
      IsFPureAt_map P V =
          let agree : IsMap L 1 V.values (map_on_polynomials L 1 V.values) = record { each = map_with-map_on_polynomials L 1 V.values } in
          record {
            phi = map_on_polynomials L 1 V.values;
            linear = from_one (map_on_polynomials-IsInverseLinear L 1 V.values);
            keeps = Keeps_map 1 agree X P V.keeps;
            nonzero = λ z. V.nonzero (ap (λ f. element L (value F f point)) (value_at_one agree) ∙ ap (element L) z ∙ element_zero L);
          }

  module _ {I C M : List Polynomial} (P : ArePolynomials F I) (colon : IsColon F (frobenius_power F (F.characteristic ^ 1) I) I C) (root : IsRoot F (F.characteristic ^ 1) C M) where
    -- The quotient and its root are those of the ring.
    quotient_over : ring_colon.Colon (polynomial_ring L) (ring_frobenius.frobenius_power (polynomial_ring L) (F.characteristic ^ 1) (in_ring P).list) (in_ring P).list (in_ring colon.polynomials).list
    quotient_over =
        let X = in_ring P in
        Colon_over L (InRing-frobenius_power L (F.characteristic ^ 1) X) X (in_ring colon.polynomials) colon

    root_over : ring_root.Root (polynomial_ring L) (F.characteristic ^ 1) (in_ring colon.polynomials).list (in_ring root.polynomials).list
    root_over = Root_over L (in_ring colon.polynomials) (in_ring root.polynomials) root

    -- Fedder's criterion.
    pub IsFPure-exactly : IsFPure F I ↔ Member F M (term 1 origin)
    IsFPure-exactly =
        let X = in_ring P in
        let Y = in_ring root.polynomials in
        let T = polynomial-Trace L 1 in
        let one = (polynomial_ring L).one in (
          λ V. subst (Member F M) (map_one L) (Member_map L Y (ring_criteria.Member-IsFPure T quotient_over root_over (IsFPure_over X V))),
          λ H. IsFPure_map X P (ring_criteria.IsFPure-Member T quotient_over root_over (Member_over L Y one.is_polynomial (subst (Member F M) (sym (map_one L)) H))),
        )

    -- The criterion at a point.
    pub IsFPureAt-exactly : {point : List ℕ} → IsPoint F point → IsFPureAt F I point ↔ Any (λ r. value F r point ≢ 0) M
    IsFPureAt-exactly at =
        let X = in_ring P in
        let Y = in_ring root.polynomials in
        let T = polynomial-Trace L 1 in
        let V = value-RingMap L at in (
          λ A. Any_map at Y (ring_criteria.Any-IsFPureAt T quotient_over root_over V decide_zero (IsFPureAt_over X at A)),
          λ some. IsFPureAt_map X at P (ring_criteria.IsFPureAt-Any T quotient_over root_over V decide_zero (Any_over at Y some)),
        )

  -- Compatible ideals, to the ring of polynomials and back.
  module _ (e : ℕ) {u : Polynomial} (U : IsPolynomial F u) {J : List Polynomial} (P : ArePolynomials F J) where
    IsCompatible_over : IsCompatible F e u J → ring_splitting.IsCompatible (polynomial-Trace L e) (over U) (in_ring P).list
    IsCompatible_over V = record {
      each = λ g G.
          let X = in_ring P in
          let x = (polynomial_ring L).mul (over U) g in
          let D = IsParts-parts_of L e x.is_polynomial in
          let own = subst (λ f. IsParts F (F.characteristic ^ e) f (parts_of F e x.map)) (map_mul L (over U) g) D in
          Member_over L X ((polynomial-Parts L e).part x (polynomial-Trace L e).top).is_polynomial (subst (Member F J) (sym (map_trace L e x D)) (V.each g.map (Member_map L X G) (parts_of F e x.map) own));
    }

    IsCompatible_map : ring_splitting.IsCompatible (polynomial-Trace L e) (over U) (in_ring P).list → IsCompatible F e u J
    IsCompatible_map V = record {
      each = λ g G parts D.
          let X = in_ring P in
          let H = Member_polynomial L P G in
          let x = (polynomial_ring L).mul (over U) (over H) in
          subst (Member F J) (map_trace L e x (subst (λ f. IsParts F (F.characteristic ^ e) f parts) (sym (map_mul L (over U) (over H))) D)) (Member_map L X (V.each (over H) (Member_over L X H G)));
    }

    -- J is compatible with u exactly where the root of u J is inside (J).
    pub IsCompatible-exactly : {M : List Polynomial} → IsRoot F (F.characteristic ^ e) (multiples F u J) M → IsCompatible F e u J ↔ Inside F M J
    IsCompatible-exactly root =
        let X = in_ring P in
        let Y = in_ring root.polynomials in
        let S = Root_over L (InRing-multiples L U X) Y root in (
          λ V. Inside_map L Y X (ring_laws.Inside-IsCompatible (polynomial-Trace L e) S (IsCompatible_over V)),
          λ I. IsCompatible_map (ring_laws.IsCompatible-Inside (polynomial-Trace L e) S (Inside_over L Y X I)),
        )

  -- F-purity and compatibility depend on the ideal alone.
  module _ {I J : List Polynomial} (P : ArePolynomials F I) (Q : ArePolynomials F J) (E : SameIdeal F I J) where
    Keeps-SameIdeal : {phi : Polynomial → Polynomial} → Keeps F phi I → Keeps F phi J
    Keeps-SameIdeal V = record { each = λ g G. Member-Inside L P Q E.forth (V.each g (Member-Inside L Q P E.back G)) }

    pub IsFPure-SameIdeal : IsFPure F I → IsFPure F J
    IsFPure-SameIdeal V = record { phi = V.phi; linear = V.linear; keeps = Keeps-SameIdeal V.keeps; splits = Member-Inside L P Q E.forth V.splits }

    pub IsFPureAt-SameIdeal : {point : List ℕ} → IsFPureAt F I point → IsFPureAt F J point
    IsFPureAt-SameIdeal V = record { phi = V.phi; linear = V.linear; keeps = Keeps-SameIdeal V.keeps; nonzero = V.nonzero }

    pub IsCompatible-SameIdeal : {e : ℕ} {u : Polynomial} → IsCompatible F e u I → IsCompatible F e u J
    IsCompatible-SameIdeal V = record { each = λ g G parts D. Member-Inside L P Q E.forth (V.each g (Member-Inside L Q P E.back G) parts D) }
