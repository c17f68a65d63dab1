-- Laws of meets and quotients of ideals of polynomials.
use Rattle.std.proofs.Common.{◌≡◌, ◌↔◌, List, [], ◌∷◌, ◌++◌, All, sym, ap, ◌∙◌, subst}
use Rattle.std.proofs.lemmas.List.Elements.{All-nil, All-append, All-map, All-weaker}
use Rattle.std.specs.FinMap.{empty}
use Rattle.fj_coeff.specs.Field.{Field, IsField}
use Rattle.fj_algebra.specs.Colon as ring_colon
use Rattle.fj_algebra.proofs.Lists.{All-map_back, All-append_left, All-append_right}
use Rattle.fj_algebra.proofs.Colon as ring_laws
use Rattle.fj_theory.specs.Exponents.{origin}
use Rattle.fj_theory.specs.Polynomial.{Polynomial, IsPolynomial, product, term}
use Rattle.fj_theory.specs.Ideal.{ArePolynomials, Member, Inside, SameIdeal, multiples}
use Rattle.fj_theory.specs.Colon.{IsMeet, InColon, IsColon}
use Rattle.fj_theory.proofs.PolynomialRing.{PolynomialOver, over_equal, polynomial_ring, map_one, map_mul, product_empty}
use Rattle.fj_theory.proofs.IdealBridge.{over, in_ring, InRing, InRing-nil, InRing-cons, InRing-multiples, Member_map, Member_over, Inside_map, Inside_over, SameIdeal_over, ArePolynomials-InRing, Member_polynomial}
use Rattle.fj_theory.proofs.Ideal.{Inside-from, Member-elements, Member-empty, Member-Inside}

module _ {F : Field} {M N : List Polynomial} {h : Polynomial} where
  -- h is in (M) : (N) exactly where the ideal h (N) is inside (M).
  pub Inside-InColon : InColon F M N h ↔ Inside F (multiples F h N) M
  Inside-InColon = (
    λ H. record { each = All-map (Member F M) (product F h) N H.each },
    λ I. record { each = All-map_back (Member F M) (product F h) N I.each },
  )

-- The quotient by a sum is the meet of the quotients.
pub IsColon-append : {F : Field} {M N N' K K' J : List Polynomial} → IsColon F M N K → IsColon F M N' K' → IsMeet F K K' J → IsColon F M (N ++ N') J
IsColon-append {F} {M} {N} {N'} S T U = record {
  polynomials = U.polynomials;
  members = λ h H.
      let In : Polynomial → Type 0 = λ g. Member F M (product F h g) in (
        λ G. let both = (U.members h H).0 G in
            let left = (S.members h H).0 both.left in
            let right = (T.members h H).0 both.right in
            record { each = All-append In N N' left.each right.each },
        λ C. (U.members h H).1 (record {
          left = (S.members h H).1 (record { each = All-append_left In N N' C.each });
          right = (T.members h H).1 (record { each = All-append_right In N N' C.each });
        }),
      );
}

pub IsMeet-comm : {F : Field} {M N K : List Polynomial} → IsMeet F M N K → IsMeet F N M K
IsMeet-comm S = record {
  polynomials = S.polynomials;
  members = λ h H. (
    λ G. let both = (S.members h H).0 G in record { left = both.right; right = both.left },
    λ G. (S.members h H).1 (record { left = G.right; right = G.left }),
  );
}

module _ {F : Field} (L : IsField F) where
  -- Meets and quotients, to the ring of polynomials and back.
  module _ {M N : List Polynomial} (X : InRing F M) (Y : InRing F N) where
    pub InColon_over : {h : Polynomial} (H : IsPolynomial F h) → InColon F M N h → ring_colon.InColon (polynomial_ring L) X.list Y.list (over H)
    InColon_over {h} H C = ring_laws.InColon-Inside (Inside_over L (InRing-multiples L H Y) X (Inside-InColon.0 C))

    pub InColon_map : {h : PolynomialOver F} → ring_colon.InColon (polynomial_ring L) X.list Y.list h → InColon F M N h.map
    InColon_map {h} C = Inside-InColon.1 (Inside_map L (InRing-multiples L h.is_polynomial Y) X (ring_laws.Inside-InColon C))

    module _ {K : List Polynomial} (Z : InRing F K) where
      pub Meet_over : IsMeet F M N K → ring_colon.Meet (polynomial_ring L) X.list Y.list Z.list
      Meet_over S = record {
        left = λ h H. Member_over L X h.is_polynomial ((S.members h.map h.is_polynomial).0 (Member_map L Z H)).left;
        right = λ h H. Member_over L Y h.is_polynomial ((S.members h.map h.is_polynomial).0 (Member_map L Z H)).right;
        both = λ h H G. Member_over L Z h.is_polynomial ((S.members h.map h.is_polynomial).1 (record { left = Member_map L X H; right = Member_map L Y G }));
      }

      pub Meet_map : ring_colon.Meet (polynomial_ring L) X.list Y.list Z.list → IsMeet F M N K
      Meet_map S = record {
        polynomials = ArePolynomials-InRing Z;
        members = λ h H. (
          λ G. record { left = Member_map L X (S.left (over H) (Member_over L Z H G)); right = Member_map L Y (S.right (over H) (Member_over L Z H G)) },
          λ G. Member_map L Z (S.both (over H) (Member_over L X H G.left) (Member_over L Y H G.right)),
        );
      }

      pub Colon_over : IsColon F M N K → ring_colon.Colon (polynomial_ring L) X.list Y.list Z.list
      Colon_over S = record {
        sound = λ h H. InColon_over h.is_polynomial ((S.members h.map h.is_polynomial).0 (Member_map L Z H));
        complete = λ h H. Member_over L Z h.is_polynomial ((S.members h.map h.is_polynomial).1 (InColon_map H));
      }

      pub Colon_map : ring_colon.Colon (polynomial_ring L) X.list Y.list Z.list → IsColon F M N K
      Colon_map S = record {
        polynomials = ArePolynomials-InRing Z;
        members = λ h H. (
          λ G. InColon_map (S.sound (over H) (Member_over L Z H G)),
          λ G. Member_map L Z (S.complete (over H) (InColon_over H G)),
        );
      }

  module _ {M N : List Polynomial} where
    pub IsMeet-unique : {K K' : List Polynomial} → IsMeet F M N K → IsMeet F M N K' → SameIdeal F K K'
    IsMeet-unique S T = record {
      forth = Inside-from L S.polynomials (λ h H G. (T.members h H).1 ((S.members h H).0 G));
      back = Inside-from L T.polynomials (λ h H G. (S.members h H).1 ((T.members h H).0 G));
    }

    pub IsColon-unique : {K K' : List Polynomial} → IsColon F M N K → IsColon F M N K' → SameIdeal F K K'
    IsColon-unique S T = record {
      forth = Inside-from L S.polynomials (λ h H G. (T.members h H).1 ((S.members h H).0 G));
      back = Inside-from L T.polynomials (λ h H G. (S.members h H).1 ((T.members h H).0 G));
    }

  module _ {M N : List Polynomial} (P : ArePolynomials F M) (Q : ArePolynomials F N) where
    -- The meet is the largest ideal inside both.
    pub Inside-IsMeet_left : {K : List Polynomial} → IsMeet F M N K → Inside F K M
    Inside-IsMeet_left S = Inside-from L S.polynomials (λ h H G. ((S.members h H).0 G).left)

    pub Inside-IsMeet_right : {K : List Polynomial} → IsMeet F M N K → Inside F K N
    Inside-IsMeet_right S = Inside-from L S.polynomials (λ h H G. ((S.members h H).0 G).right)

    pub Inside-IsMeet : {K J : List Polynomial} → ArePolynomials F J → IsMeet F M N K → Inside F J M → Inside F J N → Inside F J K
    Inside-IsMeet S' S I I' = Inside-from L S' (λ h H G. (S.members h H).1 (record { left = Member-Inside L S' P I G; right = Member-Inside L S' Q I' G }))

    -- Then h g is in (M) for each member g of (N).
    pub Member-InColon : {h g : Polynomial} → IsPolynomial F h → InColon F M N h → Member F N g → Member F M (product F h g)
    Member-InColon {h} H C G =
        let X = in_ring P in
        let Y = in_ring Q in
        subst (Member F M) (map_mul L (over H) _) (Member_map L X (ring_laws.Member-InColon (InColon_over X Y H C) (Member_over L Y (Member_polynomial L Q G) G)))

    pub InColon-from : {h : Polynomial} → ((g : Polynomial) → IsPolynomial F g → Member F N g → Member F M (product F h g)) → InColon F M N h
    InColon-from {h} f = record { each = All-weaker (Member F N) (λ g. Member F M (product F h g)) (λ g G. f g (Member_polynomial L Q G) G) N (Member-elements L Q) }

    -- (M) is inside (M) : (N).
    pub Inside-IsColon : {K : List Polynomial} → IsColon F M N K → Inside F M K
    Inside-IsColon S =
        let X = in_ring P in
        let Y = in_ring Q in
        let Z = in_ring S.polynomials in
        Inside_map L X Z (ring_laws.Inside-Colon (Colon_over X Y Z S))

  -- The quotient by the zero ideal is the whole ring.
  pub IsColon-nil : {M : List Polynomial} → ArePolynomials F M → IsColon F M [] (term 1 origin ∷ [])
  IsColon-nil P =
      let X = in_ring P in
      let Z : InRing F (term 1 origin ∷ []) = record { list = (polynomial_ring L).one ∷ []; are = ap (λ f. f ∷ []) (map_one L) } in
      Colon_map X InRing-nil Z (ring_laws.Colon-nil X.list)

  -- So is that by a list of zeros.
  pub IsColon-zeros : {M N : List Polynomial} → ArePolynomials F M → All (λ g. g ≡ empty) N → IsColon F M N (term 1 origin ∷ [])
  IsColon-zeros {M} {N} P zeros =
      let unit = IsColon-nil P in
      record {
        polynomials = unit.polynomials;
        members = λ h H. (
          λ G. record {
            each = All-weaker (λ g. g ≡ empty) (λ g. Member F M (product F h g))
                (λ g e. subst (Member F M) (sym (ap (product F h) e ∙ product_empty L H)) (Member-empty L P)) N zeros;
          },
          λ C. (unit.members h H).1 (record { each = All-nil (λ g. Member F M (product F h g)) }),
        );
      }

  module _ {M : List Polynomial} (P : ArePolynomials F M) {g : Polynomial} (G : IsPolynomial F g) where
    -- The quotient by one polynomial that cancels, from the meet with its ideal: the members of the meet are divided by it.
    pub IsColon-single : {N : List Polynomial} → ((x y : Polynomial) → IsPolynomial F x → IsPolynomial F y → product F g x ≡ product F g y → x ≡ y) → ArePolynomials F N → IsMeet F M (g ∷ []) (multiples F g N) → IsColon F M (g ∷ []) N
    IsColon-single cancel Q S =
        let X = in_ring P in
        let Y = in_ring Q in
        let one = InRing-cons G InRing-nil in
        Colon_map X one Y (ring_laws.Colon-single
        (λ x y e. over_equal x y (cancel x.map y.map x.is_polynomial y.is_polynomial (sym (map_mul L (over G) x) ∙ ap (λ h. h.map) e ∙ map_mul L (over G) y)))
        (Meet_over X one (InRing-multiples L G Y) S))

  -- Meets and quotients depend on the ideals alone.
  module _ {M M' N N' K K' : List Polynomial} (P : ArePolynomials F M) (P' : ArePolynomials F M') (Q : ArePolynomials F N) (Q' : ArePolynomials F N') (S : ArePolynomials F K) (S' : ArePolynomials F K') where
    pub IsMeet-SameIdeal : SameIdeal F M M' → SameIdeal F N N' → SameIdeal F K K' → IsMeet F M N K → IsMeet F M' N' K'
    IsMeet-SameIdeal E G H U =
        let X = in_ring P in
        let X' = in_ring P' in
        let Y = in_ring Q in
        let Y' = in_ring Q' in
        let Z = in_ring S in
        let Z' = in_ring S' in
        Meet_map X' Y' Z' (ring_laws.Meet-SameIdeal (SameIdeal_over L X X' E) (SameIdeal_over L Y Y' G) (SameIdeal_over L Z Z' H) (Meet_over X Y Z U))

    pub IsColon-SameIdeal : SameIdeal F M M' → SameIdeal F N N' → SameIdeal F K K' → IsColon F M N K → IsColon F M' N' K'
    IsColon-SameIdeal E G H U =
        let X = in_ring P in
        let X' = in_ring P' in
        let Y = in_ring Q in
        let Y' = in_ring Q' in
        let Z = in_ring S in
        let Z' = in_ring S' in
        Colon_map X' Y' Z' (ring_laws.Colon-SameIdeal (SameIdeal_over L X X' E) (SameIdeal_over L Y Y' G) (SameIdeal_over L Z Z' H) (Colon_over X Y Z U))
