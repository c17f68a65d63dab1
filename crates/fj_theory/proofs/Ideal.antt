-- Laws of ideals of polynomials: members, inclusion, equality, sums, products and the unit ideal.
use Rattle.std.proofs.Common.{◌≡◌, ◌↔◌, ℕ, ◌+◌, ◌-◌, ◌≤◌, arith, List, [], ◌∷◌, ◌++◌, length, All, Contains, sym, ap, ap₂, ◌∙◌, subst}
use Rattle.std.specs.FinMap.{empty}
use Rattle.std.proofs.lemmas.List.{length-map}
use Rattle.std.proofs.lemmas.List.Elements.{All-nil, All-cons, All-head, All-tail, All-append, All-weaker, All-contains}
use Rattle.fj_coeff.specs.Field.{Field, IsField}
use Rattle.fj_algebra.specs.Ideal as ring_ideal
use Rattle.fj_algebra.proofs.Ideal as ring_laws
use Rattle.fj_theory.specs.Exponents.{origin}
use Rattle.fj_theory.specs.Polynomial.{Polynomial, IsPolynomial, sum, product, negation, power, term}
use Rattle.fj_theory.specs.Ideal.{ArePolynomials, combination, list_combination, Member, Inside, SameIdeal, multiples, products}
use Rattle.fj_theory.proofs.PolynomialRing.{polynomial_ring, map_zero, map_one, map_add, map_neg, map_mul, product_one, over_equal, IsPolynomial-power, power_add}
use Rattle.fj_theory.proofs.Product.{IsPolynomial-product}
use Rattle.fj_theory.proofs.IdealBridge.{over, maps, ArePolynomials-maps, ArePolynomials-single, ArePolynomials-head, ArePolynomials-tail, in_ring, InRing, Member_map, Member_over, Inside_map, Inside_over, SameIdeal_map, SameIdeal_over, ArePolynomials-InRing, InRing-nil, InRing-cons, InRing-append, InRing-multiples, InRing-products, IsPolynomial-one, Member_polynomial, list_combination_map}

pub ArePolynomials-append : {F : Field} {M N : List Polynomial} → ArePolynomials F M → ArePolynomials F N → ArePolynomials F (M ++ N)
ArePolynomials-append {F} {M} {N} P Q = record { each = All-append (IsPolynomial F) M N P.each Q.each }

-- Equality of ideals, inclusion in both ways, is symmetric.
pub SameIdeal-sym : {F : Field} {M N : List Polynomial} → SameIdeal F M N → SameIdeal F N M
SameIdeal-sym E = record { forth = E.back; back = E.forth }

module _ {F : Field} where
  pub Member-nil : {h : Polynomial} → Member F [] h → h ≡ empty
  unfolding combination
  Member-nil H = H.is

  pub Inside-nil : (N : List Polynomial) → Inside F [] N
  Inside-nil N = record { each = All-nil (Member F N) }

  pub Inside-cons : {g : Polynomial} {M N : List Polynomial} → Member F N g → Inside F M N → Inside F (g ∷ M) N
  Inside-cons {g} {M} {N} G I = record { each = All-cons (Member F N) g M G I.each }

  pub Inside-head : {g : Polynomial} {M N : List Polynomial} → Inside F (g ∷ M) N → Member F N g
  Inside-head {g} {M} {N} I = All-head (Member F N) g M I.each

  pub Inside-tail : {g : Polynomial} {M N : List Polynomial} → Inside F (g ∷ M) N → Inside F M N
  Inside-tail {g} {M} {N} I = record { each = All-tail (Member F N) g M I.each }

  pub Inside-single : {g : Polynomial} {N : List Polynomial} → Member F N g → Inside F (g ∷ []) N
  Inside-single {N} G = Inside-cons G (Inside-nil N)

  pub Inside-Contains : {M N : List Polynomial} {g : Polynomial} → Inside F M N → Contains M g → Member F N g
  Inside-Contains {M} {N} {g} I c = All-contains (Member F N) M g I.each c

  -- The sum of two ideals, the ideal of both lists, is the smallest that has both inside.
  pub Inside-append : {M N K : List Polynomial} → Inside F M K → Inside F N K → Inside F (M ++ N) K
  Inside-append {M} {N} {K} I J = record { each = All-append (Member F K) M N I.each J.each }

module _ {F : Field} (L : IsField F) where
  module _ {M : List Polynomial} (P : ArePolynomials F M) where
    in_list : {h : Polynomial} (H : Member F M h) → ring_ideal.Member (polynomial_ring L) (in_ring P).list (over (Member_polynomial L P H))
    in_list H = Member_over L (in_ring P) (Member_polynomial L P H) H

    pub Member-empty : Member F M empty
    Member-empty = subst (Member F M) (map_zero L) (Member_map L (in_ring P) (ring_laws.Member-zero (in_ring P).list))

    pub Member-sum : {h k : Polynomial} → Member F M h → Member F M k → Member F M (sum F h k)
    Member-sum H K = subst (Member F M) (map_add L _ _) (Member_map L (in_ring P) (ring_laws.Member-add (in_list H) (in_list K)))

    -- Multiples of a member are members.
    pub Member-product : {a h : Polynomial} → IsPolynomial F a → Member F M h → Member F M (product F a h)
    Member-product A H = subst (Member F M) (map_mul L (over A) _) (Member_map L (in_ring P) (ring_laws.Member-mul (over A) (in_list H)))

    pub Member-negation : {h : Polynomial} → Member F M h → Member F M (negation F h)
    Member-negation H = subst (Member F M) (map_neg L _) (Member_map L (in_ring P) (ring_laws.Member-neg (in_list H)))

    pub Member-difference : {h k : Polynomial} → Member F M h → Member F M k → Member F M (sum F h (negation F k))
    Member-difference H K = Member-sum H (Member-negation K)

    -- Each polynomial of the list is a member.
    pub Inside-refl : Inside F M M
    Inside-refl = Inside_map L (in_ring P) (in_ring P) (ring_laws.Inside-refl (in_ring P).list)

    pub Member-elements : All (Member F M) M
    Member-elements = Inside-refl.each

    pub Member-Contains : {g : Polynomial} → Contains M g → Member F M g
    Member-Contains {g} c = Inside-Contains Inside-refl c

    pub SameIdeal-refl : SameIdeal F M M
    SameIdeal-refl = record { forth = Inside-refl; back = Inside-refl }

    pub Inside-from : {N : List Polynomial} → ((h : Polynomial) → IsPolynomial F h → Member F M h → Member F N h) → Inside F M N
    Inside-from {N} f = record { each = All-weaker (Member F M) (Member F N) (λ h H. f h (Member_polynomial L P H) H) M Member-elements }

    -- An ideal with 1 among its members has every polynomial.
    pub Member-all : {h : Polynomial} → Member F M (term 1 origin) → IsPolynomial F h → Member F M h
    Member-all U H = subst (Member F M) (product_one L H) (Member-product H U)

    -- A combination of the list by a list of cofactors is a member.
    pub Member-from_list : (cs : List Polynomial) → ArePolynomials F cs → Member F M (list_combination F cs M)
    Member-from_list cs C =
        let X = in_ring P in
        let Y = in_ring C in
        subst (Member F M) (list_combination_map L Y.list X.list ∙ ap₂ (list_combination F) Y.are X.are) (Member_map L X (ring_laws.Member-from_list Y.list X.list))

    -- Each member is one, with one cofactor for each polynomial of the list.
    pub list_from_Member : {h : Polynomial} → Member F M h → (cs : List Polynomial) × ArePolynomials F cs × (length cs ≡ length M) × (h ≡ list_combination F cs M)
    list_from_Member H =
        let X = in_ring P in
        let found = ring_laws.list_from_Member (in_list H) in (
          maps found.0,
          ArePolynomials-maps found.0,
          length-map found.0 (λ f. f.map) ∙ found.1 ∙ sym (length-map X.list (λ f. f.map)) ∙ ap length X.are,
          ap (λ x. x.map) found.2 ∙ list_combination_map L found.0 X.list ∙ ap (list_combination F (maps found.0)) X.are,
        )

  pub Member-head : {g : Polynomial} {M : List Polynomial} → ArePolynomials F (g ∷ M) → Member F (g ∷ M) g
  Member-head {g} {M} P = All-head (Member F (g ∷ M)) g M (Member-elements P)

  pub Member-tail : {g : Polynomial} {M : List Polynomial} {h : Polynomial} → ArePolynomials F (g ∷ M) → Member F M h → Member F (g ∷ M) h
  Member-tail {g} {M} {h} P H =
      let X = in_ring (ArePolynomials-tail P) in
      Member_map L (InRing-cons (ArePolynomials-head P) X) (ring_laws.Member-tail (Member_over L X (Member_polynomial L (ArePolynomials-tail P) H) H))

  module _ {M N : List Polynomial} (P : ArePolynomials F M) (Q : ArePolynomials F N) where
    -- A member of (M) is a member of each (N) that (M) is inside.
    pub Member-Inside : {h : Polynomial} → Inside F M N → Member F M h → Member F N h
    Member-Inside I H = Member_map L (in_ring Q) (ring_laws.Member-Inside (Inside_over L (in_ring P) (in_ring Q) I) (in_list P H))

    pub Inside-append_left : Inside F M (M ++ N)
    Inside-append_left =
        let X = in_ring P in
        let Y = in_ring Q in
        Inside_map L X (InRing-append X Y) (ring_laws.Inside-append_left X.list Y.list)

    pub Inside-append_right : Inside F N (M ++ N)
    Inside-append_right =
        let X = in_ring P in
        let Y = in_ring Q in
        Inside_map L Y (InRing-append X Y) (ring_laws.Inside-append_right X.list Y.list)

    pub SameIdeal-append_comm : SameIdeal F (M ++ N) (N ++ M)
    SameIdeal-append_comm =
        let X = in_ring P in
        let Y = in_ring Q in
        SameIdeal_map L (InRing-append X Y) (InRing-append Y X) (ring_laws.SameIdeal-append_comm X.list Y.list)

    -- A member of the sum is a sum of members.
    pub Member-append_split : {h : Polynomial} → Member F (M ++ N) h → (a : Polynomial) × (b : Polynomial) × Member F M a × Member F N b × h ≡ sum F a b
    Member-append_split {h} H =
        let X = in_ring P in
        let Y = in_ring Q in
        let found = ring_laws.Member-append_split X.list Y.list (Member_over L (InRing-append X Y) (Member_polynomial L (ArePolynomials-append P Q) H) H) in
        (found.0.map, found.1.map, Member_map L X found.2, Member_map L Y found.3, ap (λ x. x.map) found.4 ∙ map_add L found.0 found.1)

    -- The product of two ideals.
    pub ArePolynomials-products : ArePolynomials F (products F M N)
    ArePolynomials-products = ArePolynomials-InRing (InRing-products L (in_ring P) (in_ring Q))

    pub Member-products : {a b : Polynomial} → Member F M a → Member F N b → Member F (products F M N) (product F a b)
    Member-products {a} {b} H K =
        let X = in_ring P in
        let Y = in_ring Q in
        subst (Member F (products F M N)) (map_mul L _ _) (Member_map L (InRing-products L X Y) (ring_laws.Member-products X.list Y.list (in_list P H) (in_list Q K)))

    pub SameIdeal-products_comm : SameIdeal F (products F M N) (products F N M)
    SameIdeal-products_comm =
        let X = in_ring P in
        let Y = in_ring Q in
        SameIdeal_map L (InRing-products L X Y) (InRing-products L Y X) (ring_laws.SameIdeal-products_comm X.list Y.list)

  module _ {M N K : List Polynomial} (P : ArePolynomials F M) (Q : ArePolynomials F N) (S : ArePolynomials F K) where
    pub Inside-trans : Inside F M N → Inside F N K → Inside F M K
    Inside-trans I J =
        let X = in_ring P in
        let Y = in_ring Q in
        let Z = in_ring S in
        Inside_map L X Z (ring_laws.Inside-trans (Inside_over L X Y I) (Inside_over L Y Z J))

    pub SameIdeal-products_assoc : SameIdeal F (products F (products F M N) K) (products F M (products F N K))
    SameIdeal-products_assoc =
        let X = in_ring P in
        let Y = in_ring Q in
        let Z = in_ring S in
        SameIdeal_map L (InRing-products L (InRing-products L X Y) Z) (InRing-products L X (InRing-products L Y Z)) (ring_laws.SameIdeal-products_assoc X.list Y.list Z.list)

    -- The product is inside K where each product of a member of (M) and one of (N) is a member.
    pub Inside-products_from : ((a b : Polynomial) → Member F M a → Member F N b → Member F K (product F a b)) → Inside F (products F M N) K
    Inside-products_from f =
        let X = in_ring P in
        let Y = in_ring Q in
        let Z = in_ring S in
        Inside_map L (InRing-products L X Y) Z (ring_laws.Inside-products_from X.list Y.list Z.list
        (λ a b H G. Member_over L Z ((polynomial_ring L).mul a b).is_polynomial (subst (Member F K) (sym (map_mul L a b)) (f a.map b.map (Member_map L X H) (Member_map L Y G)))))

    pub SameIdeal-trans : SameIdeal F M N → SameIdeal F N K → SameIdeal F M K
    SameIdeal-trans E G =
        let X = in_ring P in
        let Y = in_ring Q in
        let Z = in_ring S in
        SameIdeal_map L X Z (ring_laws.SameIdeal-trans (SameIdeal_over L X Y E) (SameIdeal_over L Y Z G))

  module _ {M M' N N' : List Polynomial} (P : ArePolynomials F M) (P' : ArePolynomials F M') (Q : ArePolynomials F N) (Q' : ArePolynomials F N') where
    pub Inside-append_both : Inside F M M' → Inside F N N' → Inside F (M ++ N) (M' ++ N')
    Inside-append_both I J =
        let both = ArePolynomials-append P' Q' in
        Inside-append (Inside-trans P P' both I (Inside-append_left P' Q')) (Inside-trans Q Q' both J (Inside-append_right P' Q'))

    pub Inside-products_both : Inside F M M' → Inside F N N' → Inside F (products F M N) (products F M' N')
    Inside-products_both I J =
        Inside-products_from P Q (ArePolynomials-products P' Q') (λ a b H G. Member-products P' Q' (Member-Inside P P' I H) (Member-Inside Q Q' J G))

    -- Inclusion depends on the ideals alone.
    pub Inside-SameIdeal : SameIdeal F M M' → SameIdeal F N N' → Inside F M N → Inside F M' N'
    Inside-SameIdeal E G I = Inside-trans P' Q Q' (Inside-trans P' P Q E.back I) G.forth

  module _ {M M' N N' : List Polynomial} (P : ArePolynomials F M) (P' : ArePolynomials F M') (Q : ArePolynomials F N) (Q' : ArePolynomials F N') where
    pub SameIdeal-append : SameIdeal F M M' → SameIdeal F N N' → SameIdeal F (M ++ N) (M' ++ N')
    SameIdeal-append E G = record { forth = Inside-append_both P P' Q Q' E.forth G.forth; back = Inside-append_both P' P Q' Q E.back G.back }

    pub SameIdeal-products : SameIdeal F M M' → SameIdeal F N N' → SameIdeal F (products F M N) (products F M' N')
    SameIdeal-products E G = record { forth = Inside-products_both P P' Q Q' E.forth G.forth; back = Inside-products_both P' P Q' Q E.back G.back }

  -- The multiples of an ideal by one polynomial.
  module _ {f : Polynomial} (A : IsPolynomial F f) {M : List Polynomial} (P : ArePolynomials F M) where
    pub ArePolynomials-multiples : ArePolynomials F (multiples F f M)
    ArePolynomials-multiples = ArePolynomials-InRing (InRing-multiples L A (in_ring P))

    pub Member-multiples : {h : Polynomial} → Member F M h → Member F (multiples F f M) (product F f h)
    Member-multiples H = subst (Member F (multiples F f M)) (map_mul L (over A) _) (Member_map L (InRing-multiples L A (in_ring P)) (ring_laws.Member-multiples (over A) (in_list P H)))

    -- A member of f M is f times a member of M.
    pub Member-multiples_split : {h : Polynomial} → Member F (multiples F f M) h → (k : Polynomial) × Member F M k × h ≡ product F f k
    Member-multiples_split {h} H =
        let X = in_ring P in
        let found = ring_laws.Member-multiples_split (over A) X.list (Member_over L (InRing-multiples L A X) (Member_polynomial L ArePolynomials-multiples H) H) in
        (found.0.map, Member_map L X found.1, ap (λ x. x.map) found.2 ∙ map_mul L (over A) found.0)

    pub Inside-multiples_self : Inside F (multiples F f M) M
    Inside-multiples_self =
        let X = in_ring P in
        Inside_map L (InRing-multiples L A X) X (ring_laws.Inside-multiples_self (over A) X.list)

    -- The product with the ideal of one polynomial.
    pub SameIdeal-products_single : SameIdeal F (products F (f ∷ []) M) (multiples F f M)
    SameIdeal-products_single =
        let X = in_ring P in
        let Y = InRing-cons A InRing-nil in
        SameIdeal_map L (InRing-products L Y X) (InRing-multiples L A X) (ring_laws.SameIdeal-products_single (over A) X.list)

    module _ {N : List Polynomial} (Q : ArePolynomials F N) where
      pub Inside-multiples : Inside F M N → Inside F (multiples F f M) (multiples F f N)
      Inside-multiples I =
          let X = in_ring P in
          let Y = in_ring Q in
          Inside_map L (InRing-multiples L A X) (InRing-multiples L A Y) (ring_laws.Inside-multiples (over A) (Inside_over L X Y I))

      pub SameIdeal-multiples : SameIdeal F M N → SameIdeal F (multiples F f M) (multiples F f N)
      SameIdeal-multiples E =
          let X = in_ring P in
          let Y = in_ring Q in
          SameIdeal_map L (InRing-multiples L A X) (InRing-multiples L A Y) (ring_laws.SameIdeal-multiples (over A) (SameIdeal_over L X Y E))

    -- Multiples of multiples.
    pub multiples-multiples : {g : Polynomial} → IsPolynomial F g → multiples F g (multiples F f M) ≡ multiples F (product F g f) M
    multiples-multiples {g} B =
        let X = in_ring P in
        let Y = InRing-multiples L B (InRing-multiples L A X) in
        let Z = InRing-multiples L (IsPolynomial-product L B A) X in
        sym Y.are ∙ ap maps (ring_laws.multiples-multiples (polynomial_ring L) (over B) (over A) X.list ∙ ap (λ h. ring_ideal.multiples (polynomial_ring L) h X.list) (over_equal _ _ (map_mul L (over B) (over A)))) ∙ Z.are

  -- A higher power is in the ideal of a lower one.
  pub Member-power_more : {f : Polynomial} → IsPolynomial F f → (m n : ℕ) → Member F (power F f m ∷ []) (power F f (n + m))
  Member-power_more {f} A m n =
      let B = IsPolynomial-power L A m in
      subst (Member F (power F f m ∷ [])) (sym (power_add L A n m))
      (Member-product (ArePolynomials-single B) (IsPolynomial-power L A n) (Member-head (ArePolynomials-single B)))

  pub Inside-powers : {f : Polynomial} → IsPolynomial F f → (m n : ℕ) → m ≤ n → Inside F (power F f n ∷ []) (power F f m ∷ [])
  Inside-powers {f} A m n h = let split : (n - m) + m ≡ n = omega arith in Inside-single (subst (λ k. Member F (power F f m ∷ []) (power F f k)) split (Member-power_more A m (n - m)))

  -- The unit ideal.
  module _ {M : List Polynomial} (P : ArePolynomials F M) where
    pub Inside-one : Inside F M (term 1 origin ∷ [])
    Inside-one = Inside-from P (λ h H K. Member-all (ArePolynomials-single (IsPolynomial-one L)) (Member-head (ArePolynomials-single (IsPolynomial-one L))) H)

    -- 1 is a member exactly where the ideal is the unit ideal.
    pub SameIdeal-one : Member F M (term 1 origin) ↔ SameIdeal F M (term 1 origin ∷ [])
    SameIdeal-one = (λ U. record { forth = Inside-one; back = Inside-single U }, λ E. Inside-head E.back)

    pub SameIdeal-products_one : SameIdeal F (products F (term 1 origin ∷ []) M) M
    SameIdeal-products_one =
        let X = in_ring P in
        let Y : InRing F (term 1 origin ∷ []) = record { list = (polynomial_ring L).one ∷ []; are = ap (λ f. f ∷ []) (map_one L) } in
        SameIdeal_map L (InRing-products L Y X) X (ring_laws.SameIdeal-products_one X.list)
