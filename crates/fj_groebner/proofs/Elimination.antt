-- Meets and quotients of ideals of polynomials by elimination of the eighth variable.
use Rattle.std.proofs.Common.{◌≡◌, ◌≢◌, ℕ, suc, ◌<◌, ◌==◌, Bool, true, false, cond, List, [], ◌∷◌, ◌++◌, length, get_or, map, filter, All, Some, refl, sym, ap, ap₂, ◌∙◌, subst, arith}
use Rattle.std.specs.Bool.{Decides}
use Rattle.std.specs.FinMap.{empty, get, entries, get-entries}
use Rattle.std.proofs.lemmas.List.{map-append}
use Rattle.std.proofs.lemmas.List.Elements.{All-nil, All-cons, All-weaker, All-contains}
use Rattle.std.proofs.lemmas.Bool.Decides.{nat_tests}
use Rattle.std.proofs.lemmas.List.Sums.{AllPass-from_list_all, list_all-from_AllPass}
use Rattle.fj_coeff.specs.Field.{Field, IsField}
use Rattle.fj_algebra.specs.Ring.{subtract}
use Rattle.fj_algebra.specs.Ideal as ring_ideal
use Rattle.fj_algebra.specs.Variable as variable
use Rattle.fj_algebra.specs.Elimination as ring_elimination
use Rattle.fj_algebra.proofs.Lists.{All-map_back}
use Rattle.fj_algebra.proofs.Pairs.{All-from_elements, contains_filter}
use Rattle.fj_algebra.proofs.Elimination as ring_laws
use Rattle.fj_theory.specs.MonomialOrder.{IsMonomialOrder, elim_key}
use Rattle.fj_theory.specs.Polynomial.{Polynomial, IsPolynomial, coefficient, difference, term}
use Rattle.fj_theory.specs.Ideal.{ArePolynomials, Member, multiples}
use Rattle.fj_theory.specs.Colon.{IsMeet, IsColon}
use Rattle.fj_theory.specs.PointIdeal.{UsesFirst, variable_exponents}
use Rattle.fj_groebner.specs.ReducedBasis.{IsReducedBasis}
use Rattle.fj_groebner.specs.Division.{Sugared, Division, IsDivision}
use Rattle.fj_groebner.specs.Run.{given}
use Rattle.fj_groebner.specs.EliminationLaws.{Eliminates, IsExact, DividesOut}
use Rattle.fj_groebner.specs.Elimination.{eighth_variable, elimination_list, lacks_eighth, without_eighth}
use Rattle.fj_theory.proofs.Field.{rank_one}
use Rattle.fj_theory.proofs.Product.{entries_get}
use Rattle.fj_theory.proofs.Polynomial.{get-coefficient, coefficient-Some}
use Rattle.fj_theory.proofs.Terms.{find_All}
use Rattle.fj_theory.proofs.Keys.{elim_key-IsMonomialOrder, grevlex_key-IsMonomialOrder}
use Rattle.fj_theory.proofs.PolynomialRing.{map_subtract, PolynomialOver, over_equal, polynomial_ring, map_zero, map_one}
use Rattle.fj_theory.proofs.OrderedPolynomials.{positive, positive_back, exponents_of, Exponents, monomial_order, scalars, term_at, polynomials, ordered_polynomials}
use Rattle.fj_theory.proofs.EighthVariable.{eighth, elim_eliminates, elim_grevlex_agree, eighth_exponent, eighth_list}
use Rattle.fj_theory.proofs.UsesFirst.{UsesFirst-from_exponents}
use Rattle.fj_theory.proofs.IdealBridge.{ArePolynomials-InRing, ArePolynomials-single, over, maps, in_ring, Member_polynomial, Member_map, Member_over, InRing, InRing-nil, InRing-cons, InRing-multiples, multiples_maps}
use Rattle.fj_theory.proofs.Ideal.{Member-Inside}
use Rattle.fj_theory.proofs.Colon.{IsColon-append, Inside-IsMeet_right, Meet_map, Colon_map}
use Rattle.fj_groebner.proofs.Lacking.{UsesFirst-factors}
use Rattle.fj_groebner.proofs.ReducedBasis.{IsReducedBasis_polynomials, IsReducedBasis_over, IsReducedBasis_map}
use Rattle.fj_groebner.proofs.Division.{IsDivision-quotients, IsDivision-length, IsDivision-exact, IsDivision-exact_remainder}

pub filter-map : {X Y : Type 0} (f : X → Y) (p : Y → Bool) (xs : List X) → map f (filter (λ x. p (f x)) xs) ≡ filter p (map f xs)
filter-map f p [] = refl
filter-map f p (x ∷ xs) = go (p (f x)) (filter-map f p xs)
  where
    go : (t : Bool) → map f (filter (λ x. p (f x)) xs) ≡ filter p (map f xs)
        → map f (cond t (x ∷ filter (λ x. p (f x)) xs) (filter (λ x. p (f x)) xs)) ≡ cond t (f x ∷ filter p (map f xs)) (filter p (map f xs))
    go true e = ap (λ l. f x ∷ l) e
    go false e = e

zero_from_test : (n : ℕ) → (n == 0) ≡ true → n ≡ 0
zero_from_test n e = grind (arith, nat_tests)

others : List Polynomial → List Polynomial
others [] = []
others (x ∷ xs) = xs

maps_equal : {F : Field} (M N : List (PolynomialOver F)) → maps M ≡ maps N → M ≡ N
unfolding others
maps_equal [] [] e = refl
maps_equal [] (g ∷ N) e = let n : 0 ≡ suc (length (maps N)) = ap length e in absurd (omega (arith, n))
maps_equal (f ∷ M) [] e = let n : suc (length (maps M)) ≡ 0 = ap length e in absurd (omega (arith, n))
maps_equal (f ∷ M) (g ∷ N) e = ap₂ ◌∷◌ (over_equal f g (ap (λ l. get_or l 0 f.map) e)) (maps_equal M N (ap others e))

only : (qs : List Polynomial) → length qs ≡ 1 → qs ≡ get_or qs 0 empty ∷ []
only [] e = absurd (omega arith)
only (q ∷ []) e = refl
only (q ∷ (p ∷ qs)) e = absurd (omega arith)

module _ {F : Field} (L : IsField F) where
  unfoldable pub eighth_over : variable.Variable (polynomials L).monomials
  unfolding polynomials
  eighth_over = eighth

  eliminates : variable.Eliminates (monomial_order elim_key-IsMonomialOrder) eighth
  eliminates = elim_eliminates

  -- A polynomial that uses the first seven variables lacks the eighth.
  pub lacks_over : (f : PolynomialOver F) → UsesFirst 7 f.map → variable.Lacks (polynomials L) eighth_over f
  unfolding polynomials eighth_over
  lacks_over f u = record { within = λ a n. eighth_exponent a ∙ u.later a.list (positive L f a n) 7 (omega arith) }

  at_seven : {f : Polynomial} → IsPolynomial F f → ((a : List ℕ) → 0 < coefficient f a → get_or a 7 0 ≡ 0) → UsesFirst 7 f
  at_seven P z = UsesFirst-from_exponents P (λ i h l a p. let seven : 7 ≡ i = omega (arith, h, l) in subst (λ k. get_or a k 0 ≡ 0) seven (z a p))

  pub UsesFirst_from_lacks : (f : PolynomialOver F) → variable.Lacks (polynomials L) eighth_over f → UsesFirst 7 f.map
  unfolding polynomials eighth_over
  UsesFirst_from_lacks f l = at_seven f.is_polynomial (λ a p.
      let at : Exponents = record { list = a; is_exponents = exponents_of L f a p } in sym (eighth_exponent at) ∙ l.within at (positive_back L f at p))

  -- The test decides it.
  pub lacks_eighth-Decides : {f : Polynomial} → IsPolynomial F f → Decides (lacks_eighth f) (UsesFirst 7 f)
  unfolding lacks_eighth
  lacks_eighth-Decides {f} P = (
    λ e. at_seven P (λ a p. zero_from_test _
        (find_All (λ t. (get_or t.0 7 0 == 0) ≡ true) (entries f) a (coefficient f a) (AllPass-from_list_all (λ t. get_or t.0 7 0 == 0) (entries f) e)
        (sym (get-entries f a) ∙ get-coefficient f a p))),
    λ u. list_all-from_AllPass (λ t. get_or t.0 7 0 == 0) (entries f)
        (All-weaker (λ t. get f t.0 ≡ Some t.1) (λ t. (get_or t.0 7 0 == 0) ≡ true)
        (λ t g. ap (λ n. n == 0) (u.later t.0 (let c = coefficient-Some f t.0 t.1 g in let n = P.nonzero t.0 t.1 g in omega (arith, c, n)) 7 (omega arith)))
        (entries f) (entries_get f)),
  )

  unfoldable test : PolynomialOver F → Bool
  test f = lacks_eighth f.map

  test-Decides : (f : PolynomialOver F) → Decides (test f) (variable.Lacks (polynomials L) eighth_over f)
  unfolding test
  test-Decides f = let d = lacks_eighth-Decides f.is_polynomial in (λ e. lacks_over f (d.0 e), λ l. d.1 (UsesFirst_from_lacks f l))

  variable_map : ((polynomials L).term (polynomials L).field.ring.one eighth_over.variable).map ≡ eighth_variable
  unfolding polynomials scalars term_at eighth_over eighth_variable variable_exponents
  variable_map = ap (λ c. term c eighth.variable.list) (rank_one L) ∙ ap (term 1) eighth_list

  elimination_over : (I J : List (PolynomialOver F)) → maps (ring_elimination.elimination_list (polynomials L) eighth_over I J) ≡ elimination_list F (maps I) (maps J)
  unfolding elimination_list polynomials
  elimination_over I J =
      let t : PolynomialOver F = (polynomials L).term (polynomials L).field.ring.one eighth_over.variable in
      let s : PolynomialOver F = subtract (polynomial_ring L) (polynomial_ring L).one t in
      map-append (λ f. f.map) (ring_ideal.multiples (polynomial_ring L) t I) (ring_ideal.multiples (polynomial_ring L) s J)
      ∙ ap₂ ◌++◌ (multiples_maps L t.is_polynomial I ∙ ap (λ f. multiples F f (maps I)) variable_map)
      (multiples_maps L s.is_polynomial J ∙ ap (λ f. multiples F f (maps J)) (map_subtract L (polynomial_ring L).one t ∙ ap₂ (difference F) (map_one L) variable_map))

  pub all_lack : {I : List Polynomial} (X : InRing F I) → All (UsesFirst 7) I → All (variable.Lacks (polynomials L) eighth_over) X.list
  all_lack X all = All-weaker (λ f. UsesFirst 7 f.map) (variable.Lacks (polynomials L) eighth_over) (λ f u. lacks_over f u) X.list
      (All-map_back (UsesFirst 7) (λ f. f.map) X.list (subst (All (UsesFirst 7)) (sym X.are) all))

  InRing-elimination : {I J : List Polynomial} → InRing F I → InRing F J → InRing F (elimination_list F I J)
  InRing-elimination X Y = record {
    list = ring_elimination.elimination_list (polynomials L) eighth_over X.list Y.list;
    are = elimination_over X.list Y.list ∙ ap₂ (elimination_list F) X.are Y.are;
  }

  InRing-without : {G : List Polynomial} → InRing F G → InRing F (without_eighth G)
  unfolding without_eighth test
  InRing-without X = record { list = filter test X.list; are = filter-map (λ f. f.map) lacks_eighth X.list ∙ ap (filter lacks_eighth) X.are }

  pub ArePolynomials-elimination : {I J : List Polynomial} → ArePolynomials F I → ArePolynomials F J → ArePolynomials F (elimination_list F I J)
  ArePolynomials-elimination A B = ArePolynomials-InRing (InRing-elimination (in_ring A) (in_ring B))

  pub ArePolynomials-without_eighth : {G : List Polynomial} → ArePolynomials F G → ArePolynomials F (without_eighth G)
  ArePolynomials-without_eighth A = ArePolynomials-InRing (InRing-without (in_ring A))

  -- They lack the eighth variable.
  pub UsesFirst-without_eighth : {G : List Polynomial} → ArePolynomials F G → All (UsesFirst 7) (without_eighth G)
  unfolding without_eighth
  UsesFirst-without_eighth {G} A = All-from_elements (UsesFirst 7) (filter lacks_eighth G)
      (λ g c. let both = contains_filter lacks_eighth G g c in (lacks_eighth-Decides (All-contains (IsPolynomial F) G g A.each both.0)).0 both.1)

  -- The elimination theorem.
  module _ {E G : List Polynomial} (A : ArePolynomials F E) (basis : IsReducedBasis F elim_key E G) where
    basis_polynomials : ArePolynomials F G
    basis_polynomials = IsReducedBasis_polynomials elim_key-IsMonomialOrder L A basis

    in_ideal : All (Member F E) (without_eighth G)
    unfolding without_eighth
    in_ideal = All-from_elements (Member F E) (filter lacks_eighth G)
        (λ g c. All-contains (Member F E) G g basis.members.each (contains_filter lacks_eighth G g c).0)

    pub elimination_theorem : Eliminates F E G
    unfolding ordered_polynomials InRing-without eighth_over
    elimination_theorem =
        let X = in_ring A in
        let Z = in_ring basis_polynomials in
        let W = InRing-without Z in
        let whole = IsReducedBasis_over elim_key-IsMonomialOrder L X Z basis in
        record {
          lack = UsesFirst-without_eighth basis_polynomials;
          members = λ h H u. (
            λ m. Member-Inside L (ArePolynomials-InRing W) A (record { each = in_ideal }) m,
            λ m. Member_map L W (ring_laws.eliminated_member (ordered_polynomials L elim_key-IsMonomialOrder) eighth_over eliminates test test-Decides
                whole.members whole.covers (over H) (lacks_over (over H) u) (Member_over L X H m)),
          );
          basis = IsReducedBasis_map grevlex_key-IsMonomialOrder L W W
              (ring_laws.eliminated_basis (ordered_polynomials L elim_key-IsMonomialOrder) eighth_over eliminates test test-Decides
              (monomial_order grevlex_key-IsMonomialOrder) elim_grevlex_agree whole);
        }

  module _ {I J G : List Polynomial} (A : ArePolynomials F I) (B : ArePolynomials F J) (basis : IsReducedBasis F elim_key (elimination_list F I J) G) where
    polynomials_of_basis : ArePolynomials F G
    polynomials_of_basis = IsReducedBasis_polynomials elim_key-IsMonomialOrder L (ArePolynomials-elimination A B) basis

    -- The members without the eighth variable of the reduced basis of the elimination list generate the meet.
    pub IsMeet-elimination : All (UsesFirst 7) I → All (UsesFirst 7) J → IsMeet F I J (without_eighth G)
    unfolding ordered_polynomials InRing-without InRing-elimination eighth_over
    IsMeet-elimination lacks_I lacks_J =
        let X = in_ring A in
        let Y = in_ring B in
        let Z = in_ring polynomials_of_basis in
        let over = IsReducedBasis_over elim_key-IsMonomialOrder L (InRing-elimination X Y) Z basis in
        Meet_map L X Y (InRing-without Z) (ring_laws.eliminated_meet (ordered_polynomials L elim_key-IsMonomialOrder) eighth_over eliminates test test-Decides
        (all_lack X lacks_I) (all_lack Y lacks_J) over.members over.covers)

  -- The division of a multiple of a polynomial by it.
  pub IsDivision-IsExact : {key : List ℕ → List ℕ} → IsMonomialOrder key → {g h : Polynomial} → IsPolynomial F g → g ≢ empty → Member F (g ∷ []) h
      → {last : Division} → IsDivision F key (given g ∷ []) (given h) last → IsExact F g h last
  unfolding given
  IsDivision-IsExact {key} K {g} {h} P nonzero m {last} D =
      let A = ArePolynomials-single P in
      let some = All-cons (λ g. g ≢ empty) g [] nonzero (All-nil (λ g. g ≢ empty)) in
      let H = Member_polynomial L A m in
      let one : List Sugared = given g ∷ [] in
      let quotients = IsDivision-quotients K L one A some H D in
      let long : length last.quotients ≡ 1 = IsDivision-length K L one A some H D in
      record {
        quotient = get_or last.quotients 0 empty;
        polynomial = quotients.each 0 empty (omega (arith, long));
        quotients = only last.quotients long;
        remainder = IsDivision-exact_remainder K L one A some H D refl m;
        whole = IsDivision-exact K L one A some H D refl m;
      }

  module _ {I G : List Polynomial} {g : Polynomial} (A : ArePolynomials F I) (P : IsPolynomial F g) (basis : IsReducedBasis F elim_key (elimination_list F I (g ∷ [])) G) where
    -- The quotient by one polynomial: the members of the meet with its ideal are divided by it.
    pub IsColon-elimination : {Q : List Polynomial} → All (UsesFirst 7) I → UsesFirst 7 g → g ≢ empty → ArePolynomials F Q → without_eighth G ≡ multiples F g Q → IsColon F I (g ∷ []) Q
    unfolding ordered_polynomials InRing-without InRing-elimination eighth_over
    IsColon-elimination lacks_I lacks nonzero B divided =
        let X = in_ring A in
        let one = InRing-cons P InRing-nil in
        let Z = in_ring (polynomials_of_basis A (ArePolynomials-single P) basis) in
        let Y = in_ring B in
        let whole = IsReducedBasis_over elim_key-IsMonomialOrder L (InRing-elimination X one) Z basis in
        let equal : filter test Z.list ≡ ring_ideal.multiples (polynomial_ring L) (over P) Y.list =
        maps_equal _ _ ((InRing-without Z).are ∙ divided ∙ sym ((InRing-multiples L P Y).are)) in
        Colon_map L X one Y (ring_laws.eliminated_colon (ordered_polynomials L elim_key-IsMonomialOrder) eighth_over eliminates test test-Decides
        (all_lack X lacks_I) (lacks_over (over P) lacks) (λ e. nonzero (ap (λ f. f.map) e ∙ map_zero L)) whole.members whole.covers equal)

    pub elimination_divides_out : All (UsesFirst 7) I → UsesFirst 7 g → g ≢ empty → DividesOut F I g G
    elimination_divides_out lacks_I lacks nonzero =
        let B = ArePolynomials-single P in
        let meet = IsMeet-elimination A B basis lacks_I (All-cons (UsesFirst 7) g [] lacks (All-nil (UsesFirst 7))) in
        let multiples_of_g = Inside-IsMeet_right L A B meet in
        record {
          exact = λ key K. All-weaker (Member F (g ∷ [])) (λ h. (last : Division) → IsDivision F key (given g ∷ []) (given h) last → IsExact F g h last)
              (λ h m last D. IsDivision-IsExact K P nonzero m D) (without_eighth G) multiples_of_g.each;
          colon = λ Q C e. IsColon-elimination lacks_I lacks nonzero C (sym e);
          lack = λ Q C e. UsesFirst-factors L P C nonzero
              (subst (All (UsesFirst 7)) (sym e) (UsesFirst-without_eighth (polynomials_of_basis A B basis)));
        }

  -- The quotient by one polynomial more: the meet of the quotient so far with the quotient by it.
  pub IsColon-more : {I M K Q G : List Polynomial} {g : Polynomial} → IsColon F I M K → IsColon F I (g ∷ []) Q → IsReducedBasis F elim_key (elimination_list F K Q) G
      → All (UsesFirst 7) K → All (UsesFirst 7) Q → IsColon F I (M ++ g ∷ []) (without_eighth G)
  IsColon-more S T basis lacks_K lacks_Q = IsColon-append S T (IsMeet-elimination S.polynomials T.polynomials basis lacks_K lacks_Q)
