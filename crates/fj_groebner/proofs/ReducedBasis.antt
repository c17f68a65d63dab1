-- Reduced bases of polynomials are those of the abstract theory, and so they are unique and decide membership.
use Rattle.std.proofs.Common.{◌≡◌, ◌≢◌, ◌↔◌, ℕ, Bool, true, false, IsTrue, List, [], ◌∷◌, get_or, map, All, Contains, Less, true≢false, refl, sym, ap, ◌∙◌, subst, arith}
use Rattle.std.specs.List.{AllPairs}
use Rattle.std.specs.FinMap.{empty}
use Rattle.std.proofs.lemmas.List.{get_or-map, length-map}
use Rattle.std.proofs.lemmas.List.Elements.{All-cons, All-weaker, All-map, All-contains, Contains-get_or}
use Rattle.std.proofs.lemmas.List.Kept.{AllPairs-cons}
use Rattle.fj_coeff.specs.Field.{Field, IsField}
use Rattle.fj_algebra.specs.Order as order
use Rattle.fj_algebra.specs.Polynomial as abstract
use Rattle.fj_algebra.specs.Buchberger as buchberger
use Rattle.fj_algebra.specs.ReducedBasis as basis
use Rattle.fj_algebra.proofs.Polynomial.{lead_from_monic}
use Rattle.fj_algebra.proofs.Pairs.{contains_map, contains_map_back, contains_head, AllPairs-head, AllPairs-tail, AllPairs-map, All-from_elements}
use Rattle.fj_algebra.proofs.Ideal.{Member-same}
use Rattle.fj_algebra.proofs.Lists.{All-map_back, Any-element}
use Rattle.fj_algebra.proofs.ReducedBasis as laws
use Rattle.fj_theory.specs.Exponents.{origin, divides}
use Rattle.fj_theory.specs.MonomialOrder.{IsMonomialOrder, IsRising, compare_by}
use Rattle.fj_theory.specs.Polynomial.{Polynomial, IsPolynomial, coefficient, term}
use Rattle.fj_theory.specs.Ideal.{ArePolynomials, Member, SameIdeal}
use Rattle.fj_theory.specs.Lead.{lead_exponents, lead_coefficient}
use Rattle.fj_groebner.specs.ReducedBasis.{LeadDivides, IsFreeOf, AreReduced, IsReducedBasis}
use Rattle.fj_theory.proofs.MonomialOrder.{compare_by_total}
use Rattle.fj_theory.proofs.Field.{Element, element_equal, rank_one}
use Rattle.fj_theory.proofs.PolynomialRing.{PolynomialOver, over_equal, polynomial_ring, map_zero, map_one}
use Rattle.fj_theory.proofs.OrderedPolynomials.{exponents_of, positive, positive_back, Exponents, monomials, monomial_order, scalars, coefficient_at, polynomials, ordered_polynomials}
use Rattle.fj_theory.proofs.IdealBridge.{IsPolynomial-one, InRing-nil, over, maps, InRing, InRing-maps, in_ring, ArePolynomials-maps, Member_polynomial, Member_map, Member_over, Inside_map, Inside_over, SameIdeal_map, SameIdeal_over}
use Rattle.fj_theory.proofs.Ideal.{SameIdeal-trans, SameIdeal-sym}
use Rattle.fj_theory.proofs.Lead.{lead_at, IsLead-from_lead, lead_from_IsLead, nonzero_map, coefficient-lead, nonzero-lead_coefficient, Divides-from_divides, divides-from_Divides}

-- Pairs of the list behind a map.
pub AllPairs-map_back : {X Y : Type 0} (R : X → X → Type 0) (S : Y → Y → Type 0) (f : X → Y) (xs : List X) → ((x y : X) → S (f x) (f y) → R x y) → AllPairs S (map f xs)
    → AllPairs R xs
AllPairs-map_back R S f xs h all i j d l k =
    h _ _ (subst (λ y. S (f (get_or xs i d)) y) (get_or-map f xs j d (f d) k)
    (subst (λ x. S x (get_or (map f xs) j (f d))) (get_or-map f xs i d (f d) (omega (arith, l, k))) (all i j (f d) l (omega (arith, k, length-map xs f)))))

pub not_false : (t : Bool) → (IsTrue t → ⊥) → t ≡ false
not_false true n = absurd (n refl)
not_false false n = refl

module _ {key : List ℕ → List ℕ} (K : IsMonomialOrder key) {F : Field} (L : IsField F) where
  abbrev P : abstract.OrderedPolynomials (Element F) Exponents (PolynomialOver F)
  P = ordered_polynomials L K

  -- A monic polynomial, both ways.
  pub IsMonic-from_lead : (g : PolynomialOver F) → lead_coefficient key g.map ≡ 1 → abstract.IsMonic P g (lead_at K g.is_polynomial)
  unfolding ordered_polynomials polynomials scalars coefficient_at monomial_order lead_at
  IsMonic-from_lead g e = record {
    monic = element_equal _ _ (coefficient-lead K g.is_polynomial ∙ e ∙ sym (rank_one L));
    top = (IsLead-from_lead K L g (nonzero-lead_coefficient K g.is_polynomial (omega (arith, e)))).top;
  }

  pub lead-from_IsMonic : {g : PolynomialOver F} {a : Exponents} → abstract.IsMonic P g a → lead_coefficient key g.map ≡ 1
  unfolding ordered_polynomials polynomials scalars coefficient_at monomial_order lead_at
  lead-from_IsMonic {g} {a} h =
      sym (coefficient-lead K g.is_polynomial) ∙ ap (λ b. coefficient g.map b.list) (sym (lead_from_IsLead K L (lead_from_monic P h)))
      ∙ ap (λ x. x.rank) h.monic ∙ rank_one L

  pub monic_nonzero : (g : PolynomialOver F) → lead_coefficient key g.map ≡ 1 → g.map ≢ empty
  monic_nonzero g e = nonzero-lead_coefficient K g.is_polynomial (omega (arith, e))

  pub rises_over : (g h : PolynomialOver F) → compare_by key (lead_exponents key g.map) (lead_exponents key h.map) ≡ Less → basis.LeadsRise P g h
  unfolding ordered_polynomials polynomials monomial_order lead_at
  rises_over g h l = record {
    below = λ a b u v. subst (λ b. order.IsBelow (monomial_order K) a b) (sym (lead_from_IsLead K L v)) (subst (λ a. order.IsBelow (monomial_order K) a (lead_at K h.is_polynomial)) (sym (lead_from_IsLead K L u)) (record { is_less = l }));
  }

  rises_map : (g h : PolynomialOver F) → g.map ≢ empty → h.map ≢ empty → basis.LeadsRise P g h
      → compare_by key (lead_exponents key g.map) (lead_exponents key h.map) ≡ Less
  unfolding ordered_polynomials polynomials monomial_order lead_at
  rises_map g h n m r = (r.below _ _ (IsLead-from_lead K L g n) (IsLead-from_lead K L h m)).is_less

  rising_over : (N : List (PolynomialOver F)) → IsRising key (map (lead_exponents key) (maps N))
      → AllPairs (λ g h. compare_by key (lead_exponents key g.map) (lead_exponents key h.map) ≡ Less) N
  rising_over [] r = λ i j d l k. absurd (omega arith)
  rising_over (g ∷ []) r = λ i j d l k. absurd (omega (arith, l, k))
  rising_over (g ∷ h ∷ N) r =
      let rest = rising_over (h ∷ N) r.1 in
      let Below : PolynomialOver F → PolynomialOver F → Type 0 = λ g h. compare_by key (lead_exponents key g.map) (lead_exponents key h.map) ≡ Less in
      AllPairs-cons Below g (h ∷ N) (All-cons (Below g) h N r.0 (λ k d l. (compare_by_total key).trans _ _ _ r.0 (AllPairs-head Below h N rest (get_or N k d) (Contains-get_or N k d l)))) rest

  rising_map : (N : List (PolynomialOver F)) → AllPairs (λ g h. compare_by key (lead_exponents key g.map) (lead_exponents key h.map) ≡ Less) N
      → IsRising key (map (lead_exponents key) (maps N))
  rising_map [] r = tt
  rising_map (g ∷ []) r = tt
  rising_map (g ∷ h ∷ N) r =
      let Below : PolynomialOver F → PolynomialOver F → Type 0 = λ g h. compare_by key (lead_exponents key g.map) (lead_exponents key h.map) ≡ Less in
      (AllPairs-head Below g (h ∷ N) r h (contains_head h N), rising_map (h ∷ N) (AllPairs-tail Below g (h ∷ N) r))

  free_over : (g h : PolynomialOver F) → IsFreeOf key g.map h.map → basis.IsFreeOf P g h
  unfolding ordered_polynomials polynomials lead_at
  free_over g h f = record {
    free = λ a b n l d. true≢false (sym (divides-from_Divides (subst (λ b. order.Divides monomials b a) (lead_from_IsLead K L l) d)) ∙ f.free a.list (positive L g a n));
  }

  free_map : (g h : PolynomialOver F) → h.map ≢ empty → basis.IsFreeOf P g h → IsFreeOf key g.map h.map
  unfolding ordered_polynomials polynomials lead_at
  free_map g h m f = record {
    free = λ a p.
        let at : Exponents = record { list = a; is_exponents = exponents_of L g a p } in
        not_false _ (λ d. f.free at (lead_at K h.is_polynomial) (positive_back L g at p) (IsLead-from_lead K L h m) (Divides-from_divides (lead_at K h.is_polynomial) at d));
  }

  -- The monomials that a lead of a list divides, both ways.
  pub IsReducible-from_LeadDivides : (N : List (PolynomialOver F)) (a : Exponents) → All (λ g. g.map ≢ empty) N → LeadDivides key (maps N) a.list
      → buchberger.IsReducible P (Contains N) a
  unfolding ordered_polynomials polynomials lead_at
  IsReducible-from_LeadDivides N a all d =
      let found = Any-element (λ g. IsTrue (divides (lead_exponents key g) a.list)) (maps N) d in
      let back = contains_map_back (λ g. g.map) N found.0 found.1 in
      let g = back.0 in
      record {
        divisor = g;
        member = back.1;
        lead = lead_at K g.is_polynomial;
        is_lead = IsLead-from_lead K L g (All-contains (λ g. g.map ≢ empty) N g all back.1);
        divides = Divides-from_divides (lead_at K g.is_polynomial) a (subst (λ m. IsTrue (divides (lead_exponents key m) a.list)) (sym back.2) found.2);
      }

  pub LeadDivides-from_IsReducible : (N : List (PolynomialOver F)) (a : Exponents) → buchberger.IsReducible P (Contains N) a → LeadDivides key (maps N) a.list
  unfolding ordered_polynomials polynomials lead_at
  LeadDivides-from_IsReducible N a r =
      let c = contains_map (λ g. g.map) N r.divisor r.member in
      (c.0, r.divisor.map, c.1, c.2, divides-from_Divides (subst (λ b. order.Divides monomials b a) (lead_from_IsLead K L r.is_lead) r.divides))

  -- Reduced bases, to the ring of polynomials and back.
  from_maps : (M N : List (PolynomialOver F)) → IsReducedBasis F key (maps M) (maps N) → basis.IsReducedBasis P M N
  unfolding ordered_polynomials polynomials lead_at
  from_maps M N B =
      let monic : All (λ g. lead_coefficient key g.map ≡ 1) N = All-map_back (λ g. lead_coefficient key g ≡ 1) (λ g. g.map) N B.monic in
      record {
        members = Inside_over L (InRing-maps N) (InRing-maps M) B.members;
        monic = record { lead = λ g c. (lead_at K g.is_polynomial, IsMonic-from_lead g (All-contains (λ g. lead_coefficient key g.map ≡ 1) N g monic c)) };
        rising = λ i j d l k. rises_over _ _ (rising_over N B.rising i j d l k);
        reduced = AllPairs-map_back (basis.AreReduced P) (AreReduced key) (λ g. g.map) N (λ g h r. record { first = free_over g h r.first; second = free_over h g r.second }) B.reduced;
        covers = record {
          covers = λ h m n. record {
            lead = lead_at K h.is_polynomial;
            is_lead = IsLead-from_lead K L h (nonzero_map K L n);
            reducible = IsReducible-from_LeadDivides N (lead_at K h.is_polynomial)
                (All-weaker (λ g. lead_coefficient key g.map ≡ 1) (λ g. g.map ≢ empty) (λ g e. monic_nonzero g e) N monic)
                (B.covers h.map (Member_map L (InRing-maps M) m) (nonzero_map K L n));
          };
        };
      }

  to_maps : (M N : List (PolynomialOver F)) → basis.IsReducedBasis P M N → IsReducedBasis F key (maps M) (maps N)
  unfolding ordered_polynomials polynomials lead_at
  to_maps M N B =
      let monic : All (λ g. lead_coefficient key g.map ≡ 1) N = All-from_elements (λ g. lead_coefficient key g.map ≡ 1) N (λ g c. lead-from_IsMonic (B.monic.lead g c).1) in
      let some : (g : PolynomialOver F) → Contains N g → g.map ≢ empty = λ g c. monic_nonzero g (All-contains (λ g. lead_coefficient key g.map ≡ 1) N g monic c) in
      record {
        members = Inside_map L (InRing-maps N) (InRing-maps M) B.members;
        monic = All-map (λ g. lead_coefficient key g ≡ 1) (λ g. g.map) N monic;
        rising = rising_map N (λ i j d l k. rises_map _ _ (some _ (Contains-get_or N i d (omega (arith, l, k)))) (some _ (Contains-get_or N j d k)) (B.rising i j d l k));
        reduced = AllPairs-map (basis.AreReduced P) (AreReduced key) (λ g. g.map) N (λ g h c d r. record { first = free_map g h (some h d) r.first; second = free_map h g (some g c) r.second }) B.reduced;
        covers = λ h m n.
            let H = Member_polynomial L (ArePolynomials-maps M) m in
            let r = B.covers.covers (over H) (Member_over L (InRing-maps M) H m) (λ e. n (ap (λ x. x.map) e ∙ map_zero L)) in
            subst (λ a. LeadDivides key (maps N) a.list) (lead_from_IsLead K L r.is_lead) (LeadDivides-from_IsReducible N r.lead r.reducible);
      }

  module _ {M N : List Polynomial} (X : InRing F M) (Y : InRing F N) where
    pub IsReducedBasis_over : IsReducedBasis F key M N → basis.IsReducedBasis P X.list Y.list
    IsReducedBasis_over B = from_maps X.list Y.list (subst (λ m. IsReducedBasis F key m (maps Y.list)) (sym X.are) (subst (IsReducedBasis F key M) (sym Y.are) B))

    pub IsReducedBasis_map : basis.IsReducedBasis P X.list Y.list → IsReducedBasis F key M N
    IsReducedBasis_map B = subst (λ m. IsReducedBasis F key m N) X.are (subst (IsReducedBasis F key (maps X.list)) Y.are (to_maps X.list Y.list B))

  -- The members of a reduced basis are polynomials.
  pub IsReducedBasis_polynomials : {M N : List Polynomial} → ArePolynomials F M → IsReducedBasis F key M N → ArePolynomials F N
  IsReducedBasis_polynomials {M} {N} A B = record { each = All-weaker (Member F M) (IsPolynomial F) (λ g m. Member_polynomial L A m) N B.members.each }

  module _ {M : List Polynomial} (A : ArePolynomials F M) where
    -- A reduced basis generates the ideal.
    pub IsReducedBasis-SameIdeal : {N : List Polynomial} → IsReducedBasis F key M N → SameIdeal F M N
    unfolding ordered_polynomials polynomials
    IsReducedBasis-SameIdeal B =
        let X = in_ring A in
        let Y = in_ring (IsReducedBasis_polynomials A B) in
        SameIdeal_map L X Y (laws.reduced_basis_generates P (IsReducedBasis_over X Y B))

    -- The reduced basis is (1) exactly where 1 is in the ideal.
    pub IsReducedBasis-one : IsReducedBasis F key M (term 1 origin ∷ []) ↔ Member F M (term 1 origin)
    unfolding ordered_polynomials polynomials
    IsReducedBasis-one =
        let X = in_ring A in
        let one : InRing F (term 1 origin ∷ []) = record { list = (polynomial_ring L).one ∷ []; are = ap (λ f. f ∷ []) (map_one L) } in
        let law = laws.reduced_basis_unit P X.list in (
          λ B. subst (Member F M) (map_one L) (Member_map L X (law.0 (IsReducedBasis_over X one B))),
          λ m. IsReducedBasis_map X one (law.1 (Member-same (over_equal _ _ (map_one L)) (Member_over L X (IsPolynomial-one L) m))),
        )

    -- It is empty exactly where each polynomial of the list is zero.
    pub IsReducedBasis-zero : IsReducedBasis F key M [] ↔ All (λ g. g ≡ empty) M
    unfolding ordered_polynomials polynomials
    IsReducedBasis-zero =
        let X = in_ring A in
        let law = laws.reduced_basis_zero P X.list in (
          λ B. subst (All (λ g. g ≡ empty)) X.are (All-map (λ g. g ≡ empty) (λ g. g.map) X.list
              (All-weaker (λ g. g ≡ (polynomial_ring L).zero) (λ g. g.map ≡ empty) (λ g e. ap (λ x. x.map) e
              ∙ map_zero L) X.list (law.0 (IsReducedBasis_over X InRing-nil B)))),
          λ all. IsReducedBasis_map X InRing-nil (law.1 (All-weaker (λ g. g.map ≡ empty) (λ g. g ≡ (polynomial_ring L).zero) (λ g e. over_equal _ _ (e
              ∙ sym (map_zero L))) X.list
              (All-map_back (λ g. g ≡ empty) (λ g. g.map) X.list (subst (All (λ g. g ≡ empty)) (sym X.are) all)))),
        )

  module _ {M N : List Polynomial} (A : ArePolynomials F M) (B : ArePolynomials F N) where
    -- Lists of one ideal have one reduced basis.
    pub IsReducedBasis-unique : {G H : List Polynomial} → SameIdeal F M N → IsReducedBasis F key M G → IsReducedBasis F key N H → G ≡ H
    unfolding ordered_polynomials polynomials
    IsReducedBasis-unique E S T =
        let X = in_ring A in
        let Y = in_ring B in
        let U = in_ring (IsReducedBasis_polynomials A S) in
        let V = in_ring (IsReducedBasis_polynomials B T) in
        sym U.are ∙ ap maps (laws.reduced_basis_unique P (SameIdeal_over L X Y E) (IsReducedBasis_over X U S) (IsReducedBasis_over Y V T)) ∙ V.are

    -- A reduced basis depends on the ideal alone.
    pub IsReducedBasis-same_ideal : {G : List Polynomial} → SameIdeal F M N → IsReducedBasis F key M G → IsReducedBasis F key N G
    unfolding ordered_polynomials polynomials
    IsReducedBasis-same_ideal E S =
        let X = in_ring A in
        let Y = in_ring B in
        let U = in_ring (IsReducedBasis_polynomials A S) in
        IsReducedBasis_map Y U (laws.reduced_basis_same_ideal P (SameIdeal_over L X Y E) (IsReducedBasis_over X U S))

    -- Two ideals are equal exactly where their reduced bases are.
    pub SameIdeal-IsReducedBasis : {G H : List Polynomial} → IsReducedBasis F key M G → IsReducedBasis F key N H → SameIdeal F M N ↔ (G ≡ H)
    unfolding ordered_polynomials polynomials
    SameIdeal-IsReducedBasis {G} {H} S T = (
      λ E. IsReducedBasis-unique E S T,
      λ e. SameIdeal-trans L A (IsReducedBasis_polynomials A S) B (IsReducedBasis-SameIdeal A S) (subst (λ g. SameIdeal F g N) (sym e) (SameIdeal-sym (IsReducedBasis-SameIdeal B T))),
    )
