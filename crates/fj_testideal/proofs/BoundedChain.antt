-- Chains of ideals that are generated in bounded degree: their leads are few, and each strict step adds or takes one.
use Rattle.std.proofs.Common.{◌≡◌, ◌≢◌, ◌⊎◌, inl, inr, ℕ, zero, suc, ◌+◌, ◌<◌, ◌≤◌, Bool, true, false, List, length, filter, All, Contains, refl, sym, ◌∙◌, subst, arith}
use Rattle.std.specs.List.{list_any}
use Rattle.std.specs.FinMap.{empty}
use Rattle.fj_algebra.proofs.Lists.{All-map_back}
use Rattle.std.proofs.lemmas.List.Elements.{All-weaker, All-contains}
use Rattle.std.proofs.lemmas.List.Folds.{Any-from_list_any, list_any-from_Any}
use Rattle.std.proofs.lemmas.List.Kept.{AllPairs-filter}
use Rattle.std.proofs.lemmas.Map.Made.{is_member-Decides}
use Rattle.fj_coeff.specs.Field.{Field, IsField}
use Rattle.fj_algebra.specs.Polynomial as abstract
use Rattle.fj_algebra.specs.Buchberger as buchberger
use Rattle.fj_algebra.specs.StrictSteps.{monomial_count}
use Rattle.fj_algebra.proofs.Ideal.{Member-mul, Member-Contains}
use Rattle.fj_algebra.proofs.Leads.{lead_multiple}
use Rattle.fj_algebra.proofs.Pairs.{All-from_elements, filter_contains, contains_filter}
use Rattle.fj_theory.specs.Exponents.{IsExponents, divides}
use Rattle.fj_theory.specs.MonomialOrder.{grevlex_key}
use Rattle.fj_theory.specs.Polynomial.{Polynomial}
use Rattle.fj_theory.specs.Ideal.{ArePolynomials, Inside, SameIdeal}
use Rattle.fj_theory.specs.Lead.{lead_exponents, lead_coefficient}
use Rattle.fj_groebner.specs.ReducedBasis.{LeadDivides, IsReducedBasis}
use Rattle.fj_theory.proofs.Keys.{grevlex_key-IsMonomialOrder}
use Rattle.fj_theory.proofs.FormalSum.{same, same-Decides}
use Rattle.fj_theory.proofs.PolynomialRing.{PolynomialOver}
use Rattle.fj_theory.proofs.OrderedPolynomials.{Exponents, polynomials, ordered_polynomials}
use Rattle.fj_theory.proofs.IdealBridge.{in_ring}
use Rattle.fj_groebner.proofs.ReducedBasis.{IsReducible-from_LeadDivides, IsReducedBasis_polynomials, monic_nonzero}
use Rattle.fj_testideal.specs.Chain.{Repeats}
use Rattle.fj_testideal.specs.BoundedIdeal.{Variables, number_of, IsBoundedMonomial, IsBoundedIdeal, IsLeadIn, AreLeads}
use Rattle.fj_testideal.specs.LeadLaws.{IsBoundedChain}
use Rattle.fj_testideal.proofs.Counting.{at_most_as_many, fewer}
use Rattle.fj_testideal.proofs.LeadSteps.{LeadOfMember}
use Rattle.fj_testideal.proofs.MonomialList.{monomials_up_to, length-monomials_up_to, bounded-monomials_up_to, contains-monomials_up_to, distinct-monomials_up_to}
use Rattle.fj_testideal.proofs.BoundedIdeal.{P, lead_map, IsLeadIn-Inside, SameIdeal-by_leads}

-- The leads are at most as many as the monomials.
pub AreLeads-few : {F : Field} {vars : Variables} {bound : ℕ} {L : List Polynomial} {leads : List (List ℕ)} → AreLeads F vars bound L leads
    → length leads ≤ monomial_count (number_of vars) bound
AreLeads-few {vars = vars} {bound = bound} {leads = leads} h =
    let few = at_most_as_many leads (monomials_up_to vars bound) h.distinct
    (λ a c. contains-monomials_up_to vars bound a (All-contains (IsBoundedMonomial vars bound) leads a h.bounded c)) in
    omega (arith, few, length-monomials_up_to vars bound)

-- Whether a lead of the list divides the monomial.
reduces : List Polynomial → List ℕ → Bool
reduces G a = list_any (λ g. divides (lead_exponents grevlex_key g) a) G

-- The leads of bounded degree, from a reduced basis.
pub leads_up_to : Variables → ℕ → List Polynomial → List (List ℕ)
leads_up_to vars bound G = filter (reduces G) (monomials_up_to vars bound)

-- Whether a list of exponents is in a list of them is decided.
listed : (xs : List (List ℕ)) (a : List ℕ) → Dec (Contains xs a)
listed xs a = go (list_any (same a) xs) refl
  where
    go : (t : Bool) → list_any (same a) xs ≡ t → Dec (Contains xs a)
    go true e = yes ((is_member-Decides same-Decides xs a).0 e)
    go false e = no (λ c. let f = (is_member-Decides same-Decides xs a).1 c in absurd cc)

module _ {F : Field} (L : IsField F) where
  -- What a lead of the list divides is the lead of a member.
  lead_of_reducible : {N : List (PolynomialOver F)} {a : Exponents} → buchberger.IsReducible (P L) (Contains N) a → LeadOfMember (P L) N a
  unfolding ordered_polynomials polynomials
  lead_of_reducible {N} {a} r = record {
    member = (P L).ring.mul ((P L).term (P L).field.ring.one r.divides.quotient) r.divisor;
    in_ideal = Member-mul ((P L).term (P L).field.ring.one r.divides.quotient) (Member-Contains r.member);
    is_lead = subst (abstract.IsLead (P L) ((P L).ring.mul ((P L).term (P L).field.ring.one r.divides.quotient) r.divisor))
        ((P L).monomials.times_comm r.divides.quotient r.lead ∙ r.divides.product) (lead_multiple (P L) r.divides.quotient r.is_lead);
  }

  module _ {M G : List Polynomial} (A : ArePolynomials F M) (basis : IsReducedBasis F grevlex_key M G) where
    -- A monomial is the lead of a member exactly where a lead of the basis divides it.
    IsLeadIn-from_basis : {a : List ℕ} → IsExponents a → LeadDivides grevlex_key G a → IsLeadIn F M a
    IsLeadIn-from_basis {a} E d =
        let B = IsReducedBasis_polynomials grevlex_key-IsMonomialOrder L A basis in
        let Y = in_ring B in
        let monic : All (λ g. lead_coefficient grevlex_key g.map ≡ 1) Y.list =
        All-map_back (λ g. lead_coefficient grevlex_key g ≡ 1) (λ g. g.map) Y.list (subst (All (λ g. lead_coefficient grevlex_key g ≡ 1)) (sym Y.are) basis.monic) in
        let nonzero : All (λ g. g.map ≢ empty) Y.list =
        All-weaker (λ g. lead_coefficient grevlex_key g.map ≡ 1) (λ g. g.map ≢ empty) (λ g e. monic_nonzero grevlex_key-IsMonomialOrder L g e) Y.list monic in
        let at : Exponents = record { list = a; is_exponents = E } in
        IsLeadIn-Inside L B A basis.members
        (lead_map L Y {a = at} (lead_of_reducible (IsReducible-from_LeadDivides grevlex_key-IsMonomialOrder L Y.list at nonzero (subst (λ l. LeadDivides grevlex_key l a) (sym Y.are) d))))

    LeadDivides-IsLeadIn : {a : List ℕ} → IsLeadIn F M a → LeadDivides grevlex_key G a
    LeadDivides-IsLeadIn l = subst (LeadDivides grevlex_key G) l.lead (basis.covers l.member l.in_ideal l.nonzero)

  -- They are the leads of members.
  pub AreLeads-leads_up_to : (vars : Variables) (bound : ℕ) {M G : List Polynomial} → ArePolynomials F M → IsReducedBasis F grevlex_key M G
      → AreLeads F vars bound M (leads_up_to vars bound G)
  unfolding leads_up_to reduces
  AreLeads-leads_up_to vars bound {M} {G} A basis =
      let all : List (List ℕ) = monomials_up_to vars bound in
      let kept : (a : List ℕ) → Contains (filter (reduces G) all) a → Contains all a × (reduces G a ≡ true) = contains_filter (reduces G) all in
      let small : (a : List ℕ) → Contains (filter (reduces G) all) a → IsBoundedMonomial vars bound a =
      λ a c. All-contains (IsBoundedMonomial vars bound) all a (bounded-monomials_up_to vars bound) (kept a c).0 in
      record {
        bounded = All-from_elements (IsBoundedMonomial vars bound) (filter (reduces G) all) small;
        sound = All-from_elements (IsLeadIn F M) (filter (reduces G) all)
            (λ a c. IsLeadIn-from_basis A basis (small a c).exponents (Any-from_list_any (λ g. divides (lead_exponents grevlex_key g) a) G (kept a c).1));
        complete = λ a b l. filter_contains (reduces G) all a (contains-monomials_up_to vars bound a b)
            (list_any-from_Any (λ g. divides (lead_exponents grevlex_key g) a) G (LeadDivides-IsLeadIn A basis l));
        distinct = AllPairs-filter (λ a b. a ≢ b) (reduces G) all (distinct-monomials_up_to vars bound);
      }

  module _ {vars : Variables} {bound : ℕ} {M N : List Polynomial} (A : ArePolynomials F M) (B : ArePolynomials F N)
      (small : IsBoundedIdeal F vars bound M) (large : IsBoundedIdeal F vars bound N) (inside : Inside F M N)
      {leads more : List (List ℕ)} (few : AreLeads F vars bound M leads) (many : AreLeads F vars bound N more) where
    leads_inside : (a : List ℕ) → Contains leads a → Contains more a
    leads_inside a c = many.complete a (All-contains (IsBoundedMonomial vars bound) leads a few.bounded c)
        (IsLeadIn-Inside L A B inside (All-contains (IsLeadIn F M) leads a few.sound c))

    -- The ideals are equal, or the larger has more leads.
    pub strict_step : SameIdeal F M N ⊎ (length leads < length more)
    strict_step = go (compare_numbers (length leads) (length more))
      where
        compare_numbers : (i j : ℕ) → (i < j) ⊎ (j ≤ i)
        compare_numbers i j = grind arith

        go : (length leads < length more) ⊎ (length more ≤ length leads) → SameIdeal F M N ⊎ (length leads < length more)
        go (inl less) = inr less
        go (inr same) = inl (SameIdeal-by_leads L A B small large inside
            (λ a b l. found a (many.complete a b l) (listed leads a)))
          where
            found : (a : List ℕ) → Contains more a → Dec (Contains leads a) → IsLeadIn F M a
            found a c (yes d) = All-contains (IsLeadIn F M) leads a few.sound d
            found a c (no n) = let less = fewer leads more a few.distinct leads_inside c n in absurd (omega (arith, less, same))

  module _ {vars : Variables} {bound : ℕ} {chain : ℕ → List Polynomial} where
    rising_count : (last : ℕ) (C : IsBoundedChain F vars bound chain last) → ((i : ℕ) → i < last → Inside F (chain i) (chain (suc i))) → (m : ℕ) → m ≤ last
        → Repeats F chain m ⊎ (m ≤ length (C.leads m))
    rising_count last C rises zero h = inr (omega arith)
    rising_count last C rises (suc m) h =
        go (rising_count last C rises m (omega arith))
        (strict_step (C.polynomials m (omega arith)) (C.polynomials (suc m) h) (C.bounded m (omega arith)) (C.bounded (suc m) h) (rises m (omega arith))
        (C.are_leads m (omega arith)) (C.are_leads (suc m) h))
      where
        go : Repeats F chain m ⊎ (m ≤ length (C.leads m)) → SameIdeal F (chain m) (chain (suc m)) ⊎ (length (C.leads m) < length (C.leads (suc m)))
            → Repeats F chain (suc m) ⊎ (suc m ≤ length (C.leads (suc m)))
        go (inl found) e = inl (found.0, omega (arith, found.1), found.2)
        go (inr count) (inl equal) = inl (m, omega arith, equal)
        go (inr count) (inr less) = inr (omega (arith, count, less))

    pub rising_repeats : (last : ℕ) → IsBoundedChain F vars bound chain last → ((i : ℕ) → i < last → Inside F (chain i) (chain (suc i)))
        → monomial_count (number_of vars) bound < last → Repeats F chain last
    rising_repeats last C rises long = elim (rising_count last C rises last (omega arith)) [
      | inl found ↦ found
      | inr count ↦ (let few = AreLeads-few (C.are_leads last (omega arith)) in absurd (omega (arith, count, few, long)))
    ]

    falling_count : (last : ℕ) (C : IsBoundedChain F vars bound chain last) → ((i : ℕ) → i < last → Inside F (chain (suc i)) (chain i)) → (m : ℕ) → m ≤ last
        → Repeats F chain m ⊎ (m + length (C.leads m) ≤ length (C.leads 0))
    falling_count last C falls zero h = inr (omega arith)
    falling_count last C falls (suc m) h =
        go (falling_count last C falls m (omega arith))
        (strict_step (C.polynomials (suc m) h) (C.polynomials m (omega arith)) (C.bounded (suc m) h) (C.bounded m (omega arith)) (falls m (omega arith))
        (C.are_leads (suc m) h) (C.are_leads m (omega arith)))
      where
        go : Repeats F chain m ⊎ (m + length (C.leads m) ≤ length (C.leads 0)) → SameIdeal F (chain (suc m)) (chain m) ⊎ (length (C.leads (suc m)) < length (C.leads m))
            → Repeats F chain (suc m) ⊎ (suc m + length (C.leads (suc m)) ≤ length (C.leads 0))
        go (inl found) e = inl (found.0, omega (arith, found.1), found.2)
        go (inr count) (inl equal) = inl (m, omega arith, record { forth = equal.back; back = equal.forth })
        go (inr count) (inr less) = inr (omega (arith, count, less))

    pub falling_repeats : (last : ℕ) → IsBoundedChain F vars bound chain last → ((i : ℕ) → i < last → Inside F (chain (suc i)) (chain i))
        → monomial_count (number_of vars) bound < last → Repeats F chain last
    falling_repeats last C falls long = elim (falling_count last C falls last (omega arith)) [
      | inl found ↦ found
      | inr count ↦ (let few = AreLeads-few (C.are_leads 0 (omega arith)) in absurd (omega (arith, count, few, long)))
    ]
