-- A run that is finished gives the reduced basis.
use Rattle.std.proofs.Common.{◌≡◌, ◌≢◌, ◌⊎◌, inl, inr, ℕ, suc, ◌<◌, ◌&&◌, ◌||◌, nat_lt, not, Bool, true, false, get_or, List, [], ◌∷◌, ◌++◌, length, filter, All, Contains, Less, refl, sym, ap, ap₂, ◌∙◌, subst, subst₂, arith, true≢false, append-nil, append_assoc}
use Rattle.std.specs.List.{AllPairs, range_with_len}
use Rattle.std.specs.FinMap.{empty}
use Rattle.std.proofs.lemmas.Bool.Decides.{nat_tests}
use Rattle.std.proofs.lemmas.List.{map-append}
use Rattle.std.proofs.lemmas.List.Folds.{Any-from_list_any, list_any_at}
use Rattle.std.proofs.lemmas.List.FromFn.{length-range_with_len, get_or-range_with_len}
use Rattle.std.proofs.lemmas.List.Elements.{All-map, All-contains, All-weaker, Contains-append_cases}
use Rattle.std.proofs.lemmas.List.Kept.{AllPairs-filter}
use Rattle.fj_coeff.specs.Field.{Field, IsField}
use Rattle.fj_algebra.specs.Ideal as ring_ideal
use Rattle.fj_algebra.specs.Order as order
use Rattle.fj_algebra.specs.Polynomial as abstract
use Rattle.fj_algebra.specs.Buchberger as buchberger
use Rattle.fj_algebra.specs.ReducedBasis as basis
use Rattle.fj_algebra.specs.Division as ring_division
use Rattle.fj_algebra.specs.Finishing as finishing
use Rattle.fj_algebra.proofs.Ideal as ideal_laws
use Rattle.fj_algebra.proofs.Finishing as finishing_laws
use Rattle.fj_algebra.proofs.Polynomial.{lead_unique, lead_nonzero, lead_from_monic}
use Rattle.fj_algebra.proofs.Lists.{Any-element}
use Rattle.fj_algebra.proofs.Pairs.{contains_head, contains_tail, contains_nil, contains_cons, contains_map, contains_map_back, contains_filter, filter_contains, All-from_elements, AllPairs-head, AllPairs-tail, AllPairs-map}
use Rattle.fj_theory.specs.Exponents.{IsExponents, divides}
use Rattle.fj_theory.specs.MonomialOrder.{IsMonomialOrder, compare_by}
use Rattle.fj_theory.specs.Polynomial.{Polynomial, IsPolynomial, sum}
use Rattle.fj_theory.specs.Ideal.{ArePolynomials, Member, list_combination}
use Rattle.fj_groebner.specs.ReducedBasis.{IsReducedBasis}
use Rattle.fj_theory.specs.Lead.{lead_exponents, lead_coefficient}
use Rattle.fj_theory.specs.Steps.{StepsTo}
use Rattle.fj_groebner.specs.Division.{Sugared, polynomials_of, Division, member_at, IsDivision, IsLowDivision}
use Rattle.fj_groebner.specs.Run.{given, Run, lead_of, is_left_out, kept_members, sort_by_lead, Replacing, IsReplacement, IsFinished}
use Rattle.fj_theory.proofs.Exponents.{divides_refl, divides_antisymm}
use Rattle.fj_theory.proofs.Field.{Element}
use Rattle.fj_theory.proofs.PolynomialRing.{PolynomialOver, over_equal, sum_empty}
use Rattle.fj_theory.proofs.OrderedPolynomials.{Exponents, exponents_equal, monomials, polynomials, ordered_polynomials}
use Rattle.fj_theory.proofs.IdealBridge.{over, maps, InRing, in_ring, Member_polynomial}
use Rattle.fj_theory.proofs.Lead.{lead_at, lead_from_IsLead, nonzero_map, Divides-from_divides, divides-from_Divides}
use Rattle.fj_groebner.proofs.ReducedBasis.{AllPairs-map_back, not_false, rises_over, monic_nonzero, IsReducedBasis_polynomials, IsReducedBasis_map}
use Rattle.fj_groebner.proofs.Multiple.{both}
use Rattle.fj_groebner.proofs.Division.{same_length, DivisionOver, division_over, forget, Member-IsDivision, IsDivision-quotients, division_identity}
use Rattle.fj_theory.proofs.Ideal.{Member-elements, Member-from_list}
use Rattle.fj_groebner.proofs.Turns.{tail_same}
use Rattle.fj_groebner.proofs.Run.{IsKept, IsRun-IsKept, IsKept-covers, in_range, of_range, member, nonzero, in_members, member_monic, member_is, lead_is, lead}
use Rattle.fj_groebner.proofs.Sorting.{Apart, Rises, HasExponents, All-sort_by_lead, sort_by_lead-has, sort_by_lead-Rises, range_rises}

module _ {key : List ℕ → List ℕ} (K : IsMonomialOrder key) {F : Field} (L : IsField F) where
  abbrev P : abstract.OrderedPolynomials (Element F) Exponents (PolynomialOver F)
  P = ordered_polynomials L K

  module _ (M : List (PolynomialOver F)) (s : Run) (kept : IsKept K L M s) where
    G : List (PolynomialOver F)
    G = kept.over.list

    the : ℕ → PolynomialOver F
    the k = member K L M s kept k

    at : ℕ → Exponents
    at k = lead K L M s kept k

    long : length kept.over.list ≡ length s.members
    long = same_length K L s.members kept.over (nonzero K L M s kept)

    lead_list : (k : ℕ) → lead_of key s.members k ≡ (at k).list
    unfolding at lead lead_at the member
    lead_list k = lead_is K L M s kept k

    the_lead : (k : ℕ) → k < length kept.over.list → abstract.IsLead P (the k) (at k)
    unfolding at lead the
    the_lead k l = lead_from_monic P (member_monic K L M s kept k l)

    -- Whether a member is left out.
    before_from : (j i : ℕ) → (not (divides (at i).list (at j).list) || nat_lt j i) ≡ true → (at j ≢ at i) ⊎ (j < i)
    before_from j i e = go (divides (at i).list (at j).list) refl e
      where
        less : (j i : ℕ) → nat_lt j i ≡ true → j < i
        less j i h = grind (arith, nat_tests)

        go : (t : Bool) → divides (at i).list (at j).list ≡ t → (not t || nat_lt j i) ≡ true → (at j ≢ at i) ⊎ (j < i)
        go true d h = inr (less j i h)
        go false d h = inl (λ same. true≢false (sym (divides_refl (at i).list) ∙ ap (λ a. divides (at i).list a.list) (sym same) ∙ d))

    before_back : (j i : ℕ) → (at j ≢ at i) ⊎ (j < i) → divides (at j).list (at i).list ≡ true → (not (divides (at i).list (at j).list) || nat_lt j i) ≡ true
    before_back j i h d = go (divides (at i).list (at j).list) refl h
      where
        less : (j i : ℕ) → j < i → nat_lt j i ≡ true
        less j i h = grind (arith, nat_tests)

        go : (t : Bool) → divides (at i).list (at j).list ≡ t → (at j ≢ at i) ⊎ (j < i) → (not t || nat_lt j i) ≡ true
        go false e h = refl
        go true e (inl n) = absurd (n (exponents_equal _ _ (divides_antisymm (at j).list (at i).list d e)))
        go true e (inr l) = less j i l

    test_is : (j i : ℕ) → (divides (lead_of key s.members j) (lead_of key s.members i) && (not (divides (lead_of key s.members i) (lead_of key s.members j)) || nat_lt j i))
        ≡ (divides (at j).list (at i).list && (not (divides (at i).list (at j).list) || nat_lt j i))
    test_is j i = ap₂ (λ x y. divides x y && (not (divides y x) || nat_lt j i)) (lead_list j) (lead_list i)

    left_out_over : (i : ℕ) → i < length kept.over.list → is_left_out key s.members i ≡ true → finishing.IsLeftOut P kept.over.list i
    unfolding is_left_out the member at lead ordered_polynomials polynomials
    left_out_over i l e =
        let Test : ℕ → Type 0 = λ j. (divides (lead_of key s.members j) (lead_of key s.members i) && (not (divides (lead_of key s.members i) (lead_of key s.members j)) || nat_lt j i)) ≡ true in
        let found = Any-element Test (range_with_len 0 (length s.members)) (Any-from_list_any _ (range_with_len 0 (length s.members)) e) in
        let j = found.0 in
        let in_list : j < length kept.over.list = (let h = of_range (length s.members) j found.1 in omega (arith, h, long)) in
        let parts = both (divides (at j).list (at i).list) (not (divides (at i).list (at j).list) || nat_lt j i) (sym (test_is j i) ∙ found.2) in
        record {
          other = j;
          in_list = in_list;
          lead = at i;
          is_lead = the_lead i l;
          divisor = at j;
          is_divisor = the_lead j in_list;
          divides = Divides-from_divides (at j) (at i) parts.0;
          before = before_from j i parts.1;
        }

    left_out_back : (i : ℕ) → i < length kept.over.list → finishing.IsLeftOut P kept.over.list i → is_left_out key s.members i ≡ true
    unfolding is_left_out the member at lead ordered_polynomials polynomials
    left_out_back i l o =
        let j = o.other in
        let own : o.lead ≡ at i = lead_unique P o.is_lead (the_lead i l) in
        let its : o.divisor ≡ at j = lead_unique P o.is_divisor (the_lead j o.in_list) in
        let d : divides (at j).list (at i).list ≡ true = divides-from_Divides (subst₂ (order.Divides monomials) its own o.divides) in
        let before : (at j ≢ at i) ⊎ (j < i) = subst₂ (λ a b. (a ≢ b) ⊎ (j < i)) its own o.before in
        list_any_at _ (range_with_len 0 (length s.members)) j 0 (omega (arith, o.in_list, long, length-range_with_len 0 (length s.members)))
        (subst (λ x. (divides (lead_of key s.members x) (lead_of key s.members i) && (not (divides (lead_of key s.members i) (lead_of key s.members x)) || nat_lt x i)) ≡ true)
        (sym (get_or-range_with_len 0 (length s.members) j 0 (omega (arith, o.in_list, long)) ∙ omega arith))
        (test_is j i ∙ ap₂ ◌&&◌ d (before_back j i before d)))

    left_out_decided : (i : ℕ) → i < length kept.over.list → Dec (finishing.IsLeftOut P kept.over.list i)
    left_out_decided i l = go (is_left_out key s.members i) refl
      where
        go : (t : Bool) → is_left_out key s.members i ≡ t → Dec (finishing.IsLeftOut P kept.over.list i)
        go true e = yes (left_out_over i l e)
        go false e = no (λ o. true≢false (sym (left_out_back i l o) ∙ e))

    -- The members that are kept.
    pub kept_is : (w : Sugared) → Contains (kept_members key s.members) w → (i : ℕ) × (i < length kept.over.list) × (is_left_out key s.members i ≡ false)
        × (member_at s.members i ≡ w)
    unfolding kept_members
    kept_is w c =
        let b = contains_map_back (member_at s.members) (filter (λ i. not (is_left_out key s.members i)) (range_with_len 0 (length s.members))) w c in
        let f = contains_filter (λ i. not (is_left_out key s.members i)) (range_with_len 0 (length s.members)) b.0 b.1 in
        let l = of_range (length s.members) b.0 f.0 in
        (b.0, omega (arith, l, long), not_false _ (λ e. true≢false (sym (f.1) ∙ ap not e)), b.2)

    kept_has : (i : ℕ) → i < length kept.over.list → (finishing.IsLeftOut P kept.over.list i → ⊥) → Contains (kept_members key s.members) (member_at s.members i)
    unfolding kept_members
    kept_has i l n =
        contains_map (member_at s.members) (filter (λ i. not (is_left_out key s.members i)) (range_with_len 0 (length s.members))) i
        (filter_contains (λ i. not (is_left_out key s.members i)) (range_with_len 0 (length s.members)) i (in_range (length s.members) i (omega (arith, l, long)))
        (ap not (not_false (is_left_out key s.members i) (λ e. n (left_out_over i l e)))))

    stays : (i : ℕ) → i < length kept.over.list → is_left_out key s.members i ≡ false → finishing.IsLeftOut P kept.over.list i → ⊥
    stays i l e o = true≢false (sym (left_out_back i l o) ∙ e)

    not_divides : (i j : ℕ) → (l : i < length kept.over.list) → (k : j < length kept.over.list) → (i ≡ j → ⊥) → is_left_out key s.members i ≡ false
        → is_left_out key s.members j ≡ false
        → divides (lead_of key s.members i) (lead_of key s.members j) ≡ false
    unfolding the member ordered_polynomials polynomials
    not_divides i j l k n e f =
        ap₂ divides (lead_list i) (lead_list j)
        ∙ not_false _ (λ d. (finishing_laws.kept_apart P l k n (stays i l e) (stays j k f)).apart (at i) (at j) (the_lead i l) (the_lead j k) (Divides-from_divides (at i) (at j) d))

    kept_exponents : All (HasExponents key) (kept_members key s.members)
    unfolding lead_of
    kept_exponents = All-from_elements (HasExponents key) (kept_members key s.members)
        (λ w c. let k = kept_is w c in subst (HasExponents key) k.3 (subst IsExponents (sym (lead_list k.0)) (at k.0).is_exponents))

    kept_apart : AllPairs (Apart key) (kept_members key s.members)
    unfolding kept_members lead_of
    kept_apart =
        AllPairs-map (λ i j. i < j) (Apart key) (member_at s.members) (filter (λ i. not (is_left_out key s.members i)) (range_with_len 0 (length s.members)))
        (λ i j c d lt.
        let f = contains_filter (λ i. not (is_left_out key s.members i)) (range_with_len 0 (length s.members)) i c in
        let g = contains_filter (λ i. not (is_left_out key s.members i)) (range_with_len 0 (length s.members)) j d in
        let l : i < length kept.over.list = (let h = of_range (length s.members) i f.0 in omega (arith, h, long)) in
        let k : j < length kept.over.list = (let h = of_range (length s.members) j g.0 in omega (arith, h, long)) in
        let u = not_false (is_left_out key s.members i) (λ e. true≢false (sym (f.1) ∙ ap not e)) in
        let v = not_false (is_left_out key s.members j) (λ e. true≢false (sym (g.1) ∙ ap not e)) in
        (not_divides i j l k (λ e. absurd (omega (arith, e, lt))) u v, not_divides j i k l (λ e. absurd (omega (arith, e, lt))) v u))
        (AllPairs-filter (λ i j. i < j) (λ i. not (is_left_out key s.members i)) (range_with_len 0 (length s.members)) (range_rises (length s.members)))

    -- They are sorted.
    unfoldable pub sorted : List Sugared
    sorted = sort_by_lead key (kept_members key s.members)

    sorted_rises : AllPairs (Rises key) sorted
    unfolding sorted
    sorted_rises = sort_by_lead-Rises K (kept_members key s.members) kept_exponents kept_apart

    sorted_is : All (λ w. (i : ℕ) × (i < length kept.over.list) × (member_at s.members i ≡ w)) sorted
    unfolding sorted
    sorted_is = All-sort_by_lead key (λ w. (i : ℕ) × (i < length kept.over.list) × (member_at s.members i ≡ w)) (kept_members key s.members)
        (All-from_elements (λ w. (i : ℕ) × (i < length kept.over.list)
        × (member_at s.members i ≡ w)) (kept_members key s.members) (λ w c. let k = kept_is w c in (k.0, k.1, k.3)))

    pub sorted_over : InRing F (polynomials_of sorted)
    unfolding the
    sorted_over = in_ring (record {
      each = All-map (IsPolynomial F) (λ g. g.polynomial) sorted
          (All-weaker (λ w. (i : ℕ) × (i < length kept.over.list) × (member_at s.members i ≡ w)) (λ w. IsPolynomial F w.polynomial)
          (λ w k. subst (IsPolynomial F) (sym (member_is K L M s kept k.0) ∙ ap (λ w. w.polynomial) k.2) (the k.0).is_polynomial) sorted sorted_is);
    })

    over_is : (w : PolynomialOver F) → Contains sorted_over.list w → (i : ℕ) × (i < length kept.over.list) × (the i ≡ w)
    unfolding the
    over_is w c =
        let d = subst (λ l. Contains l w.map) sorted_over.are (contains_map (λ g. g.map) sorted_over.list w c) in
        let b = contains_map_back (λ g. g.polynomial) sorted w.map d in
        let k = All-contains (λ w. (i : ℕ) × (i < length kept.over.list) × (member_at s.members i ≡ w)) sorted b.0 sorted_is b.1 in
        (k.0, k.1, over_equal _ _ (sym (member_is K L M s kept k.0) ∙ ap (λ w. w.polynomial) k.2 ∙ b.2))

    over_has : (i : ℕ) → i < length kept.over.list → (finishing.IsLeftOut P kept.over.list i → ⊥) → Contains sorted_over.list (the i)
    unfolding the sorted
    over_has i l n =
        let c = sort_by_lead-has key (kept_members key s.members) (member_at s.members i) (kept_has i l n) in
        let d = subst (λ l. Contains l (member_at s.members i).polynomial) (sym sorted_over.are) (contains_map (λ g. g.polynomial) sorted (member_at s.members i) c) in
        let b = contains_map_back (λ g. g.map) sorted_over.list (member_at s.members i).polynomial d in
        subst (Contains sorted_over.list) (over_equal _ _ (b.2 ∙ member_is K L M s kept i)) b.1

    -- What the sorted list has in the ring.
    over_inside : ring_ideal.Inside P.ring sorted_over.list M
    unfolding the member
    over_inside = record {
      each = All-from_elements (ring_ideal.Member P.ring M) sorted_over.list
          (λ w c. let k = over_is w c in subst (ring_ideal.Member P.ring M) k.2 (ideal_laws.Inside-Contains kept.inside (in_members K L M s kept k.0 k.1)));
    }

    pub over_monic : buchberger.AllMonic P (Contains sorted_over.list)
    unfolding the
    over_monic = record {
      lead = λ w c. let k = over_is w c in subst (λ w. (a : Exponents) × abstract.IsMonic P w a) k.2 (at k.0, unfold at lead in member_monic K L M s kept k.0 k.1);
    }

    pub over_pairs : AllPairs (λ g h. basis.LeadsRise P g h × finishing.LeadsApart P g h) sorted_over.list
    unfolding ordered_polynomials polynomials lead_at
    over_pairs =
        AllPairs-map_back (λ g h. basis.LeadsRise P g h × finishing.LeadsApart P g h)
        (λ p q. (compare_by key (lead_exponents key p) (lead_exponents key q) ≡ Less)
        × (divides (lead_exponents key p) (lead_exponents key q) ≡ false)) (λ g. g.map) sorted_over.list
        (λ g h r. (
          rises_over K L g h r.0,
          record {
            apart = λ a b l k d. true≢false (sym (divides-from_Divides (subst₂ (order.Divides monomials) (lead_from_IsLead K L l) (lead_from_IsLead K L k) d))
                ∙ r.1);
          },
        ))
        (subst (AllPairs (λ p q. (compare_by key (lead_exponents key p) (lead_exponents key q) ≡ Less)
        × (divides (lead_exponents key p) (lead_exponents key q) ≡ false))) (sym sorted_over.are)
        (AllPairs-map (Rises key) (λ p q. (compare_by key (lead_exponents key p) (lead_exponents key q) ≡ Less)
        × (divides (lead_exponents key p) (lead_exponents key q) ≡ false))
        (λ g. g.polynomial) sorted (λ g h c d r. (r.0, r.1.0)) sorted_rises))

    over_covers : s.pending ≡ [] → buchberger.CoversLeads P M (Contains sorted_over.list)
    unfolding the member ordered_polynomials polynomials
    over_covers e = finishing_laws.kept_covers P sorted_over.list left_out_decided over_has (IsKept-covers K L M s kept e)

  -- The replacing of members in turn: what is replaced, and the rest.
  pub record Between (before rest : List Sugared) (B R : List (PolynomialOver F)) : Type 0 where
    pub before_are : maps B ≡ polynomials_of before
    pub rest_are : maps R ≡ polynomials_of rest
    pub monic : buchberger.AllMonic P (Contains B)
    pub rest_monic : buchberger.AllMonic P (Contains R)
    pub ahead : (g m : PolynomialOver F) → Contains B g → Contains R m → finishing.LeadsApart P g m
    pub rest_apart : AllPairs (finishing.LeadsApart P) R

  pub nonzero_of : {before rest : List Sugared} {B R : List (PolynomialOver F)} → Between before rest B R → All (λ g. g.map ≢ empty) B
  unfolding ordered_polynomials polynomials
  nonzero_of {B = B} b = All-from_elements (λ g. g.map ≢ empty) B (λ g c. nonzero_map K L (lead_nonzero P (lead_from_monic P (b.monic.lead g c).1)))

  -- One member is replaced.
  module _ (before rest others : List Sugared) (first : Sugared) (B R : List (PolynomialOver F)) (m : PolynomialOver F) (b : Between before rest B (m ∷ R)) (is : rest ≡ first ∷ others)
      (last : Division) (division : IsDivision F key before first last) where
    pub first_is : m.map ≡ first.polynomial
    first_is = ap (λ l. get_or l 0 m.map) (b.rest_are ∙ ap polynomials_of is)

    pub first_polynomial : IsPolynomial F first.polynomial
    first_polynomial = subst (IsPolynomial F) first_is m.is_polynomial

    divided : DivisionOver K L before (record { list = B; are = b.before_are }) (nonzero_of b) (over first_polynomial) last
    divided = division_over K L before (record { list = B; are = b.before_are }) (nonzero_of b) first first_polynomial last division

    pub remains : PolynomialOver F
    remains = divided.state.remainder

    ends : finishing.EndsIn P B m remains
    unfolding remains
    ends = record {
      state = divided.state;
      division = subst (λ f. ring_division.IsDivision P B f divided.state) (over_equal _ _ (sym first_is)) divided.division;
      remainder = refl;
    }

    remains_monic : abstract.IsMonic P remains (b.rest_monic.lead m (contains_head m R)).0
    remains_monic =
        finishing_laws.remainder_monic P b.monic (b.rest_monic.lead m (contains_head m R)).1
        (λ g c i l d. (b.ahead g m i (contains_head m R)).apart c _ l (lead_from_monic P (b.rest_monic.lead m (contains_head m R)).1) d) ends

    pub between : Between (before ++ (record { polynomial = last.remainder; sugar = last.sugar } ∷ [])) others (B ++ (remains ∷ [])) R
    unfolding remains forget
    between = record {
      before_are = map-append (λ f. f.map) B (remains ∷ []) ∙ ap₂ (λ xs x. xs ++ (x ∷ [])) b.before_are (ap (λ d. d.remainder) (sym divided.is))
          ∙ sym (map-append (λ g. g.polynomial) before (record { polynomial = last.remainder; sugar = last.sugar } ∷ []));
      rest_are = tail_same _ _ _ _ (b.rest_are ∙ ap polynomials_of is);
      monic = record {
        lead = λ g c. elim (Contains-append_cases B (remains ∷ []) g c) [
          | inl d ↦ b.monic.lead g d
          | inr d ↦ elim (contains_cons remains [] g d) [
            | inl e ↦ subst (λ g. (a : Exponents)
                × abstract.IsMonic P g a) e ((b.rest_monic.lead m (contains_head m R)).0, remains_monic)
            | inr n ↦ absurd (contains_nil g n)
          ]
        ];
      };
      rest_monic = record { lead = λ g c. b.rest_monic.lead g (contains_tail m R g c) };
      ahead = λ g h c d. elim (Contains-append_cases B (remains ∷ []) g c) [
        | inl i ↦ b.ahead g h i (contains_tail m R h d)
        | inr i ↦ elim (contains_cons remains [] g i) [
          | inl e ↦ subst (λ g. finishing.LeadsApart P g h) e (record {
            apart = λ x y l k v. (AllPairs-head (finishing.LeadsApart P) m R b.rest_apart h d).apart x y
                (subst (abstract.IsLead P m) (lead_unique P (lead_from_monic P remains_monic) l) (lead_from_monic P (b.rest_monic.lead m (contains_head m R)).1)) k v;
          })
          | inr n ↦ absurd (contains_nil g n)
        ]
      ];
      rest_apart = AllPairs-tail (finishing.LeadsApart P) m R b.rest_apart;
    }

  -- All are replaced.
  record Replaced (B R : List (PolynomialOver F)) (result : List Sugared) : Type 0 where
    list : List (PolynomialOver F)
    in_turn : finishing.ReplacedInTurn P B R list
    are : maps (B ++ list) ≡ polynomials_of result

  replaced : (states : List Replacing) (before rest result : List Sugared) (B R : List (PolynomialOver F)) → Between before rest B R
      → StepsTo (IsReplacement F key) (record { replaced = before; rest = rest }) states (record { replaced = result; rest = [] }) → Replaced B R result
  unfolding finishing.ReplacedInTurn remains
  replaced [] before rest result B [] b e = record { list = []; in_turn = tt; are = ap maps (append-nil B) ∙ b.before_are ∙ ap (λ x. polynomials_of x.replaced) e }
  replaced [] before rest result B (m ∷ R) b e = let n : suc (length (maps R)) ≡ 0 = ap length (b.rest_are
      ∙ ap (λ x. polynomials_of x.rest) e) in absurd (omega (arith, n))
  replaced (t ∷ states) before rest result B [] b h = let n : 0 ≡ suc (length (polynomials_of h.0.rest)) = ap length (b.rest_are
      ∙ ap polynomials_of h.0.first) in absurd (omega (arith, n))
  replaced (t ∷ states) before rest result B (m ∷ R) b h =
      let r = h.0 in
      let x = remains before rest r.rest r.member B R m b r.first r.last r.division.division in
      let later = replaced states (before ++ (record { polynomial = r.last.remainder; sugar = r.last.sugar } ∷ [])) r.rest result (B ++ (x ∷ [])) R
      (between before rest r.rest r.member B R m b r.first r.last r.division.division) (subst (λ t. StepsTo (IsReplacement F key) t states (record { replaced = result; rest = [] })) r.next h.1) in
      record {
        list = x ∷ later.list;
        in_turn = (ends before rest r.rest r.member B R m b r.first r.last r.division.division, later.in_turn);
        are = ap maps (sym (append_assoc B (x ∷ []) later.list)) ∙ later.are;
      }

  -- The result of a finished run is the reduced basis.
  pub IsFinished-IsReducedBasis : {M : List Polynomial} → ArePolynomials F M → {budget : ℕ} {result : List Sugared} → IsFinished F key M budget result
      → IsReducedBasis F key M (polynomials_of result)
  unfolding sorted
  IsFinished-IsReducedBasis A {result = result} f =
      let X = in_ring A in
      let s = f.last in
      let kept = IsRun-IsKept K L X f.run in
      let Y = sorted_over X.list s kept in
      let pairs = over_pairs X.list s kept in
      let replacing = f.finishing.replacing in
      let r = replaced replacing.states [] (sorted X.list s kept) result [] Y.list (record {
        before_are = refl;
        rest_are = Y.are;
        monic = record { lead = λ g c. absurd (contains_nil g c) };
        rest_monic = over_monic X.list s kept;
        ahead = λ g m c d. absurd (contains_nil g c);
        rest_apart = λ i j d l k. (pairs i j d l k).1;
      }) replacing.steps in
      IsReducedBasis_map K L X (record { list = r.list; are = r.are })
      (finishing_laws.finished P (over_inside X.list s kept) (over_monic X.list s kept) (λ i j d l k. (pairs i j d l k).0) (λ i j d l k. (pairs i j d l k).1)
      (over_covers X.list s kept f.none_pending) r.in_turn)

  basis_nonzero : {M N : List Polynomial} → ArePolynomials F N → IsReducedBasis F key M N → All (λ g. g ≢ empty) N
  basis_nonzero {N = N} B basis = All-from_elements (λ g. g ≢ empty) N
      (λ g c. monic_nonzero K L (over (All-contains (IsPolynomial F) N g B.each c)) (All-contains (λ g. lead_coefficient key g ≡ 1) N g basis.monic c))

  -- Each polynomial of the list is the sum of quotient * member of the result, by its division in the third act.
  pub IsFinished-up : {M : List Polynomial} → ArePolynomials F M → {budget : ℕ} {result : List Sugared} → IsFinished F key M budget result
      → All (λ f. (d : Division) × IsDivision F key result (given f) d × (f ≡ list_combination F d.quotients (polynomials_of result))) M
  unfolding given
  IsFinished-up {M} A {result = result} f =
      All-from_elements (λ f. (d : Division) × IsDivision F key result (given f) d × (f ≡ list_combination F d.quotients (polynomials_of result))) M
      (λ g c.
      let basis = IsFinished-IsReducedBasis A f in
      let B = IsReducedBasis_polynomials K L A basis in
      let nonzero : All (λ g. g ≢ empty) (polynomials_of result) = basis_nonzero B basis in
      let H = All-contains (IsPolynomial F) M g A.each c in
      let low = All-contains (λ f. (d : Division) × IsLowDivision F key result (given f) d) M g f.finishing.divisions c in
      let d = low.0 in
      let none = (Member-IsDivision K L result B nonzero {h = given g} H low.1.division A basis).0 (All-contains (Member F M) M g (Member-elements L A) c) in (
        d,
        low.1.division,
        division_identity K L result B nonzero {h = given g} H low.1.division ∙ ap (sum F (list_combination F d.quotients (polynomials_of result))) none
            ∙ sum_empty L (Member_polynomial L B (Member-from_list L B d.quotients (IsDivision-quotients K L result B nonzero {h = given g} H low.1.division))),
      ))
