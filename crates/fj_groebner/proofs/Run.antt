-- What each turn of a run keeps: the members are monic and generate the ideal, and each pair is settled or pending.
use Rattle.std.proofs.Common.{◌≡◌, ◌≢◌, ◌⊎◌, inl, inr, ℕ, ◌<◌, ◌==◌, ◌&&◌, not, Bool, IsTrue, true, false, cond, get_or, List, [], ◌∷◌, ◌++◌, length, length-append, map, filter, All, Contains, refl, sym, ap, ap₂, ◌∙◌, subst, subst₂, arith, true≢false}
use Rattle.std.specs.List.{flat_map, range_with_len}
use Rattle.std.specs.FinMap.{empty, len, empty_of_len, len-empty}
use Rattle.std.specs.Cmp.Lexicographic.{slice_cmp}
use Rattle.std.specs.Ordering.{nat_cmp}
use Rattle.std.proofs.lemmas.List.{length-map, map-append, get_or_append_left}
use Rattle.std.proofs.lemmas.List.Elements.{All-map, All-nil, All-cons, All-head, All-tail, All-contains, All-append, All-weaker, Contains-get_or, Contains-append_left, Contains-append_right, Contains-append_cases}
use Rattle.std.proofs.lemmas.List.FromFn.{length-range_with_len, get_or-range_with_len}
use Rattle.std.proofs.lemmas.Bool.Decides.{nat_tests}
use Rattle.fj_coeff.specs.Field.{Field, IsField}
use Rattle.fj_algebra.specs.Ring.{CommutativeRing, subtract}
use Rattle.fj_algebra.specs.Ideal as ring_ideal
use Rattle.fj_algebra.specs.Order as order
use Rattle.fj_algebra.specs.Polynomial as abstract
use Rattle.fj_algebra.specs.Buchberger as buchberger
use Rattle.fj_algebra.specs.Division as ring_division
use Rattle.fj_algebra.proofs.Ideal as ideal_laws
use Rattle.fj_algebra.proofs.Leads.{made_monic_is, made_monic_back}
use Rattle.fj_algebra.proofs.Division.{division_remainder, difference_back}
use Rattle.fj_algebra.proofs.Criteria.{Settled-coprime, Settled-by_division, covers_from_settled}
use Rattle.fj_algebra.proofs.Order.{Divides-trans}
use Rattle.fj_algebra.proofs.Polynomial.{lead_from_monic}
use Rattle.fj_algebra.proofs.Pending.{SettledAt-chain, settled_if_not_pending, settle_pair, append_pending, none_pending}
use Rattle.fj_algebra.proofs.Pairs.{contains_map, contains_map_back, contains_filter, filter_contains, contains_cons, contains_head, contains_tail, contains_nil, All-from_elements}
use Rattle.fj_theory.specs.Exponents.{origin, divides, minus, least_common_multiple}
use Rattle.fj_theory.specs.MonomialOrder.{IsMonomialOrder}
use Rattle.fj_theory.specs.Polynomial.{difference, Polynomial, IsPolynomial, term, product}
use Rattle.fj_theory.specs.Ideal.{ArePolynomials, Member, SameIdeal}
use Rattle.fj_groebner.specs.ReducedBasis.{LeadDivides}
use Rattle.fj_theory.specs.Steps.{StepsTo}
use Rattle.fj_theory.specs.Lead.{lead_exponents, lead_coefficient, made_monic}
use Rattle.fj_groebner.specs.Division.{polynomials_of, Division, member_at, IsDivision}
use Rattle.fj_groebner.specs.Run.{Run, given, monic_member, first_members, run_start, pairs_with, lead_of, pair_multiple, are_coprime, has_coprime_leads, s_polynomial, drop_pair, append_member, treat_pair, IsSpared, IsRemoval, AreRemovals, IsTurn, dropped, treated, IsRound, IsRun}
use Rattle.fj_theory.proofs.Exponents.{plus_comm, plus-minus, IsExponents-minus}
use Rattle.fj_theory.proofs.Field.{Element, element_equal, field_ring, rank_zero, rank_one, rank_mul}
use Rattle.fj_theory.proofs.PolynomialRing.{map_subtract, PolynomialOver, over_equal, polynomial_ring, map_zero, map_mul}
use Rattle.fj_theory.proofs.OrderedPolynomials.{Exponents, exponents_equal, times, monomials, scalars, coefficient_at, term_at, polynomials, ordered_polynomials}
use Rattle.fj_theory.proofs.IdealBridge.{over, maps, InRing, in_ring, ArePolynomials-InRing, SameIdeal_map, Member_over, Member_polynomial}
use Rattle.fj_theory.proofs.Lead.{is_zero_map, lead_at, IsLead-from_lead, lead_from_IsLead, coefficient-lead, lead_coefficient-nonzero, divides-from_Divides, Divides-from_divides}
use Rattle.fj_groebner.proofs.ReducedBasis.{LeadDivides-from_IsReducible, IsMonic-from_lead, lead-from_IsMonic, monic_nonzero}
use Rattle.fj_groebner.proofs.Elimination.{filter-map}
use Rattle.fj_theory.proofs.Steps.{StepsTo-keeps}
use Rattle.fj_groebner.proofs.Multiple.{common_multiple, common_multiple-is_least, common_multiple-coprime}
use Rattle.fj_groebner.proofs.Division.{same_length, member_map, division_over, forget}

inverse_unique : {A : Type 0} (R : CommutativeRing A) (x i j : A) → R.mul x i ≡ R.one → R.mul x j ≡ R.one → i ≡ j
inverse_unique R x i j e d =
    sym (R.mul_one i) ∙ ap (R.mul i) (sym d) ∙ sym (R.mul_assoc i x j) ∙ ap (λ u. R.mul u j) (R.mul_comm i x ∙ e) ∙ R.mul_comm R.one j ∙ R.mul_one j

-- Pairs in the lists of pending pairs.
pub same_pair : (x i y j : ℕ) → (x == i && y == j) ≡ true → (x ≡ i) × (y ≡ j)
same_pair x i y j e = go (x == i) (y == j) refl refl e
  where
    equal : (x i : ℕ) → (x == i) ≡ true → x ≡ i
    equal x i h = grind (arith, nat_tests)

    go : (s t : Bool) → (x == i) ≡ s → (y == j) ≡ t → (s && t) ≡ true → (x ≡ i) × (y ≡ j)
    go true true h k e = (equal x i h, equal y j k)
    go true false h k e = absurd (true≢false (sym e))
    go false t h k e = absurd (true≢false (sym e))

pub zero_from_test : (n : ℕ) → (n == 0) ≡ true → n ≡ 0
zero_from_test n e = grind (arith, nat_tests)

still_pending : (pairs : List (ℕ × ℕ)) (i j x y : ℕ) → Contains pairs (x, y)
    → ((x ≡ i) × (y ≡ j)) ⊎ Contains (filter (λ other. not (other.0 == i && other.1 == j)) pairs) (x, y)
still_pending pairs i j x y c = go (x == i && y == j) refl
  where
    go : (t : Bool) → (x == i && y == j) ≡ t → ((x ≡ i) × (y ≡ j)) ⊎ Contains (filter (λ other. not (other.0 == i && other.1 == j)) pairs) (x, y)
    go true e = inl (same_pair x i y j e)
    go false e = inr (filter_contains (λ other. not (other.0 == i && other.1 == j)) pairs (x, y) c (ap not e))

contains_flat_map : {X Y : Type 0} (g : Y → List X) (ys : List Y) (y : Y) (x : X) → Contains ys y → Contains (g y) x → Contains (flat_map g ys) x
contains_flat_map g [] y x c d = absurd (contains_nil y c)
contains_flat_map g (z ∷ ys) y x c d = elim (contains_cons z ys y c) [
  | inl e ↦ Contains-append_left (g z) (flat_map g ys) x (subst (λ y. Contains (g y) x) (sym e) d)
  | inr h ↦ Contains-append_right (g z) (flat_map g ys) x (contains_flat_map g ys y x h d)
]

contains_flat_map_back : {X Y : Type 0} (g : Y → List X) (ys : List Y) (x : X) → Contains (flat_map g ys) x → (y : Y) × Contains ys y × Contains (g y) x
contains_flat_map_back g [] x c = absurd (contains_nil x c)
contains_flat_map_back g (z ∷ ys) x c = elim (Contains-append_cases (g z) (flat_map g ys) x c) [
  | inl h ↦ (z, contains_head z ys, h)
  | inr h ↦ (let b = contains_flat_map_back g ys x h in (b.0, contains_tail z ys b.0 b.1, b.2))
]

pub in_range : (n x : ℕ) → x < n → Contains (range_with_len 0 n) x
in_range n x l = (x, omega (arith, l, length-range_with_len 0 n), get_or-range_with_len 0 n x x l ∙ omega arith)

pub of_range : (n x : ℕ) → Contains (range_with_len 0 n) x → x < n
of_range n x c = let l : c.0 < n = omega (arith, c.1, length-range_with_len 0 n) in let e = sym c.2 ∙ get_or-range_with_len 0 n c.0 x l in omega (arith, e, l)

in_pairs_with : (n x : ℕ) → x < n → Contains (pairs_with n) (x, n)
unfolding pairs_with
in_pairs_with n x l = contains_map (λ i. (i, n)) (range_with_len 0 n) x (in_range n x l)

of_pairs_with : (n x y : ℕ) → Contains (pairs_with n) (x, y) → (x < n) × (y ≡ n)
unfolding pairs_with
of_pairs_with n x y c =
    let b = contains_map_back (λ i. (i, n)) (range_with_len 0 n) (x, y) c in
    let l = of_range n b.0 b.1 in
    (subst (λ i. i < n) (ap (λ p. p.0) b.2) l, sym (ap (λ p. p.1) b.2))

-- The pairs of all places below n.
pub in_all_pairs : (n i j : ℕ) → i < j → j < n → Contains (flat_map pairs_with (range_with_len 0 n)) (i, j)
in_all_pairs n i j l k = contains_flat_map pairs_with (range_with_len 0 n) j (i, j) (in_range n j k) (in_pairs_with j i l)

pub of_all_pairs : (n i j : ℕ) → Contains (flat_map pairs_with (range_with_len 0 n)) (i, j) → (i < j) × (j < n)
of_all_pairs n i j c =
    let b = contains_flat_map_back pairs_with (range_with_len 0 n) (i, j) c in
    let l = of_range n b.0 b.1 in
    let p = of_pairs_with b.0 i j b.2 in
    (omega (arith, p.0, p.1), omega (arith, l, p.1))

rank_inverse : {F : Field} (L : IsField F) (x : Element F) → 0 < x.rank → ((scalars L).inverse x).rank ≡ F.inverse x.rank
unfolding scalars
rank_inverse {F} L x p =
    let inverse : Element F = record { rank = F.inverse x.rank; below = L.inverse_below x.rank p x.below } in
    ap (λ y. y.rank) (inverse_unique (field_ring L) x ((scalars L).inverse x) inverse
    ((scalars L).mul_inverse x (λ e. let z = ap (λ y. y.rank) e ∙ rank_zero L in absurd (omega (arith, z, p))))
    (element_equal _ _ (rank_mul L x inverse ∙ L.mul_inverse x.rank p x.below ∙ sym (rank_one L))))

module _ {key : List ℕ → List ℕ} (K : IsMonomialOrder key) {F : Field} (L : IsField F) where
  abbrev P : abstract.OrderedPolynomials (Element F) Exponents (PolynomialOver F)
  P = ordered_polynomials L K

  -- The polynomial made monic, in the ring.
  unfoldable pub monic_over : PolynomialOver F → PolynomialOver F
  monic_over f = abstract.made_monic P f (lead_at K f.is_polynomial)

  pub monic_over-map : (f : PolynomialOver F) → f.map ≢ empty → (monic_over f).map ≡ made_monic F key f.map
  unfolding monic_over made_monic ordered_polynomials polynomials term_at monomials coefficient_at lead_at
  monic_over-map f n =
      let x : Element F = coefficient_at L f (lead_at K f.is_polynomial) in
      let at : x.rank ≡ lead_coefficient key f.map = coefficient-lead K f.is_polynomial in
      let p = lead_coefficient-nonzero K f.is_polynomial n in
      map_mul L (term_at L ((scalars L).inverse x) monomials.one) f
      ∙ ap (λ c. product F (term c origin) f.map) (rank_inverse L x (omega (arith, at, p)) ∙ ap F.inverse at)

  pub monic_over-IsMonic : (f : PolynomialOver F) → f.map ≢ empty → abstract.IsMonic P (monic_over f) (lead_at K f.is_polynomial)
  unfolding monic_over
  monic_over-IsMonic f n = made_monic_is P (IsLead-from_lead K L f n)

  monic_over-back : (f : PolynomialOver F) → f.map ≢ empty → f ≡ P.ring.mul (P.term (P.coefficient f (lead_at K f.is_polynomial)) P.monomials.one) (monic_over f)
  unfolding monic_over
  monic_over-back f n = made_monic_back P (IsLead-from_lead K L f n)

  monic_in : {M : List (PolynomialOver F)} (f : PolynomialOver F) → ring_ideal.Member P.ring M f → ring_ideal.Member P.ring M (monic_over f)
  unfolding monic_over
  monic_in f m = ideal_laws.Member-mul _ m

  from_monic : {M : List (PolynomialOver F)} (f : PolynomialOver F) → f.map ≢ empty → ring_ideal.Member P.ring M (monic_over f) → ring_ideal.Member P.ring M f
  from_monic f n m = ideal_laws.Member-same (monic_over-back f n) (ideal_laws.Member-mul _ m)

  -- The members of a state of a run, in the ring: they are monic, they generate the ideal of M, and each pair of them is
  -- settled or pending.
  pub record IsKept (M : List (PolynomialOver F)) (s : Run) : Type 0 where
    pub over : InRing F (polynomials_of s.members)
    pub monic : All (λ g. lead_coefficient key g.map ≡ 1) over.list
    pub inside : ring_ideal.Inside P.ring over.list M
    pub generates : ring_ideal.Inside P.ring M over.list
    pub settled : buchberger.AllSettledBut P over.list (λ i j. Contains s.pending (i, j))
    pub places : (i j : ℕ) → Contains s.pending (i, j) → (i < j) × (j < length over.list)

  module _ (M : List (PolynomialOver F)) (s : Run) (kept : IsKept M s) where
    unfoldable pub member : ℕ → PolynomialOver F
    member k = get_or kept.over.list k (polynomial_ring L).zero

    pub nonzero : All (λ g. g.map ≢ empty) kept.over.list
    nonzero = All-weaker (λ g. lead_coefficient key g.map ≡ 1) (λ g. g.map ≢ empty) (λ g e. monic_nonzero K L g e) kept.over.list kept.monic

    pub all_monic : buchberger.AllMonic P (Contains kept.over.list)
    all_monic = record { lead = λ g c. (lead_at K g.is_polynomial, IsMonic-from_lead K L g (All-contains (λ g. lead_coefficient key g.map ≡ 1) kept.over.list g kept.monic c)) }

    pub in_members : (k : ℕ) → k < length kept.over.list → Contains kept.over.list (member k)
    unfolding member
    in_members k l = Contains-get_or kept.over.list k (polynomial_ring L).zero l

    pub member_monic : (k : ℕ) → k < length kept.over.list → abstract.IsMonic P (member k) (lead_at K (member k).is_polynomial)
    unfolding lead_at all_monic
    member_monic k l = (all_monic.lead (member k) (in_members k l)).1

    pub member_is : (k : ℕ) → (member_at s.members k).polynomial ≡ (member k).map
    unfolding member
    member_is k = member_map K L s.members kept.over nonzero k

    pub lead_is : (k : ℕ) → lead_of key s.members k ≡ lead_exponents key (member k).map
    unfolding lead_of
    lead_is k = ap (lead_exponents key) (member_is k)

    unfoldable pub lead : ℕ → Exponents
    lead k = lead_at K (member k).is_polynomial

    -- A pair with coprime leads is settled.
    coprime_settled : (i j : ℕ) → i < length kept.over.list → j < length kept.over.list → has_coprime_leads key s.members (i, j) ≡ true
        → buchberger.SettledAt P kept.over.list i j
    unfolding ordered_polynomials polynomials member lead lead_at has_coprime_leads
    coprime_settled i j l k h = record {
      pair = Settled-coprime P (in_members i l) (in_members j k) (member_monic i l) (member_monic j k)
          (subst (order.IsLeastCommonMultiple monomials (lead i) (lead j)) (common_multiple-coprime (lead i) (lead j) (sym (ap₂ are_coprime (lead_is i) (lead_is j)) ∙ h))
          (common_multiple-is_least (lead i) (lead j)));
    }

    -- A spared pair is settled through the third place.
    spared_settled : (i j : ℕ) → i < length kept.over.list → j < length kept.over.list → IsSpared key s (i, j) → buchberger.SettledAt P kept.over.list i j
    unfolding ordered_polynomials polynomials member lead lead_at pair_multiple common_multiple
    spared_settled i j l k spared =
        SettledAt-chain P i j c (lead_from_monic P (member_monic i l)) (lead_from_monic P (member_monic j k)) (lead_from_monic P (member_monic c place)) through
        (settled_if_not_pending P i c (λ e. spared.not_first (sym e)) l place (λ p. spared.first_done (inl p)) (λ p. spared.first_done (inr p)) kept.settled)
        (settled_if_not_pending P j c (λ e. spared.not_second (sym e)) k place (λ p. spared.second_done (inl p)) (λ p. spared.second_done (inr p)) kept.settled)
      where
        c : ℕ
        c = spared.place

        place : c < length kept.over.list
        place = let h = spared.is_place in omega (arith, h, same_length K L s.members kept.over nonzero)

        multiple_is : pair_multiple key s.members (i, j) ≡ (common_multiple (lead i) (lead j)).list
        multiple_is = ap₂ least_common_multiple (lead_is i) (lead_is j)

        through : (d : Exponents) → order.Divides monomials (lead i) d → order.Divides monomials (lead j) d → order.Divides monomials (lead c) d
        through d p q =
            Divides-trans
            (Divides-from_divides (lead c) (common_multiple (lead i) (lead j)) (subst₂ (λ a b. IsTrue (divides a b)) (lead_is c) multiple_is spared.lead_divides))
            ((common_multiple-is_least (lead i) (lead j)).least d p q)

    -- The factor of the member k in the difference of the pair (i, j).
    unfoldable pub factor : ℕ → ℕ → ℕ → Exponents
    factor i j k = record {
      list = minus (common_multiple (lead i) (lead j)).list (lead k).list;
      is_exponents = IsExponents-minus (common_multiple (lead i) (lead j)).is_exponents (lead k).is_exponents;
    }

    pub factor_times : (i j k : ℕ) → order.Divides monomials (lead k) (common_multiple (lead i) (lead j))
        → times (factor i j k) (lead k) ≡ common_multiple (lead i) (lead j)
    unfolding factor times
    factor_times i j k d = exponents_equal _ _ (plus_comm _ _
        ∙ plus-minus (lead k).is_exponents (common_multiple (lead i) (lead j)).is_exponents (divides-from_Divides d))

    -- The difference whose division treats the pair.
    unfoldable pub s_over : ℕ → ℕ → PolynomialOver F
    unfolding ordered_polynomials polynomials
    s_over i j =
        subtract P.ring (P.ring.mul (P.term P.field.ring.one (factor i j i)) (member i)) (P.ring.mul (P.term P.field.ring.one (factor i j j)) (member j))

    pub s_over-map : (i j : ℕ) → (s_over i j).map ≡ (s_polynomial F key s.members (i, j)).polynomial
    unfolding s_over s_polynomial ordered_polynomials polynomials scalars term_at factor lead lead_at common_multiple pair_multiple
    s_over-map i j =
        map_subtract L (P.ring.mul (term_at L (field_ring L).one (factor i j i)) (member i)) (P.ring.mul (term_at L (field_ring L).one (factor i j j)) (member j))
        ∙ ap₂ (difference F) (side i) (side j)
      where
        side : (k : ℕ) → (P.ring.mul (term_at L (field_ring L).one (factor i j k)) (member k)).map ≡ product F (term 1 (minus (pair_multiple key s.members (i, j)) (lead_of key s.members k))) (member_at s.members k).polynomial
        side k =
            map_mul L (term_at L (field_ring L).one (factor i j k)) (member k)
            ∙ ap₂ (product F) (ap₂ term (rank_one L) (ap₂ minus (ap₂ least_common_multiple (sym (lead_is i)) (sym (lead_is j))) (sym (lead_is k)))) (sym (member_is k))

    pub s_polynomial-IsPolynomial : (i j : ℕ) → IsPolynomial F (s_polynomial F key s.members (i, j)).polynomial
    s_polynomial-IsPolynomial i j = subst (IsPolynomial F) (s_over-map i j) (s_over i j).is_polynomial

    s_over-Member : (i j : ℕ) → i < length kept.over.list → j < length kept.over.list → ring_ideal.Member P.ring kept.over.list (s_over i j)
    unfolding s_over
    s_over-Member i j l k =
        ideal_laws.Member-subtract (ideal_laws.Member-mul _ (ideal_laws.Member-Contains (in_members i l))) (ideal_laws.Member-mul _ (ideal_laws.Member-Contains (in_members j k)))

    -- The division that treats the pair, in the ring.
    record Treated (i j : ℕ) (d : Division) : Type 0 where
      state : ring_division.DivisionState (PolynomialOver F)
      remainder_is : state.remainder.map ≡ d.remainder
      division : ring_division.IsDivision P kept.over.list (s_over i j) state

    treated_over : (i j : ℕ) (d : Division) → IsDivision F key s.members (s_polynomial F key s.members (i, j)) d → Treated i j d
    unfolding forget
    treated_over i j d D =
        let t = division_over K L s.members kept.over nonzero (s_polynomial F key s.members (i, j)) (s_polynomial-IsPolynomial i j) d D in
        record {
          state = t.state;
          remainder_is = ap (λ x. x.remainder) (sym t.is);
          division = subst (λ f. ring_division.IsDivision P kept.over.list f t.state) (over_equal _ _ (sym (s_over-map i j))) t.division;
        }

    -- Its remainder is in the ideal.
    treated-Member : (i j : ℕ) (d : Division) (t : Treated i j d) → i < length kept.over.list → j < length kept.over.list
        → ring_ideal.Member P.ring kept.over.list t.state.remainder
    treated-Member i j d t l k =
        ideal_laws.Member-same (difference_back P.ring (s_over i j) t.state.remainder)
        (ideal_laws.Member-subtract (s_over-Member i j l k) (division_remainder P t.division).difference)

    -- Then the pair is settled.
    treated-settled : (i j : ℕ) (d : Division) (t : Treated i j d) → i < length kept.over.list → j < length kept.over.list → (S : PolynomialOver F → Type 0)
        → ((g : PolynomialOver F) → Contains kept.over.list g → S g) → buchberger.TreatedRemainder P S t.state.remainder → buchberger.Settled P S (member i) (member j)
    unfolding s_over ordered_polynomials polynomials lead_at lead common_multiple
    treated-settled i j d t l k S inside r =
        Settled-by_division P all_monic inside (member_monic i l) (member_monic j k) (common_multiple-is_least (lead i) (lead j))
        (factor_times i j i (common_multiple-is_least (lead i) (lead j)).left) (factor_times i j j (common_multiple-is_least (lead i) (lead j)).right) t.division r

    -- A pair that is settled may be dropped.
    drop_kept : (i j : ℕ) → buchberger.SettledAt P kept.over.list i j → IsKept M (drop_pair s (i, j))
    unfolding drop_pair
    drop_kept i j settled = record {
      over = kept.over;
      monic = kept.monic;
      inside = kept.inside;
      generates = kept.generates;
      settled = settle_pair P i j settled (λ x y c. still_pending s.pending i j x y c) kept.settled;
      places = λ x y c. kept.places x y ((contains_filter (λ other. not (other.0 == i && other.1 == j)) s.pending (x, y) c).0);
    }

    -- A remainder that is not zero is made monic and appended.
    module _ (i j : ℕ) (l : i < length kept.over.list) (k : j < length kept.over.list) (d : Division) (t : Treated i j d) (n : t.state.remainder.map ≢ empty) where
      new : PolynomialOver F
      new = monic_over t.state.remainder

      grown : List (PolynomialOver F)
      grown = kept.over.list ++ (new ∷ [])

      has_new : Contains grown new
      unfolding grown
      has_new = Contains-append_right kept.over.list (new ∷ []) new (contains_head new [])

      has_old : (g : PolynomialOver F) → Contains kept.over.list g → Contains grown g
      unfolding grown
      has_old g c = Contains-append_left kept.over.list (new ∷ []) g c

      settled_at : buchberger.SettledAt P grown i j
      unfolding grown member new ordered_polynomials polynomials
      settled_at = record {
        pair = subst₂ (buchberger.Settled P (Contains grown)) (sym (get_or_append_left kept.over.list (new ∷ []) (polynomial_ring L).zero i l)) (sym (get_or_append_left kept.over.list (new ∷ []) (polynomial_ring L).zero j k))
            (treated-settled i j d t l k (Contains grown) has_old
            (buchberger.appended _ new _ has_new (monic_over-IsMonic t.state.remainder n) (monic_over-back t.state.remainder n)));
      }

      long : length kept.over.list ≡ length s.members
      long = same_length K L s.members kept.over nonzero

      append_kept : IsKept M (append_member (drop_pair s (i, j)) (monic_member F key (record { polynomial = d.remainder; sugar = d.sugar })))
      unfolding append_member drop_pair monic_member grown new
      append_kept = record {
        over = record {
          list = grown;
          are = map-append (λ f. f.map) kept.over.list (new ∷ [])
              ∙ ap₂ (λ xs x. xs ++ (x ∷ [])) kept.over.are (monic_over-map t.state.remainder n ∙ ap (made_monic F key) t.remainder_is)
              ∙ sym (map-append (λ g. g.polynomial) s.members (monic_member F key (record { polynomial = d.remainder; sugar = d.sugar }) ∷ []));
        };
        monic = All-append (λ g. lead_coefficient key g.map ≡ 1) kept.over.list (new ∷ []) kept.monic
            (All-cons (λ g. lead_coefficient key g.map ≡ 1) new [] (lead-from_IsMonic K L (monic_over-IsMonic t.state.remainder n)) (All-nil (λ g. lead_coefficient key g.map ≡ 1)));
        inside = ideal_laws.Inside-append kept.inside (ideal_laws.Inside-cons (monic_in t.state.remainder (ideal_laws.Member-Inside kept.inside (treated-Member i j d t l k))) (ideal_laws.Inside-nil M));
        generates = ideal_laws.Inside-trans kept.generates (ideal_laws.Inside-append_left kept.over.list (new ∷ []));
        settled = settle_pair P {before = λ x y. Contains s.pending (x, y) ⊎ ((x < length s.members) × (y ≡ length s.members))} i j settled_at
            (λ x y c. elim c [
              | inl c ↦ (elim (still_pending s.pending i j x y c) [ inl e ↦ inl e | inr h ↦ inr (Contains-append_left _ (pairs_with (length s.members)) (x, y) h) ])
              | inr e ↦ inr (Contains-append_right (filter (λ other. not (other.0 == i && other.1 == j)) s.pending) _ (x, y)
                  (subst (λ z. Contains (pairs_with (length s.members)) (x, z)) (sym e.1) (in_pairs_with (length s.members) x e.0)))
            ])
            (append_pending P new (λ x y c. inl c) (λ x h. inr (omega (arith, h, long), long)) kept.settled);
        places = λ x y c. elim (Contains-append_cases (filter (λ other. not (other.0 == i && other.1 == j)) s.pending) (pairs_with (length s.members)) (x, y) c) [
          | inl h ↦ (let p = kept.places x y ((contains_filter (λ other. not (other.0 == i && other.1 == j)) s.pending (x, y) h).0) in (p.0, omega (arith, p.1, length-append kept.over.list (new ∷ []))))
          | inr h ↦ (let p = of_pairs_with (length s.members) x y h in (omega (arith, p.0, p.1), omega (arith, p.1, long, length-append kept.over.list (new ∷ []))))
        ];
      }

    settled_at_zero : (i j : ℕ) → i < length kept.over.list → j < length kept.over.list → (d : Division) (t : Treated i j d)
        → t.state.remainder ≡ (polynomial_ring L).zero → buchberger.SettledAt P kept.over.list i j
    unfolding member ordered_polynomials polynomials
    settled_at_zero i j l k d t z = record { pair = treated-settled i j d t l k (Contains kept.over.list) (λ g c. c) (buchberger.vanishes z) }

    -- The pair is treated.
    treat_kept : (i j : ℕ) → i < length kept.over.list → j < length kept.over.list → (d : Division) → Treated i j d → IsKept M (treat_pair F key s (i, j) d)
    unfolding treat_pair
    treat_kept i j l k d t = go (len d.remainder == 0) refl
      where
        go : (b : Bool) → (len d.remainder == 0) ≡ b → IsKept M (cond b (drop_pair s (i, j)) (append_member (drop_pair s (i, j)) (monic_member F key (record { polynomial = d.remainder; sugar = d.sugar }))))
        go true e =
            let none : d.remainder ≡ empty = empty_of_len d.remainder (zero_from_test (len d.remainder) e) in
            drop_kept i j (settled_at_zero i j l k d t (over_equal _ _ (t.remainder_is ∙ none ∙ sym (map_zero L))))
        go false e =
            append_kept i j l k d t (λ z. true≢false (sym (ap (λ m. m == 0) (ap len (sym t.remainder_is ∙ z) ∙ len-empty (slice_cmp nat_cmp) ℕ)) ∙ e))

  -- A turn keeps it.
  pub IsKept-IsTurn : (M : List (PolynomialOver F)) (s t : Run) → IsTurn F key s t → IsKept M s → IsKept M t
  IsKept-IsTurn M s t (dropped p h c e) kept =
      let in_list = kept.places p.0 p.1 h.pending in
      subst (IsKept M) (sym e) (drop_kept M s kept p.0 p.1 (coprime_settled M s kept p.0 p.1 (omega (arith, in_list.0, in_list.1)) in_list.1 c))
  IsKept-IsTurn M s t (treated p d h c w e) kept =
      let in_list = kept.places p.0 p.1 h.pending in
      let l : p.0 < length kept.over.list = omega (arith, in_list.0, in_list.1) in
      subst (IsKept M) (sym e) (treat_kept M s kept p.0 p.1 l in_list.1 d (treated_over M s kept p.0 p.1 d w.division))

  -- So does a removal.
  pub IsKept-IsRemoval : (M : List (PolynomialOver F)) (s t : Run) → IsRemoval key s t → IsKept M s → IsKept M t
  IsKept-IsRemoval M s t h kept =
      let p = h.pair in
      let in_list = kept.places p.0 p.1 h.next.pending in
      subst (IsKept M) (sym h.removed) (drop_kept M s kept p.0 p.1 (spared_settled M s kept p.0 p.1 (omega (arith, in_list.0, in_list.1)) in_list.1 h.spared))

  pub IsKept-AreRemovals : (M : List (PolynomialOver F)) (s t : Run) → AreRemovals key s t → IsKept M s → IsKept M t
  IsKept-AreRemovals M s t h kept = StepsTo-keeps (IsRemoval key) (IsKept M) (IsKept-IsRemoval M) h.states s t h.steps kept

  IsKept-IsRound : (M : List (PolynomialOver F)) (s t : Run) → IsRound F key s t → IsKept M s → IsKept M t
  IsKept-IsRound M s t h kept = IsKept-AreRemovals M h.turned t h.removals (IsKept-IsTurn M s h.turned h.turn kept)

  -- Where no pair is pending the leads of the members divide the leads of all members of the ideal.
  pub IsKept-covers : (M : List (PolynomialOver F)) (s : Run) (kept : IsKept M s) → s.pending ≡ [] → buchberger.CoversLeads P M (Contains kept.over.list)
  IsKept-covers M s kept e =
      covers_from_settled P (all_monic M s kept)
      (none_pending P kept.over.list (λ i j. Contains s.pending (i, j)) kept.settled (λ i j c. contains_nil (i, j) (subst (λ l. Contains l (i, j)) e c)))
      kept.generates

  zero_over : (f : PolynomialOver F) → f.map ≡ empty → f ≡ P.ring.zero
  unfolding ordered_polynomials polynomials
  zero_over f z = over_equal f (polynomial_ring L).zero (z ∙ sym (map_zero L))

  -- The start of a run.
  monic_maps : (N : List (PolynomialOver F)) → All (λ f. f.map ≢ empty) N → maps (map monic_over N) ≡ polynomials_of (map (λ f. monic_member F key (given f)) (maps N))
  unfolding monic_member given
  monic_maps [] all = refl
  monic_maps (f ∷ N) all = ap₂ ◌∷◌ (monic_over-map f (All-head (λ f. f.map ≢ empty) f N all)) (monic_maps N (All-tail (λ f. f.map ≢ empty) f N all))

  module _ (M : List (PolynomialOver F)) where
    is_nonzero : PolynomialOver F → Bool
    is_nonzero f = not (len f.map == 0)

    some : List (PolynomialOver F)
    some = filter is_nonzero M

    some_nonzero : All (λ f. f.map ≢ empty) some
    unfolding some is_nonzero
    some_nonzero = All-from_elements (λ f. f.map ≢ empty) (filter is_nonzero M)
        (λ f c z. true≢false (sym ((contains_filter is_nonzero M f c).1) ∙ ap (λ m. not (m == 0)) (ap len z ∙ len-empty (slice_cmp nat_cmp) ℕ)))

    first_over : InRing F (polynomials_of (first_members F key (maps M)))
    unfolding some is_nonzero first_members
    first_over = record {
      list = map monic_over some;
      are = monic_maps some some_nonzero ∙ ap (λ l. polynomials_of (map (λ f. monic_member F key (given f)) l)) (filter-map (λ f. f.map) (λ f. not (len f == 0)) M);
    }

    first_length : length first_over.list ≡ length (first_members F key (maps M))
    first_length = sym (length-map first_over.list (λ f. f.map)) ∙ ap length first_over.are ∙ length-map (first_members F key (maps M)) (λ g. g.polynomial)

    -- The run starts so.
    pub start_kept : IsKept M (run_start F key (maps M))
    unfolding run_start first_over some is_nonzero
    start_kept = record {
      over = first_over;
      monic = All-from_elements (λ g. lead_coefficient key g.map ≡ 1) (map monic_over some)
          (λ g c. let b = contains_map_back monic_over some g c in subst (λ g. lead_coefficient key g.map ≡ 1) b.2 (lead-from_IsMonic K L (monic_over-IsMonic b.0 (has b.0 b.1))));
      inside = record {
        each = All-from_elements (ring_ideal.Member P.ring M) (map monic_over some)
            (λ g c. let b = contains_map_back monic_over some g c in
            subst (ring_ideal.Member P.ring M) b.2 (monic_in b.0 (ideal_laws.Member-Contains ((contains_filter is_nonzero M b.0 b.1).0))));
      };
      generates = record { each = All-from_elements (ring_ideal.Member P.ring (map monic_over some)) M (λ f c. generated f c (is_zero_map K f.is_polynomial)) };
      settled = record { each = λ i j l k. inl (in_all_pairs (length (first_members F key (maps M))) i j l (omega (arith, k, first_length))) };
      places = λ i j c. let p = of_all_pairs (length (first_members F key (maps M))) i j c in (p.0, omega (arith, p.1, first_length));
    }
      where
        has : (f : PolynomialOver F) → Contains some f → f.map ≢ empty
        has f c = All-contains (λ f. f.map ≢ empty) some f some_nonzero c

        generated : (f : PolynomialOver F) → Contains M f → Dec (f.map ≡ empty) → ring_ideal.Member P.ring (map monic_over some) f
        generated f c (yes z) = ideal_laws.Member-same (zero_over f z) (ideal_laws.Member-zero (map monic_over some))
        generated f c (no n) =
            from_monic f n (ideal_laws.Member-Contains (contains_map monic_over some f (filter_contains is_nonzero M f c (ap not (nonzero_test (len f.map) (λ z. n (empty_of_len f.map z)))))))
          where
            nonzero_test : (k : ℕ) → (k ≡ 0 → ⊥) → (k == 0) ≡ false
            nonzero_test k h = grind (arith, nat_tests)

  -- Each state of a run on the list keeps it.
  pub IsRun-IsKept : {M : List Polynomial} (X : InRing F M) {turns : ℕ} {s : Run} → IsRun F key M turns s → IsKept X.list s
  IsRun-IsKept {M} X {turns} {s} r =
      StepsTo-keeps (IsRound F key) (IsKept X.list) (IsKept-IsRound X.list) r.states r.first s r.steps
      (IsKept-AreRemovals X.list (run_start F key (maps X.list)) r.first (subst (λ m. AreRemovals key (run_start F key m) r.first) (sym X.are) r.removals) (start_kept X.list))

  -- The members of a state of a run generate the ideal.
  pub IsRun-SameIdeal : {M : List Polynomial} → ArePolynomials F M → {turns : ℕ} {s : Run} → IsRun F key M turns s → SameIdeal F M (polynomials_of s.members)
  unfolding ordered_polynomials polynomials
  IsRun-SameIdeal A r =
      let X = in_ring A in
      let kept = IsRun-IsKept X r in
      SameIdeal_map L X kept.over (record { forth = kept.generates; back = kept.inside })

  -- They are polynomials and monic.
  pub IsRun-polynomials : {M : List Polynomial} → ArePolynomials F M → {turns : ℕ} {s : Run} → IsRun F key M turns s → ArePolynomials F (polynomials_of s.members)
  IsRun-polynomials A r = ArePolynomials-InRing (IsRun-IsKept (in_ring A) r).over

  pub IsRun-monic : {M : List Polynomial} → ArePolynomials F M → {turns : ℕ} {s : Run} → IsRun F key M turns s
      → All (λ g. lead_coefficient key g ≡ 1) (polynomials_of s.members)
  IsRun-monic A r =
      let kept = IsRun-IsKept (in_ring A) r in
      subst (All (λ g. lead_coefficient key g ≡ 1)) kept.over.are (All-map (λ g. lead_coefficient key g ≡ 1) (λ g. g.map) kept.over.list kept.monic)

  -- Covered leads, in maps.
  pub covers_map : {M N : List Polynomial} → ArePolynomials F M → (X : InRing F M) (Y : InRing F N) → buchberger.CoversLeads P X.list (Contains Y.list)
      → (h : Polynomial) → Member F M h → h ≢ empty → LeadDivides key N (lead_exponents key h)
  unfolding ordered_polynomials polynomials lead_at
  covers_map A X Y covers h m n =
      let H = Member_polynomial L A m in
      let c = covers.covers (over H) (Member_over L X H m) (λ z. n (ap (λ f. f.map) z ∙ map_zero L)) in
      subst (λ l. LeadDivides key l (lead_exponents key h)) Y.are
      (subst (λ a. LeadDivides key (maps Y.list) a.list) (lead_from_IsLead K L c.is_lead) (LeadDivides-from_IsReducible K L Y.list c.lead c.reducible))

  -- Where no pair is pending the lead of each nonzero member of the ideal is divided by the lead of a member (Buchberger).
  pub IsRun-covers : {M : List Polynomial} → ArePolynomials F M → {turns : ℕ} {s : Run} → IsRun F key M turns s → s.pending ≡ []
      → (h : Polynomial) → Member F M h → h ≢ empty → LeadDivides key (polynomials_of s.members) (lead_exponents key h)
  IsRun-covers A {s = s} r e =
      let X = in_ring A in
      let kept = IsRun-IsKept X r in
      covers_map A X kept.over (IsKept-covers X.list s kept e)
