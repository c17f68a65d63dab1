-- The sugars of a run bound the degrees of all that it makes.
use Rattle.std.proofs.Common.{◌≡◌, ◌≢◌, ℕ, ◌+◌, ◌-◌, ◌≤◌, ◌<◌, ◌==◌, Bool, true, false, cond, List, [], ◌∷◌, length, filter, not, nat_cmp, true≢false, All, Contains, unwrap_or, refl, sym, ap, ap₂, ◌∙◌, subst, arith, Option, Some, None}
use Rattle.std.specs.Cmp.Lexicographic.{slice_cmp}
use Rattle.fj_theory.proofs.Polynomial.{coefficient-empty}
use Rattle.fj_theory.proofs.Degree.{degree_bounds, empty_from_degree}
use Rattle.std.specs.FinMap.{empty, len, len-empty}
use Rattle.std.proofs.lemmas.List.Elements.{All-nil, All-cons, All-append, All-map, All-contains}
use Rattle.fj_coeff.specs.Field.{Field, IsField}
use Rattle.fj_algebra.specs.Polynomial as abstract
use Rattle.fj_algebra.specs.Order as order
use Rattle.fj_algebra.specs.Sugar as ring_sugar
use Rattle.fj_algebra.proofs.Polynomial.{Supported-multiple, Supported-subtract}
use Rattle.fj_algebra.proofs.Lists.{All-map_back}
use Rattle.fj_algebra.proofs.Pairs.{All-from_elements, contains_filter}
use Rattle.fj_theory.specs.Exponents.{total, least_common_multiple}
use Rattle.fj_theory.specs.MonomialOrder.{IsMonomialOrder}
use Rattle.fj_theory.specs.Polynomial.{Polynomial, IsPolynomial, degree, coefficient}
use Rattle.fj_theory.specs.Ideal.{ArePolynomials}
use Rattle.fj_theory.specs.Lead.{lead_exponents, lead_coefficient, made_monic}
use Rattle.fj_theory.specs.Steps.{StepsTo}
use Rattle.fj_groebner.specs.Division.{Sugared, Division, member_at, division_start, IsDivisionStep, IsDivision, DegreeAtMost, AreWithinSugars, polynomials_of, IsWithinSugar}
use Rattle.fj_groebner.specs.Run.{Run, given, monic_member, first_members, run_start, lead_of, pair_multiple, s_polynomial, drop_pair, append_member, treat_pair, IsRemoval, AreRemovals, IsTurn, dropped, treated, IsRound, IsRun}
use Rattle.fj_theory.proofs.Exponents.{total-plus_exponents, total_origin}
use Rattle.fj_theory.proofs.Field.{Element}
use Rattle.fj_theory.proofs.PolynomialRing.{PolynomialOver}
use Rattle.fj_theory.proofs.OrderedPolynomials.{positive, positive_back, exponents_of, Exponents, times, monomials, polynomials, ordered_polynomials}
use Rattle.fj_theory.proofs.IdealBridge.{ArePolynomials-maps, ArePolynomials-InRing, over, maps, InRing, in_ring}
use Rattle.fj_theory.proofs.Lead.{lead_at, coefficient-lead}
use Rattle.fj_groebner.proofs.Multiple.{common_multiple, common_multiple-is_least}
use Rattle.fj_theory.proofs.Steps.{StepsTo-keeps}
use Rattle.fj_groebner.proofs.Division.{IsWithinSugar-StepsTo, IsDivision-remainder_polynomial, same_length}
use Rattle.fj_groebner.proofs.Run.{IsKept, IsKept-IsTurn, IsKept-IsRemoval, start_kept, monic_over, monic_over-map, member, nonzero, in_members, member_is, lead_is, lead, factor, factor_times, s_over, s_over-map, s_polynomial-IsPolynomial}

module _ {F : Field} (L : IsField F) where
  -- A polynomial that is handed in is within its sugar.
  pub given-DegreeAtMost : {f : Polynomial} → IsPolynomial F f → DegreeAtMost (given f).sugar f
  unfolding given
  given-DegreeAtMost {f} A = go (degree f) refl
    where
      go : (o : Option ℕ) → degree f ≡ o → DegreeAtMost (unwrap_or (degree f) 0) f
      go (Some n) e = record { within = λ a p. subst (λ o. total a ≤ unwrap_or o 0) (sym e) (degree_bounds L A e a (exponents_of L (over A) a p) p) }
      go None e = record { within = λ a p. let z = ap (λ g. coefficient g a) (empty_from_degree L A e) ∙ coefficient-empty a in absurd (omega (arith, z, p)) }

  degree_of : Exponents → ℕ
  degree_of a = total a.list

  degree_times : (a b : Exponents) → degree_of (times a b) ≡ degree_of a + degree_of b
  unfolding degree_of times
  degree_times a b = total-plus_exponents a.is_exponents b.is_exponents

  bounded_over : (f : PolynomialOver F) (n : ℕ) → DegreeAtMost n f.map → ring_sugar.DegreeAtMost (polynomials L) degree_of n f
  unfolding polynomials degree_of
  bounded_over f n b = record { within = λ a p. b.within a.list (positive L f a p) }

  bounded_map : (f : PolynomialOver F) (n : ℕ) → ring_sugar.DegreeAtMost (polynomials L) degree_of n f → DegreeAtMost n f.map
  unfolding polynomials degree_of
  bounded_map f n b = record {
    within = λ a p. let at : Exponents = record { list = a; is_exponents = exponents_of L f a p } in b.within at (positive_back L f at p);
  }

  module _ {key : List ℕ → List ℕ} (K : IsMonomialOrder key) where
    abbrev P : abstract.OrderedPolynomials (Element F) Exponents (PolynomialOver F)
    P = ordered_polynomials L K

    -- A polynomial made monic has the same bound.
    pub DegreeAtMost-made_monic : {f : Polynomial} (A : IsPolynomial F f) (n : ℕ) → f ≢ empty → DegreeAtMost n f → DegreeAtMost n (made_monic F key f)
    unfolding monic_over ordered_polynomials polynomials degree_of monomials times
    DegreeAtMost-made_monic {f} A n z b =
        subst (DegreeAtMost n) (monic_over-map K L (over A) z)
        (bounded_map (monic_over K L (over A)) n
        (Supported-multiple P.polynomials _ monomials.one (λ a h. let e = total-plus_exponents monomials.one.is_exponents a.is_exponents in omega (arith, e, h, total_origin)) (bounded_over (over A) n b)))

    treat_within : (s : Run) → AreWithinSugars s.members → (p : ℕ × ℕ) (d : Division) → IsPolynomial F d.remainder → DegreeAtMost d.sugar d.remainder
        → AreWithinSugars (treat_pair F key s p d).members
    unfolding treat_pair drop_pair append_member monic_member
    treat_within s within p d A b = go (len d.remainder == 0) refl
      where
        new : Sugared
        new = monic_member F key (record { polynomial = d.remainder; sugar = d.sugar })

        go : (t : Bool) → (len d.remainder == 0) ≡ t → AreWithinSugars (cond t (drop_pair s p) (append_member (drop_pair s p) new)).members
        go true e = within
        go false e =
            All-append (λ g. DegreeAtMost g.sugar g.polynomial) s.members (new ∷ []) within
            (All-cons (λ g. DegreeAtMost g.sugar g.polynomial) new []
            (DegreeAtMost-made_monic A d.sugar (λ z. true≢false (sym (ap (λ m. m == 0) (ap len z ∙ len-empty (slice_cmp nat_cmp) ℕ))
            ∙ e)) b) (All-nil (λ g. DegreeAtMost g.sugar g.polynomial)))

    module _ (M : List (PolynomialOver F)) (s : Run) (kept : IsKept K L M s) (within : AreWithinSugars s.members) where
      long : length kept.over.list ≡ length s.members
      long = same_length K L s.members kept.over (nonzero K L M s kept)

      at_place : (k : ℕ) → k < length s.members → DegreeAtMost (member_at s.members k).sugar (member_at s.members k).polynomial
      unfolding member_at
      at_place k l = within k (record { polynomial = empty; sugar = 0 }) l

      member_bound : (k : ℕ) → k < length s.members → DegreeAtMost (member_at s.members k).sugar (member K L M s kept k).map
      member_bound k l = subst (DegreeAtMost (member_at s.members k).sugar) (member_is K L M s kept k) (at_place k l)

      -- The total of a lead is at most the sugar.
      lead_bound : (k : ℕ) → k < length s.members → total (lead_of key s.members k) ≤ (member_at s.members k).sugar
      lead_bound k l =
          let m : Contains kept.over.list (member K L M s kept k) = in_members K L M s kept k (omega (arith, l, long)) in
          let one = All-contains (λ g. lead_coefficient key g.map ≡ 1) kept.over.list (member K L M s kept k) kept.monic m in
          let here = coefficient-lead K (member K L M s kept k).is_polynomial in
          subst (λ a. total a ≤ (member_at s.members k).sugar) (sym (lead_is K L M s kept k))
          ((member_bound k l).within (lead_exponents key (member K L M s kept k).map) (omega (arith, here, one)))

      lead_total : (k : ℕ) → total (lead_of key s.members k) ≡ degree_of (lead K L M s kept k)
      unfolding lead lead_at member degree_of
      lead_total k = ap total (lead_is K L M s kept k)

      multiple_total : (i j : ℕ) → total (pair_multiple key s.members (i, j)) ≡ degree_of (common_multiple (lead K L M s kept i) (lead K L M s kept j))
      unfolding pair_multiple common_multiple lead lead_at member degree_of
      multiple_total i j = ap total (ap₂ least_common_multiple (lead_is K L M s kept i) (lead_is K L M s kept j))

      factor_total : (i j n : ℕ) → order.Divides monomials (lead K L M s kept n) (common_multiple (lead K L M s kept i) (lead K L M s kept j))
          → degree_of (factor K L M s kept i j n) + degree_of (lead K L M s kept n) ≡ degree_of (common_multiple (lead K L M s kept i) (lead K L M s kept j))
      factor_total i j n d = sym (degree_times (factor K L M s kept i j n) (lead K L M s kept n)) ∙ ap degree_of (factor_times K L M s kept i j n d)

      -- A multiple of a member by its factor in the S-polynomial.
      multiple_bound : (i j n : ℕ) → n < length s.members → order.Divides monomials (lead K L M s kept n) (common_multiple (lead K L M s kept i) (lead K L M s kept j))
          → (sugar : ℕ)
          → ((member_at s.members n).sugar - total (lead_of key s.members n)) + total (pair_multiple key s.members (i, j)) ≤ sugar
          → ring_sugar.DegreeAtMost (polynomials L) degree_of sugar ((polynomials L).ring.mul ((polynomials L).term (polynomials L).field.ring.one (unfold polynomials in factor K L M s kept i j n)) (member K L M s kept n))
      unfolding polynomials
      multiple_bound i j n h d sugar le =
          let m = lead_bound n h in
          let whole = factor_total i j n d in
          let own = lead_total n in
          let multiple = multiple_total i j in
          Supported-multiple (polynomials L) {B = λ b. degree_of b ≤ (member_at s.members n).sugar} _ (factor K L M s kept i j n)
          (λ b q. let e = degree_times (factor K L M s kept i j n) b in omega (arith, e, q, m, whole, own, multiple, le))
          (bounded_over (member K L M s kept n) (member_at s.members n).sugar (member_bound n h))

      -- The sugar of the S-polynomial bounds it.
      pub s_polynomial-DegreeAtMost : (i j : ℕ) → i < length s.members → j < length s.members
          → DegreeAtMost (s_polynomial F key s.members (i, j)).sugar (s_polynomial F key s.members (i, j)).polynomial
      unfolding s_polynomial s_over ordered_polynomials polynomials
      s_polynomial-DegreeAtMost i j l k =
          let least = common_multiple-is_least (lead K L M s kept i) (lead K L M s kept j) in
          let sugar = (s_polynomial F key s.members (i, j)).sugar in
          subst (DegreeAtMost sugar) (s_over-map K L M s kept i j)
          (bounded_map (s_over K L M s kept i j) sugar
          (Supported-subtract (polynomials L) (multiple_bound i j i l least.left sugar (omega arith)) (multiple_bound i j j k least.right sugar (omega arith))))

      -- The sugar at the end of the division bounds the remainder.
      remainder_bound : (i j : ℕ) → i < length s.members → j < length s.members → (d : Division) → IsDivision F key s.members (s_polynomial F key s.members (i, j)) d
          → DegreeAtMost d.sugar d.remainder
      remainder_bound i j l k d D =
          (IsWithinSugar-StepsTo K L s.members kept.over (nonzero K L M s kept) (s_polynomial F key s.members (i, j)) (s_polynomial-IsPolynomial K L M s kept i j) d
          at_place (s_polynomial-DegreeAtMost i j l k) D.states D.steps).remainder

      remainder_polynomial : (i j : ℕ) (d : Division) → IsDivision F key s.members (s_polynomial F key s.members (i, j)) d → IsPolynomial F d.remainder
      remainder_polynomial i j d D =
          IsDivision-remainder_polynomial K L s.members (ArePolynomials-InRing kept.over)
          (subst (All (λ g. g ≢ empty)) kept.over.are (All-map (λ g. g ≢ empty) (λ g. g.map) kept.over.list (nonzero K L M s kept))) (s_polynomial-IsPolynomial K L M s kept i j) D

      -- A turn keeps each member within its sugar.
      turn_within : (t : Run) → IsTurn F key s t → AreWithinSugars t.members
      unfolding drop_pair
      turn_within t (dropped p h c e) = subst (λ t. AreWithinSugars t.members) (sym e) within
      turn_within t (treated p d h c w e) =
          let place = kept.places p.0 p.1 h.pending in
          let j : p.1 < length s.members = (let q = place.1 in omega (arith, q, long)) in
          let i : p.0 < length s.members = (let q = place.0 in omega (arith, q, j)) in
          subst (λ t. AreWithinSugars t.members) (sym e)
          (treat_within s within p d (remainder_polynomial p.0 p.1 d w.division) (remainder_bound p.0 p.1 i j d w.division))

    -- The first members are.
    first_within : {N : List Polynomial} (X : InRing F N) → AreWithinSugars (run_start F key (maps X.list)).members
    unfolding run_start first_members monic_member given
    first_within X =
        All-map (λ g. DegreeAtMost g.sugar g.polynomial) (λ f. monic_member F key (given f)) (filter (λ f. not (len f == 0)) (maps X.list))
        (All-from_elements (λ f. DegreeAtMost (given f).sugar (made_monic F key f)) (filter (λ f. not (len f == 0)) (maps X.list))
        (λ f c. let both = contains_filter (λ f. not (len f == 0)) (maps X.list) f c in
        DegreeAtMost-made_monic (All-contains (IsPolynomial F) (maps X.list) f (ArePolynomials-maps X.list).each both.0) (given f).sugar
        (λ z. true≢false (sym both.1 ∙ ap (λ m. not (m == 0)) (ap len z
        ∙ len-empty (slice_cmp nat_cmp) ℕ))) (given-DegreeAtMost (All-contains (IsPolynomial F) (maps X.list) f (ArePolynomials-maps X.list).each both.0))))

    IsWithinKept : List (PolynomialOver F) → Run → Type 0
    IsWithinKept M s = IsKept K L M s × AreWithinSugars s.members

    IsWithinKept-AreRemovals : (M : List (PolynomialOver F)) (s t : Run) → AreRemovals key s t → IsWithinKept M s → IsWithinKept M t
    unfolding IsWithinKept drop_pair
    IsWithinKept-AreRemovals M s t h both =
        StepsTo-keeps (IsRemoval key) (IsWithinKept M)
        (λ s t h both. (IsKept-IsRemoval K L M s t h both.0, subst (λ t. AreWithinSugars t.members) (sym h.removed) both.1)) h.states s t h.steps both

    IsWithinKept-IsRound : (M : List (PolynomialOver F)) (s t : Run) → IsRound F key s t → IsWithinKept M s → IsWithinKept M t
    unfolding IsWithinKept
    IsWithinKept-IsRound M s t h both =
        IsWithinKept-AreRemovals M h.turned t h.removals
        (IsKept-IsTurn K L M s h.turned h.turn both.0, turn_within M s both.0 both.1 h.turned h.turn)

    -- In each state of a run each member is within its sugar.
    pub IsRun-AreWithinSugars : {M : List Polynomial} → ArePolynomials F M → {turns : ℕ} {s : Run} → IsRun F key M turns s → AreWithinSugars s.members
    unfolding IsWithinKept
    IsRun-AreWithinSugars {M} A {s = s} r =
        let X = in_ring A in
        (StepsTo-keeps (IsRound F key) (IsWithinKept X.list) (IsWithinKept-IsRound X.list) r.states r.first s r.steps
        (IsWithinKept-AreRemovals X.list (run_start F key (maps X.list)) r.first (subst (λ m. AreRemovals key (run_start F key m) r.first) (sym X.are) r.removals)
        (start_kept K L X.list, first_within X))).1

-- The sugar bounds each state of a division.
pub StepsTo-IsWithinSugar : {key : List ℕ → List ℕ} (K : IsMonomialOrder key) {F : Field} (L : IsField F) (G : List Sugared) → ArePolynomials F (polynomials_of G)
    → All (λ g. g ≢ empty) (polynomials_of G)
    → AreWithinSugars G → (h : Sugared) → IsPolynomial F h.polynomial → DegreeAtMost h.sugar h.polynomial → (states : List Division) (last : Division)
    → StepsTo (IsDivisionStep F key G) (division_start G h) states last → IsWithinSugar G last
unfolding member_at
StepsTo-IsWithinSugar K L G A nonzero within h H bound states last steps =
    let X = in_ring A in
    IsWithinSugar-StepsTo K L G X (All-map_back (λ g. g ≢ empty) (λ g. g.map) X.list (subst (All (λ g. g ≢ empty)) (sym X.are) nonzero)) h H last
    (λ k l. within k (record { polynomial = empty; sugar = 0 }) l) bound states steps
