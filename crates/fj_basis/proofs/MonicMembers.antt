-- Monic polynomials with their sugars, in whichever order a run made them.
use Rattle.std.proofs.Common.{◌≡◌, ◌≢◌, ◌⊎◌, inl, inr, ℕ, zero, suc, ◌<◌, List, [], ◌∷◌, ◌++◌, length, map, All, Contains, sym, ap, ◌∙◌, subst, arith}
use Rattle.std.specs.List.{range_with_len}
use Rattle.std.specs.FinMap.{empty}
use Rattle.std.proofs.lemmas.Bool.{cases_order}
use Rattle.std.proofs.lemmas.List.{length-map, map-append}
use Rattle.std.proofs.lemmas.List.Elements.{All-nil, All-push, Contains-append_cases, Contains-append_left, Contains-append_right}
use Rattle.fj_algebra.specs.Ideal as ring_ideal
use Rattle.fj_algebra.proofs.Ideal as ideal_laws
use Rattle.fj_algebra.proofs.Lists.{All-map_back}
use Rattle.fj_algebra.proofs.Pairs.{All-from_elements, contains_map, contains_map_back, contains_nil}
use Rattle.fj_coeff.specs.Field.{Field, IsField}
use Rattle.fj_theory.specs.MonomialOrder.{IsMonomialOrder}
use Rattle.fj_theory.specs.Polynomial.{IsPolynomial}
use Rattle.fj_theory.specs.Lead.{lead_coefficient, made_monic}
use Rattle.fj_theory.proofs.IdealBridge.{ArePolynomials-nil, InRing, in_ring, over}
use Rattle.fj_theory.proofs.Lead.{nonzero-lead_coefficient}
use Rattle.fj_theory.proofs.OrderedPolynomials.{ordered_polynomials}
use Rattle.fj_groebner.specs.Division.{DegreeAtMost, Sugared, polynomials_of}
use Rattle.fj_groebner.specs.Run.{Run, monic_member}
use Rattle.fj_groebner.proofs.ReducedBasis.{lead-from_IsMonic}
use Rattle.fj_groebner.proofs.Run.{IsKept, in_range, monic_over, monic_over-IsMonic, monic_over-map, of_range, s_polynomial-IsPolynomial}
use Rattle.fj_groebner.proofs.Sugar.{DegreeAtMost-made_monic, s_polynomial-DegreeAtMost}
use Rattle.fj_basis.specs.declared.members.Member.{Member}
use Rattle.fj_basis.specs.Finished.{AreMembersOfRun}
use Rattle.fj_basis.specs.Members.{AreMonicMembers, sugared_members}
use Rattle.fj_basis.proofs.Leading.{AreGood, state-good}

-- All pairs of places below n.
pairs_below : ℕ → List (ℕ × ℕ)
pairs_below zero = []
pairs_below (suc n) = pairs_below n ++ map (λ i. (i, n)) (range_with_len 0 n)

in_pairs_below : (n i j : ℕ) → i < j → j < n → Contains {X = ℕ × ℕ} (pairs_below n) (i, j)
unfolding pairs_below
in_pairs_below zero i j l m = absurd (omega (arith, m))
in_pairs_below (suc n) i j l m = by (λ h. in_pairs_below n i j l h) (cases_order j n)
  where
    by : (j < n → Contains {X = ℕ × ℕ} (pairs_below n) (i, j)) → (j ≡ n) ⊎ ((j < n) ⊎ (n < j)) → Contains {X = ℕ × ℕ} (pairs_below n ++ map (λ i. (i, n)) (range_with_len 0 n)) (i, j)
    by earlier (inl e) =
        Contains-append_right (pairs_below n) (map (λ i. (i, n)) (range_with_len 0 n)) (i, j)
        (subst (λ k. Contains {X = ℕ × ℕ} (map (λ i. (i, n)) (range_with_len 0 n)) (i, k)) (sym e) (contains_map (λ i. (i, n)) (range_with_len 0 n) i (in_range n i (omega (arith, l, e)))))
    by earlier (inr (inl h)) = Contains-append_left (pairs_below n) (map (λ i. (i, n)) (range_with_len 0 n)) (i, j) (earlier h)
    by earlier (inr (inr h)) = absurd (omega (arith, m, h))

of_pairs_below : (n i j : ℕ) → Contains {X = ℕ × ℕ} (pairs_below n) (i, j) → (i < j) × (j < n)
unfolding pairs_below
of_pairs_below zero i j c = absurd (contains_nil (i, j) c)
of_pairs_below (suc n) i j c = by (λ h. of_pairs_below n i j h) (Contains-append_cases (pairs_below n) (map (λ i. (i, n)) (range_with_len 0 n)) (i, j) c)
  where
    by : (Contains {X = ℕ × ℕ} (pairs_below n) (i, j) → (i < j) × (j < n)) → Contains {X = ℕ × ℕ} (pairs_below n) (i, j) ⊎ Contains {X = ℕ × ℕ} (map (λ i. (i, n)) (range_with_len 0 n)) (i, j) → (i < j) × (j < suc n)
    by earlier (inl h) = let both = earlier h in (both.0, omega (arith, both.1))
    by earlier (inr h) =
        let own = contains_map_back (λ i. (i, n)) (range_with_len 0 n) (i, j) h in
        let place = of_range n own.0 own.1 in
        let first : own.0 ≡ i = ap (λ p. p.0) own.2 in
        let second : n ≡ j = ap (λ p. p.1) own.2 in
        (omega (arith, place, first, second), omega (arith, second))

module _ {F : Field} (L : IsField F) {key : List ℕ → List ℕ} (O : IsMonomialOrder key) where
  module _ {G : List Sugared} (h : AreMonicMembers F key G) where
    -- The state of a run with these members, all of whose pairs are pending.
    abbrev all_pending : Run
    all_pending = record { members = G; pending = pairs_below (length G) }

    abbrev ring : InRing F (polynomials_of G)
    ring = in_ring h.polynomials

    long : length ring.list ≡ length G
    long = sym (length-map ring.list (λ f. f.map)) ∙ ap length ring.are ∙ length-map G (λ g. g.polynomial)

    kept : IsKept O L ring.list all_pending
    kept = record {
      over = ring;
      monic = All-map_back (λ g. lead_coefficient key g ≡ 1) (λ f. f.map) ring.list (subst (All (λ g. lead_coefficient key g ≡ 1)) (sym ring.are) h.monic);
      inside = record { each = All-from_elements (ring_ideal.Member (ordered_polynomials L O).ring ring.list) ring.list (λ f c. ideal_laws.Member-Contains c) };
      generates = record { each = All-from_elements (ring_ideal.Member (ordered_polynomials L O).ring ring.list) ring.list (λ f c. ideal_laws.Member-Contains c) };
      settled = record { each = λ i j l k. inl (in_pairs_below (length G) i j l (omega (arith, k, long))) };
      places = λ i j c. let p = of_pairs_below (length G) i j c in (p.0, omega (arith, p.1, long));
    }

    -- Monic polynomials aren't zero, and their S-polynomials are polynomials within their sugars.
    pub monic-AreGood : AreGood F key G
    monic-AreGood = record {
      polynomials = h.polynomials;
      monic = h.monic;
      nonzero = λ k d l e. nonzero-lead_coefficient O (h.polynomials.each k d l) (let one = h.monic k d l in omega (arith, one)) e;
      within = h.within;
      s_is = s_polynomial-IsPolynomial O L ring.list all_pending kept;
      s_within = s_polynomial-DegreeAtMost L O ring.list all_pending kept h.within;
    }

  -- The members of the run that is defined are monic.
  pub state-monic : {K R : Type 0} {members : List (Member K R)} → AreMembersOfRun F key members → AreMonicMembers F key (sugared_members members)
  state-monic h = let good = state-good L O h in record { polynomials = good.polynomials; monic = good.monic; within = good.within }

  pub monic-none : AreMonicMembers F key []
  monic-none = record { polynomials = ArePolynomials-nil; monic = All-nil (λ g. lead_coefficient key g ≡ 1); within = All-nil (λ g. DegreeAtMost g.sugar g.polynomial) }

  -- One more, made monic.
  pub monic-push : (G : List Sugared) (h g : Sugared) → AreMonicMembers F key G → IsPolynomial F h.polynomial → h.polynomial ≢ empty → DegreeAtMost h.sugar h.polynomial → g ≡ monic_member F key h
      → AreMonicMembers F key (G ++ (g ∷ []))
  unfolding monic_member
  monic-push G h g old P some bound is = subst (λ x. AreMonicMembers F key (G ++ (x ∷ []))) (sym is) (record {
    polynomials = record { each = subst (All (IsPolynomial F)) (sym whole) (All-push (IsPolynomial F) (polynomials_of G) (made_monic F key h.polynomial) old.polynomials.each made) };
    monic = subst (All (λ x. lead_coefficient key x ≡ 1)) (sym whole) (All-push (λ x. lead_coefficient key x ≡ 1) (polynomials_of G) (made_monic F key h.polynomial) old.monic lead);
    within = All-push (λ x. DegreeAtMost x.sugar x.polynomial) G (record { polynomial = made_monic F key h.polynomial; sugar = h.sugar }) old.within
        (DegreeAtMost-made_monic L O P h.sugar some bound);
  })
    where
      made : IsPolynomial F (made_monic F key h.polynomial)
      made = subst (IsPolynomial F) (monic_over-map O L (over P) some) (monic_over O L (over P)).is_polynomial

      lead : lead_coefficient key (made_monic F key h.polynomial) ≡ 1
      lead = subst (λ x. lead_coefficient key x ≡ 1) (monic_over-map O L (over P) some) (lead-from_IsMonic O L (monic_over-IsMonic O L (over P) some))

      whole : polynomials_of (G ++ (record { polynomial = made_monic F key h.polynomial; sugar = h.sugar } ∷ [])) ≡ polynomials_of G ++ (made_monic F key h.polynomial ∷ [])
      whole = map-append (λ g. g.polynomial) G (record { polynomial = made_monic F key h.polynomial; sugar = h.sugar } ∷ [])
