-- What each state of the second act of finishing keeps: its members are monic polynomials within their sugars.
use Rattle.std.proofs.Common.{◌≡◌, ℕ, suc, List, [], ◌∷◌, length, All, refl, sym, ap, ◌∙◌, subst, arith}
use Rattle.std.specs.FinMap.{empty}
use Rattle.std.proofs.lemmas.List.Elements.{All-nil, All-cons, All-head, All-tail, All-append, All-map}
use Rattle.fj_coeff.specs.Field.{Field, IsField}
use Rattle.fj_algebra.proofs.Pairs.{contains_nil, All-from_elements}
use Rattle.fj_theory.specs.MonomialOrder.{IsMonomialOrder}
use Rattle.fj_theory.specs.Polynomial.{Polynomial}
use Rattle.fj_theory.specs.Ideal.{ArePolynomials}
use Rattle.fj_theory.specs.Lead.{lead_coefficient}
use Rattle.fj_groebner.specs.Division.{polynomials_of, member_at, DegreeAtMost, AreWithinSugars}
use Rattle.fj_groebner.specs.Run.{Run, kept_members, sort_by_lead, Replacing, IsReplacement, IsReplacing, IsRun}
use Rattle.fj_theory.proofs.PolynomialRing.{PolynomialOver}
use Rattle.fj_theory.proofs.IdealBridge.{in_ring, ArePolynomials-InRing}
use Rattle.fj_groebner.proofs.ReducedBasis.{lead-from_IsMonic}
use Rattle.fj_theory.proofs.Steps.{StepsTo-keeps}
use Rattle.fj_groebner.proofs.Division.{IsWithinSugar-StepsTo, same_length}
use Rattle.fj_groebner.proofs.Run.{IsKept, IsRun-IsKept, nonzero}
use Rattle.fj_groebner.proofs.Sorting.{All-sort_by_lead}
use Rattle.fj_groebner.proofs.Sugar.{IsRun-AreWithinSugars}
use Rattle.fj_groebner.proofs.Finishing.{Between, nonzero_of, first_polynomial, between, sorted, sorted_over, over_monic, over_pairs, kept_is}

module _ {key : List ℕ → List ℕ} (K : IsMonomialOrder key) {F : Field} (L : IsField F) where
  -- The state of the replacing, in the ring, with its sugars.
  record IsBetween (r : Replacing) : Type 0 where
    before : List (PolynomialOver F)
    rest : List (PolynomialOver F)
    between : Between K L r.replaced r.rest before rest
    within : AreWithinSugars r.replaced
    rest_within : AreWithinSugars r.rest

  step_between : (s t : Replacing) → IsReplacement F key s t → IsBetween s → IsBetween t
  step_between s t h b = go b.rest b.between
    where
      go : (R : List (PolynomialOver F)) → Between K L s.replaced s.rest b.before R → IsBetween t
      go [] w = let n : 0 ≡ suc (length (polynomials_of h.rest)) = ap length (w.rest_are ∙ ap polynomials_of h.first) in absurd (omega (arith, n))
      go (m ∷ R) w =
          let all : AreWithinSugars (h.member ∷ h.rest) = subst AreWithinSugars h.first b.rest_within in
          let bound = All-head (λ g. DegreeAtMost g.sugar g.polynomial) h.member h.rest all in
          let P = first_polynomial K L s.replaced s.rest h.rest h.member b.before R m w h.first h.last h.division.division in
          let inside = IsWithinSugar-StepsTo K L s.replaced (record { list = b.before; are = w.before_are }) (nonzero_of K L w) h.member P h.last
          (λ k l. unfold member_at in b.within k (record { polynomial = empty; sugar = 0 }) l) bound h.division.division.states h.division.division.steps in
          subst IsBetween (sym h.next) (record {
            before = _;
            rest = R;
            between = between K L s.replaced s.rest h.rest h.member b.before R m w h.first h.last h.division.division;
            within = All-append (λ g. DegreeAtMost g.sugar g.polynomial) s.replaced _ b.within (All-cons (λ g. DegreeAtMost g.sugar g.polynomial) _ [] inside.remainder (All-nil (λ g. DegreeAtMost g.sugar g.polynomial)));
            rest_within = All-tail (λ g. DegreeAtMost g.sugar g.polynomial) h.member h.rest all;
          })

  module _ {M : List Polynomial} (A : ArePolynomials F M) {turns : ℕ} {s : Run} (run : IsRun F key M turns s) where
    kept : IsKept K L (in_ring A).list s
    kept = IsRun-IsKept K L (in_ring A) run

    kept_within : All (λ g. DegreeAtMost g.sugar g.polynomial) (kept_members key s.members)
    unfolding member_at
    kept_within = All-from_elements (λ g. DegreeAtMost g.sugar g.polynomial) (kept_members key s.members)
        (λ w c.
        let k = kept_is K L (in_ring A).list s kept w c in
        let l = k.1 in
        let long = same_length K L s.members kept.over (nonzero K L (in_ring A).list s kept) in
        subst (λ g. DegreeAtMost g.sugar g.polynomial) k.3 (IsRun-AreWithinSugars L K A run k.0 (record { polynomial = empty; sugar = 0 }) (omega (arith, l, long))))

    start_between : IsBetween (record { replaced = []; rest = sort_by_lead key (kept_members key s.members) })
    unfolding sorted
    start_between =
        let Y = sorted_over K L (in_ring A).list s kept in
        let pairs = over_pairs K L (in_ring A).list s kept in
        record {
          before = [];
          rest = Y.list;
          between = record {
            before_are = refl;
            rest_are = Y.are;
            monic = record { lead = λ g c. absurd (contains_nil g c) };
            rest_monic = over_monic K L (in_ring A).list s kept;
            ahead = λ g m c d. absurd (contains_nil g c);
            rest_apart = λ i j d l k. (pairs i j d l k).1;
          };
          within = All-nil (λ g. DegreeAtMost g.sugar g.polynomial);
          rest_within = All-sort_by_lead key (λ g. DegreeAtMost g.sugar g.polynomial) (kept_members key s.members) kept_within;
        }

    module _ {r : Replacing} (replacing : IsReplacing F key s.members r) where
      reached : IsBetween r
      reached = StepsTo-keeps (IsReplacement F key) IsBetween step_between replacing.states _ r replacing.steps start_between

      -- The replaced members and the rest are polynomials, monic and within their sugars.
      pub IsReplacing-polynomials : ArePolynomials F (polynomials_of r.replaced)
      IsReplacing-polynomials = ArePolynomials-InRing (record { list = reached.before; are = reached.between.before_are })

      pub IsReplacing-rest_polynomials : ArePolynomials F (polynomials_of r.rest)
      IsReplacing-rest_polynomials = ArePolynomials-InRing (record { list = reached.rest; are = reached.between.rest_are })

      pub IsReplacing-monic : All (λ g. lead_coefficient key g ≡ 1) (polynomials_of r.replaced)
      IsReplacing-monic =
          subst (All (λ g. lead_coefficient key g ≡ 1)) reached.between.before_are
          (All-map (λ g. lead_coefficient key g ≡ 1) (λ g. g.map) reached.before
          (All-from_elements (λ g. lead_coefficient key g.map ≡ 1) reached.before (λ g c. lead-from_IsMonic K L (reached.between.monic.lead g c).1)))

      pub IsReplacing-AreWithinSugars : AreWithinSugars r.replaced
      IsReplacing-AreWithinSugars = reached.within

      pub IsReplacing-rest_AreWithinSugars : AreWithinSugars r.rest
      IsReplacing-rest_AreWithinSugars = reached.rest_within
