-- Buchberger's criterion: where each pair of a monic list is settled, its leads divide the leads of its ideal.
use Rattle.std.proofs.Common.{◌≡◌, ◌≢◌, inl, ℕ, suc, zero, ◌<◌, List, [], ◌∷◌, length, get_or, All, Contains, Less, refl, sym, ap, ap₂, ◌∙◌, subst, subst₂, arith}
use Rattle.std.specs.List.{flat_map, range_with_len}
use Rattle.std.specs.FinMap.{empty}
use Rattle.std.proofs.lemmas.List.{length-map}
use Rattle.std.proofs.lemmas.List.Elements.{Contains-get_or}
use Rattle.fj_coeff.specs.Field.{Field, IsField}
use Rattle.fj_algebra.specs.Ideal as ring_ideal
use Rattle.fj_algebra.specs.Order as order
use Rattle.fj_algebra.specs.Polynomial as abstract
use Rattle.fj_algebra.specs.Representation.{Representation, nothing}
use Rattle.fj_algebra.specs.Buchberger as buchberger
use Rattle.fj_algebra.proofs.Ideal as ideal_laws
use Rattle.fj_algebra.proofs.Lists.{All-map_back}
use Rattle.fj_algebra.proofs.Polynomial.{lead_from_monic}
use Rattle.fj_algebra.proofs.Representation.{Representation-add, Representation-same, Representation-product}
use Rattle.fj_algebra.proofs.Criteria.{Settled-from_least, covers_from_settled}
use Rattle.fj_algebra.proofs.Pending.{all_settled}
use Rattle.fj_theory.specs.MonomialOrder.{IsMonomialOrder, compare_by}
use Rattle.fj_theory.specs.Exponents.{plus, least_common_multiple}
use Rattle.fj_theory.specs.Polynomial.{Polynomial}
use Rattle.fj_theory.specs.Ideal.{ArePolynomials, Member, combination}
use Rattle.fj_groebner.specs.ReducedBasis.{LeadDivides}
use Rattle.fj_theory.specs.Lead.{lead_exponents, lead_coefficient}
use Rattle.fj_groebner.specs.Division.{Sugared, polynomials_of}
use Rattle.fj_groebner.specs.Run.{Run, pairs_with, pair_multiple}
use Rattle.fj_groebner.specs.Criterion.{IsSettled, AllSettled}
use Rattle.fj_theory.proofs.Field.{Element, field_ring}
use Rattle.fj_theory.proofs.PolynomialRing.{PolynomialOver, over_equal, polynomial_ring}
use Rattle.fj_theory.proofs.OrderedPolynomials.{positive, coefficient_at, Exponents, times, monomial_order, polynomials, ordered_polynomials}
use Rattle.fj_theory.proofs.IdealBridge.{over, in_ring, combination_map}
use Rattle.fj_theory.proofs.Lead.{lead_at, lead_from_IsLead}
use Rattle.fj_groebner.proofs.Multiple.{common_multiple, common_multiple-is_least}
use Rattle.fj_groebner.proofs.Run.{IsKept, in_all_pairs, of_all_pairs, member, all_monic, member_monic, lead_is, lead, factor, factor_times, s_over, s_over-map, covers_map}

-- A combination with bounds on the heights of its terms is a representation.
combination_below : {K M A : Type 0} (P : abstract.OrderedPolynomials K M A) (S : A → Type 0) (C : M → Type 0) (c : ℕ → A) (N : List A)
    → ((k : ℕ) → k < length N → S (get_or N k P.ring.zero))
    → ((k : ℕ) → k < length N → (b a : M) → P.coefficient (c k) b ≢ P.field.ring.zero → abstract.IsLead P (get_or N k P.ring.zero) a → C (P.monomials.times b a))
    → Representation P S C (ring_ideal.combination P.ring c N)
combination_below P S C c [] has bound = nothing refl
combination_below P S C c (g ∷ N) has bound =
    Representation-add P
    (Representation-product P {B = λ b. P.coefficient (c zero) b ≢ P.field.ring.zero} g (has zero (omega arith)) (λ b a h l. bound zero (omega arith) b a h l) (record { within = λ a n. n }))
    (combination_below P S C (λ j. c (suc j)) N (λ k l. has (suc k) (omega (arith, l))) (λ k l. bound (suc k) (omega (arith, l))))

module _ {key : List ℕ → List ℕ} (K : IsMonomialOrder key) {F : Field} (L : IsField F) where
  abbrev P : abstract.OrderedPolynomials (Element F) Exponents (PolynomialOver F)
  P = ordered_polynomials L K

  module _ (G : List Sugared) (A : ArePolynomials F (polynomials_of G)) (monic : All (λ g. lead_coefficient key g ≡ 1) (polynomials_of G)) where
    list : List (PolynomialOver F)
    list = (in_ring A).list

    state : Run
    state = record { members = G; pending = flat_map pairs_with (range_with_len 0 (length G)) }

    long : length list ≡ length G
    unfolding list
    long = sym (length-map (in_ring A).list (λ f. f.map)) ∙ ap length (in_ring A).are ∙ length-map G (λ g. g.polynomial)

    -- The list as the state of a run in which each pair is pending.
    kept : IsKept K L list state
    unfolding list state
    kept = record {
      over = in_ring A;
      monic = All-map_back (λ g. lead_coefficient key g ≡ 1) (λ g. g.map) list (subst (All (λ g. lead_coefficient key g ≡ 1)) (sym (in_ring A).are) monic);
      inside = ideal_laws.Inside-refl list;
      generates = ideal_laws.Inside-refl list;
      settled = record { each = λ i j l k. inl (in_all_pairs (length G) i j l (omega (arith, k, long))) };
      places = λ i j c. let p = of_all_pairs (length G) i j c in (p.0, omega (arith, p.1, long));
    }

    represented : (i j : ℕ) (s : IsSettled F key G (i, j)) → s_over K L list state kept i j ≡ ring_ideal.combination P.ring (λ k. over (s.polynomials k)) list
    unfolding list ordered_polynomials polynomials state
    represented i j s =
        over_equal _ _ (s_over-map K L list state kept i j ∙ s.is ∙ ap (combination F s.cofactors) (sym (in_ring A).are)
        ∙ sym (combination_map L (λ k. over (s.polynomials k)) list))

    under : (i j : ℕ) (s : IsSettled F key G (i, j)) (k : ℕ) → k < length list → (e : Exponents) → coefficient_at L (over (s.polynomials k)) e ≢ (field_ring L).zero
        → order.IsBelow (monomial_order K) (times e (lead K L list state kept k)) (common_multiple (lead K L list state kept i) (lead K L list state kept j))
    unfolding times lead lead_at member common_multiple monomial_order pair_multiple state
    under i j s k l e n = record {
      is_less = subst₂ (λ a c. compare_by key (plus e.list a) c ≡ Less) (lead_is K L list state kept k)
          (ap₂ least_common_multiple (lead_is K L list state kept i) (lead_is K L list state kept j))
          (s.below k (omega (arith, l, long)) e.list (positive L (over (s.polynomials k)) e n));
    }

    settled : (i j : ℕ) → i < j → j < length list → IsSettled F key G (i, j) → buchberger.SettledAt P list i j
    unfolding ordered_polynomials polynomials lead_at member lead s_over state kept list
    settled i j l k s =
        let m : i < length list = omega (arith, l, k) in
        let a = lead K L list state kept i in
        let b = lead K L list state kept j in
        let least = common_multiple-is_least a b in
        record {
          pair = Settled-from_least P (lead_from_monic P (member_monic K L list state kept i m)) (lead_from_monic P (member_monic K L list state kept j k)) least
              (factor K L list state kept i j i) (factor K L list state kept i j j) (factor_times K L list state kept i j i least.left) (factor_times K L list state kept i j j least.right)
              (Representation-same P (represented i j s)
              (combination_below P (Contains list) (λ e. order.IsBelow (monomial_order K) e (common_multiple a b)) (λ k. over (s.polynomials k)) list
              (λ k l. Contains-get_or list k (polynomial_ring L).zero l)
              (λ k l e c n h. subst (λ c. order.IsBelow (monomial_order K) (times e c) (common_multiple a b)) (sym (lead_from_IsLead K L h)) (under i j s k l e n))));
        }

    -- Buchberger's criterion.
    pub AllSettled-covers : AllSettled F key G → (h : Polynomial) → Member F (polynomials_of G) h → h ≢ empty → LeadDivides key (polynomials_of G) (lead_exponents key h)
    unfolding list state kept
    AllSettled-covers all =
        covers_map K L A (in_ring A) (in_ring A)
        (covers_from_settled P (all_monic K L list state kept) (all_settled P list (λ i j l k. settled i j l k (all.each i j l (omega (arith, k, long))))) (ideal_laws.Inside-refl list))
