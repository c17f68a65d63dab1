-- The quotient I^[p] : I of an ideal and its root, by the members of the ideals.
use Rattle.std.proofs.Common.{◌≡◌, ℕ, ◌^◌, List, [], ◌∷◌, All, get_or, refl, sym, subst}
use Rattle.std.specs.FinMap.{empty}
use Rattle.std.proofs.lemmas.List.Elements.{All-map, All-nil, Contains-get_or}
use Rattle.fj_algebra.proofs.Lists.{All-map_back}
use Rattle.fj_coeff.specs.Field.{Field, IsField}
use Rattle.fj_theory.specs.Exponents.{origin}
use Rattle.fj_theory.specs.FrobeniusPower.{frobenius_power}
use Rattle.fj_theory.specs.Ideal.{ArePolynomials, SameIdeal}
use Rattle.fj_theory.specs.MonomialOrder.{grevlex_key}
use Rattle.fj_theory.specs.PointIdeal.{UsesFirst}
use Rattle.fj_theory.specs.Polynomial.{Polynomial, power, term}
use Rattle.fj_theory.proofs.Colon.{IsColon-SameIdeal, IsColon-zeros}
use Rattle.fj_theory.proofs.FrobeniusPower.{ArePolynomials-frobenius_power}
use Rattle.fj_theory.proofs.Ideal.{SameIdeal-refl, SameIdeal-sym, SameIdeal-trans}
use Rattle.fj_theory.proofs.Keys.{grevlex_key-IsMonomialOrder}
use Rattle.fj_theory.proofs.UsesFirst.{UsesFirst-all_parts, UsesFirst-frobenius_power}
use Rattle.fj_groebner.specs.ReducedBasis.{IsReducedBasis}
use Rattle.fj_groebner.proofs.Lacking.{IsReducedBasis-UsesFirst}
use Rattle.fj_groebner.proofs.ReducedBasis.{IsReducedBasis_polynomials, IsReducedBasis-SameIdeal}
use Rattle.fj_poly.specs.Limit.{IsHigh}
use Rattle.fj_ideal.specs.Ideal.{IsIdeal, WithBasis}
use Rattle.fj_ideal.specs.Lists.{AreLow}
use Rattle.fj_ideal.specs.Reduced.{IsReducedOf, WithMembers}
use Rattle.fj_ideal.proofs.ReducedBasis.{ArePolynomials-members, SameIdeal-members}
use Rattle.fj_frobenius.specs.Lists.{IsHighMember, IsRootList}
use Rattle.fj_elim.specs.Lists.{IsColonBasis}
use Rattle.fj_elim.proofs.Quotients.{unit-reduced}
use Rattle.fj_fedder.specs.Fedder.{IsFedderColon}
use Rattle.fj_fedder.specs.Lists.{IsPowerBasis}

-- Where no member has a power that is high, no power is.
low_powers : (F : Field) (q : ℕ) (G : List Polynomial) → ((M : List Polynomial) → IsHighMember F q G M → ⊥) → AreLow (frobenius_power F q G)
low_powers F q G none =
    All-map (λ h. IsHigh h → ⊥) (λ g. power F g q) G
    (λ k d l high. none (get_or G k d ∷ []) (record { g = get_or G k d; there = Contains-get_or G k d l; high = high; is = refl }))

module _ {F : Field} (L : IsField F) where
  -- A list that lacks the eighth variable has parts that lack it.
  pub parts-lack : (e : ℕ) {G M : List Polynomial} → All (UsesFirst 7) G → IsRootList F (F.characteristic ^ e) G M → All (UsesFirst 7) M
  parts-lack e lacks r =
      subst (All (UsesFirst 7)) (sym r.listed) (UsesFirst-all_parts L e r.families (All-map_back (UsesFirst 7) (λ h. h.polynomial) r.families (subst (All (UsesFirst 7)) r.members lacks)) r.parts)

  module _ {I : WithBasis} (A : IsIdeal F I) where
    -- The ideal of the p-th powers of the members.
    module _ {P : WithMembers} (B : IsReducedOf F (frobenius_power F (F.characteristic ^ 1) I.members) P) where
      powers : ArePolynomials F (frobenius_power F (F.characteristic ^ 1) I.members)
      powers = subst (ArePolynomials F) B.given B.ideal.polynomials

      power-reduced : IsReducedBasis F grevlex_key (frobenius_power F (F.characteristic ^ 1) I.members) P.members
      power-reduced = subst (λ M. IsReducedBasis F grevlex_key M P.members) B.given B.ideal.reduced

      members : ArePolynomials F P.members
      members = IsReducedBasis_polynomials grevlex_key-IsMonomialOrder L powers power-reduced

      pub power-lacks : All (UsesFirst 7) I.members → All (UsesFirst 7) P.members
      power-lacks lacks =
          IsReducedBasis-UsesFirst grevlex_key-IsMonomialOrder L powers (UsesFirst-frobenius_power L (ArePolynomials-members L A) lacks (F.characteristic ^ 1)) power-reduced

      pub power-basis : ((M : List Polynomial) → IsHighMember F (F.characteristic ^ 1) I.members M → ⊥) → IsPowerBasis F I.members P.members
      power-basis none = record {
        powers = frobenius_power F (F.characteristic ^ 1) I.members;
        formed = record { is = refl; low = low_powers F (F.characteristic ^ 1) I.members none };
        reduced = power-reduced;
      }

      -- By no member the quotient is the whole ring.
      pub colon_by_none : I.members ≡ [] → IsColonBasis F P.members I.members (term 1 origin ∷ [])
      colon_by_none e = record {
        colon = IsColon-zeros L members (subst (All (λ g. g ≡ empty)) (sym e) (All-nil (λ g. g ≡ empty)));
        reduced = unit-reduced L;
      }

      -- A quotient by one member that is told of its p-th power.
      pub colon_by_single : {f : Polynomial} → I.members ≡ f ∷ [] → {C : List Polynomial} → IsColonBasis F (frobenius_power F (F.characteristic ^ 1) (f ∷ [])) (f ∷ []) C
          → IsColonBasis F P.members I.members C
      colon_by_single e {C} b =
          let whole : IsColonBasis F (frobenius_power F (F.characteristic ^ 1) I.members) I.members C = subst (λ N. IsColonBasis F (frobenius_power F (F.characteristic ^ 1) N) N C) (sym e) b in
          let Q = ArePolynomials-members L A in
          let S = whole.colon.polynomials in
          record {
            colon = IsColon-SameIdeal L powers members Q Q S S (IsReducedBasis-SameIdeal grevlex_key-IsMonomialOrder L powers power-reduced) (SameIdeal-refl L Q) (SameIdeal-refl L S) whole.colon;
            reduced = whole.reduced;
          }

      -- The quotient of its basis by the members of I is that of I^[p] by I.
      pub colon_of_power : SameIdeal F (frobenius_power F (F.characteristic ^ 1) I.given) P.given → {C : List Polynomial} → IsColonBasis F P.members I.members C → IsFedderColon F I.given C
      colon_of_power same {C} b =
          let S = b.colon.polynomials in
          let G = ArePolynomials-frobenius_power L A.polynomials (F.characteristic ^ 1) in
          let basis = IsReducedBasis-SameIdeal grevlex_key-IsMonomialOrder L B.ideal.polynomials B.ideal.reduced in
          record {
            colon = IsColon-SameIdeal L members G (ArePolynomials-members L A) A.polynomials S S (SameIdeal-trans L members B.ideal.polynomials G (SameIdeal-sym basis) (SameIdeal-sym same))
                (SameIdeal-sym (SameIdeal-members L A)) (SameIdeal-refl L S) b.colon;
            reduced = b.reduced;
          }
