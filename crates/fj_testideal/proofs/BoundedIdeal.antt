-- Ideals that are generated in bounded degree, over the ring of polynomials.
use Rattle.std.proofs.Common.{ℕ, List, All, sym, ap, subst}
use Rattle.std.proofs.lemmas.List.Elements.{All-weaker}
use Rattle.fj_coeff.specs.Field.{Field, IsField}
use Rattle.fj_algebra.specs.Polynomial as abstract
use Rattle.fj_algebra.specs.StrictSteps as steps
use Rattle.fj_algebra.proofs.Lists.{All-map_back}
use Rattle.fj_algebra.proofs.Polynomial.{lead_nonzero}
use Rattle.fj_theory.specs.Exponents.{IsExponents, total}
use Rattle.fj_theory.specs.Polynomial.{Polynomial, IsPolynomial}
use Rattle.fj_theory.specs.Ideal.{ArePolynomials, Inside, SameIdeal}
use Rattle.fj_theory.proofs.Keys.{grevlex_key-IsMonomialOrder}
use Rattle.fj_theory.proofs.EighthVariable.{grevlex_degree}
use Rattle.fj_theory.proofs.Field.{Element}
use Rattle.fj_theory.proofs.PolynomialRing.{PolynomialOver}
use Rattle.fj_theory.proofs.OrderedPolynomials.{positive, Exponents, exponents_equal, polynomials, ordered_polynomials}
use Rattle.fj_theory.proofs.IdealBridge.{over, maps, InRing, in_ring, Member_polynomial, Member_map, Member_over, Inside_map, Inside_over}
use Rattle.fj_theory.proofs.Ideal.{Member-Inside, Inside-trans}
use Rattle.fj_theory.proofs.Lead.{lead_at, IsExponents-lead, IsLead-from_lead, lead_from_IsLead, nonzero_map}
use Rattle.fj_testideal.specs.BoundedIdeal.{Variables, IsBoundedMonomial, IsBounded, IsBoundedIdeal, IsLeadIn}
use Rattle.fj_testideal.proofs.Variables.{InVariables, variables_face}
use Rattle.fj_testideal.proofs.LeadSteps.{LeadOfMember, inside_by_leads}

module _ {F : Field} (L : IsField F) where
  abbrev pub P : abstract.OrderedPolynomials (Element F) Exponents (PolynomialOver F)
  P = ordered_polynomials L grevlex_key-IsMonomialOrder

  module _ (vars : Variables) (bound : ℕ) where
    abbrev pub Small : Exponents → Type 0
    Small = steps.IsBounded (InVariables vars) (λ a. total a.list) bound

    pub supported : {f : PolynomialOver F} → IsBounded F vars bound f.map → abstract.Supported (polynomials L) Small f
    unfolding polynomials
    supported {f} h = record {
      within = λ a n.
          let b = h.terms a.list (positive L f a n) in
          record { inside = record { others = b.others }; small = b.degree };
    }

    all_supported : (M : List (PolynomialOver F)) → All (IsBounded F vars bound) (maps M) → All (abstract.Supported (polynomials L) Small) M
    all_supported M all =
        All-weaker (λ f. IsBounded F vars bound f.map) (abstract.Supported (polynomials L) Small) (λ f h. supported h) M
        (All-map_back (IsBounded F vars bound) (λ f. f.map) M all)

    pub ArePolynomials-bounded : {M : List Polynomial} → All (IsBounded F vars bound) M → ArePolynomials F M
    ArePolynomials-bounded {M} all = record { each = All-weaker (IsBounded F vars bound) (IsPolynomial F) (λ f h. h.polynomial) M all }

    monomial_bounded : (a : Exponents) → Small a → IsBoundedMonomial vars bound a.list
    monomial_bounded a s = record { exponents = a.is_exponents; others = s.inside.others; degree = s.small }

  -- Leads of members, to the ring of polynomials and back.
  pub lead_map : {M : List Polynomial} (X : InRing F M) {a : Exponents} → LeadOfMember P X.list a → IsLeadIn F M a.list
  unfolding ordered_polynomials polynomials lead_at
  lead_map X {a} l = record {
    member = l.member.map;
    in_ideal = Member_map L X l.in_ideal;
    nonzero = nonzero_map grevlex_key-IsMonomialOrder L (lead_nonzero P l.is_lead);
    lead = sym (ap (λ b. b.list) (lead_from_IsLead grevlex_key-IsMonomialOrder L l.is_lead));
  }

  lead_over : {M : List Polynomial} (Q : ArePolynomials F M) (X : InRing F M) {a : Exponents} → IsLeadIn F M a.list → LeadOfMember P X.list a
  unfolding ordered_polynomials polynomials lead_at
  lead_over Q X {a} l =
      let H = Member_polynomial L Q l.in_ideal in
      record {
        member = over H;
        in_ideal = Member_over L X H l.in_ideal;
        is_lead = subst (abstract.IsLead P (over H)) (exponents_equal (lead_at grevlex_key-IsMonomialOrder H) a l.lead)
            (IsLead-from_lead grevlex_key-IsMonomialOrder L (over H) l.nonzero);
      }

  -- The leads of members of a smaller ideal are leads of members of the larger.
  pub IsLeadIn-Inside : {M N : List Polynomial} → ArePolynomials F M → ArePolynomials F N → Inside F M N → {a : List ℕ} → IsLeadIn F M a → IsLeadIn F N a
  IsLeadIn-Inside A B I l = record { member = l.member; in_ideal = Member-Inside L A B I l.in_ideal; nonzero = l.nonzero; lead = l.lead }

  pub IsExponents-IsLeadIn : {M : List Polynomial} → ArePolynomials F M → {a : List ℕ} → IsLeadIn F M a → IsExponents a
  IsExponents-IsLeadIn A l = subst IsExponents l.lead (IsExponents-lead grevlex_key-IsMonomialOrder (Member_polynomial L A l.in_ideal))

  module _ {vars : Variables} {bound : ℕ} {M N : List Polynomial} where
    inside_generators : All (IsBounded F vars bound) M → All (IsBounded F vars bound) N → Inside F M N
        → ((a : List ℕ) → IsBoundedMonomial vars bound a → IsLeadIn F N a → IsLeadIn F M a) → Inside F N M
    unfolding ordered_polynomials polynomials
    inside_generators small large inside leads =
        let A = ArePolynomials-bounded vars bound small in
        let B = ArePolynomials-bounded vars bound large in
        let X = in_ring A in
        let Y = in_ring B in
        Inside_map L Y X (inside_by_leads P (variables_face vars) grevlex_degree bound
        (all_supported vars bound X.list (subst (All (IsBounded F vars bound)) (sym X.are) small))
        (all_supported vars bound Y.list (subst (All (IsBounded F vars bound)) (sym Y.are) large))
        (Inside_over L X Y inside)
        (λ a s l. lead_over A X (leads a.list (monomial_bounded vars bound a s) (lead_map Y l))))

  module _ {vars : Variables} {bound : ℕ} {M N : List Polynomial} (A : ArePolynomials F M) (B : ArePolynomials F N) where
    -- Nested ideals, both generated in bounded degree, with the same leads of bounded degree are equal.
    pub SameIdeal-by_leads : IsBoundedIdeal F vars bound M → IsBoundedIdeal F vars bound N → Inside F M N
        → ((a : List ℕ) → IsBoundedMonomial vars bound a → IsLeadIn F N a → IsLeadIn F M a) → SameIdeal F M N
    SameIdeal-by_leads small large inside leads =
        let C = ArePolynomials-bounded vars bound small.bounded in
        let D = ArePolynomials-bounded vars bound large.bounded in
        let between = Inside-trans L C B D (Inside-trans L C A B small.generate.forth inside) large.generate.back in
        let back = inside_generators {vars = vars} {bound = bound} small.bounded large.bounded between
        (λ a s l. IsLeadIn-Inside A C small.generate.back (leads a s (IsLeadIn-Inside D B large.generate.forth l))) in
        record { forth = inside; back = Inside-trans L B C A (Inside-trans L B D C large.generate.back back) small.generate.forth }
