-- Laws of reduced bases: they generate, they are unique, they come from a covering list by finishing.
use Rattle.std.proofs.Common.{◌≡◌, ◌≢◌, List, [], ◌∷◌, get_or, Contains, All, ◌⊎◌, inl, inr, ◌↔◌, sym, ap, ◌∙◌, subst, arith}
use Rattle.std.specs.List.{AllPairs}
use Rattle.std.proofs.lemmas.List.Elements.{Contains-get_or, All-weaker}
use Rattle.fj_algebra.specs.Ring.{subtract}
use Rattle.fj_algebra.specs.Ideal.{Member, Inside, SameIdeal}
use Rattle.fj_algebra.specs.Order.{Divides, IsBelow}
use Rattle.fj_algebra.specs.Polynomial.{OrderedPolynomials, IsLead, IsMonic}
use Rattle.fj_algebra.specs.Buchberger.{IsReducible, LeadIsReducible, CoversLeads}
use Rattle.fj_algebra.specs.Division.{IsRemainder}
use Rattle.fj_algebra.specs.ReducedBasis.{LeadsRise, AreReduced, IsReducedBasis}
use Rattle.fj_algebra.proofs.Ring.{subtract_self, equal_from_subtract}
use Rattle.fj_algebra.proofs.Ideal.{Member-subtract, Member-Contains, Member-Inside, Member-SameIdeal, Member-same, Member-nil, Member-zero, Inside-head, Inside-cons, Inside-nil, Inside-trans, Inside-Contains, SameIdeal-sym, SameIdeal-trans}
use Rattle.fj_algebra.proofs.Pairs.{contains_cons, contains_head, contains_nil, All-from_elements, pair_of, same_elements}
use Rattle.fj_algebra.proofs.Order.{below_irrefl, below_trans, not_below_multiple, divides_antisymm, Divides-trans, one_times}
use Rattle.fj_algebra.proofs.Polynomial.{at_most_lead, coefficient_subtract, Supported-subtract, lead_from_monic, lead_unique, lead_nonzero, lead_or_zero, is_zero, term_one}
use Rattle.fj_algebra.proofs.Division.{covers_generate, member_by_remainder}

module _ {K M A : Type 0} (P : OrderedPolynomials K M A) where
  open P use {coefficient, term, ring.{zero as 𝟘, one as 𝟙, add, neg, mul}, field.ring as scalars, monomials.{one, times}, order}

  -- Covering the leads depends on the ideal alone.
  pub covers_same_ideal : {L L' : List A} {S : A → Type 0} → Inside P.ring L' L → CoversLeads P L S → CoversLeads P L' S
  covers_same_ideal inside covers = record { covers = λ h m n. covers.covers h (Member-Inside inside m) n }

  -- A reduced basis is a reduced basis of every list with this ideal.
  pub reduced_basis_same_ideal : {L L' G : List A} → SameIdeal P.ring L L' → IsReducedBasis P L G → IsReducedBasis P L' G
  reduced_basis_same_ideal e b =
      record {
        members = Inside-trans b.members e.forth;
        monic = b.monic;
        rising = b.rising;
        reduced = b.reduced;
        covers = covers_same_ideal e.back b.covers;
      }

  -- The ideal of a reduced basis is the ideal of its list.
  pub reduced_basis_generates : {L G : List A} → IsReducedBasis P L G → SameIdeal P.ring L G
  reduced_basis_generates b = record { forth = covers_generate P b.members b.covers; back = b.members }

  -- A list is a reduced basis of its own ideal as soon as it is one of some list.
  pub reduced_basis_of_itself : {L G : List A} → IsReducedBasis P L G → IsReducedBasis P G G
  reduced_basis_of_itself b = reduced_basis_same_ideal (reduced_basis_generates b) b

  -- In a reduced basis a monomial of g is divided by the lead of g alone.
  only_own : {L G : List A} → IsReducedBasis P L G → {g h : A} {a b : M} → Contains G g → Contains G h → coefficient g a ≢ scalars.zero →
      IsLead P h b → Divides P.monomials b a → g ≡ h
  only_own {G = G} basis {g} {h} {a} {b} c d n l v =
      elim (pair_of (AreReduced P) G basis.reduced g h c d)
      [ inl e ↦ e | inr (inl r) ↦ absurd (r.first.free a b n l v) | inr (inr r) ↦ absurd (r.second.free a b n l v) ]

  -- the lead of a member of one reduced basis is the lead of a member of another with the same ideal
  partner : {L L' G G' : List A} → SameIdeal P.ring L L' → IsReducedBasis P L G → IsReducedBasis P L' G' → {g : A} {a : M} → Contains G g →
      IsMonic P g a → (h : A) × Contains G' h × IsMonic P h a
  partner {L} {L'} {G} {G'} same basis basis' {g} {a} c is =
      first (basis'.covers.covers g (Member-SameIdeal same (Inside-Contains basis.members c)) (lead_nonzero P (lead_from_monic P is)))
    where
      second : (k : LeadIsReducible P (Contains G') g) → IsMonic P k.reducible.divisor k.reducible.lead →
          LeadIsReducible P (Contains G) k.reducible.divisor → (h : A) × Contains G' h × IsMonic P h a
      second k m l =
          let to_b : Divides P.monomials k.reducible.lead a = subst (Divides P.monomials k.reducible.lead)
          (lead_unique P k.is_lead (lead_from_monic P is)) k.reducible.divides in
          let from_c : Divides P.monomials l.reducible.lead k.reducible.lead = subst (Divides P.monomials l.reducible.lead)
          (lead_unique P l.is_lead k.reducible.is_lead) l.reducible.divides in
          let own : g ≡ l.reducible.divisor = only_own basis c l.reducible.member ((lead_from_monic P is).nonzero) l.reducible.is_lead
          (Divides-trans from_c to_b) in
          let at_a : l.reducible.lead ≡ a = lead_unique P (subst (λ f. IsLead P f l.reducible.lead) (sym own) l.reducible.is_lead) (lead_from_monic P is) in (
            k.reducible.divisor,
            k.reducible.member,
            subst (IsMonic P k.reducible.divisor) (divides_antisymm order to_b (subst (λ c. Divides P.monomials c k.reducible.lead) at_a from_c)) m,
          )

      first : LeadIsReducible P (Contains G') g → (h : A) × Contains G' h × IsMonic P h a
      first k =
          second k (monic_at (basis'.monic.lead k.reducible.divisor k.reducible.member))
          (basis.covers.covers k.reducible.divisor (Member-SameIdeal (SameIdeal-sym same) (Inside-Contains basis'.members k.reducible.member))
          (lead_nonzero P k.reducible.is_lead))
        where
          monic_at : (b : M) × IsMonic P k.reducible.divisor b → IsMonic P k.reducible.divisor k.reducible.lead
          monic_at (b, m) = subst (IsMonic P k.reducible.divisor) (lead_unique P (lead_from_monic P m) k.reducible.is_lead) m

  -- members of two reduced bases of one ideal with the same lead are equal
  same_lead : {L L' G G' : List A} → SameIdeal P.ring L L' → IsReducedBasis P L G → IsReducedBasis P L' G' → {g h : A} {a : M} → Contains G g →
      Contains G' h → IsMonic P g a → IsMonic P h a → g ≡ h
  same_lead {L} {L'} {G} {G'} same basis basis' {g} {h} {a} c d is is' =
      elim (is_zero P (subtract P.ring g h)) [
        | yes z ↦ equal_from_subtract P.ring g h z
        | no n ↦ absurd (contradict (basis.covers.covers (subtract P.ring g h) in_L n)
            (basis'.covers.covers (subtract P.ring g h) (Member-SameIdeal same in_L) n))
      ]
    where
      in_L : Member P.ring L (subtract P.ring g h)
      in_L = Member-subtract (Inside-Contains basis.members c) (Member-SameIdeal (SameIdeal-sym same) (Inside-Contains basis'.members d))

      at_a : coefficient (subtract P.ring g h) a ≡ scalars.zero
      at_a = coefficient_subtract P.polynomials g h a ∙ rw (is.monic, is'.monic) (subtract_self scalars scalars.one)

      under : (e : M) → coefficient (subtract P.ring g h) e ≢ scalars.zero → IsBelow order e a
      under e n =
          elim ((Supported-subtract P.polynomials (at_most_lead P is.top) (at_most_lead P is'.top)).within e n)
          [ inl l ↦ l | inr s ↦ absurd (n (subst (λ e. coefficient (subtract P.ring g h) e ≡ scalars.zero) (sym s) at_a)) ]

      -- a monomial below a of a member k with lead a isn't divided by a lead of its basis
      blocked : {N H : List A} → IsReducedBasis P N H → (k : A) → Contains H k → IsMonic P k a → (e : M) → IsBelow order e a →
          coefficient k e ≢ scalars.zero → IsReducible P (Contains H) e → ⊥
      blocked b k m q e l n r =
          not_below_multiple order
          (subst (λ b. Divides P.monomials b e)
          (lead_unique P (subst (λ f. IsLead P f r.lead) (sym (only_own b m r.member n r.is_lead r.divides)) r.is_lead) (lead_from_monic P q))
          r.divides) l

      contradict : LeadIsReducible P (Contains G) (subtract P.ring g h) → LeadIsReducible P (Contains G') (subtract P.ring g h) → ⊥
      contradict k k' = elim (P.field.is_zero (coefficient g k.lead)) [
        | no n ↦ blocked basis g c is k.lead (under k.lead k.is_lead.nonzero) n k.reducible
        | yes z ↦ blocked basis' h d is' k.lead (under k.lead k.is_lead.nonzero)
            (λ z'. k.is_lead.nonzero (coefficient_subtract P.polynomials g h k.lead ∙ rw (z, z') (subtract_self scalars scalars.zero)))
            (subst (IsReducible P (Contains G')) (lead_unique P k'.is_lead k.is_lead) k'.reducible)
      ]

  shared : {L L' G G' : List A} → SameIdeal P.ring L L' → IsReducedBasis P L G → IsReducedBasis P L' G' → (g : A) → Contains G g → Contains G' g
  shared {G' = G'} same basis basis' g c = go (basis.monic.lead g c)
    where
      go : (a : M) × IsMonic P g a → Contains G' g
      go (a, is) = let p = partner same basis basis' c is in subst (Contains G') (sym (same_lead same basis basis' c p.1 is p.2)) p.1

  record Rises (g h : A) : Type 0 where
    first : M
    first_lead : IsLead P g first
    second : M
    second_lead : IsLead P h second
    below : IsBelow order first second

  rises : {L G : List A} → IsReducedBasis P L G → AllPairs Rises G
  rises {G = G} basis i j d l k =
      go (basis.monic.lead (get_or G i d) (Contains-get_or G i d (omega arith))) (basis.monic.lead (get_or G j d) (Contains-get_or G j d k))
    where
      go : (a : M) × IsMonic P (get_or G i d) a → (b : M) × IsMonic P (get_or G j d) b → Rises (get_or G i d) (get_or G j d)
      go (a, is) (b, is') =
          record {
            first = a;
            first_lead = lead_from_monic P is;
            second = b;
            second_lead = lead_from_monic P is';
            below = (basis.rising i j d l k).below a b (lead_from_monic P is) (lead_from_monic P is');
          }

  -- Two lists of one ideal have one reduced basis.
  pub reduced_basis_unique : {L L' G G' : List A} → SameIdeal P.ring L L' → IsReducedBasis P L G → IsReducedBasis P L' G' → G ≡ G'
  reduced_basis_unique {G = G} {G' = G'} same basis basis' = same_elements Rises
      (λ g r. below_irrefl order (subst (λ a. IsBelow order a r.second) (lead_unique P r.first_lead r.second_lead) r.below))
      (λ g h r s. below_irrefl order
      (below_trans order (subst (IsBelow order r.first) (lead_unique P r.second_lead s.first_lead) r.below)
      (subst (IsBelow order s.first) (lead_unique P s.second_lead r.first_lead) s.below)))
      G G' (rises basis) (rises basis') (shared same basis basis') (shared (SameIdeal-sym same) basis' basis)

  -- Membership in the ideal is decided by the remainder by a reduced basis.
  pub member_of_basis : {L G : List A} {h r : A} → IsReducedBasis P L G → IsRemainder P G h r → Member P.ring L h ↔ (r ≡ 𝟘)
  member_of_basis basis is = member_by_remainder P basis.members basis.covers is

  -- One is monic.
  pub one_monic : IsMonic P 𝟙 one
  one_monic =
      record {
        monic = ap (λ f. coefficient f one) (sym (term_one P)) ∙ P.coefficient_same scalars.one one;
        top = λ b l. ap (λ f. coefficient f b) (sym (term_one P))
            ∙ P.coefficient_other scalars.one one b (λ e. below_irrefl order (subst (IsBelow order one) (sym e) l));
      }

  no_pairs : (R : A → A → Type 0) (g : A) → AllPairs R (g ∷ [])
  no_pairs R g i j d l k = absurd (omega arith)

  -- The list of one alone is the reduced basis exactly where one is a member.
  pub reduced_basis_unit : (L : List A) → IsReducedBasis P L (𝟙 ∷ []) ↔ Member P.ring L 𝟙
  reduced_basis_unit L = (
    λ basis. Inside-head basis.members,
    λ m. record {
      members = Inside-cons m (Inside-nil L);
      monic = record { lead = λ g c. go g (contains_cons 𝟙 [] g c) };
      rising = no_pairs (LeadsRise P) 𝟙;
      reduced = no_pairs (AreReduced P) 𝟙;
      covers =
          record {
            covers = λ h _ n. elim
                (lead_or_zero P h) [
                  | inl z ↦ absurd (n z)
                  | inr (a, k) ↦ record {
                    lead = a;
                    is_lead = k;
                    reducible = record {
                      divisor = 𝟙;
                      member = contains_head 𝟙 [];
                      lead = one;
                      is_lead = lead_from_monic P one_monic;
                      divides = record { quotient = a; product = one_times P.monomials a };
                    };
                  }
                ];
          };
    },
  )
    where
      go : (g : A) → (𝟙 ≡ g) ⊎ Contains [] g → (a : M) × IsMonic P g a
      go g (inl e) = (one, subst (λ g. IsMonic P g one) e one_monic)
      go g (inr c) = absurd (contains_nil g c)

  -- The empty list is the reduced basis exactly where all elements of the list are zero.
  pub reduced_basis_zero : (L : List A) → IsReducedBasis P L [] ↔ All (λ g. g ≡ 𝟘) L
  reduced_basis_zero L = (
    λ basis. All-from_elements (λ g. g ≡ 𝟘) L (λ g c. Member-nil (Member-Inside (reduced_basis_generates basis).forth (Member-Contains c))),
    λ zeros. record {
      members = Inside-nil L;
      monic = record { lead = λ g c. absurd (contains_nil g c) };
      rising = λ i j d l k. absurd (omega arith);
      reduced = λ i j d l k. absurd (omega arith);
      covers =
          record {
            covers = λ h m n. absurd
                (n (Member-nil (Member-Inside
                (record { each = All-weaker (λ g. g ≡ 𝟘) (Member P.ring []) (λ g e. Member-same e (Member-zero [])) L zeros }) m)));
          };
    },
  )

  -- Two ideals are equal exactly where their reduced bases are equal lists.
  pub same_ideal_by_basis : {L L' G G' : List A} → IsReducedBasis P L G → IsReducedBasis P L' G' → SameIdeal P.ring L L' ↔ (G ≡ G')
  same_ideal_by_basis {L} {L'} {G} {G'} basis basis' = (
    λ same. reduced_basis_unique same basis basis',
    λ e. SameIdeal-trans (reduced_basis_generates basis) (subst (λ H. SameIdeal P.ring H L') (sym e) (SameIdeal-sym (reduced_basis_generates basis'))),
  )
