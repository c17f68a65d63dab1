-- Nested ideals that are generated in bounded degree and have the same leads of bounded degree are equal, over any field.
use Rattle.std.proofs.Common.{ℕ, ◌<◌, ◌≤◌, List, All, ◌⊎◌, inl, inr, sym, ◌∙◌, subst, arith}
use Rattle.std.proofs.lemmas.List.Elements.{All-contains, All-weaker}
use Rattle.fj_algebra.specs.Ring.{subtract}
use Rattle.fj_algebra.specs.Ideal.{Member, Inside}
use Rattle.fj_algebra.specs.Order.{IsAtMost, IsBelow}
use Rattle.fj_algebra.specs.Polynomial.{OrderedPolynomials, IsLead, Supported}
use Rattle.fj_algebra.specs.StrictSteps.{IsFace, IsRestriction, IsDegreeOrder, IsBounded}
use Rattle.fj_algebra.proofs.Ideal.{Member-zero, Member-add, Member-mul, Member-same, Member-subtract, Member-Contains, Member-Inside}
use Rattle.fj_algebra.proofs.Order.{below_irrefl, below_trans, one_times}
use Rattle.fj_algebra.proofs.Pairs.{All-from_elements}
use Rattle.fj_algebra.proofs.Polynomial.{at_most_lead, Supported-weaker, Supported-subtract, Supported-multiple, coefficient_outside, lead_induction}
use Rattle.fj_algebra.proofs.Division.{under_cancel, quotient_scalar, restore}
use Rattle.fj_algebra.proofs.Restriction.{restriction, restriction_member}

-- a is the lead of a member of (L).
pub record LeadOfMember {K M A : Type 0} (P : OrderedPolynomials K M A) (L : List A) (a : M) : Type 0 where
  pub member : A
  pub in_ideal : Member P.ring L member
  pub is_lead : IsLead P member a

module _ {K M A : Type 0} (P : OrderedPolynomials K M A) {V : M → Type 0} (face : IsFace P.monomials V) {degree : M → ℕ}
    (by_degree : IsDegreeOrder P.order degree) (D : ℕ) where
  open P use {coefficient, term, ring.{zero as 𝟘, add, neg, mul}, field.ring as scalars, monomials.{one, times}, order}

  -- the part in V of a polynomial keeps a lead in V, and is bounded as the lead is
  module _ {f g : A} {a : M} (is : IsRestriction P.polynomials V f g) (l : IsLead P f a) (bounded : IsBounded V degree D a) where
    restricted_lead : IsLead P g a
    restricted_lead = record {
      nonzero = λ z. l.nonzero (sym (is.is a bounded.inside) ∙ z);
      top = λ b k. elim (face.decided b) [ yes v ↦ is.is b v ∙ l.top b k | no n ↦ coefficient_outside P.polynomials is.within b n ];
    }

    restricted_bounded : Supported P.polynomials (IsBounded V degree D) g
    restricted_bounded =
        record {
          within = λ b n. record
              { inside = is.within.within b n; small = small b ((at_most_lead P restricted_lead.top).within b n) (compare_numbers (degree a) (degree b)) };
        }
      where
        compare_numbers : (i j : ℕ) → (i < j) ⊎ (j ≤ i)
        compare_numbers i j = grind arith

        small : (b : M) → IsAtMost order b a → (degree a < degree b) ⊎ (degree b ≤ degree a) → degree b ≤ D
        small b m (inr h) = let s = bounded.small in omega arith
        small b (inl m) (inl h) = absurd (below_irrefl order (below_trans order m (by_degree.lower a b h)))
        small b (inr e) (inl h) = absurd (below_irrefl order (subst (IsBelow order a) e (by_degree.lower a b h)))

  module _ {L N : List A} (small : All (Supported P.polynomials (IsBounded V degree D)) L) (large : All (Supported P.polynomials (IsBounded V degree D)) N)
      (inside : Inside P.ring L N) where
    pub inside_by_leads : ((a : M) → IsBounded V degree D a → LeadOfMember P N a → LeadOfMember P L a) → Inside P.ring N L
    inside_by_leads leads =
        record {
          each = All-from_elements (Member P.ring L) N
              (λ g c. reduce g (All-contains (Supported P.polynomials (IsBounded V degree D)) N g large c) (Member-Contains c));
        }
      where
        in_face : All (Supported P.polynomials V) L
        in_face =
            All-weaker (Supported P.polynomials (IsBounded V degree D)) (Supported P.polynomials V)
            (λ f s. Supported-weaker P.polynomials (λ a b. b.inside) s) L small

        step : (f : A) (a : M) → IsLead P f a →
            ((g : A) → Supported P.polynomials (λ b. IsBelow order b a) g → Supported P.polynomials (IsBounded V degree D) g → Member P.ring N g →
            Member P.ring L g) → Supported P.polynomials (IsBounded V degree D) f → Member P.ring N f → Member P.ring L f
        step f a l lower s m = from_lead (leads a (s.within a l.nonzero) (record { member = f; in_ideal = m; is_lead = l }))
          where
            from_lead : LeadOfMember P L a → Member P.ring L f
            from_lead k = from_restriction (restriction P face k.member)
              where
                from_restriction : (h : A) × IsRestriction P.polynomials V k.member h → Member P.ring L f
                from_restriction (h, is) =
                    let c : K = scalars.mul (coefficient f a) (P.field.inverse (coefficient h a)) in
                    let h_lead = restricted_lead is k.is_lead (s.within a l.nonzero) in
                    let h_in : Member P.ring L h = restriction_member P face in_face k.in_ideal is in
                    Member-same (restore P.ring f (mul (term c one) h)) (Member-add
                    (lower (subtract P.ring f (mul (term c one) h))
                    (under_cancel P l h_lead (one_times P.monomials a) (quotient_scalar P h_lead (coefficient f a)))
                    (Supported-subtract P.polynomials s
                    (Supported-multiple P.polynomials c one (λ b i. subst (IsBounded V degree D) (sym (one_times P.monomials b)) i)
                    (restricted_bounded is k.is_lead (s.within a l.nonzero))))
                    (Member-subtract m (Member-mul (term c one) (Member-Inside inside h_in))))
                    (Member-mul (term c one) h_in))

        reduce : (f : A) → Supported P.polynomials (IsBounded V degree D) f → Member P.ring N f → Member P.ring L f
        reduce = lead_induction P (λ f. Supported P.polynomials (IsBounded V degree D) f → Member P.ring N f → Member P.ring L f) (λ _ _. Member-zero L) step
