-- Division by one polynomial, which is exact on its multiples.
use Rattle.std.proofs.Common.{◌≡◌, ◌≢◌, zero, List, [], ◌∷◌, length, get_or, Contains, ◌⊎◌, inl, inr, sym, ap, ◌∙◌, subst, arith}
use Rattle.fj_algebra.specs.Ideal.{Member, list_combination}
use Rattle.fj_algebra.specs.Polynomial.{OrderedPolynomials, IsLead}
use Rattle.fj_algebra.specs.Buchberger.{LeadIsReducible, CoversLeads}
use Rattle.fj_algebra.specs.Division.{DivisionState, IsDivision}
use Rattle.fj_algebra.proofs.Ring.{zero_mul}
use Rattle.fj_algebra.proofs.Ideal.{Inside-refl}
use Rattle.fj_algebra.proofs.Pairs.{contains_head}
use Rattle.fj_algebra.proofs.Polynomial.{lead_or_zero}
use Rattle.fj_algebra.proofs.Leads.{lead_product}
use Rattle.fj_algebra.proofs.Division.{division_identity, division_remainder, member_by_remainder}

module _ {K M A : Type 0} (P : OrderedPolynomials K M A) where
  open P use {ring.{zero as 𝟘, add, mul}, monomials.{times}}

  -- One polynomial is a Gröbner basis of its ideal.
  pub covers_single : {g : A} → g ≢ 𝟘 → CoversLeads P (g ∷ []) (Contains (g ∷ []))
  covers_single {g} nonzero =
      record {
        covers = λ h m n. go h (m.cofactors zero) (m.is ∙ P.ring.add_zero (mul (m.cofactors zero) g)) n (lead_or_zero P (m.cofactors zero))
            (lead_or_zero P g);
      }
    where
      go : (h c : A) → h ≡ mul c g → h ≢ 𝟘 → (c ≡ 𝟘) ⊎ ((a : M) × IsLead P c a) → (g ≡ 𝟘) ⊎ ((b : M) × IsLead P g b) → LeadIsReducible P (Contains (g ∷ [])) h
      go h c e n (inl z) k = absurd (n (e ∙ ap (λ c. mul c g) z ∙ zero_mul P.ring g))
      go h c e n (inr l) (inl z) = absurd (nonzero z)
      go h c e n (inr (a, l)) (inr (b, k)) =
          record {
            lead = times a b;
            is_lead = subst (λ h. IsLead P h (times a b)) (sym e) (lead_product P l k);
            reducible = record {
              divisor = g;
              member = contains_head g [];
              lead = b;
              is_lead = k;
              divides = record { quotient = a; product = P.monomials.times_comm b a };
            };
          }

  -- The division of a multiple of g by g leaves nothing.
  pub exact_remainder : {g h : A} {t : DivisionState A} → g ≢ 𝟘 → Member P.ring (g ∷ []) h → IsDivision P (g ∷ []) h t → t.remainder ≡ 𝟘
  exact_remainder {g} nonzero m d = (member_by_remainder P (Inside-refl (g ∷ [])) (covers_single nonzero) (division_remainder P d)).0 m

  -- It gives the quotient.
  pub exact_division : {g h : A} {t : DivisionState A} → g ≢ 𝟘 → Member P.ring (g ∷ []) h → IsDivision P (g ∷ []) h t → h ≡ mul g (get_or t.quotients 0 𝟘)
  exact_division {g} {h} {t} nonzero m d =
      let identity = division_identity P d in identity.0 ∙ ap (add (list_combination P.ring t.quotients (g ∷ []))) (exact_remainder nonzero m d)
      ∙ P.ring.add_zero (list_combination P.ring t.quotients (g ∷ [])) ∙ single t.quotients identity.1
    where
      single : (qs : List A) → length qs ≡ 1 → list_combination P.ring qs (g ∷ []) ≡ mul g (get_or qs 0 𝟘)
      single [] e = absurd (omega arith)
      single (q ∷ []) e = P.ring.add_zero (mul q g) ∙ P.ring.mul_comm q g
      single (q ∷ (p ∷ qs)) e = absurd (omega arith)
