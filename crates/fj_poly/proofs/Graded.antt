-- In an order that compares degrees first, the lead has the degree.
use Rattle.std.proofs.Common.{◌≡◌, ◌≢◌, ℕ, ◌<◌, ◌≤◌, List, ◌⊎◌, inl, inr, Option, Some, None, Less, sym, ap, ◌∙◌, subst, arith}
use Rattle.std.specs.FinMap.{empty}
use Rattle.std.specs.Option.{option_map}
use Rattle.std.proofs.lemmas.Bool.{cases_lt}
use Rattle.fj_coeff.specs.Field.{Field, IsField}
use Rattle.fj_theory.specs.Exponents.{IsExponents, total}
use Rattle.fj_theory.specs.Lead.{lead_exponents}
use Rattle.fj_theory.specs.MonomialOrder.{compare_by, grevlex_key}
use Rattle.fj_theory.specs.Polynomial.{Polynomial, IsPolynomial, coefficient, degree, lead}
use Rattle.fj_theory.proofs.Degree.{degree_from, degree-empty}
use Rattle.fj_theory.proofs.EighthVariable.{grevlex_degree}
use Rattle.fj_theory.proofs.Keys.{grevlex_key-IsMonomialOrder}
use Rattle.fj_theory.proofs.Lead.{IsExponents-lead, coefficient-lead, lead_coefficient-nonzero, above_lead}
use Rattle.fj_theory.proofs.OrderedPolynomials.{monomial_order}
use Rattle.fj_poly.proofs.Leads.{empty-no_lead, lead_exponents-is, nonzero-lead}

lower : (a b : List ℕ) → IsExponents a → IsExponents b → total a < total b → compare_by grevlex_key a b ≡ Less
unfolding monomial_order
lower a b A B h = (grevlex_degree.lower (record { list = a; is_exponents = A }) (record { list = b; is_exponents = B }) h).is_less

module _ {F : Field} (L : IsField F) {f : Polynomial} (P : IsPolynomial F f) where
  degree-nonzero : f ≢ empty → degree f ≡ Some (total (lead_exponents grevlex_key f))
  degree-nonzero n =
      degree_from P (lead_exponents grevlex_key f) (subst (λ c. 0 < c) (sym (coefficient-lead grevlex_key-IsMonomialOrder P)) (lead_coefficient-nonzero grevlex_key-IsMonomialOrder P n))
      (λ b B p. by b B p (cases_lt (total (lead_exponents grevlex_key f)) (total b)))
    where
      by : (b : List ℕ) → IsExponents b → 0 < coefficient f b → (total (lead_exponents grevlex_key f) < total b) ⊎ (total b ≤ total (lead_exponents grevlex_key f))
          → total b ≤ total (lead_exponents grevlex_key f)
      by b B p (inr h) = h
      by b B p (inl h) =
          let none = above_lead grevlex_key-IsMonomialOrder P n b (lower (lead_exponents grevlex_key f) b (IsExponents-lead grevlex_key-IsMonomialOrder P) B h) in absurd (omega (arith, p, none))

  pub degree-lead : (o : Option (List ℕ × ℕ)) → o ≡ lead grevlex_key f → option_map (λ t. total t.0) o ≡ degree f
  degree-lead None e = sym (ap degree (empty-no_lead L grevlex_key-IsMonomialOrder P (sym e)) ∙ degree-empty)
  degree-lead (Some t) e =
      sym (degree-nonzero (nonzero-lead L grevlex_key-IsMonomialOrder t (sym e)) ∙ ap (λ a. Some (total a)) (lead_exponents-is grevlex_key f t (sym e)))
