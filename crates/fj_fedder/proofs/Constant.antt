-- A constant among the polynomials of a list, not zero: its ideal is the whole ring.
use Rattle.std.proofs.Common.{◌≡◌, ◌≢◌, List, Any, Some, sym, ap, ◌∙◌, subst}
use Rattle.std.specs.FinMap.{empty}
use Rattle.std.proofs.lemmas.Option.{none-some}
use Rattle.fj_coeff.specs.Field.{Field, IsField}
use Rattle.fj_theory.specs.Exponents.{origin}
use Rattle.fj_theory.specs.Ideal.{ArePolynomials, Member}
use Rattle.fj_theory.specs.Lead.{lead_coefficient, made_monic}
use Rattle.fj_theory.specs.MonomialOrder.{grevlex_key}
use Rattle.fj_theory.specs.Polynomial.{Polynomial, IsPolynomial, degree, product, term}
use Rattle.fj_theory.proofs.Degree.{degree-empty, degree-product, degree-term}
use Rattle.fj_theory.proofs.Exponents.{IsExponents-origin, total_origin}
use Rattle.fj_theory.proofs.Field.{zero_below}
use Rattle.fj_theory.proofs.Ideal.{Member-Contains, Member-product}
use Rattle.fj_theory.proofs.IdealBridge.{over}
use Rattle.fj_theory.proofs.Keys.{grevlex_key-IsMonomialOrder}
use Rattle.fj_theory.proofs.Lead.{lead_coefficient-below, lead_coefficient-nonzero}
use Rattle.fj_theory.proofs.Polynomial.{IsPolynomial-term}
use Rattle.fj_theory.proofs.Product.{IsPolynomial-product}
use Rattle.fj_theory.proofs.Roots.{inverse_positive}
use Rattle.fj_groebner.proofs.ReducedBasis.{lead-from_IsMonic}
use Rattle.fj_groebner.proofs.Run.{monic_over-IsMonic, monic_over-map}
use Rattle.fj_ideal.proofs.ReducedBasis.{one_from_degree}

module _ {F : Field} (L : IsField F) where
  -- A constant that isn't zero is made 1.
  unit_of_constant : {g : Polynomial} → IsPolynomial F g → degree g ≡ Some 0 → (c : Polynomial) × IsPolynomial F c × (product F c g ≡ term 1 origin)
  unfolding made_monic
  unit_of_constant {g} P d =
      let K = grevlex_key-IsMonomialOrder in
      let some : g ≢ empty = λ e. none-some 0 (sym degree-empty ∙ ap degree (sym e) ∙ d) in
      let lead = lead_coefficient grevlex_key g in
      let positive = lead_coefficient-nonzero K P some in
      let below = lead_coefficient-below K P (zero_below L) in
      let small = L.inverse_below lead positive below in
      let constant = IsPolynomial-term {F = F} (F.inverse lead) small IsExponents-origin in
      let monic = ap (lead_coefficient grevlex_key) (sym (monic_over-map K L (over P) some)) ∙ lead-from_IsMonic K L (monic_over-IsMonic K L (over P) some) in
      let flat = degree-term F (F.inverse lead) (inverse_positive L lead positive below) small IsExponents-origin ∙ ap Some total_origin in
      (term (F.inverse lead) origin, constant, one_from_degree L (IsPolynomial-product L constant P) monic (degree-product L constant P flat d))

  pub unit_from_constant : {M : List Polynomial} → ArePolynomials F M → Any (λ g. degree g ≡ Some 0) M → Member F M (term 1 origin)
  unit_from_constant {M} A (k, g, l, e, d) =
      let P = subst (IsPolynomial F) e (A.each k g l) in
      let made = unit_of_constant P d in
      subst (Member F M) made.2 (Member-product L A made.1 (Member-Contains L A (k, l, e)))
