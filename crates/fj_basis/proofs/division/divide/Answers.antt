use Rattle.std.proofs.Common.{◌≡◌, ◌≢◌, ◌≤◌, ℕ, map, length, All, ap, ap₂, ◌∙◌, sym, subst, arith}
use Rattle.std.specs.FinMap.{empty}
use Rattle.std.proofs.lemmas.Result.{err_from_is_err_and}
use Rattle.std.proofs.lemmas.List.{length-map}
use Rattle.std.proofs.lemmas.List.Elements.{All-map, All-weaker}
use Rattle.fj_coeff.specs.Field.{Field, IsField}
use Rattle.fj_theory.specs.Ideal.{ArePolynomials, list_combination}
use Rattle.fj_theory.specs.Polynomial.{Polynomial, IsPolynomial, sum}
use Rattle.fj_groebner.specs.Run.{given}
use Rattle.fj_groebner.specs.Division.{DegreeAtMost, IsHighDivision, IsLowDivision, degree_limit}
use Rattle.fj_groebner.proofs.DegreeOrder.{polynomials_of-given, IsHighDivision-degree}
use Rattle.fj_groebner.proofs.Division.{IsLowDivision-IsHighDivision, division_identity, IsDivision-length}
use Rattle.fj_groebner.proofs.HighDivision.{IsHighDivision-SubtractsHigh, SubtractsHigh-IsHighDivision}
use Rattle.fj_groebner.proofs.Sugar.{given-DegreeAtMost}
use Rattle.fj_basis.proofs.Faults.{handed_on}
use Rattle.fj_basis.proofs.division.divide.Goals as goal

given_is : (f : Polynomial) (n : ℕ) → n ≡ (given f).sugar → record { polynomial = f; sugar = n } ≡ given f
unfolding given
given_is f n e = λ i. record { polynomial = f; sugar = e i }

low_degree : {F : Field} → IsField F → {f : Polynomial} → IsPolynomial F f → (given f).sugar ≤ degree_limit → DegreeAtMost degree_limit f
low_degree L {f} P low = let own = given-DegreeAtMost L P in record { within = λ a p. let b = own.within a p in omega (arith, b, low) }

pub divide_sugared-requires-clause-polynomials : goal.divide_sugared-requires-clause-polynomials
divide_sugared-requires-clause-polynomials g c = subst (ArePolynomials g.K.Coeff.field) (sym (polynomials_of-given c.args.list.now)) c.look_over.ensures

pub divide_sugared-requires-clause-nonzero : goal.divide_sugared-requires-clause-nonzero
divide_sugared-requires-clause-nonzero g c = subst (All (λ f. f ≢ empty)) (sym (polynomials_of-given c.args.list.now)) c.requires

pub divide_sugared-requires-clause-within : goal.divide_sugared-requires-clause-within
unfolding given
divide_sugared-requires-clause-within g c =
    All-map (λ s. DegreeAtMost s.sugar s.polynomial) given c.args.list.now
    (All-weaker (IsPolynomial g.K.Coeff.field) (λ f. DegreeAtMost (given f).sugar f) (λ f P. given-DegreeAtMost g.met.K.Coeff.lawful P) c.args.list.now c.look_over.ensures.each)

pub divide_sugared-requires-clause-bound : goal.divide_sugared-requires-clause-bound
divide_sugared-requires-clause-bound g c =
    subst (λ n. DegreeAtMost n c.args.h.now) (sym c.sugar_of.ensures.value) (given-DegreeAtMost g.met.K.Coeff.lawful c.sugar_of.ensures.polynomial)

pub returns-in_err-division-clause-high : goal.returns-in_err-division-clause-high
returns-in_err-division-clause-high g c =
    let p = err_from_is_err_and c.from_residual.result c.from_residual.ensures.1 in
    handed_on (Unit {0}) _ _ _ _ p.0 c.in_err-division.field-0.0 p.1 p.2
    (λ high. IsHighDivision-SubtractsHigh g.met.O.Order.monomial_order g.met.K.Coeff.lawful c.args.list.now c.look_over.ensures c.requires c.sugar_of.ensures.polynomial
    (low_degree g.met.K.Coeff.lawful c.sugar_of.ensures.polynomial (omega (arith, c.sugar_of.ensures.value, c.sugar_of.ensures.low)))
    (subst (IsHighDivision g.K.Coeff.field g.O.Order.key (map given c.args.list.now)) (given_is c.args.h.now c.sugar_of.result c.sugar_of.ensures.value) high))
    c.in_err-division.ensures.high

pub returns-in_err-division-clause-degree_order : goal.returns-in_err-division-clause-degree_order
returns-in_err-division-clause-degree_order g c = λ D.
    let p = err_from_is_err_and c.from_residual.result c.from_residual.ensures.1 in
    handed_on (Unit {0}) _ _ _ _ p.0 c.in_err-division.field-0.0 p.1 p.2
    (λ high.
    let above = IsHighDivision-degree g.met.O.Order.monomial_order D g.met.K.Coeff.lawful c.args.list.now c.look_over.ensures c.requires c.sugar_of.ensures.polynomial
    (subst (IsHighDivision g.K.Coeff.field g.O.Order.key (map given c.args.list.now)) (given_is c.args.h.now c.sugar_of.result c.sugar_of.ensures.value) high) in
    absurd (omega (arith, above, c.sugar_of.ensures.value, c.sugar_of.ensures.low)))
    c.in_err-division.ensures.high

pub returns-clause-value : goal.returns-clause-value
returns-clause-value g c = record {
  last = c.in_ok-division.division;
  division = subst (λ h. IsLowDivision g.K.Coeff.field g.O.Order.key (map given c.args.list.now) h c.in_ok-division.division) (given_is c.args.h.now c.sugar_of.result c.sugar_of.ensures.value)
      c.in_ok-division.ensures.value;
  quotients_are = sym c.into_parts-quotients.ensures.quotients;
  remainder_is = sym c.into_parts-quotients.ensures.remainder;
}

pub returns-clause-identity : goal.returns-clause-identity
returns-clause-identity g c =
    let F = g.K.Coeff.field in
    division_identity g.met.O.Order.monomial_order g.met.K.Coeff.lawful (map given c.args.list.now)
    (subst (ArePolynomials F) (sym (polynomials_of-given c.args.list.now)) c.look_over.ensures)
    (subst (All (λ f. f ≢ empty)) (sym (polynomials_of-given c.args.list.now)) c.requires) c.sugar_of.ensures.polynomial (c.in_ok-division.ensures.value).division
    ∙ ap₂ (sum F) (ap₂ (list_combination F) (sym c.into_parts-quotients.ensures.quotients) (polynomials_of-given c.args.list.now)) (sym c.into_parts-quotients.ensures.remainder)

pub returns-clause-long : goal.returns-clause-long
returns-clause-long g c =
    let F = g.K.Coeff.field in
    ap length c.into_parts-quotients.ensures.quotients
    ∙ IsDivision-length g.met.O.Order.monomial_order g.met.K.Coeff.lawful (map given c.args.list.now)
    (subst (ArePolynomials F) (sym (polynomials_of-given c.args.list.now)) c.look_over.ensures)
    (subst (All (λ f. f ≢ empty)) (sym (polynomials_of-given c.args.list.now)) c.requires) c.sugar_of.ensures.polynomial (c.in_ok-division.ensures.value).division
    ∙ length-map c.args.list.now given

pub returns-clause-high : goal.returns-clause-high
returns-clause-high g c = λ subtracts.
    IsLowDivision-IsHighDivision
    (subst (λ h. IsLowDivision g.K.Coeff.field g.O.Order.key (map given c.args.list.now) h c.in_ok-division.division) (given_is c.args.h.now c.sugar_of.result c.sugar_of.ensures.value)
    c.in_ok-division.ensures.value)
    (SubtractsHigh-IsHighDivision g.met.O.Order.monomial_order g.met.K.Coeff.lawful c.args.list.now c.look_over.ensures c.requires c.sugar_of.ensures.polynomial subtracts)
