use Rattle.std.proofs.Common.{◌≡◌, ◌++◌, ◌+◌, length, sym, ap, ◌∙◌, subst}
use Rattle.std.proofs.lemmas.List.{length-map}
use Rattle.fj_theory.specs.Ideal.{ArePolynomials}
use Rattle.fj_groebner.specs.Division.{DegreeAtMost, IsLowDivision}
use Rattle.fj_groebner.proofs.Division.{IsDivision-length, IsDivision-quotients}
use Rattle.fj_basis.specs.History.{HasRecordedMember}
use Rattle.fj_basis.specs.Members.{sugared, sugared_members}
use Rattle.fj_basis.proofs.finishing.replacement.Goals as goal

pub record-requires-clause-quotients : goal.record-requires-clause-quotients
record-requires-clause-quotients g c =
    subst (ArePolynomials g.K.Coeff.field) (sym c.quotients.ensures)
    (IsDivision-quotients g.met.O.Order.monomial_order g.met.K.Coeff.lawful (sugared_members c.args.replaced.now) c.requires.polynomials c.requires.nonzero {h = sugared c.args.member} c.requires.polynomial
    c.in_ok-division.ensures.value.division)

pub record-requires-clause-recorded : goal.record-requires-clause-recorded
record-requires-clause-recorded g c = λ was.
    c.requires.recorded was
    ∙ ap (λ n. c.args.from + n) (sym (ap length c.quotients.ensures
    ∙ IsDivision-length g.met.O.Order.monomial_order g.met.K.Coeff.lawful (sugared_members c.args.replaced.now) c.requires.polynomials c.requires.nonzero {h = sugared c.args.member} c.requires.polynomial
    c.in_ok-division.ensures.value.division ∙ length-map c.args.replaced.now sugared))

pub returns-clause-value : goal.returns-clause-value
returns-clause-value g c = record {
  last = c.in_ok-division.division;
  division = c.in_ok-division.ensures.value;
  polynomial = c.into_parts-polynomial.ensures.remainder;
  sugar = c.into_parts-polynomial.ensures.sugar;
}

pub returns-clause-recorded : goal.returns-clause-recorded
returns-clause-recorded g c = λ G long P place at.
    let F = g.K.Coeff.field in
    let key = g.O.Order.key in
    let B = sugared_members c.args.replaced.now in
    let last = c.in_ok-division.division in
    let is : record { polynomial = last.remainder; sugar = last.sugar } ≡ record { polynomial = c.into_parts-polynomial.result.1; sugar = c.into_parts-polynomial.result.2 } =
    (λ i. record { polynomial = sym c.into_parts-polynomial.ensures.remainder i; sugar = sym c.into_parts-polynomial.ensures.sugar i }) in
    subst (λ h. HasRecordedMember F (G ++ B) h c.args.history.now c.record.new.history) is
    (c.in_ok-record.ensures G B last long place P (record { polynomials = c.requires.polynomials; nonzero = c.requires.nonzero; within = c.requires.within })
    (subst (λ h. DegreeAtMost h.sugar h.polynomial) (sym at) c.requires.bound) (subst (λ h. IsLowDivision F key B h last) (sym at) c.in_ok-division.ensures.value) c.quotients.ensures)
