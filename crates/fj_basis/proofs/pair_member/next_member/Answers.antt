use Rattle.std.proofs.Common.{◌≡◌, ◌≢◌, ◌<◌, length, All, refl, ap, ◌∙◌, sym, subst, subst₂, arith}
use Rattle.std.specs.Option.{option_map}
use Rattle.std.specs.FinMap.{empty}
use Rattle.std.proofs.lemmas.Result.{err_from_is_err_and}
use Rattle.fj_theory.specs.Exponents.{origin}
use Rattle.fj_theory.specs.Ideal.{ArePolynomials}
use Rattle.fj_theory.specs.Lead.{lead_coefficient}
use Rattle.fj_theory.specs.Polynomial.{product, term}
use Rattle.fj_groebner.specs.Division.{AreWithinSugars, DegreeAtMost, IsLowDivision, polynomials_of}
use Rattle.fj_groebner.specs.Run.{s_polynomial}
use Rattle.fj_groebner.proofs.Division.{IsDivision-quotients}
use Rattle.fj_theory.proofs.Lead.{lead_coefficient-nonzero}
use Rattle.fj_basis.specs.Members.{sugared_members}
use Rattle.fj_basis.specs.History.{HasRecordedMember}
use Rattle.fj_basis.proofs.DivisionState.{lead-none, lead-parts, some-lead}
use Rattle.fj_basis.proofs.HighOnly.{only_only}
use Rattle.fj_basis.proofs.Leading.{places}
use Rattle.fj_basis.proofs.MonicMembers.{monic-AreGood}
use Rattle.fj_basis.proofs.NextMember.{high-start, monic-is}
use Rattle.fj_basis.proofs.pair_member.next_member.Goals as goal

pub returns-in_err-s-clause-high : goal.returns-in_err-s-clause-high
returns-in_err-s-clause-high g c =
    let G = sugared_members c.args.members.now in
    let p = err_from_is_err_and c.from_residual.result c.from_residual.ensures.1 in
    only_only (Unit {0}) _ _ _ _ p.0 c.in_err-s.field-0.0 p.1 p.2
    (λ high. high-start g.K.Coeff.field g.O.Order.key G (s_polynomial g.K.Coeff.field g.O.Order.key G (c.args.pair.now.i, c.args.pair.now.j)) high) c.in_err-s.ensures.high

pub divide_sugared-requires-clause-polynomials : goal.divide_sugared-requires-clause-polynomials
divide_sugared-requires-clause-polynomials g c =
    let good = monic-AreGood g.met.K.Coeff.lawful g.met.O.Order.monomial_order c.requires.members in
    good.polynomials

pub divide_sugared-requires-clause-nonzero : goal.divide_sugared-requires-clause-nonzero
divide_sugared-requires-clause-nonzero g c =
    let good = monic-AreGood g.met.K.Coeff.lawful g.met.O.Order.monomial_order c.requires.members in
    good.nonzero

pub divide_sugared-requires-clause-within : goal.divide_sugared-requires-clause-within
divide_sugared-requires-clause-within g c =
    let good = monic-AreGood g.met.K.Coeff.lawful g.met.O.Order.monomial_order c.requires.members in
    good.within

pub divide_sugared-requires-clause-bound : goal.divide_sugared-requires-clause-bound
divide_sugared-requires-clause-bound g c =
    let good = monic-AreGood g.met.K.Coeff.lawful g.met.O.Order.monomial_order c.requires.members in
    let items = c.args.members.now in
    let i = c.args.pair.now.i in
    let j = c.args.pair.now.j in
    let first = c.requires.first in
    let second = c.requires.second in
    let l : i < length items = omega (arith, first, second) in
    subst (λ h. DegreeAtMost h.sugar h.polynomial) (sym c.in_ok-s.ensures.value) (good.s_within i j (places items i l) (places items j second))

pub returns-in_default-clause-value : goal.returns-in_default-clause-value
returns-in_default-clause-value g c =
    let key = g.O.Order.key in
    let F = g.K.Coeff.field in
    let D = subst (λ h. IsLowDivision F key (sugared_members c.args.members.now) h c.in_ok-division.division) c.in_ok-s.ensures.value c.in_ok-division.ensures.value in
    record {
      last = c.in_ok-division.division;
      division = D;
      found = (sym c.remainder.ensures ∙ lead-none g.met.O.Order.monomial_order c.lead.ensures.polynomial (sym c.lead.ensures.lead ∙ ap (option_map _) c.in_default.is), refl);
    }

pub record-requires-clause-quotients : goal.record-requires-clause-quotients
record-requires-clause-quotients g c =
    let key = g.O.Order.key in
    let F = g.K.Coeff.field in
    let L = g.met.K.Coeff.lawful in
    let O = g.met.O.Order.monomial_order in
    let G = sugared_members c.args.members.now in
    let good = monic-AreGood L O c.requires.members in
    let D = subst (λ h. IsLowDivision F key (sugared_members c.args.members.now) h c.in_ok-division.division) c.in_ok-s.ensures.value c.in_ok-division.ensures.value in
    subst (ArePolynomials F) (sym c.quotients.ensures) (IsDivision-quotients O L G good.polynomials good.nonzero (good.s_is c.args.pair.now.i c.args.pair.now.j) D.division)

pub inv-inverse-requires : goal.inv-inverse-requires
inv-inverse-requires g c =
    let O = g.met.O.Order.monomial_order in
    let is = sym c.in-Some.ensures.lead in
    let parts = lead-parts g.O.Order.key c.remainder.result.now _ is in
    let positive = lead_coefficient-nonzero O c.lead.ensures.polynomial (some-lead g.K.Coeff.field O is) in
    let same = parts.1 in
    λ z. absurd (omega (arith, positive, same, z))

pub returns-clause-value : goal.returns-clause-value
returns-clause-value g c =
    let key = g.O.Order.key in
    let F = g.K.Coeff.field in
    let O = g.met.O.Order.monomial_order in
    let G = sugared_members c.args.members.now in
    let D = subst (λ h. IsLowDivision F key (sugared_members c.args.members.now) h c.in_ok-division.division) c.in_ok-s.ensures.value c.in_ok-division.ensures.value in
    let last = c.in_ok-division.division in
    let is = sym c.in-Some.ensures.lead in
    let parts = lead-parts key c.remainder.result.now _ is in
    let some : last.remainder ≢ empty = subst (λ f. f ≢ empty) c.remainder.ensures (some-lead F O is) in
    let inverse : g.K.Coeff.rank c.inv-inverse.result ≡ F.inverse (lead_coefficient key last.remainder) = c.inv-inverse.ensures ∙ ap F.inverse (sym parts.1 ∙ ap (lead_coefficient key) c.remainder.ensures) in
    let monic =
    monic-is F key (record { polynomial = last.remainder; sugar = last.sugar }) _ _ (g.K.Coeff.rank c.inv-inverse.result) inverse
    (c.in_ok-scale.ensures.value ∙ ap (product F (term (g.K.Coeff.rank c.inv-inverse.result) origin)) c.into_parts-remainder.ensures.remainder) c.into_parts-remainder.ensures.sugar in
    record {
      last = last;
      division = D;
      found = (
        some,
        monic,
        refl,
        subst (λ m. HasRecordedMember F G m c.args.history.now c.record.new.history) (sym monic) (c.in_ok-record.ensures last D c.quotients.ensures some inverse),
      );
    }
