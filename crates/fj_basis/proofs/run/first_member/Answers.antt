use Rattle.std.proofs.Common.{◌≡◌, ◌≢◌, get_or, refl, ap, ◌∙◌, sym, subst, arith}
use Rattle.std.specs.FinMap.{empty}
use Rattle.std.specs.Option.{option_map}
use Rattle.std.proofs.lemmas.List.{get_or_default}
use Rattle.fj_theory.specs.Exponents.{origin}
use Rattle.fj_theory.specs.Lead.{lead_coefficient}
use Rattle.fj_theory.specs.Polynomial.{product, term}
use Rattle.fj_groebner.specs.Run.{given}
use Rattle.fj_theory.proofs.Lead.{lead_coefficient-nonzero}
use Rattle.fj_basis.proofs.DivisionState.{lead-none, lead-parts, some-lead}
use Rattle.fj_basis.proofs.NextMember.{monic-is}
use Rattle.fj_basis.proofs.run.first_member.Goals as goal

pub returns-in_default : goal.returns-in_default
returns-in_default g c =
    let at = c.index-list-j.is ∙ get_or_default c.args.list.now c.args.j c.index-list-j.result empty c.requires.at in
    record { found = sym at ∙ lead-none g.met.O.Order.monomial_order c.lead.ensures.polynomial (sym c.lead.ensures.lead ∙ ap (option_map _) c.in_default.is) }

pub inv-inverse-requires : goal.inv-inverse-requires
inv-inverse-requires g c =
    let O = g.met.O.Order.monomial_order in
    let is = sym c.in-Some.ensures.lead in
    let parts = lead-parts g.O.Order.key c.index-list-j.result _ is in
    let positive = lead_coefficient-nonzero O c.lead.ensures.polynomial (some-lead g.K.Coeff.field O is) in
    let same = parts.1 in
    λ z. absurd (omega (arith, positive, same, z))

pub returns : goal.returns
unfolding given
returns g c =
    let key = g.O.Order.key in
    let F = g.K.Coeff.field in
    let O = g.met.O.Order.monomial_order in
    let f = get_or c.args.list.now c.args.j empty in
    let at : c.index-list-j.result ≡ f = c.index-list-j.is ∙ get_or_default c.args.list.now c.args.j c.index-list-j.result empty c.requires.at in
    let is = sym c.in-Some.ensures.lead in
    let parts = lead-parts key c.index-list-j.result _ is in
    let inverse : g.K.Coeff.rank c.inv-inverse.result ≡ F.inverse (lead_coefficient key f) = c.inv-inverse.ensures ∙ ap F.inverse (sym parts.1 ∙ ap (lead_coefficient key) at) in
    record {
      found = (
        subst (λ h. h ≢ empty) at (some-lead F O is),
        monic-is F key (given f) _ _ (g.K.Coeff.rank c.inv-inverse.result) inverse
            (c.in_ok-scale.ensures.value ∙ ap (product F (term (g.K.Coeff.rank c.inv-inverse.result) origin)) at) (c.sugar_of.ensures.value ∙ ap (λ h. (given h).sugar) at),
        c.sugar_of.ensures.low,
        refl,
        inverse,
      );
    }
