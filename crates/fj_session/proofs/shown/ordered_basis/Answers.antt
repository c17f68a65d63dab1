use Rattle.std.proofs.Common.{◌≡◌, ◌∙◌, List, subst, sym}
use Rattle.fj_theory.specs.Polynomial.{Polynomial}
use Rattle.fj_basis.specs.Basis.{IsMadeOf}
use Rattle.fj_session.proofs.Certifying.{basis_certificate}
use Rattle.fj_session.proofs.shown.ordered_basis.Goals as goal

pub cert-requires-clause-made : goal.cert-requires-clause-made
cert-requires-clause-made g c =
    let is = c.deref.ensures.value ∙ c.in_ok-given.ensures ∙ c.members.ensures.value in
    subst (λ (L : List Polynomial). IsMadeOf g.K.Coeff.field L c.in_ok-basis.basis) (sym is) c.in_ok-basis.ensures.made

pub returns-clause-certificate : goal.returns-clause-certificate
returns-clause-certificate g c =
    let is = c.deref.ensures.value ∙ c.in_ok-given.ensures ∙ c.members.ensures.value in
    basis_certificate c.in_ok-basis.basis c.in_ok-plain_list.field-0 g.met.K.Coeff.characteristic_is is (c.in_ok-plain_list.ensures.value ∙ c.members-2.ensures) c.in_ok-cert.ensures.value
