use Rattle.std.proofs.Common.{◌≢◌, ◌∙◌, All, sym, ap, subst, subst₂, arith}
use Rattle.std.specs.FinMap.{empty}
use Rattle.std.proofs.lemmas.Result.{IfOk-weaker}
use Rattle.fj_theory.specs.Colon.{IsColon}
use Rattle.fj_theory.specs.PointIdeal.{UsesFirst}
use Rattle.fj_theory.proofs.Colon.{IsColon-zeros}
use Rattle.fj_ideal.proofs.ReducedBasis.{members_nonzero, one_element, zero_from_members}
use Rattle.fj_elim.specs.Lists.{IsColonBasis, IsColonGiven}
use Rattle.fj_elim.proofs.Quotients.{colon_by_members, colon_of_bases, no_member, unit-lacks}
use Rattle.fj_elim.proofs.colons.colon.Goals as goal

pub colon_basis-requires-clause-nonzero : goal.colon_basis-requires-clause-nonzero
colon_basis-requires-clause-nonzero g c = subst (All (λ f. f ≢ empty)) (sym c.members.ensures.value) (members_nonzero g.met.K.Coeff.lawful c.members.ensures.ideal)

pub returns-in_ok-unit-in-empty-clause-colon : goal.returns-in_ok-unit-in-empty-clause-colon
returns-in_ok-unit-in-empty-clause-colon g c =
    let L = g.met.K.Coeff.lawful in
    let none = sym c.members.ensures.value ∙ no_member c.members.result.now c.in-empty.len_below in
    subst (IsColon g.K.Coeff.field c.args.a.now.given c.args.b.now.given) (sym (ap (λ J. J.given) c.in_ok-unit-in-empty.ensures.value))
    (IsColon-zeros L (c.given.ensures.ideal).polynomials ((zero_from_members L c.members.ensures.ideal).0 none))

pub returns-in_ok-unit-in-empty-clause-given : goal.returns-in_ok-unit-in-empty-clause-given
returns-in_ok-unit-in-empty-clause-given g c =
    let none = sym c.members.ensures.value ∙ no_member c.members.result.now c.in-empty.len_below in
    subst (λ B. IsColonGiven g.K.Coeff.field c.args.a.now.members B c.in_ok-unit-in-empty.field-0.given) (sym none) (ap (λ J. J.given) c.in_ok-unit-in-empty.ensures.value)

pub returns-in_ok-unit-in-empty-clause-variables : goal.returns-in_ok-unit-in-empty-clause-variables
returns-in_ok-unit-in-empty-clause-variables g c = subst (All (UsesFirst 7)) (sym (ap (λ J. J.members) c.in_ok-unit-in-empty.ensures.value)) (unit-lacks g.met.K.Coeff.lawful)

pub returns-in-len1-clause-colon : goal.returns-in-len1-clause-colon
returns-in-len1-clause-colon g c =
    let F = g.K.Coeff.field in
    let single = sym c.members.ensures.value ∙ one_element c.members.result.now c.g-item.result (omega arith) c.g-item.is in
    IfOk-weaker c.colon_by.result _ _
    (λ J colon. colon_by_members g.met.K.Coeff.lawful c.given.ensures.ideal c.members.ensures.ideal (subst (λ B. IsColon F c.args.a.now.given B J.given) (sym single) colon))
    c.colon_by.ensures.colon

pub returns-in-len1-clause-given : goal.returns-in-len1-clause-given
returns-in-len1-clause-given g c =
    let F = g.K.Coeff.field in
    let single = sym c.members.ensures.value ∙ one_element c.members.result.now c.g-item.result (omega arith) c.g-item.is in
    let nonzero : c.g-item.result ≢ empty = subst (All (λ f. f ≢ empty)) single (members_nonzero g.met.K.Coeff.lawful c.members.ensures.ideal) 0 c.g-item.result (omega arith) in
    IfOk-weaker c.colon_by.result _ _ (λ J given. subst (λ B. IsColonGiven F c.args.a.now.members B J.given) (sym single) given) (c.colon_by.ensures.given nonzero)

pub returns-in_ok-of_reduced-in_default-clause-colon : goal.returns-in_ok-of_reduced-in_default-clause-colon
returns-in_ok-of_reduced-in_default-clause-colon g c =
    let F = g.K.Coeff.field in
    let list = c.in_ok-list-in_default.list.items in
    let basis = subst₂ (λ A B. IsColonBasis F A B list) c.members-in_default.ensures.value c.members.ensures.value c.in_ok-list-in_default.ensures.basis in
    subst (IsColon F c.args.a.now.given c.args.b.now.given) (sym (ap (λ J. J.given) c.in_ok-of_reduced-in_default.ensures.value))
    (colon_of_bases g.met.K.Coeff.lawful c.given.ensures.ideal c.members.ensures.ideal basis)
