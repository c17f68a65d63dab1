use Rattle.std.proofs.Common.{◌≡◌, ◌≢◌, ◌∷◌, [], ◌∙◌, All, true≢false, sym, ap, subst}
use Rattle.std.specs.FinMap.{empty}
use Rattle.std.proofs.lemmas.Result.{IfOk-weaker}
use Rattle.fj_theory.specs.Colon.{IsColon}
use Rattle.fj_theory.specs.PointIdeal.{UsesFirst}
use Rattle.fj_theory.proofs.IdealBridge.{ArePolynomials-single}
use Rattle.fj_plain.specs.declared.order_name.OrderName.TheVariants.{Grevlex}
use Rattle.fj_ideal.specs.Lists.{NoProduct, RunFor}
use Rattle.fj_ideal.proofs.HighProducts.{Contains-single}
use Rattle.fj_ideal.proofs.Stops.{only_from_exactly, only_of_more}
use Rattle.fj_elim.specs.Lists.{IsColonList, IsHighInColon, IsQuotientList}
use Rattle.fj_elim.proofs.Quotients.{colon_by_zero, colon_of_members, list_of_quotients, members-lack, unit-lacks}
use Rattle.fj_elim.proofs.colons.colon_by.Goals as goal

pub returns-then-is_zero-clause-colon : goal.returns-then-is_zero-clause-colon
returns-then-is_zero-clause-colon g c =
    subst (IsColon g.K.Coeff.field c.args.a.now.given (c.args.g.now ∷ [])) (sym (ap (λ J. J.given) c.in_ok-unit.ensures.value))
    (colon_by_zero g.met.K.Coeff.lawful (c.members-members.ensures.ideal).polynomials (c.is_zero.ensures.zero.0 c.if-is_zero.true))

pub returns-then-is_zero-clause-variables : goal.returns-then-is_zero-clause-variables
returns-then-is_zero-clause-variables g c = subst (All (UsesFirst 7)) (sym (ap (λ J. J.members) c.in_ok-unit.ensures.value)) (unit-lacks g.met.K.Coeff.lawful)

pub quotient_list-requires-clause-nonzero : goal.quotient_list-requires-clause-nonzero
quotient_list-requires-clause-nonzero g c = λ e. true≢false (sym (c.is_zero.ensures.zero.1 e) ∙ c.if-is_zero.false)

pub returns-clause-colon : goal.returns-clause-colon
returns-clause-colon g c =
    let F = g.K.Coeff.field in
    let L = g.met.K.Coeff.lawful in
    let I = c.members-members.ensures.ideal in
    let h = c.args.g.now in
    let quotients = subst (λ A. IsColon F A (h ∷ []) c.in_ok-list.list.items) c.members-members.ensures.value c.in_ok-list.ensures.colon in
    IfOk-weaker c.of_owned.result _ _
    (λ J S. colon_of_members L I (ArePolynomials-single c.is_zero.ensures.polynomial) S.ideal.polynomials (subst (IsColon F c.args.a.now.members (h ∷ [])) (sym S.given) quotients))
    c.of_owned.ensures.value

pub returns-clause-variables : goal.returns-clause-variables
returns-clause-variables g c =
    IfOk-weaker c.of_owned.result _ _ (λ J S. members-lack g.met.K.Coeff.lawful S.ideal (subst (All (UsesFirst 7)) (sym S.given) c.in_ok-list.ensures.variables)) c.of_owned.ensures.value

pub returns-clause-stop : goal.returns-clause-stop
returns-clause-stop g c =
    let F = g.K.Coeff.field in
    let A = c.args.a.now.members in
    let h = c.args.g.now in
    let Q = c.in_ok-list.list.items in
    let some : h ≢ empty = λ e. true≢false (sym (c.is_zero.ensures.zero.1 e) ∙ c.if-is_zero.false) in
    let list = subst (λ M. IsQuotientList F M h Q) c.members-members.ensures.value c.in_ok-list.ensures.list in
    only_of_more F c.args.pairs (RunFor Grevlex (λ N. N ≡ Q)) (IsColonList F A (h ∷ [])) NoProduct (IsHighInColon F A (h ∷ [])) (list_of_quotients F A (h ∷ []) h (Contains-single h) some Q list) (λ M none. absurd none)
    c.of_owned.result (only_from_exactly F c.args.pairs (RunFor Grevlex (λ N. N ≡ Q)) NoProduct c.of_owned.result c.of_owned.ensures.stop)
