use Rattle.std.proofs.Common.{◌≡◌, ◌∷◌, [], List, sym, subst}
use Rattle.std.proofs.lemmas.Result.{IfOk-weaker}
use Rattle.fj_theory.specs.MonomialOrder.{grevlex_key}
use Rattle.fj_theory.specs.Polynomial.{Polynomial}
use Rattle.fj_theory.proofs.IdealBridge.{ArePolynomials-single}
use Rattle.fj_theory.proofs.Keys.{grevlex_key-IsMonomialOrder}
use Rattle.fj_groebner.specs.ReducedBasis.{IsReducedBasis}
use Rattle.fj_groebner.proofs.Lacking.{IsReducedBasis-UsesFirst}
use Rattle.fj_plain.specs.declared.order_name.OrderName.TheVariants.{Grevlex}
use Rattle.fj_ideal.specs.Lists.{NoProduct, RunFor}
use Rattle.fj_ideal.proofs.HighProducts.{Contains-single}
use Rattle.fj_ideal.proofs.Stops.{only_from_exactly, only_of_more, run_exactly}
use Rattle.fj_elim.specs.Lists.{IsColonList, IsHighInColon, IsQuotientList}
use Rattle.fj_elim.proofs.Quotients.{basis_of_quotients, list_of_quotients}
use Rattle.fj_elim.proofs.bases.basis_by_one.Goals as goal

pub returns-clause-basis : goal.returns-clause-basis
returns-clause-basis g c =
    let F = g.K.Coeff.field in
    IfOk-weaker c.reduced_basis.result _ _
    (λ C S. basis_of_quotients g.met.K.Coeff.lawful c.look_over.ensures (ArePolynomials-single c.is_zero.ensures.polynomial) c.in_ok-quotients.ensures.colon
    (subst (λ (M : List Polynomial). IsReducedBasis F grevlex_key M C.items) c.deref.ensures.value S))
    c.reduced_basis.ensures.reduced

pub returns-clause-variables : goal.returns-clause-variables
returns-clause-variables g c =
    let F = g.K.Coeff.field in
    IfOk-weaker c.reduced_basis.result _ _
    (λ C S. IsReducedBasis-UsesFirst grevlex_key-IsMonomialOrder g.met.K.Coeff.lawful c.in_ok-quotients.ensures.colon.polynomials c.in_ok-quotients.ensures.variables
    (subst (λ (M : List Polynomial). IsReducedBasis F grevlex_key M C.items) c.deref.ensures.value S))
    c.reduced_basis.ensures.reduced

pub returns-clause-stop : goal.returns-clause-stop
returns-clause-stop g c =
    let F = g.K.Coeff.field in
    let A = c.args.list.now in
    let h = c.args.g.now in
    let Q = c.deref.result.now in
    let list = subst (IsQuotientList F A h) (sym c.deref.ensures.value) c.in_ok-quotients.ensures.list in
    only_of_more F c.args.pairs (RunFor Grevlex (λ N. N ≡ Q)) (IsColonList F A (h ∷ [])) NoProduct (IsHighInColon F A (h ∷ [])) (list_of_quotients F A (h ∷ []) h (Contains-single h) c.requires.nonzero Q list) (λ M none. absurd none)
    c.reduced_basis.result (only_from_exactly F c.args.pairs (RunFor Grevlex (λ N. N ≡ Q)) NoProduct c.reduced_basis.result (run_exactly F c.args.pairs Grevlex Q c.reduced_basis.result c.reduced_basis.ensures.stop))
