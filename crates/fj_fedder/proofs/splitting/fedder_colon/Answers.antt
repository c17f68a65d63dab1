use Rattle.std.proofs.Common.{◌≢◌, ◌^◌, ◌∷◌, [], ◌∙◌, List, All, Contains, Err, inl, inr, refl, sym, ap, ap₂, subst, subst₂, arith}
use Rattle.std.specs.FinMap.{empty}
use Rattle.std.proofs.lemmas.Result.{IfOk-weaker}
use Rattle.fj_theory.specs.PointIdeal.{UsesFirst}
use Rattle.fj_theory.specs.Polynomial.{Polynomial, term}
use Rattle.fj_plain.specs.declared.order_name.OrderName.TheVariants.{Grevlex}
use Rattle.fj_ideal.specs.Lists.{RunFor}
use Rattle.fj_ideal.specs.Reduced.{WithMembers}
use Rattle.fj_ideal.specs.Stop.{StopsOnlyWith}
use Rattle.fj_ideal.proofs.HighProducts.{Contains-single}
use Rattle.fj_ideal.proofs.ReducedBasis.{members_nonzero, one_element}
use Rattle.fj_ideal.proofs.Stops.{only_from_exactly, only_handed_on, only_of_more}
use Rattle.fj_frobenius.specs.Lists.{IsHighMember, IsPowerList}
use Rattle.fj_elim.specs.Lists.{IsColonBasis, IsColonList, IsHighInColon}
use Rattle.fj_elim.proofs.Quotients.{no_member, unit-lacks}
use Rattle.fj_fedder.specs.Fedder.{IsFedderColon}
use Rattle.fj_fedder.specs.Lists.{IsFedderColonBasis, IsHighInSplit, IsListForColon}
use Rattle.fj_fedder.proofs.Splits.{colon_by_none, colon_by_single, colon_of_power, power-basis, power-lacks}
use Rattle.fj_fedder.proofs.splitting.fedder_colon.Goals as goal

pub returns-in_err-power-clause-stop : goal.returns-in_err-power-clause-stop
returns-in_err-power-clause-stop g c =
    let F = g.K.Coeff.field in
    let q = F.characteristic ^ 1 in
    let G = c.args.i.now.members in
    only_handed_on F c.args.pairs (RunFor Grevlex (IsPowerList F q G)) (IsListForColon F G) (IsHighMember F q G) (IsHighInSplit F G) (λ o N e. inl e) (λ N e. inl e)
    c.in_err-power.field-0.0 c.from_residual.result c.from_residual.ensures.1
    (only_from_exactly F c.args.pairs {T = WithMembers} (RunFor Grevlex (IsPowerList F q G)) (IsHighMember F q G) (Err c.in_err-power.field-0.0) c.in_err-power.ensures.stop)

pub principal_colon-requires-clause-low : goal.principal_colon-requires-clause-low
principal_colon-requires-clause-low g c =
    let f = c.f-item.result in
    let single = sym c.members.ensures.value ∙ one_element c.members.result.now f (omega arith) c.f-item.is in
    λ high. c.in_ok-power.ensures.stop.products (f ∷ []) (record { g = f; there = subst (λ M. Contains M f) (sym single) (Contains-single f); high = high; is = refl })

pub returns-in-empty-clause-colon : goal.returns-in-empty-clause-colon
returns-in-empty-clause-colon g c =
    let L = g.met.K.Coeff.lawful in
    let I = c.given.ensures.ideal in
    let S = c.in_ok-power.ensures in
    let none = sym c.members.ensures.value ∙ no_member c.members.result.now c.in-empty.len_below in
    let unit = c.in_ok-vec-in-empty.ensures.items ∙ ap (λ h. h ∷ []) (c.in_ok-term-in-empty.ensures.value ∙ ap₂ term c.one.ensures c.one-in-empty.ensures) in
    subst (IsFedderColon g.K.Coeff.field c.args.i.now.given) (sym unit) (colon_of_power L I S.value S.ideal (colon_by_none L I S.value none))

pub returns-in-empty-clause-basis : goal.returns-in-empty-clause-basis
returns-in-empty-clause-basis g c =
    let L = g.met.K.Coeff.lawful in
    let I = c.given.ensures.ideal in
    let S = c.in_ok-power.ensures in
    let none = sym c.members.ensures.value ∙ no_member c.members.result.now c.in-empty.len_below in
    let unit = c.in_ok-vec-in-empty.ensures.items ∙ ap (λ h. h ∷ []) (c.in_ok-term-in-empty.ensures.value ∙ ap₂ term c.one.ensures c.one-in-empty.ensures) in
    subst (IsFedderColonBasis g.K.Coeff.field c.args.i.now.members) (sym unit)
    (record { power = c.in_ok-power.power.members; basis = power-basis L I S.value S.stop.products; colon = colon_by_none L I S.value none })

pub returns-in-empty-clause-variables : goal.returns-in-empty-clause-variables
returns-in-empty-clause-variables g c =
    let unit = c.in_ok-vec-in-empty.ensures.items ∙ ap (λ h. h ∷ []) (c.in_ok-term-in-empty.ensures.value ∙ ap₂ term c.one.ensures c.one-in-empty.ensures) in
    subst (All (UsesFirst 7)) (sym unit) (unit-lacks g.met.K.Coeff.lawful)

pub returns-in-len1-clause-colon : goal.returns-in-len1-clause-colon
returns-in-len1-clause-colon g c =
    let L = g.met.K.Coeff.lawful in
    let I = c.given.ensures.ideal in
    let S = c.in_ok-power.ensures in
    let single = sym c.members.ensures.value ∙ one_element c.members.result.now c.f-item.result (omega arith) c.f-item.is in
    subst (IsFedderColon g.K.Coeff.field c.args.i.now.given) (sym c.in_ok-vec-in-len1.ensures.items)
    (colon_of_power L I S.value S.ideal (colon_by_single L I S.value single c.in_ok-principal_colon-in-len1.ensures.basis))

pub returns-in-len1-clause-basis : goal.returns-in-len1-clause-basis
returns-in-len1-clause-basis g c =
    let L = g.met.K.Coeff.lawful in
    let I = c.given.ensures.ideal in
    let S = c.in_ok-power.ensures in
    let single = sym c.members.ensures.value ∙ one_element c.members.result.now c.f-item.result (omega arith) c.f-item.is in
    subst (IsFedderColonBasis g.K.Coeff.field c.args.i.now.members) (sym c.in_ok-vec-in-len1.ensures.items) (record {
      power = c.in_ok-power.power.members;
      basis = power-basis L I S.value S.stop.products;
      colon = colon_by_single L I S.value single c.in_ok-principal_colon-in-len1.ensures.basis;
    })

pub colon_basis-requires-clause-nonzero : goal.colon_basis-requires-clause-nonzero
colon_basis-requires-clause-nonzero g c = subst (All (λ f. f ≢ empty)) (sym c.members.ensures.value) (members_nonzero g.met.K.Coeff.lawful c.given.ensures.ideal)

pub colon_basis-requires-clause-first : goal.colon_basis-requires-clause-first
colon_basis-requires-clause-first g c =
    subst (All (UsesFirst 7)) (sym c.members-in_default.ensures.value) (power-lacks g.met.K.Coeff.lawful c.given.ensures.ideal c.in_ok-power.ensures.value c.requires)

pub returns-clause-colon : goal.returns-clause-colon
returns-clause-colon g c =
    let F = g.K.Coeff.field in
    let S = c.in_ok-power.ensures in
    IfOk-weaker c.colon_basis.result _ _
    (λ C basis. colon_of_power g.met.K.Coeff.lawful c.given.ensures.ideal S.value S.ideal (subst₂ (λ A B. IsColonBasis F A B C.items) c.members-in_default.ensures.value c.members.ensures.value basis))
    c.colon_basis.ensures.basis

pub returns-clause-basis : goal.returns-clause-basis
returns-clause-basis g c =
    let F = g.K.Coeff.field in
    let S = c.in_ok-power.ensures in
    IfOk-weaker c.colon_basis.result _ _
    (λ C basis. record {
      power = c.in_ok-power.power.members;
      basis = power-basis g.met.K.Coeff.lawful c.given.ensures.ideal S.value S.stop.products;
      colon = subst₂ (λ A B. IsColonBasis F A B C.items) c.members-in_default.ensures.value c.members.ensures.value basis;
    })
    c.colon_basis.ensures.basis

pub returns-clause-stop : goal.returns-clause-stop
returns-clause-stop g c =
    let F = g.K.Coeff.field in
    let L = g.met.K.Coeff.lawful in
    let G = c.args.i.now.members in
    let P = c.in_ok-power.power.members in
    let basis = power-basis L c.given.ensures.ideal c.in_ok-power.ensures.value c.in_ok-power.ensures.stop.products in
    let Stops : List Polynomial → List Polynomial → Type 0 = λ A B. StopsOnlyWith F (IsColonList F A B) (IsHighInColon F A B) c.args.pairs c.colon_basis.result in
    only_of_more F c.args.pairs (IsColonList F P G) (IsListForColon F G) (IsHighInColon F P G) (IsHighInSplit F G)
    (λ o N e. inr (record { power = P; basis = basis; list = e })) (λ N e. inr (record { power = P; basis = basis; high = e })) c.colon_basis.result
    (subst₂ Stops c.members-in_default.ensures.value c.members.ensures.value c.colon_basis.ensures.stop)
