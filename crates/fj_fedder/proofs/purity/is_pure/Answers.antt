use Rattle.std.proofs.Common.{◌≡◌, ◌^◌, List, Any, Some, inl, inr, refl, sym, subst}
use Rattle.fj_theory.specs.Exponents.{origin}
use Rattle.fj_theory.specs.Ideal.{Member}
use Rattle.fj_theory.specs.Polynomial.{Polynomial, degree, term}
use Rattle.fj_theory.specs.Root.{IsRoot}
use Rattle.fj_theory.proofs.Fedder.{IsFPure-exactly}
use Rattle.fj_plain.specs.declared.order_name.OrderName.TheVariants.{Grevlex}
use Rattle.fj_ideal.specs.Lists.{NoProduct, RunFor}
use Rattle.fj_ideal.proofs.Stops.{only_handed_on}
use Rattle.fj_frobenius.specs.Lists.{IsRootList}
use Rattle.fj_fedder.specs.Lists.{IsHighInSplit, IsListForColon, IsSplitGiven, IsSplitList}
use Rattle.fj_fedder.proofs.Constant.{unit_from_constant}
use Rattle.fj_fedder.proofs.purity.is_pure.Goals as goal

pub returns-in_err-colon-clause-stop : goal.returns-in_err-colon-clause-stop
returns-in_err-colon-clause-stop g c =
    let F = g.K.Coeff.field in
    let G = c.args.i.now.members in
    only_handed_on F c.args.pairs (IsListForColon F G) (IsSplitList F G) (IsHighInSplit F G) (IsHighInSplit F G) (λ o N e. inl e) (λ N e. e)
    c.in_err-colon.field-0.0 c.from_residual.result c.from_residual.ensures.1 c.in_err-colon.ensures.stop

pub returns-then-has_constant-clause-value : goal.returns-then-has_constant-clause-value
returns-then-has_constant-clause-value g c =
    let F = g.K.Coeff.field in
    let L = g.met.K.Coeff.lawful in
    let root = subst (λ (G : List Polynomial). IsRoot F (F.characteristic ^ 1) G c.in_ok-parts.parts.items) c.deref.ensures.value c.in_ok-parts.ensures.root in
    let law = IsFPure-exactly L (c.given.ensures.ideal).polynomials (c.in_ok-colon.ensures.colon).colon root in
    let some = subst (Any (λ h. degree h ≡ Some 0)) c.deref-2.ensures.value (c.has_constant.ensures c.if-has_constant.true) in
    (λ t. law.1 (unit_from_constant L root.polynomials some), λ v. refl)

pub returns-in_err-split-clause-stop : goal.returns-in_err-split-clause-stop
returns-in_err-split-clause-stop g c =
    let F = g.K.Coeff.field in
    let G = c.args.i.now.members in
    let C = c.in_ok-colon.colon.items in
    let list = subst (λ (M : List Polynomial). IsRootList F (F.characteristic ^ 1) M c.in_ok-parts.parts.items) c.deref.ensures.value c.in_ok-parts.ensures.parts in
    let given : IsSplitGiven F G c.in_ok-parts.parts.items = record { colon = C; basis = c.in_ok-colon.ensures.basis; parts = list } in
    let run = RunFor Grevlex (λ L. L ≡ c.in_ok-parts.parts.items) in
    only_handed_on F c.args.pairs run (IsSplitList F G) NoProduct (IsHighInSplit F G) (λ o N e. inr (e.0, subst (IsSplitGiven F G) (sym e.1) given)) (λ N none. absurd none)
    c.in_err-split.field-0.0 c.from_residual-in_err-split.result c.from_residual-in_err-split.ensures.1
    c.in_err-split.ensures.stop

pub returns-clause-value : goal.returns-clause-value
returns-clause-value g c =
    let F = g.K.Coeff.field in
    let root = subst (λ (G : List Polynomial). IsRoot F (F.characteristic ^ 1) G c.in_ok-parts.parts.items) c.deref.ensures.value c.in_ok-parts.ensures.root in
    let law = IsFPure-exactly g.met.K.Coeff.lawful (c.given.ensures.ideal).polynomials (c.in_ok-colon.ensures.colon).colon root in
    let given = c.in_ok-split.ensures.value.given in
    (λ t. law.1 (subst (λ M. Member F M (term 1 origin)) given (c.is_unit.ensures.0 t)), λ v. c.is_unit.ensures.1 (subst (λ M. Member F M (term 1 origin)) (sym given) (law.0 v)))
