use Rattle.std.proofs.Common.{◌∙◌, ◌^◌, ◌∷◌, [], List, append-nil, ap, sym, subst}
use Rattle.fj_theory.specs.Ideal.{Inside, multiples}
use Rattle.fj_theory.specs.Polynomial.{Polynomial}
use Rattle.fj_theory.specs.Root.{IsRoot}
use Rattle.fj_theory.proofs.Fedder.{IsCompatible-exactly}
use Rattle.fj_ideal.specs.Lists.{AreLow, IsHighPair, NoList}
use Rattle.fj_ideal.specs.Stop.{StopsExactlyWith}
use Rattle.fj_ideal.proofs.Products.{low_pairs}
use Rattle.fj_ideal.proofs.Stops.{refused_exactly}
use Rattle.fj_frobenius.proofs.Operations.{root_of_member_multiples}
use Rattle.fj_compat.proofs.compatibility.compatible.Goals as goal

pub returns-in_err-products-clause-stop : goal.returns-in_err-products-clause-stop
returns-in_err-products-clause-stop g c =
    let F = g.K.Coeff.field in
    let U = c.args.u.now in
    let Stops : List Polynomial → Type 0 = λ G. StopsExactlyWith F NoList (IsHighPair F (U ∷ []) G) 0 c.from_residual.result in
    subst Stops c.members.ensures.value
    (refused_exactly F 0 NoList (IsHighPair F (U ∷ []) c.members.result.now) (IsHighPair F (U ∷ []) c.members.result.now) (λ M e. e)
    c.in_err-products.field-0.0 c.from_residual.result c.from_residual.ensures.1 c.in_err-products.ensures.stop)

pub returns-clause-value : goal.returns-clause-value
returns-clause-value g c =
    let F = g.K.Coeff.field in
    let L = g.met.K.Coeff.lawful in
    let I = c.members.ensures.ideal in
    let q = F.characteristic ^ c.args.e in
    let M = c.in_ok-root.root.items in
    let products_are = c.deref.ensures.value ∙ c.in_ok-products.ensures.value ∙ ap (multiples F c.args.u.now) c.members.ensures.value in
    let root = root_of_member_multiples L c.args.e I c.is_zero.ensures.polynomial (subst (λ N. IsRoot F q N M) products_are c.in_ok-root.ensures.root) in
    let law = IsCompatible-exactly L c.args.e c.is_zero.ensures.polynomial I.polynomials root in
    let found = c.in_ok-has_all.ensures in
    (λ t. law.1 (subst (λ N. Inside F N c.args.j.now.given) c.deref-2.ensures.value (found.0 t)), λ v. found.1 (subst (λ N. Inside F N c.args.j.now.given) (sym c.deref-2.ensures.value) (law.0 v)))

pub returns-clause-stop : goal.returns-clause-stop
returns-clause-stop g c =
    let F = g.K.Coeff.field in
    let U = c.args.u.now in
    let G = c.args.j.now.members in
    let products_are = c.in_ok-products.ensures.value ∙ ap (multiples F U) c.members.ensures.value in
    let low : AreLow (multiples F U G) = subst AreLow products_are c.in_ok-products.ensures.low in
    record {
      finished = λ o M none u. none;
      low = λ o M none t. none;
      products = λ M e. low_pairs F (U ∷ []) G (subst AreLow (sym (append-nil (multiples F U G))) low) M e;
    }
