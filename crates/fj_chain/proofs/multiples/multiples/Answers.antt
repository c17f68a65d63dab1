use Rattle.std.proofs.Common.{◌≡◌, ℕ, ◌*◌, ◌<◌, ◌++◌, ◌∷◌, [], Err, sym, ap, ap₂, ◌∙◌, subst, refl, arith}
use Rattle.std.specs.Option.{IsSomeAnd}
use Rattle.std.proofs.Math.Nat.{mul-le-mul_right}
use Rattle.std.proofs.lemmas.List.Elements.{All-push}
use Rattle.fj_theory.specs.Polynomial.{power, product}
use Rattle.fj_theory.proofs.Degree.{degree-power}
use Rattle.fj_poly.specs.Limit.{IsHigh, IsHighWhere}
use Rattle.fj_ideal.specs.Lists.{AreLow}
use Rattle.fj_ideal.proofs.Products.{multiples-take}
use Rattle.fj_ideal.proofs.Stops.{product_kept}
use Rattle.fj_frobenius.specs.Lists.{IsHighMultiple}
use Rattle.fj_chain.proofs.multiples.multiples.Goals as goal

pub unreachable-requires : goal.unreachable-requires
unreachable-requires g c =
    let F = g.K.Coeff.field in
    let a = c.requires.admissible in
    let high = subst (λ e. IsHighWhere {T = ℕ} (IsHigh (power F c.args.f.now c.args.k)) (Err e)) c.in-Err-High.field-0-is c.in-Err-High.ensures.high in
    let above : 1099511627776 < c.args.k * a.total = subst (λ o. IsSomeAnd o (λ n. 1099511627776 < n)) (degree-power g.met.K.Coeff.lawful c.pow.ensures.base a.has_degree c.args.k) high in
    let few = mul-le-mul_right a.total c.requires.small in
    let small = a.bounded in
    omega (arith, above, few, small)

pub returns-in-Err-High-mul-clause-stop : goal.returns-in-Err-High-mul-clause-stop
returns-in-Err-High-mul-clause-stop g c =
    let F = g.K.Coeff.field in
    let formed = ap (λ h. product F h c.g-item.result) c.in-Ok.ensures.value in
    let high = subst (λ e. IsHighWhere {T = ℕ} (IsHigh (product F c.in-Ok.factor c.g-item.result)) (Err e)) c.in-Err-High-mul.field-0-is c.in-Err-High-mul.ensures.high in
    product_kept (IsHighMultiple F c.args.k c.args.f.now c.args.list.now) c.in_ok-kept_pair-in-Err-High-mul.ensures
    (record { g = c.g-item.result; there = (c.loop-g.g-index, c.loop-g-test.true, sym c.g-item.is); high = subst IsHigh formed high; is = refl })

pub loop-g-preserved : goal.loop-g-preserved
loop-g-preserved g c =
    let F = g.K.Coeff.field in
    let f = power F c.args.f.now c.args.k in
    let formed : c.in-Ok-mul.product ≡ product F f c.g-item.result = c.in-Ok-mul.ensures.value ∙ ap (λ h. product F h c.g-item.result) c.in-Ok.ensures.value in
    let more = multiples-take F f c.args.list.now c.loop-g.g-index c.g-item.result c.loop-g-test.true c.g-item.is in
    record {
      is = c.in_ok-push-in-Ok-mul.ensures.items ∙ ap₂ (λ xs x. xs ++ x ∷ []) c.loop-g.invariant.is formed ∙ sym more;
      low = subst AreLow (sym c.in_ok-push-in-Ok-mul.ensures.items) (All-push (λ h. IsHigh h → ⊥) c.loop-g.multiples.items c.in-Ok-mul.product c.loop-g.invariant.low (subst (λ h. IsHigh h → ⊥) (sym c.in-Ok-mul.ensures.value) c.in-Ok-mul.ensures.high));
    }
