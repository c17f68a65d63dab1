use Rattle.std.proofs.Common.{◌++◌, ◌∷◌, [], ◌∙◌, sym, ap₂}
use Rattle.fj_poly.specs.Limit.{IsHigh}
use Rattle.fj_basis.proofs.Copies.{copied_all}
use Rattle.fj_ideal.specs.Lists.{IsHighPair, NoList}
use Rattle.fj_ideal.proofs.HighProducts.{Contains-of_single}
use Rattle.fj_ideal.proofs.Products.{multiples-take}
use Rattle.fj_ideal.proofs.Stops.{only_handed_on}
use Rattle.fj_compat.proofs.products.multiples.Goals as goal

pub loop-g-preserved : goal.loop-g-preserved
loop-g-preserved g c = record {
  value = c.in_ok-push.ensures.items ∙ ap₂ (λ xs x. xs ++ x ∷ []) c.loop-g.invariant.value c.in_ok-times.ensures.value
      ∙ sym (multiples-take g.K.Coeff.field c.args.u.now c.args.list.now c.loop-g.g-index c.g-item.result c.loop-g-test.true c.g-item.is);
  low = copied_all (λ h. IsHigh h → ⊥) _ _ _ c.loop-g.invariant.low c.in_ok-times.ensures.low c.in_ok-push.ensures.items;
}

pub returns-in_err-times-clause-stop : goal.returns-in_err-times-clause-stop
returns-in_err-times-clause-stop g c =
    let F = g.K.Coeff.field in
    let U = c.args.u.now in
    let L = c.args.list.now in
    only_handed_on F 0 NoList NoList (IsHighPair F (U ∷ []) (c.g-item.result ∷ [])) (IsHighPair F (U ∷ []) L) (λ o N e. e)
    (λ N e. record { g = e.g; h = e.h; g_there = e.g_there; h_there = Contains-of_single L c.loop-g.g-index c.g-item.result c.loop-g-test.true c.g-item.is e.h e.h_there; high = e.high; is = e.is })
    c.in_err-times.field-0.0 c.from_residual-in_err-times.result c.from_residual-in_err-times.ensures.1 c.in_err-times.ensures.stop
