use Rattle.std.proofs.Common.{ℕ, ◌∷◌, [], Err, subst, refl}
use Rattle.fj_theory.specs.MonomialOrder.{grevlex_key}
use Rattle.fj_theory.specs.Polynomial.{product}
use Rattle.fj_plain.specs.declared.order_name.OrderName.TheVariants.{Grevlex}
use Rattle.fj_poly.specs.Limit.{IsHigh, IsHighWhere}
use Rattle.fj_basis.specs.Outcome.{IsKeptOf}
use Rattle.fj_ideal.proofs.HighProducts.{Contains-single}
use Rattle.fj_ideal.proofs.Stops.{product_kept}
use Rattle.fj_elim.specs.Lists.{IsHighTimes}
use Rattle.fj_elim.proofs.list.times.Goals as goal

pub returns-in-Err-High-clause-stop : goal.returns-in-Err-High-clause-stop
returns-in-Err-High-clause-stop g c =
    let F = g.K.Coeff.field in
    let f = c.args.f.now in
    let h = c.args.g.now in
    let high = subst (λ e. IsHighWhere {T = ℕ} (IsHigh (product F f c.in_ok-reorder.field-0)) (Err e)) c.in-Err-High.field-0-is c.in-Err-High.ensures.high in
    product_kept (IsHighTimes F f (h ∷ [])) (subst (λ L. IsKeptOf F Grevlex grevlex_key L c.in_ok-kept-in-Err-High.field-0) c.from_ref.ensures.value c.in_ok-kept-in-Err-High.ensures)
    (record { g = h; there = Contains-single h; high = subst (λ k. IsHigh (product F f k)) c.in_ok-reorder.ensures.value high; is = refl })
