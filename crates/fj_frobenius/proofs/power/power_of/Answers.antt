use Rattle.std.proofs.Common.{ℕ, ◌∷◌, [], ◌^◌, Any, Err, sym, ◌∙◌, subst, refl}
use Rattle.fj_theory.specs.FrobeniusPower.{frobenius_power}
use Rattle.fj_theory.specs.MonomialOrder.{grevlex_key}
use Rattle.fj_theory.specs.Polynomial.{power}
use Rattle.fj_plain.specs.declared.order_name.OrderName.TheVariants.{Grevlex}
use Rattle.fj_poly.specs.Limit.{IsHigh, IsHighWhere}
use Rattle.fj_basis.specs.Outcome.{IsKeptOf}
use Rattle.fj_ideal.specs.Lists.{AreLow}
use Rattle.fj_ideal.proofs.HighProducts.{Contains-single, low_from, single_high}
use Rattle.fj_ideal.proofs.Stops.{product_kept}
use Rattle.fj_frobenius.specs.Lists.{IsHighMember}
use Rattle.fj_frobenius.proofs.power.power_of.Goals as goal

pub returns-in-Ok-clause-low : goal.returns-in-Ok-clause-low
returns-in-Ok-clause-low g c = subst AreLow (sym c.in-Ok.ensures.value) (low_from _ c.in-Ok.ensures.high)

pub returns-in_ok-kept-in-Err-High-clause-stop : goal.returns-in_ok-kept-in-Err-High-clause-stop
returns-in_ok-kept-in-Err-High-clause-stop g c =
    let F = g.K.Coeff.field in
    let q = F.characteristic ^ c.args.e in
    let cause = subst (λ f. IsHighWhere {T = ℕ} (Any IsHigh (frobenius_power F q c.from_ref.result.now)) (Err f)) c.in-Err-High.field-0-is c.in-Err-High.ensures.high in
    product_kept (IsHighMember F q (c.args.g.now ∷ [])) (subst (λ L. IsKeptOf F Grevlex grevlex_key L c.in_ok-kept-in-Err-High.field-0) c.from_ref-in-Err-High.ensures.value c.in_ok-kept-in-Err-High.ensures)
    (record {
      g = c.args.g.now;
      there = Contains-single c.args.g.now;
      high = single_high (power F c.args.g.now q) (subst (λ L. Any IsHigh (frobenius_power F q L)) c.from_ref.ensures.value cause);
      is = refl;
    })
