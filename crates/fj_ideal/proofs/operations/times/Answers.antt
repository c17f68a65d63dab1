use Rattle.std.proofs.Common.{ℕ, ◌∷◌, [], Err, subst, refl}
use Rattle.fj_theory.specs.Polynomial.{product}
use Rattle.fj_poly.specs.Limit.{IsHigh, IsHighWhere}
use Rattle.fj_ideal.specs.Lists.{IsHighPair}
use Rattle.fj_ideal.proofs.HighProducts.{Contains-single}
use Rattle.fj_ideal.proofs.Stops.{product_kept}
use Rattle.fj_ideal.proofs.operations.times.Goals as goal

pub returns-in_ok-kept_pair-in-Err-High-clause-stop : goal.returns-in_ok-kept_pair-in-Err-High-clause-stop
returns-in_ok-kept_pair-in-Err-High-clause-stop g c =
    let F = g.K.Coeff.field in
    let G = c.args.g.now in
    let H = c.args.h.now in
    let high = subst (λ f. IsHighWhere {T = ℕ} (IsHigh (product F G H)) (Err f)) c.in-Err-High.field-0-is c.in-Err-High.ensures.high in
    product_kept (IsHighPair F (G ∷ []) (H ∷ [])) c.in_ok-kept_pair-in-Err-High.ensures
    (record { g = G; h = H; g_there = Contains-single G; h_there = Contains-single H; high = high; is = refl })
