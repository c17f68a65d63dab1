use Rattle.std.proofs.Common.{ℕ, Any, Err, subst}
use Rattle.fj_theory.specs.Ideal.{multiples}
use Rattle.fj_theory.specs.Polynomial.{power}
use Rattle.fj_poly.specs.Limit.{IsHigh, IsHighWhere}
use Rattle.fj_ideal.proofs.HighProducts.{low_from}
use Rattle.fj_frobenius.proofs.root.step_list.Goals as goal

pub high_multiple-requires : goal.high_multiple-requires
high_multiple-requires g c =
    let F = g.K.Coeff.field in
    subst (λ f. IsHighWhere {T = ℕ} (Any IsHigh (multiples F (power F c.args.f.now c.args.d) c.args.list.now)) (Err f)) c.in-Err-High.field-0-is c.in-Err-High.ensures.high

pub returns-in-Ok-clause-list : goal.returns-in-Ok-clause-list
returns-in-Ok-clause-list g c = record { low = low_from _ c.in-Ok.ensures.high; parts = c.in-Ok.ensures.parts }
