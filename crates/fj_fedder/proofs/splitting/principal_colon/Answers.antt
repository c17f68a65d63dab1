use Rattle.std.proofs.Common.{◌-◌, ◌^◌, ◌∷◌, [], ◌∙◌, ℕ, Err, sym, subst, arith}
use Rattle.fj_theory.specs.PointIdeal.{UsesFirst}
use Rattle.fj_theory.specs.Polynomial.{power}
use Rattle.fj_theory.proofs.Field.{characteristic_large}
use Rattle.fj_theory.proofs.IdealBridge.{over}
use Rattle.fj_theory.proofs.Keys.{grevlex_key-IsMonomialOrder}
use Rattle.fj_theory.proofs.PolynomialRing.{IsPolynomial-power}
use Rattle.fj_theory.proofs.UsesFirst.{UsesFirst-power}
use Rattle.fj_groebner.proofs.ReducedBasis.{monic_nonzero}
use Rattle.fj_poly.specs.Limit.{IsHigh, IsHighWhere}
use Rattle.fj_poly.proofs.Limits.{low_power}
use Rattle.fj_elim.specs.Lists.{IsColonBasis}
use Rattle.fj_fedder.proofs.Principal.{IsColon-power, IsReducedBasis-monic, characteristic-suc, monic-power}
use Rattle.fj_fedder.proofs.splitting.principal_colon.Goals as goal

pub overflow_sub-P : goal.overflow_sub-P
overflow_sub-P g c =
    let p = c.P.ensures ∙ g.met.K.Coeff.characteristic_is in
    let large = characteristic_large g.met.K.Coeff.lawful in
    omega (arith, p, large)

pub unreachable-requires : goal.unreachable-requires
unreachable-requires g c =
    let F = g.K.Coeff.field in
    let L = g.met.K.Coeff.lawful in
    let f = c.args.f.now in
    let k = c.P.result - 1 in
    let n = characteristic-suc L (c.P.ensures ∙ g.met.K.Coeff.characteristic_is) in
    low_power L c.is_zero.ensures.polynomial k (F.characteristic ^ 1) (omega (arith, n)) c.requires.low
    (subst (λ e. IsHighWhere {T = ℕ} (IsHigh (power F f k)) (Err e)) c.in-Err-High.field-0-is c.in-Err-High.ensures.high)

pub returns-in-Ok-clause-basis : goal.returns-in-Ok-clause-basis
returns-in-Ok-clause-basis g c =
    let F = g.K.Coeff.field in
    let L = g.met.K.Coeff.lawful in
    let P = c.is_zero.ensures.polynomial in
    let f = c.args.f.now in
    let k = c.P.result - 1 in
    let n = F.characteristic ^ 1 in
    subst (λ h. IsColonBasis F (power F f n ∷ []) (f ∷ []) (h ∷ [])) (sym c.in-Ok.ensures.value) (record {
      colon = IsColon-power L P (monic_nonzero grevlex_key-IsMonomialOrder L (over P) c.requires.monic) k n (characteristic-suc L (c.P.ensures ∙ g.met.K.Coeff.characteristic_is));
      reduced = IsReducedBasis-monic L grevlex_key-IsMonomialOrder (IsPolynomial-power L P k) (monic-power L grevlex_key-IsMonomialOrder P c.requires.monic k);
    })

pub returns-in-Ok-clause-variables : goal.returns-in-Ok-clause-variables
returns-in-Ok-clause-variables g c =
    subst (UsesFirst 7) (sym c.in-Ok.ensures.value) (UsesFirst-power g.met.K.Coeff.lawful c.is_zero.ensures.polynomial c.requires.variables (c.P.result - 1))
