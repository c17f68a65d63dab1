use Rattle.std.proofs.Common.{sym, subst}
use Rattle.std.proofs.lemmas.Result.{err_from_is_err_and}
use Rattle.fj_groebner.specs.Division.{DegreeAtMost, IsHighDivision, IsLowDivision}
use Rattle.fj_groebner.proofs.Sugar.{given-DegreeAtMost}
use Rattle.fj_basis.specs.Members.{sugared_members}
use Rattle.fj_basis.proofs.HighOnly.{handed_only}
use Rattle.fj_basis.proofs.FinishingRows.{given-sugared}
use Rattle.fj_basis.proofs.finishing.given_row.Goals as goal

pub divide_sugared-requires-clause-bound : goal.divide_sugared-requires-clause-bound
divide_sugared-requires-clause-bound g c = subst (λ n. DegreeAtMost n c.args.f.now) (sym c.sugar_of.ensures.value) (given-DegreeAtMost g.met.K.Coeff.lawful c.sugar_of.ensures.polynomial)

pub returns-in_err-division-clause-high : goal.returns-in_err-division-clause-high
returns-in_err-division-clause-high g c =
    let p = err_from_is_err_and c.from_residual.result c.from_residual.ensures.1 in
    handed_only (Unit {0}) _ _ _ _ p.0 c.in_err-division.field-0.0 p.1 p.2
    (λ high. subst (IsHighDivision g.K.Coeff.field g.O.Order.key (sugared_members c.args.basis.now)) (given-sugared c.args.f.now c.sugar_of.result c.sugar_of.ensures.value) high)
    c.in_err-division.ensures.high

pub returns-clause-row : goal.returns-clause-row
returns-clause-row g c = record {
  last = c.in_ok-division.division;
  division = subst (λ h. IsLowDivision g.K.Coeff.field g.O.Order.key (sugared_members c.args.basis.now) h c.in_ok-division.division) (given-sugared c.args.f.now c.sugar_of.result c.sugar_of.ensures.value)
      c.in_ok-division.ensures.value;
  quotients = sym c.into_parts-quotients.ensures.quotients;
}
