use Rattle.fj_groebner.specs.Rows.{IsRow}
use Rattle.fj_thresh.proofs.Within.{within_told}
use Rattle.fj_thresh.proofs.powers.nu.Goals as goal

pub returns-then-is_unit-clause-value : goal.returns-then-is_unit-clause-value
returns-then-is_unit-clause-value g c = c.is_unit.ensures.0 c.if-is_unit.true

pub greatest_power-requires : goal.greatest_power-requires
greatest_power-requires g c = record {
  small = c.requires.small;
  within = within_told g.K.Coeff.field c.args.j.now.given c.args.f.now c.is_unit.result c.is_unit.ensures c.if-is_unit.false
      (λ cofactors. IsRow g.K.Coeff.field c.args.j.now.members c.args.f.now cofactors.items) c.in_ok-member.field-0 c.in_ok-member.ensures c.if-is_none.ensures;
}

pub returns-clause-value : goal.returns-clause-value
returns-clause-value g c = (
  within_told g.K.Coeff.field c.args.j.now.given c.args.f.now c.is_unit.result c.is_unit.ensures c.if-is_unit.false
      (λ cofactors. IsRow g.K.Coeff.field c.args.j.now.members c.args.f.now cofactors.items) c.in_ok-member.field-0 c.in_ok-member.ensures c.if-is_none.ensures,
  c.in_ok-greatest.ensures.value,
)
