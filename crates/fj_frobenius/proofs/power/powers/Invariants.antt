use Rattle.std.proofs.Common.{◌≡◌, ◌^◌, take}
use Rattle.fj_theory.specs.FrobeniusPower.{frobenius_power}
use Rattle.fj_ideal.specs.Lists.{AreLow}
use Rattle.fj_frobenius.proofs.power.powers.Given as goal

-- the powers of the first polynomials are formed, and none is high
abbrev pub invariant-loop-g : goal.invariant-loop-g
invariant-loop-g g l = record {
  value : l.powers.items ≡ frobenius_power g.K.Coeff.field (g.K.Coeff.field.characteristic ^ l.e) (take l.g-index l.list);
  low : AreLow l.powers.items;
}
