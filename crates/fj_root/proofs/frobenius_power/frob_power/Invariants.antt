use Rattle.std.proofs.Common.{◌≡◌, take, All}
use Rattle.fj_theory.specs.FrobeniusPower.{frobenius_power}
use Rattle.fj_poly.specs.Limit.{IsHigh}
use Rattle.fj_root.proofs.frobenius_power.frob_power.Given as goal

-- the powers of the polynomials that have been gone through, of which none is high
abbrev pub invariant-loop-g : goal.invariant-loop-g
invariant-loop-g g l = record {
  powers : l.powers.items ≡ frobenius_power g.K.Coeff.field l.q (take l.g-index l.list);
  low : All (λ h. IsHigh h → ⊥) (frobenius_power g.K.Coeff.field l.q (take l.g-index l.list));
}
