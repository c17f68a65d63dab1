use Rattle.std.proofs.Common.{◌^◌, take, All}
use Rattle.fj_theory.specs.Ideal.{multiples}
use Rattle.fj_theory.specs.Polynomial.{power}
use Rattle.fj_poly.specs.Limit.{IsHigh}
use Rattle.fj_root.specs.Root.{ArePartsOf}
use Rattle.fj_root.proofs.root.root_gens.Given as goal

-- the list has the parts of the products that have been formed, of which none is high
abbrev pub invariant-loop-g : goal.invariant-loop-g
invariant-loop-g g l = record {
  parts : ArePartsOf g.K.Coeff.field (g.K.Coeff.field.characteristic ^ 1) (multiples g.K.Coeff.field (power g.K.Coeff.field l.fn.f l.fn.d) (take l.g-index l.list)) l.root.items;
  low : All (λ h. IsHigh h → ⊥) (multiples g.K.Coeff.field (power g.K.Coeff.field l.fn.f l.fn.d) (take l.g-index l.list));
}
