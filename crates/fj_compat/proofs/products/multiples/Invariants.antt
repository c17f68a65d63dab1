use Rattle.std.proofs.Common.{◌≡◌, All, take}
use Rattle.fj_theory.specs.Ideal.{multiples}
use Rattle.fj_poly.specs.Limit.{IsHigh}
use Rattle.fj_compat.proofs.products.multiples.Given as goal

-- the products with the polynomials so far, none of them too high
abbrev pub invariant-loop-g : goal.invariant-loop-g
invariant-loop-g g l = record {
  value : l.products.items ≡ multiples g.K.Coeff.field l.u (take l.g-index l.list);
  low : All (λ h. IsHigh h → ⊥) l.products.items;
}
