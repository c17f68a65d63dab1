use Rattle.std.proofs.Common.{◌≡◌, ◌++◌, All, take}
use Rattle.fj_theory.specs.Ideal.{ArePolynomials, multiples, products}
use Rattle.fj_poly.specs.Limit.{IsHigh}
use Rattle.fj_ideal.proofs.operations.products_of.Given as goal

-- the products of the polynomials so far, none of them too high
abbrev pub invariant-loop-g : goal.invariant-loop-g
invariant-loop-g g l = record {
  value : l.products.items ≡ products g.K.Coeff.field (take l.g-index l.list) l.others;
  polynomials : ArePolynomials g.K.Coeff.field l.products.items;
  low : All (λ f. IsHigh f → ⊥) l.products.items;
}

-- and those of g with the others so far
abbrev pub invariant-loop-h : goal.invariant-loop-h
invariant-loop-h g l = record {
  value : l.products.items ≡ products g.K.Coeff.field (take l.g-index l.list) l.others ++ multiples g.K.Coeff.field l.g (take l.h-index l.others);
  polynomials : ArePolynomials g.K.Coeff.field l.products.items;
  low : All (λ f. IsHigh f → ⊥) l.products.items;
}
