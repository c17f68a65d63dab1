use Rattle.std.proofs.Common.{◌≡◌, take}
use Rattle.fj_theory.specs.Ideal.{ArePolynomials, multiples}
use Rattle.fj_elim.proofs.bases.quotients.Given as goal

-- the quotients of the multiples so far
abbrev pub invariant-loop-h : goal.invariant-loop-h
invariant-loop-h g l = record {
  value : multiples g.K.Coeff.field l.g l.quotients.items ≡ take l.h-index l.list;
  polynomials : ArePolynomials g.K.Coeff.field l.quotients.items;
}
