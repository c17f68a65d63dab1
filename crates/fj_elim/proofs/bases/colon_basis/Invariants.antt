use Rattle.std.proofs.Common.{◌<◌, All, take}
use Rattle.fj_theory.specs.PointIdeal.{UsesFirst}
use Rattle.fj_elim.specs.Lists.{IsColonBasis}
use Rattle.fj_elim.proofs.bases.colon_basis.Given as goal

-- the quotient by the polynomials so far, at least one
abbrev pub invariant-loop-k : goal.invariant-loop-k
invariant-loop-k g l = record {
  some : 0 < l.k;
  basis : IsColonBasis g.K.Coeff.field l.list (take l.k l.others) l.colon.items;
  variables : All (UsesFirst 7) l.colon.items;
}
