use Rattle.std.proofs.Common.{◌≡◌}
use Rattle.fj_basis.proofs.Rows.{added}
use Rattle.fj_basis.proofs.cofactors.add_multiple.Given as goal

-- the entries so far
abbrev pub invariant-loop-j : goal.invariant-loop-j
invariant-loop-j g l = l.row ≡ added g.K.Coeff.field l.f l.j l.fn.row l.other
