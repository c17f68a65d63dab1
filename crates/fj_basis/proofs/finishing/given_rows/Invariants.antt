use Rattle.std.proofs.Common.{map, take}
use Rattle.fj_basis.specs.Members.{sugared_members}
use Rattle.fj_basis.specs.Finished.{AreQuotients}
use Rattle.fj_basis.proofs.finishing.given_rows.Given as goal

-- the rows so far
abbrev pub invariant-loop-f : goal.invariant-loop-f
invariant-loop-f g l = AreQuotients g.K.Coeff.field g.O.Order.key (sugared_members l.basis) (take l.f-index l.list) (map (λ row. row.items) l.rows.items)
