use Rattle.std.proofs.Common.{◌≡◌, map, take, All}
use Rattle.fj_theory.specs.Plain.{polynomial, HasRanksBelow}
use Rattle.fj_basis.specs.Outcome.{TermsFall, TotalsAreLow}
use Rattle.fj_basis.proofs.certificate.plain_list.Given as goal

-- the polynomials so far
abbrev pub invariant-loop-f : goal.invariant-loop-f
invariant-loop-f g l = (map polynomial l.plain.items ≡ take l.f-index l.list) × All (HasRanksBelow g.K.Coeff.field.size) l.plain.items × TermsFall g.O.Order.key l.plain.items × TotalsAreLow l.plain.items
