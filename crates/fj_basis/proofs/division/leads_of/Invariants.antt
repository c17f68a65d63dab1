use Rattle.std.proofs.Common.{◌≡◌, map, take}
use Rattle.fj_basis.specs.Leads.{exponents_of, lead_list}
use Rattle.fj_basis.proofs.division.leads_of.Given as goal

abbrev pub invariant-loop-g : goal.invariant-loop-g
invariant-loop-g g l = exponents_of l.leads ≡ lead_list g.O.Order.key (map g.D.Divisor.sugared (take l.g-index l.list))
