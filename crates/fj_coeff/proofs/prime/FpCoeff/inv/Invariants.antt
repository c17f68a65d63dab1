use Rattle.std.proofs.Common.{◌≡◌, ◌^◌, ◌%◌, ◌-◌, ◌≤◌}
use Rattle.fj_coeff.proofs.prime.FpCoeff.inv.Given as goal

-- after the turns up to the counter, that power of the value
abbrev pub invariant-powers : goal.invariant-powers
invariant-powers g l = (2 ≤ l.counter) × (l.value ≡ l.self.value ^ (l.counter - 2) % g.row.P)
