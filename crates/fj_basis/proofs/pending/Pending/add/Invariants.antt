use Rattle.std.proofs.Common.{◌≡◌, ◌++◌, ◌∷◌, [], length}
use Rattle.fj_basis.specs.Pending.{HasPairsUpTo}
use Rattle.fj_basis.proofs.pending.Pending.add.Given as goal

abbrev pub invariant-loop-i : goal.invariant-loop-i
invariant-loop-i g l = record {
  leads : l.self.leads ≡ l.fn.self.leads ++ l.lead.exponents ∷ [];
  pairs : HasPairsUpTo l.self.leads (length l.fn.self.leads) l.i l.fn.self.pairs l.self.pairs;
}
