use Rattle.std.proofs.Common.{◌<◌}
use Rattle.fj_groebner.specs.Run as definition
use Rattle.fj_groebner.specs.Run.{IsSpared}
use Rattle.fj_basis.specs.State.{IsPendingOf}
use Rattle.fj_basis.proofs.pending.Pending.is_spared.Given as goal

-- no place so far spares the pair
abbrev pub invariant-loop-k : goal.invariant-loop-k
invariant-loop-k g l =
    (s : definition.Run) → IsPendingOf g.O.Order.key s l.self → (spared : IsSpared g.O.Order.key s (l.pair.i, l.pair.j)) → spared.place < l.k → ⊥
