use Rattle.std.proofs.Common.{◌<◌, length}
use Rattle.fj_basis.proofs.sugared_pairs.SugaredPairs.take_next.Given as goal

-- the next pair so far is one of the list
abbrev pub invariant-loop-k : goal.invariant-loop-k
invariant-loop-k g l = l.next < length l.self.pairs.items
