use Rattle.std.proofs.Common.{◌≡◌, ℕ, drop, take, length}
use Rattle.std.specs.Io.KnownBytes.{Appends}
use Rattle.fj_io.proofs.standard.StdSinkSink.write_all.Given as goal

-- so many bytes of the piece were written, and no fault came
abbrev pub invariant-loop-rest : goal.invariant-loop-rest
invariant-loop-rest g l = (written : ℕ) × (l.rest ≡ drop written l.fn.piece) × Appends (g.W.Write.contents l.fn.self.inner) (g.W.Write.contents l.self.inner) (take written l.fn.piece) × (l.self.faults ≡ l.fn.self.faults)

abbrev pub decreases-loop-rest : goal.decreases-loop-rest
decreases-loop-rest g l = length l.rest
