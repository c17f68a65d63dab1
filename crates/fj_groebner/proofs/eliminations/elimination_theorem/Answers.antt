use Rattle.fj_groebner.proofs.Elimination.{elimination_theorem}
use Rattle.fj_groebner.proofs.eliminations.elimination_theorem.Goals as goal

pub returns : goal.returns
returns c F L E G A basis = elimination_theorem L A basis
