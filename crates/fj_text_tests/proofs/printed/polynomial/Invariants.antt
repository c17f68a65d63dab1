use Rattle.std.proofs.Common.{All}
use Rattle.fj_text.proofs.FirstVariables.{AreZeroFrom}
use Rattle.fj_text_tests.proofs.printed.polynomial.Given as goal

abbrev pub invariant-loop-x : goal.invariant-loop-x
invariant-loop-x g l = All (λ t. AreZeroFrom 3 t.exps) l.list.items
