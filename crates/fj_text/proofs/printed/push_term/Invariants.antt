use Rattle.fj_text.proofs.TermText.{TermTextSoFar}
use Rattle.fj_text.proofs.printed.push_term.Given as goal

abbrev pub invariant-loop-place : goal.invariant-loop-place
invariant-loop-place l = TermTextSoFar l.fn.out.items l.out.items l.is_bare l.vars l.term.rank l.term.exps l.place
