use Rattle.fj_basis.specs.Leads.{NoneDivides, exponents_of}
use Rattle.fj_basis.proofs.leads.Leads.next.Given as goal

abbrev pub invariant-loop-k : goal.invariant-loop-k
invariant-loop-k l = NoneDivides (exponents_of l.self) l.from l.k l.m.exponents
