use Rattle.std.proofs.Common.{◌≡◌, take}
use Rattle.fj_basis.proofs.leads.Leads.of.Given as goal

abbrev pub invariant-loop-m : goal.invariant-loop-m
invariant-loop-m l = l.index ≡ take l.m-index l.leads
