use Rattle.fj_ratio.specs.Multiples.{AddsMultiples}
use Rattle.fj_ratio.proofs.candidate_list.push_multiples.Given as goal

abbrev pub invariant-multiples : goal.invariant-multiples
invariant-multiples l = AddsMultiples l.d l.m l.fn.list.items l.list.items
