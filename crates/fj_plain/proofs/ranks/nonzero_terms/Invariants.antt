use Rattle.std.proofs.Common.{◌≡◌, ◌<◌, ◌^◌, ◌++◌, All}
use Rattle.fj_plain.specs.Terms.{entries}
use Rattle.fj_plain.specs.Tallied.{nonzero_entries}
use Rattle.fj_plain.proofs.ranks.nonzero_terms.Given as goal

-- what is left to read completes the terms
abbrev pub invariant-loop-exps : goal.invariant-loop-exps
invariant-loop-exps l = record {
  fits : All (λ t. 0 < t.1 → All (λ k. k < 2 ^ 64) t.0) l.exps-iterator;
  whole : entries l.terms.items ++ nonzero_entries l.exps-iterator ≡ nonzero_entries l.ranks.entries;
}
