use Rattle.std.proofs.Common.{◌≡◌, take}
use Rattle.fj_plain.specs.Terms.{entries}
use Rattle.fj_audit.proofs.copy.terms_copy.Given as goal

-- the terms so far
abbrev pub invariant-loop-i : goal.invariant-loop-i
invariant-loop-i l = entries l.terms.items ≡ take l.i l.f.terms
