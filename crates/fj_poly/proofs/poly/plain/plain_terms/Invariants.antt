use Rattle.std.proofs.Common.{◌≡◌, take}
use Rattle.fj_plain.specs.Terms as plain
use Rattle.fj_poly.specs.Terms.{entries}
use Rattle.fj_poly.proofs.poly.plain.plain_terms.Given as goal

-- the terms so far
abbrev pub invariant-loop-t : goal.invariant-loop-t
invariant-loop-t g l = plain.entries l.terms.items ≡ entries g.K.Coeff.rank (take l.t-index l.list)
