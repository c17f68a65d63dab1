use Rattle.std.proofs.Common.{◌≡◌, take}
use Rattle.fj_poly.specs.Terms.{entries}
use Rattle.fj_poly.proofs.poly.plain.terms_of.Given as goal

-- the terms so far
abbrev pub invariant-loop-i : goal.invariant-loop-i
invariant-loop-i g l = entries g.K.Coeff.rank l.terms.items ≡ take l.i l.h.terms
