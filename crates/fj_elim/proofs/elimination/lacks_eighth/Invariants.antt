use Rattle.std.proofs.Common.{◌≡◌, All, get_or, take}
use Rattle.fj_theory.specs.Polynomial.{terms_falling}
use Rattle.fj_elim.proofs.elimination.lacks_eighth.Given as goal

-- the terms so far lack it
abbrev pub invariant-loop-i : goal.invariant-loop-i
invariant-loop-i g l = All (λ t. get_or t.0 7 0 ≡ 0) (take l.i (terms_falling g.O.Order.key l.g))
