use Rattle.std.proofs.Common.{take, sum, All, ◌≤◌, ◌^◌}
use Rattle.std.specs.BTreeMap.{get}
use Rattle.fj_theory.specs.Parts.{part_terms}
use Rattle.fj_theory.specs.Polynomial.{terms_falling}
use Rattle.fj_mono.specs.Monomial.{Monomial}
use Rattle.fj_root.specs.Groups.{IsGroup, lex}
use Rattle.fj_root.proofs.part.gather.Given as goal

-- at each residue stand the terms of that part, as far as the terms of h have been gone through, and these have bounded totals
abbrev pub invariant-loop-i : goal.invariant-loop-i
invariant-loop-i g l = record {
  gathered : (a : Monomial) → IsGroup g.K.Coeff.field g.O.Order.key (get lex l.groups a) (part_terms g.K.Coeff.field l.e a.exponents (take l.i (terms_falling g.O.Order.key l.h)));
  bounded : All (λ t. sum t.0 ≤ 2 ^ 40) (take l.i (terms_falling g.O.Order.key l.h));
}
