use Rattle.std.proofs.Common.{◌≡◌, map, take}
use Rattle.fj_theory.specs.Exponents.{plus}
use Rattle.fj_theory.proofs.TermMaps.{changed}
use Rattle.fj_poly.specs.Terms.{entry, entries}
use Rattle.fj_poly.proofs.poly.product.fill_multiple.Given as goal

abbrev pub invariant-loop-t : goal.invariant-loop-t
invariant-loop-t g l =
    entries g.K.Coeff.rank l.multiple.items
    ≡ map (λ t. changed (g.K.Coeff.field.mul (g.K.Coeff.rank l.c)) (plus l.m.exponents) (entry g.K.Coeff.rank t)) (take l.t-index l.terms)
