use Rattle.std.proofs.Common.{◌≡◌, map, take}
use Rattle.fj_coeff.specs.Field.{power}
use Rattle.fj_theory.specs.Exponents.{times}
use Rattle.fj_theory.proofs.TermMaps.{changed}
use Rattle.fj_poly.specs.Terms.{entry, entries}
use Rattle.fj_poly.proofs.poly.Poly.frobenius.Given as goal

abbrev pub invariant-loop-t : goal.invariant-loop-t
invariant-loop-t g l =
    entries g.K.Coeff.rank l.terms.items
    ≡ map (λ t. changed (λ c. power g.K.Coeff.field c g.K.Coeff.P) (times g.K.Coeff.P) (entry g.K.Coeff.rank t)) (take l.t-index l.t-items)
