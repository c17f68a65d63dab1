use Rattle.std.proofs.Common.{◌∷◌, [], ◌∙◌, sym, ap, ap₂, subst}
use Rattle.fj_theory.specs.MonomialOrder.{grevlex_key}
use Rattle.fj_theory.specs.Polynomial.{term}
use Rattle.fj_groebner.specs.ReducedBasis.{IsReducedBasis}
use Rattle.fj_jump.proofs.Unit.{unit_reduced}
use Rattle.fj_jump.proofs.bisecting.unit.Goals as goal

pub of_reduced-requires : goal.of_reduced-requires
of_reduced-requires g c =
    subst (λ M. IsReducedBasis g.K.Coeff.field grevlex_key M M) (sym (c.in_ok-vec.ensures.items ∙ ap (λ f. f ∷ []) (c.in_ok-one.ensures.value ∙ ap₂ term c.one.ensures c.one-2.ensures))) (unit_reduced g.met.K.Coeff.lawful)
