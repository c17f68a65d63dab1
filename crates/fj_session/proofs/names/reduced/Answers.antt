use Rattle.std.proofs.Common.{◌≡◌, ◌∙◌, List, sym, subst}
use Rattle.fj_theory.specs.MonomialOrder.{grevlex_key}
use Rattle.fj_theory.specs.Polynomial.{Polynomial}
use Rattle.fj_groebner.specs.ReducedBasis.{IsReducedBasis}
use Rattle.fj_session.proofs.Standings.{reduced_of_itself}
use Rattle.fj_session.proofs.names.reduced.Goals as goal

pub of_reduced-requires : goal.of_reduced-requires
of_reduced-requires g c =
    subst (λ (L : List Polynomial). IsReducedBasis g.K.Coeff.field grevlex_key L L) (sym (c.in_ok-copy_list.ensures.value ∙ c.members.ensures.value)) (reduced_of_itself g.met.K.Coeff.lawful c.members.ensures.ideal)
