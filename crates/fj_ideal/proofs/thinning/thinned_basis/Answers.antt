use Rattle.std.proofs.Common.{List, subst}
use Rattle.fj_theory.specs.Ideal.{ArePolynomials}
use Rattle.fj_theory.specs.MonomialOrder.{grevlex_key}
use Rattle.fj_theory.specs.Polynomial.{Polynomial}
use Rattle.fj_theory.proofs.Keys.{grevlex_key-IsMonomialOrder}
use Rattle.fj_groebner.specs.ReducedBasis.{IsReducedBasis}
use Rattle.fj_groebner.proofs.ReducedBasis.{IsReducedBasis-same_ideal}
use Rattle.fj_ideal.proofs.thinning.thinned_basis.Goals as goal

pub returns-in-Ok : goal.returns-in-Ok
returns-in-Ok g c =
    let F = g.K.Coeff.field in
    IsReducedBasis-same_ideal grevlex_key-IsMonomialOrder g.met.K.Coeff.lawful (subst (ArePolynomials F) c.deref.ensures.value c.look_over-2.ensures) c.look_over.ensures c.in_ok-few.ensures
    (subst (λ (L : List Polynomial). IsReducedBasis F grevlex_key L c.in-Ok.members.items) c.deref-2.ensures.value c.in-Ok.ensures.reduced)
