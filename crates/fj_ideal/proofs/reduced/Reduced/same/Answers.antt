use Rattle.std.proofs.Common.{◌∙◌, sym}
use Rattle.fj_ideal.proofs.ReducedBasis.{same_bases}
use Rattle.fj_ideal.proofs.reduced.Reduced.same.Goals as goal

pub returns : goal.returns
returns g c =
    let law = same_bases g.met.K.Coeff.lawful c.members.ensures.ideal.polynomials c.members.ensures.ideal.reduced c.members-2.ensures.ideal.polynomials c.members-2.ensures.ideal.reduced in
    let first = c.members.ensures.value in
    let second = c.members-2.ensures.value in
    (λ t. law.1 (sym first ∙ c.are_same.ensures.0 t ∙ second), λ e. c.are_same.ensures.1 (first ∙ law.0 e ∙ sym second))
