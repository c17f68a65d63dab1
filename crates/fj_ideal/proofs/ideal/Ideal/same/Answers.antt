use Rattle.std.proofs.Common.{◌∙◌, sym}
use Rattle.fj_ideal.proofs.ReducedBasis.{SameIdeal-same_members}
use Rattle.fj_ideal.proofs.ideal.Ideal.same.Goals as goal

pub returns : goal.returns
returns g c =
    let law = SameIdeal-same_members g.met.K.Coeff.lawful c.members.ensures.ideal c.members-2.ensures.ideal in
    let first = c.members.ensures.value in
    let second = c.members-2.ensures.value in
    (λ t. law.1 (sym first ∙ c.are_same.ensures.0 t ∙ second), λ e. c.are_same.ensures.1 (first ∙ law.0 e ∙ sym second))
