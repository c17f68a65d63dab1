use Rattle.std.proofs.Common.{◌≡◌, ◌↔◌, IsTrue, length, ap, sym, ◌∙◌, rules}
use Rattle.std.proofs.lemmas.List.{nil_from_length}
use Rattle.fj_ideal.proofs.ReducedBasis.{zero_from_members}
use Rattle.fj_ideal.proofs.ideal.Ideal.is_zero.Goals as goal

pub returns-clause-given : goal.returns-clause-given
returns-clause-given g c =
    let none : IsTrue c.is_empty.result ↔ (length c.members.result.now ≡ 0) = search rules in
    let zero = zero_from_members g.met.K.Coeff.lawful c.members.ensures.ideal in (
      λ t. zero.0 (sym c.members.ensures.value ∙ nil_from_length c.members.result.now (none.0 t)),
      λ all. none.1 (ap length (c.members.ensures.value ∙ zero.1 all)),
    )
