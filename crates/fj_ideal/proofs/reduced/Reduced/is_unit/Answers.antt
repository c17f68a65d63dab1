use Rattle.std.proofs.Common.{◌≡◌, ◌↔◌, IsTrue, [], ◌∷◌, length, Some, ap, ◌∙◌, sym, rules, arith}
use Rattle.fj_theory.specs.Polynomial.{degree}
use Rattle.fj_ideal.proofs.ReducedBasis.{one_element, unit_from_member, unit_is_single}
use Rattle.fj_ideal.proofs.reduced.Reduced.is_unit.Goals as goal

pub returns-in-len1 : goal.returns-in-len1
returns-in-len1 g c =
    let single : c.args.self.now.members ≡ c.member-item.result ∷ [] = sym c.members.ensures.value ∙ one_element c.members.result.now c.member-item.result (omega arith) c.member-item.is in
    let law = unit_from_member g.met.K.Coeff.lawful c.members.ensures.ideal.polynomials c.members.ensures.ideal.reduced c.member-item.result single in
    let constant : IsTrue c.eq.result ↔ (degree c.member-item.result ≡ Some 0) = search rules in
    (λ t. law.0 (constant.0 t), λ m. constant.1 (law.1 m))

pub returns-in_default : goal.returns-in_default
returns-in_default g c = (
  λ t. cc,
  λ m.
      let long = unit_is_single g.met.K.Coeff.lawful c.members.ensures.ideal.polynomials c.members.ensures.ideal.reduced m in
      let same = ap length c.members.ensures.value in
      absurd (omega (arith, long, same)),
)

pub returns-in_default-2 : goal.returns-in_default-2
returns-in_default-2 g c = (
  λ t. cc,
  λ m.
      let long = unit_is_single g.met.K.Coeff.lawful c.members.ensures.ideal.polynomials c.members.ensures.ideal.reduced m in
      let same = ap length c.members.ensures.value in
      absurd (omega (arith, long, same)),
)
