use Rattle.std.proofs.Common.{◌≡◌, suc, ◌-◌, drop, get_or, map, ap, ap₂, sym, ◌∙◌, arith}
use Rattle.fj_coeff.specs.Field.{power}
use Rattle.fj_theory.specs.Evaluation.{monomial_value}
use Rattle.fj_poly.proofs.Values.{monomial_value_more, monomial_value_end}
use Rattle.fj_poly.proofs.poly.point.value_of_monomial.Goals as goal

pub loop-i-init : goal.loop-i-init
loop-i-init g c = record {
  within = omega arith;
  value = c.one-value.ensures ∙ sym (monomial_value_end g.K.Coeff.field c.args.m.now.exponents (drop 8 (map g.K.Coeff.rank c.args.point.now)) c.args.m.now.eight);
}

pub loop-i-preserved : goal.loop-i-preserved
loop-i-preserved g c =
    let F = g.K.Coeff.field in
    let a = c.args.m.now.exponents in
    let p = map g.K.Coeff.rank c.args.point.now in
    let next : c.loop-i.i ≡ suc (c.loop-i.i - 1) = omega (arith, c.loop-i-test.true) in
    let factor = F.mul (power F (get_or p (c.loop-i.i - 1) 0) (get_or a (c.loop-i.i - 1) 0)) in
    record {
      within = omega arith;
      value =
          c.mul-value.ensures
          ∙ ap₂ F.mul (c.coefficient_power-power.ensures ∙ ap₂ (power F) c.coordinate.ensures c.exp.ensures) c.loop-i.invariant.value
          ∙ ap (λ j. factor (monomial_value F (drop j a) (drop j p))) next
          ∙ monomial_value_more F a p (c.loop-i.i - 1) (omega (arith, c.args.m.now.eight, c.loop-i.invariant.within));
    }
