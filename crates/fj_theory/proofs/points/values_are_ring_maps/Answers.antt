use Rattle.fj_theory.proofs.Evaluation.{value_below, value-empty, value-one, value-sum, value-negation, value-product, value-power}
use Rattle.fj_theory.proofs.points.values_are_ring_maps.Goals as goal

pub returns : goal.returns
returns c F L point at = record {
  element = λ f. value_below L at f.is_polynomial;
  keeps_zero = value-empty L at;
  keeps_one = value-one L at;
  keeps_sum = λ f g. value-sum L at f.is_polynomial g.is_polynomial;
  keeps_negation = λ f. value-negation L at f.is_polynomial;
  keeps_product = λ f g. value-product L at f.is_polynomial g.is_polynomial;
  keeps_power = λ f k. value-power L at f.is_polynomial k;
}
