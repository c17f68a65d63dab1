use Rattle.fj_theory.proofs.Polynomial.{IsPolynomial-sum}
use Rattle.fj_theory.proofs.Product.{IsPolynomial-product}
use Rattle.fj_theory.proofs.PolynomialRing.{IsPolynomial-negation, sum_assoc, sum_comm, sum_empty, sum_negation, product_assoc, product_comm, product_one, product_sum}
use Rattle.fj_theory.proofs.polynomials.polynomials_are_a_ring.Goals as goal

pub returns : goal.returns
returns c F L = record {
  sum_closed = λ f g. IsPolynomial-sum L f.is_polynomial g.is_polynomial;
  negation_closed = λ f. IsPolynomial-negation L f.is_polynomial;
  product_closed = λ f g. IsPolynomial-product L f.is_polynomial g.is_polynomial;
  sum_assoc = λ f g h. sum_assoc L f.is_polynomial g.is_polynomial h.is_polynomial;
  sum_comm = λ f g. sum_comm L f.is_polynomial g.is_polynomial;
  sum_empty = λ f. sum_empty L f.is_polynomial;
  sum_negation = λ f. sum_negation L f.is_polynomial;
  product_assoc = λ f g h. product_assoc L f.is_polynomial g.is_polynomial h.is_polynomial;
  product_comm = λ f g. product_comm L f.is_polynomial g.is_polynomial;
  product_one = λ f. product_one L f.is_polynomial;
  product_sum = λ f g h. product_sum L f.is_polynomial g.is_polynomial h.is_polynomial;
}
