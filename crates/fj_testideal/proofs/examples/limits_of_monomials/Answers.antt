use Rattle.fj_testideal.proofs.MonomialRoot.{test_ideal-monomial, left_limit-monomial}
use Rattle.fj_testideal.proofs.examples.limits_of_monomials.Goals as goal

pub returns : goal.returns
returns c F L a A = record { test_ideal = λ t. test_ideal-monomial L A t; left_limit = λ t above. left_limit-monomial L A t above }
