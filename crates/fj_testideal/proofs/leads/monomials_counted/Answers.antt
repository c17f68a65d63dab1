use Rattle.fj_testideal.proofs.Binomial.{monomial_count-binomial}
use Rattle.fj_testideal.proofs.MonomialList.{monomials_up_to, length-monomials_up_to, bounded-monomials_up_to, contains-monomials_up_to, distinct-monomials_up_to}
use Rattle.fj_testideal.proofs.leads.monomials_counted.Goals as goal

pub returns-clause-counted : goal.returns-clause-counted
returns-clause-counted c vars bound =
    (monomials_up_to vars bound, bounded-monomials_up_to vars bound, contains-monomials_up_to vars bound, distinct-monomials_up_to vars bound, length-monomials_up_to vars bound)

pub returns-clause-binomial : goal.returns-clause-binomial
returns-clause-binomial c n D = monomial_count-binomial n D
