use Rattle.fj_testideal.proofs.BinomialBound.{monomial_count-rises, monomial_count-fits}
use Rattle.fj_testideal.proofs.periods.number_of_periods_fits.Goals as goal

pub returns-clause-rises : goal.returns-clause-rises
returns-clause-rises c m n D E h k = monomial_count-rises m n D E h k

pub returns-clause-fits : goal.returns-clause-fits
returns-clause-fits c n D h k = monomial_count-fits n D h k
