use Rattle.fj_testideal.proofs.BoundedParts.{product_bounded, power_bounded, own_bounded}
use Rattle.fj_testideal.proofs.leads.products_are_bounded.Goals as goal

pub returns-clause-products : goal.returns-clause-products
returns-clause-products c F L vars a b f g S T = product_bounded L a b S T

pub returns-clause-powers : goal.returns-clause-powers
returns-clause-powers c F L f Q m d of_degree = power_bounded L d (own_bounded L Q of_degree) m
