use Rattle.fj_poly.proofs.poly.product.+coefficient_power.Given as goal

abbrev pub decreases-coefficient_power : goal.decreases-coefficient_power
decreases-coefficient_power g l = l.k
