use Rattle.fj_poly.proofs.poly.Poly.+power_within.Given as goal

abbrev pub decreases-power_within : goal.decreases-power_within
decreases-power_within g l = l.k
