use Rattle.std.proofs.Common.{◌≡◌}
use Rattle.fj_theory.specs.Polynomial.{power}
use Rattle.fj_poly.proofs.poly.Poly.digit_power.Given as goal

abbrev pub invariant-loop : goal.invariant-loop
invariant-loop g l = l.result ≡ power g.K.Coeff.field l.self l.counter
