use Rattle.fj_groebner.proofs.DegreeOrder.{grevlex_key-IsDegreeOrder}
use Rattle.fj_ideal.proofs.Congruence.{division_congruent}
use Rattle.fj_ideal.proofs.thinning.remainder.Goals as goal

pub unreachable-requires : goal.unreachable-requires
unreachable-requires g c = rw c.in-Err-High.field-0-is at (c.in-Err-High.ensures.degree_order grevlex_key-IsDegreeOrder)

pub returns-in-Ok : goal.returns-in-Ok
returns-in-Ok g c = division_congruent g.met.K.Coeff.lawful c.look_over.ensures c.requires c.is_zero.ensures.polynomial c.in-Ok.ensures.value c.in-Ok.ensures.identity
