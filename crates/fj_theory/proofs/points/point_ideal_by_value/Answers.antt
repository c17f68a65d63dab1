use Rattle.fj_theory.proofs.PointIdeal.{Member-point_ideal}
use Rattle.fj_theory.proofs.points.point_ideal_by_value.Goals as goal

pub returns : goal.returns
returns c F L point at n small f P first = Member-point_ideal L at n small P first
