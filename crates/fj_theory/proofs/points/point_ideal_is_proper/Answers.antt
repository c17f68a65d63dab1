use Rattle.fj_theory.proofs.PointIdeal.{point_ideal-IsProper}
use Rattle.fj_theory.proofs.points.point_ideal_is_proper.Goals as goal

pub returns : goal.returns
returns c F L point at n small H = point_ideal-IsProper L at n small H
