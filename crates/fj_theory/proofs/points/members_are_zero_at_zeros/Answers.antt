use Rattle.fj_theory.proofs.Evaluation.{Member-IsZeroOf}
use Rattle.fj_theory.proofs.points.members_are_zero_at_zeros.Goals as goal

pub returns : goal.returns
returns c F L point at M P zeros h H = Member-IsZeroOf L at P zeros H
