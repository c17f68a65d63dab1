use Rattle.fj_groebner.proofs.HighDivision.{SubtractsHigh-degree_order}
use Rattle.fj_groebner.proofs.bases.degree_orders_are_low.Goals as goal

pub returns : goal.returns
returns c F L key K D M A some h H low u = SubtractsHigh-degree_order K L M A some H D low u
