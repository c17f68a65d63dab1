use Rattle.fj_groebner.proofs.HighDivision.{IsHighDivision-SubtractsHigh, SubtractsHigh-IsHighDivision}
use Rattle.fj_groebner.proofs.bases.high_by_products.Goals as goal

pub returns : goal.returns
returns c F L key K M A some h H low = (IsHighDivision-SubtractsHigh K L M A some H low, SubtractsHigh-IsHighDivision K L M A some H)
