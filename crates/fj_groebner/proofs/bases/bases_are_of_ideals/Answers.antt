use Rattle.fj_groebner.proofs.ReducedBasis.{IsReducedBasis-SameIdeal, IsReducedBasis-same_ideal}
use Rattle.fj_groebner.proofs.bases.bases_are_of_ideals.Goals as goal

pub returns : goal.returns
returns c F L key K M G A B = record { generates = IsReducedBasis-SameIdeal K L A B; same = λ N C E. IsReducedBasis-same_ideal K L A C E B }
