use Rattle.fj_groebner.proofs.ReducedBasis.{IsReducedBasis-unique}
use Rattle.fj_groebner.proofs.bases.one_reduced_basis.Goals as goal

pub returns : goal.returns
returns c F L key K M N G H A B E S T = IsReducedBasis-unique K L A B E S T
