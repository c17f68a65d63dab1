use Rattle.fj_groebner.proofs.Lacking.{IsReducedBasis-UsesFirst, IsMeet-UsesFirst, IsColon-UsesFirst}
use Rattle.fj_groebner.proofs.bases.bases_keep_variables.Goals as goal

pub returns : goal.returns
returns c F L key K n I J A B uses_I uses_J = record {
  ideal = λ G S. IsReducedBasis-UsesFirst K L A uses_I S;
  meet = λ M G T S. IsMeet-UsesFirst K L A B uses_I uses_J T S;
  colon = λ M G T S. IsColon-UsesFirst K L A B uses_I uses_J T S;
}
