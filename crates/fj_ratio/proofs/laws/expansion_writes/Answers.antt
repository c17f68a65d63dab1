use Rattle.fj_ratio.proofs.Written.{IsWritten-from_expansion}
use Rattle.fj_ratio.proofs.laws.expansion_writes.Goals as goal

pub returns : goal.returns
returns c p t d prime unit h = IsWritten-from_expansion p t d prime unit h
