use Rattle.fj_groebner.proofs.Criterion.{AllSettled-covers}
use Rattle.fj_groebner.proofs.bases.settled_pairs_cover.Goals as goal

pub returns : goal.returns
returns c F L key K G A monic all h m n = AllSettled-covers K L G A monic all h m n
