use Rattle.fj_coeff.specs.PrimeFieldLaws.{prime_bounds}
use Rattle.fj_theory.proofs.Gaps as gaps
use Rattle.fj_ratio.proofs.laws.candidate_or_inside.Goals as goal

pub returns : goal.returns
returns c p E ts t prime some candidates unit = gaps.candidate_or_inside p E ts t (prime_bounds p prime).0 some candidates unit
