use Rattle.fj_gen.proofs.Accepting.{generated_accepted}
use Rattle.fj_gen.proofs.laws.generated_is_accepted.Goals as goal

pub returns : goal.returns
returns c n some few = generated_accepted n some few
