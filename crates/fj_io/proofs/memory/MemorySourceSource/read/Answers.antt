use Rattle.std.proofs.Common.{◌<◌, length, arith}
use Rattle.std.proofs.lemmas.Grind.{common_steps}
use Rattle.fj_io.proofs.KnownBytes.{given_and_left, none_left}
use Rattle.fj_io.proofs.memory.MemorySourceSource.read.Goals as goal

pub returns-clause-bytes : goal.returns-clause-bytes
returns-clause-bytes c = (
  given_and_left c.self.inside.bytes.items c.args.into.now _ _ c.self.inside.at c.min-count.result
      (grind (arith, common_steps)) (grind (arith, common_steps)) (grind (arith, common_steps)),
  λ none room. none_left c.self.inside.bytes.items c.self.inside.at c.min-count.result none
      (let positive : 0 < length c.args.into.now = c.requires in grind (arith, common_steps)),
)
