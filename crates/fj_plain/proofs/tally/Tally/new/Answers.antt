use Rattle.fj_plain.specs.Tallied.{by_exponents}
use Rattle.fj_plain.proofs.TalliedLemmas.{tallied-zeros}
use Rattle.fj_plain.proofs.tally.Tally.new.Goals as goal

pub returns : goal.returns
returns c = tallied-zeros (by_exponents c.new.result) c.new.ensures
