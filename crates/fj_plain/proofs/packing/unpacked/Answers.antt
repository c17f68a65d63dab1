use Rattle.std.proofs.Common.{rules}
use Rattle.fj_plain.specs.Packing.{digits_from}
use Rattle.fj_plain.proofs.packing.unpacked.Goals as goal

pub returns : goal.returns
unfolding digits_from
returns c = search rules
