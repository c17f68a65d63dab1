use Rattle.std.proofs.Common.{length}
use Rattle.fj_script.specs.Items.{listed}
use Rattle.fj_script.specs.Declaration.{coordinate}
use Rattle.fj_script.proofs.More.{GoesOn}
use Rattle.fj_script.proofs.declaration.coordinates.Given as goal

abbrev pub invariant-coordinates : goal.invariant-coordinates
invariant-coordinates l = GoesOn (coordinate l.session) l.coordinates.items l.reader (listed (coordinate l.session) l.fn.reader)

abbrev pub decreases-coordinates : goal.decreases-coordinates
decreases-coordinates l = length l.reader.left
