use Rattle.std.proofs.Common.{◌≡◌, ◌++◌, take}
use Rattle.std.specs.List.{flat_map}
use Rattle.fj_session.specs.Text.{gap_line}
use Rattle.fj_session.proofs.printing.push_gaps.Given as goal

-- the lines of the first rows are printed
abbrev pub invariant-loop-place : goal.invariant-loop-place
invariant-loop-place l = l.out.items ≡ l.fn.out.items ++ flat_map (gap_line l.number) (take l.place l.rows)
