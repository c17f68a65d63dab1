use Rattle.std.proofs.Common.{◌≡◌, ◌++◌}
use Rattle.std.specs.List.{flat_map, range_with_len}
use Rattle.fj_gen.specs.Generated.{lines_at, ring_line}
use Rattle.fj_gen.proofs.made.made_script.Given as goal

-- the lines of the first polynomials are written
abbrev pub invariant-loop-place : goal.invariant-loop-place
invariant-loop-place l = l.out.items ≡ ring_line l.p ++ flat_map (lines_at l.p) (range_with_len 1 l.place)
