use Rattle.std.proofs.Common.{◌≡◌, map, take}
use Rattle.std.specs.List.{AllZip}
use Rattle.fj_session.specs.Outcome.{ShowsSomeRow}
use Rattle.fj_session.proofs.jumps.shown_jumps.Given as goal

-- the first rows are shown
abbrev pub invariant-loop-place : goal.invariant-loop-place
invariant-loop-place g l =
    (map (λ row. row.at) l.rows.items ≡ map (λ row. row.at) (take l.place l.jumps)) × AllZip (ShowsSomeRow g.K.Coeff.field l.order l.jumps) l.rows.items l.certificates.items
