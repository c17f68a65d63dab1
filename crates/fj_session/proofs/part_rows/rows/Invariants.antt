use Rattle.std.proofs.Common.{◌≡◌, All, map, take}
use Rattle.fj_theory.specs.Plain.{polynomial}
use Rattle.fj_theory.specs.Polynomial.{terms_falling}
use Rattle.fj_root.specs.Part.{parts_of}
use Rattle.fj_session.specs.Meaning.{part_of}
use Rattle.fj_session.proofs.part_rows.rows.Given as goal

-- the rows of the first parts are there
abbrev pub invariant-loop-part : goal.invariant-loop-part
invariant-loop-part g l =
    (map part_of l.rows.items ≡ parts_of (take l.part-index l.parts)) × All (λ row. row.poly.terms ≡ terms_falling g.O.Order.key (polynomial row.poly)) l.rows.items
