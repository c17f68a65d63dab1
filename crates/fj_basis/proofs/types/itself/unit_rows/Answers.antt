use Rattle.std.proofs.Common.{◌≡◌, ◌∷◌, ◌++◌, [], map, set, replicate, sym, ap, ap₂, ◌∙◌, arith}
use Rattle.std.specs.FinMap.{empty}
use Rattle.std.proofs.lemmas.List.{map-append}
use Rattle.std.proofs.lemmas.List.FromFn.{map-range_with_len_more}
use Rattle.fj_theory.specs.Exponents.{origin}
use Rattle.fj_theory.specs.Polynomial.{term}
use Rattle.fj_basis.specs.Basis.{unit_row}
use Rattle.fj_basis.proofs.types.itself.unit_rows.Goals as goal

pub loop-j-preserved : goal.loop-j-preserved
loop-j-preserved g c =
    let row_is : c.in_ok-row_of_one.field-0.items ≡ unit_row c.args.count c.loop-j.j = c.in_ok-row_of_one.ensures ∙ ap (λ r. set (replicate c.args.count empty) c.loop-j.j (term r origin)) c.one.ensures in
    ap (map (λ row. row.items)) c.in_ok-push.ensures.items ∙ map-append (λ row. row.items) c.loop-j.rows.items _ ∙ ap₂ (λ rows row. rows ++ row ∷ []) c.loop-j.invariant row_is
    ∙ sym (map-range_with_len_more (unit_row c.args.count) 0 c.loop-j.j c.loop-j.j (omega arith))
