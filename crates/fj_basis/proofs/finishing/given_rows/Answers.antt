use Rattle.std.proofs.Common.{◌∷◌, ◌++◌, [], map, take, sym, ap, ◌∙◌, subst, subst₂, arith, add-one}
use Rattle.std.proofs.Math.Seq.{take-suc}
use Rattle.std.proofs.lemmas.List.{map-append, take_all}
use Rattle.std.proofs.lemmas.Result.{err_from_is_err_and}
use Rattle.fj_basis.specs.Members.{sugared_members}
use Rattle.fj_basis.specs.Finished.{AreQuotients}
use Rattle.fj_basis.proofs.HighOnly.{only_only}
use Rattle.fj_basis.proofs.FinishingRows.{AreQuotients-more, AreQuotients-nil}
use Rattle.fj_basis.proofs.finishing.given_rows.Goals as goal

pub loop-f-init : goal.loop-f-init
loop-f-init g c = subst (λ rows. AreQuotients g.K.Coeff.field g.O.Order.key (sugared_members c.args.basis.now) [] (map (λ row. row.items) rows)) (sym c.in_ok-rows.ensures.items)
    (AreQuotients-nil g.K.Coeff.field g.O.Order.key (sugared_members c.args.basis.now))

pub returns-in_err-row-clause-high : goal.returns-in_err-row-clause-high
returns-in_err-row-clause-high g c =
    let p = err_from_is_err_and c.from_residual-in_err-row.result c.from_residual-in_err-row.ensures.1 in
    only_only (Unit {0}) _ _ _ _ p.0 c.in_err-row.field-0.0 p.1 p.2
    (λ high. (c.loop-f.f-index, c.f-item.result, c.loop-f-test.true, sym c.f-item.is, high))
    c.in_err-row.ensures.high

pub loop-f-preserved : goal.loop-f-preserved
loop-f-preserved g c =
    subst₂ (AreQuotients g.K.Coeff.field g.O.Order.key (sugared_members c.args.basis.now))
    (sym (ap (λ n. take n c.args.list.now) (add-one c.loop-f.f-index) ∙ take-suc c.args.list.now c.loop-f.f-index c.f-item.result c.loop-f-test.true ∙ ap (λ f. take c.loop-f.f-index c.args.list.now ++ (f ∷ [])) (sym c.f-item.is)))
    (sym (ap (map (λ row. row.items)) c.in_ok-append_row.ensures ∙ map-append (λ row. row.items) c.loop-f.rows.items (c.in_ok-row.row ∷ [])))
    (AreQuotients-more (take c.loop-f.f-index c.args.list.now) (map (λ row. row.items) c.loop-f.rows.items) c.f-item.result c.in_ok-row.row.items c.loop-f.invariant c.in_ok-row.ensures.row)

pub returns-clause-rows : goal.returns-clause-rows
returns-clause-rows g c =
    subst (λ L. AreQuotients g.K.Coeff.field g.O.Order.key (sugared_members c.args.basis.now) L (map (λ row. row.items) c.loop-f.rows.items))
    (take_all c.loop-f.f-index c.args.list.now (omega (arith, c.loop-f-test.false))) c.loop-f.invariant
