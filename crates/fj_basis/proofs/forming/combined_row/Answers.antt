use Rattle.std.proofs.Common.{◌≡◌, All, length, map, get_or, sym, ap, ap₂, ◌∙◌, subst, arith}
use Rattle.std.specs.FinMap.{empty}
use Rattle.std.proofs.lemmas.List.{get_or-map, length-map, take_all}
use Rattle.fj_theory.specs.Ideal.{ArePolynomials}
use Rattle.fj_theory.specs.Polynomial.{product}
use Rattle.fj_groebner.specs.Rows.{add_multiple}
use Rattle.fj_poly.specs.Limit.{IsHigh}
use Rattle.fj_basis.specs.History.{combined, polynomial_at}
use Rattle.fj_basis.specs.Members.{IsRowWithin}
use Rattle.fj_basis.proofs.FormedRows.{other-long, other-low, other-polynomials, partial-more, partial-none, summand-row}
use Rattle.fj_basis.proofs.Gathered.{whole-written}
use Rattle.fj_basis.proofs.forming.combined_row.Goals as goal

pub loop-summand-init : goal.loop-summand-init
loop-summand-init g c = λ G bound h. partial-none g.row.K.Denot g.row.O.Denot g.met.K.Coeff.lawful c.requires.list G bound c.in_ok-row.row.items c.in_ok-row.ensures

pub add_multiple-requires-clause-row : goal.add_multiple-requires-clause-row
add_multiple-requires-clause-row g c =
    let some = c.requires.combined in
    subst (ArePolynomials g.K.Coeff.field) (sym c.deref_mut.ensures.value) (c.loop-summand.invariant some.all some.bound some.combined).is.polynomials

pub add_multiple-requires-clause-other : goal.add_multiple-requires-clause-other
add_multiple-requires-clause-other g c =
    let some = c.requires.combined in
    let laws = g.met.K.Coeff.lawful in
    let A = c.requires.list in
    let rows = map (λ row. row.items) c.args.rows.now in
    let s = c.summand-item.result in
    let own = c.index-rows-summand.result in
    let i = c.loop-summand.summand-index in
    let l = c.loop-summand-test.true in
    let long = length-map c.args.rows.now (λ row. row.items) in
    let place = (summand-row g.row.K.Denot g.row.O.Denot laws A some.all some.bound rows c.args.summands.now some.combined i l s c.summand-item.is).0 in
    let is : own.items ≡ get_or rows s.place own.items = ap (λ row. row.items) c.index-rows-summand.is ∙ sym (get_or-map (λ row. row.items) c.args.rows.now s.place own own.items (omega (arith, place, long))) in
    subst (ArePolynomials g.K.Coeff.field) (sym c.deref.ensures.value)
    (other-polynomials g.row.K.Denot g.row.O.Denot laws A some.all some.bound rows c.args.summands.now some.combined i l s c.summand-item.is own.items is)

pub add_multiple-requires-clause-long : goal.add_multiple-requires-clause-long
add_multiple-requires-clause-long g c =
    let some = c.requires.combined in
    let laws = g.met.K.Coeff.lawful in
    let A = c.requires.list in
    let rows = map (λ row. row.items) c.args.rows.now in
    let s = c.summand-item.result in
    let own = c.index-rows-summand.result in
    let i = c.loop-summand.summand-index in
    let l = c.loop-summand-test.true in
    let long = length-map c.args.rows.now (λ row. row.items) in
    let place = (summand-row g.row.K.Denot g.row.O.Denot laws A some.all some.bound rows c.args.summands.now some.combined i l s c.summand-item.is).0 in
    let is : own.items ≡ get_or rows s.place own.items = ap (λ row. row.items) c.index-rows-summand.is ∙ sym (get_or-map (λ row. row.items) c.args.rows.now s.place own own.items (omega (arith, place, long))) in
    ap length c.deref.ensures.value
    ∙ other-long g.row.K.Denot g.row.O.Denot laws A some.all some.bound rows c.args.summands.now some.combined i l s c.summand-item.is own.items is
    ∙ sym (c.loop-summand.invariant some.all some.bound some.combined).is.long ∙ sym (ap length c.deref_mut.ensures.value)

pub add_multiple-requires-clause-within : goal.add_multiple-requires-clause-within
add_multiple-requires-clause-within g c =
    let some = c.requires.combined in
    let laws = g.met.K.Coeff.lawful in
    let A = c.requires.list in
    let rows = map (λ row. row.items) c.args.rows.now in
    let s = c.summand-item.result in
    let own = c.index-rows-summand.result in
    let i = c.loop-summand.summand-index in
    let l = c.loop-summand-test.true in
    let long = length-map c.args.rows.now (λ row. row.items) in
    let place = (summand-row g.row.K.Denot g.row.O.Denot laws A some.all some.bound rows c.args.summands.now some.combined i l s c.summand-item.is).0 in
    let is : own.items ≡ get_or rows s.place own.items = ap (λ row. row.items) c.index-rows-summand.is ∙ sym (get_or-map (λ row. row.items) c.args.rows.now s.place own own.items (omega (arith, place, long))) in
    subst (All (λ y. IsHigh (product g.K.Coeff.field s.factor y) → ⊥)) (sym c.deref.ensures.value)
    (other-low g.row.K.Denot g.row.O.Denot laws A some.all some.bound rows c.args.summands.now some.combined i l s c.summand-item.is own.items is)

pub loop-summand-preserved : goal.loop-summand-preserved
loop-summand-preserved g c = λ G bound h.
    let laws = g.met.K.Coeff.lawful in
    let A = c.requires.list in
    let rows = map (λ row. row.items) c.args.rows.now in
    let s = c.summand-item.result in
    let own = c.index-rows-summand.result in
    let i = c.loop-summand.summand-index in
    let l = c.loop-summand-test.true in
    let row = c.loop-summand.row in
    let long = length-map c.args.rows.now (λ row. row.items) in
    let place = (summand-row g.row.K.Denot g.row.O.Denot laws A G bound rows c.args.summands.now h i l s c.summand-item.is).0 in
    let is : own.items ≡ get_or rows s.place own.items = ap (λ row. row.items) c.index-rows-summand.is ∙ sym (get_or-map (λ row. row.items) c.args.rows.now s.place own own.items (omega (arith, place, long))) in
    let written = whole-written row.len c.add_multiple.new.row row.items (c.add_multiple.auto.row ∙ ap length c.deref_mut.ensures.value) row.ok.0 in
    partial-more g.row.K.Denot g.row.O.Denot laws A G bound rows c.args.summands.now h i l s c.summand-item.is own.items is row.items _
    (written ∙ c.in_ok-add_multiple.ensures.value ∙ ap₂ (λ ys zs. add_multiple g.K.Coeff.field s.factor ys zs) c.deref_mut.ensures.value c.deref.ensures.value)
    (c.loop-summand.invariant G bound h)

pub returns-clause-value : goal.returns-clause-value
returns-clause-value g c = λ G bound h.
    subst (λ ss. IsRowWithin g.K.Coeff.field c.args.list.now (record { polynomial = combined g.K.Coeff.field (polynomial_at G) empty ss; sugar = bound }) c.loop-summand.row.items)
    (take_all c.loop-summand.summand-index c.args.summands.now (omega (arith, c.loop-summand-test.false))) (c.loop-summand.invariant G bound h)
