use Rattle.std.proofs.Common.{◌≡◌, List, All, map, sym, ap, ◌∙◌, subst}
use Rattle.std.specs.FinMap.{empty}
use Rattle.std.proofs.lemmas.Result.{IfOk-weaker}
use Rattle.fj_theory.specs.Polynomial.{product}
use Rattle.fj_groebner.specs.Division.{Sugared}
use Rattle.fj_poly.specs.Limit.{IsHigh}
use Rattle.fj_basis.specs.Forming.{CanBeCombined, AreCombined, IsMadeWithRows}
use Rattle.fj_basis.specs.History.{IsSourceOf, combined, polynomial_at}
use Rattle.fj_basis.specs.Members.{IsRowWithin}
use Rattle.fj_basis.proofs.FormedRows.{IsPolynomial-row, constant-low, made-combined, source-given, times-constant}
use Rattle.fj_basis.proofs.forming.row_of.Goals as goal
use Rattle.fj_basis.proofs.forming.row_of.Goals.{in-Given+in_ok-source-in-Given, in-Combined+in_ok-source-in-Combined}

pub combined_row-requires-clause-combined : goal.combined_row-requires-clause-combined
combined_row-requires-clause-combined g c =
    let some = c.requires.made in
    let rows = map (λ row. row.items) c.args.rows.now in
    subst (CanBeCombined g.K.Coeff.field c.args.list.now rows) (sym c.deref.ensures.value)
    (record { all = some.all; bound = some.made.sugar; combined = (made-combined some.all some.made rows c.args.making.now some.with_rows c.in-Combined.summands c.in-Combined.is).0 })

pub times_row-requires : goal.times_row-requires
times_row-requires g c =
    let F = g.K.Coeff.field in
    let laws = g.met.K.Coeff.lawful in
    let N = c.args.list.now in
    let rows = map (λ row. row.items) c.args.rows.now in
    let some = c.requires.made in
    let h = some.with_rows in
    let source : IsRowWithin F N (record { polynomial = h.is.made_of; sugar = some.made.sugar }) c.match-making.source.items =
    elim c.match-making.branch [
      | in-Given+in_ok-source-in-Given w ↦ (
          let own = subst (IsSourceOf F N some.all some.made.sugar h.is.made_of) w.in-Given.is h.is.source in
          subst (λ v. IsRowWithin F N (record { polynomial = h.is.made_of; sugar = some.made.sugar }) v.items) (sym w.source-is)
          (source-given laws c.requires.list some.made.sugar _ h.is.made_of _ (g.K.Coeff.rank w.one.result) w.one.ensures own.0 own.1 w.in_ok-source-in-Given.ensures))
      | in-Combined+in_ok-source-in-Combined w ↦ (
          let both = made-combined some.all some.made rows c.args.making.now h w.in-Combined.summands w.in-Combined.is in
          subst (λ v. IsRowWithin F N (record { polynomial = h.is.made_of; sugar = some.made.sugar }) v.items) (sym w.source-is)
          (subst (λ f. IsRowWithin F N (record { polynomial = f; sugar = some.made.sugar }) w.in_ok-source-in-Combined.source.items) (sym (both.1 ∙ ap (combined F (polynomial_at some.all) empty) (sym w.deref.ensures.value)))
          (w.in_ok-source-in-Combined.ensures.value some.all some.made.sugar (subst (AreCombined F N some.all some.made.sugar rows) (sym w.deref.ensures.value) both.0))))
    ] in
    record {
      within = subst (All (λ y. IsHigh (product F c.args.making.now.constant y) → ⊥)) (sym c.deref-2.ensures.value)
          (constant-low laws c.requires.list some.made.sugar c.args.making.now.constant c.match-making.source.items h.is.constant h.is.degree h.is.low source.is.polynomials source.within);
    }

pub returns-clause-value : goal.returns-clause-value
returns-clause-value g c =
    let F = g.K.Coeff.field in
    let laws = g.met.K.Coeff.lawful in
    let N = c.args.list.now in
    let rows = map (λ row. row.items) c.args.rows.now in
    let made_of : (G : List Sugared) (m : Sugared) (h : IsMadeWithRows F N G m rows c.args.making.now) → IsRowWithin F N (record { polynomial = h.is.made_of; sugar = m.sugar }) c.match-making.source.items =
    λ G m h.
    elim c.match-making.branch [
      | in-Given+in_ok-source-in-Given w ↦ (
          let own = subst (IsSourceOf F N G m.sugar h.is.made_of) w.in-Given.is h.is.source in
          subst (λ v. IsRowWithin F N (record { polynomial = h.is.made_of; sugar = m.sugar }) v.items) (sym w.source-is)
          (source-given laws c.requires.list m.sugar _ h.is.made_of _ (g.K.Coeff.rank w.one.result) w.one.ensures own.0 own.1 w.in_ok-source-in-Given.ensures))
      | in-Combined+in_ok-source-in-Combined w ↦ (
          let both = made-combined G m rows c.args.making.now h w.in-Combined.summands w.in-Combined.is in
          subst (λ v. IsRowWithin F N (record { polynomial = h.is.made_of; sugar = m.sugar }) v.items) (sym w.source-is)
          (subst (λ f. IsRowWithin F N (record { polynomial = f; sugar = m.sugar }) w.in_ok-source-in-Combined.source.items) (sym (both.1 ∙ ap (combined F (polynomial_at G) empty) (sym w.deref.ensures.value)))
          (w.in_ok-source-in-Combined.ensures.value G m.sugar (subst (AreCombined F N G m.sugar rows) (sym w.deref.ensures.value) both.0))))
    ] in
    IfOk-weaker _ (λ row. row.items ≡ map (product F c.args.making.now.constant) c.deref-2.result.now)
    (λ row. (G : List Sugared) (m : Sugared) → IsMadeWithRows F N G m rows c.args.making.now → IsRowWithin F N m row.items)
    (λ row e G m h.
    let source = made_of G m h in
    times-constant laws c.requires.list G m c.args.making.now h.is c.match-making.source.items row.items source (IsPolynomial-row laws c.requires.list _ _ source)
    (e ∙ ap (map (product F c.args.making.now.constant)) c.deref-2.ensures.value))
    c.times_row.ensures.value
