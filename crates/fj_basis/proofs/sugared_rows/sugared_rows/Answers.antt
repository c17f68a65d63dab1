use Rattle.std.proofs.Common.{◌≡◌, ◌++◌, length, map, sym, ap, ◌∙◌, subst, subst₂}
use Rattle.std.proofs.lemmas.List.{length-map}
use Rattle.fj_groebner.specs.Rows.{AreRows}
use Rattle.fj_basis.specs.History.{AreMade, IsHistoryOf}
use Rattle.fj_basis.specs.Members.{sugared, sugared_members}
use Rattle.fj_basis.proofs.MadeRows.{AreRows-formed}
use Rattle.fj_basis.proofs.sugared_rows.sugared_rows.Goals as goal

pub returns : goal.returns
returns g c =
    let F = g.K.Coeff.field in
    let list = c.args.list.now in
    let run = c.in_ok-run.ensures in
    let parts = c.into_parts-members.ensures in
    let own = c.into_parts-members.result.0 in
    let items = c.deref.result.now in
    let G = sugared_members items in
    let kept = ap (λ h. h.is_kept) parts.history ∙ run.kept in
    let history = subst₂ (λ ms h. IsHistoryOf F list (sugared_members ms) h) (sym (c.deref.ensures.value ∙ ap (λ v. v.items) parts.members)) (sym parts.history) run.history in
    let expressed = c.in_ok-are_expressed.ensures c.if-not-branch.false list kept history in
    let made = subst (AreMade F list (G ++ expressed.made)) (sym c.deref-2.ensures.value) (expressed.history.made expressed.kept) in
    let rows = map (λ row. row.items) c.in_ok-rows.rows.items in
    let from : length G ≡ c.len.result = length-map items sugared ∙ ap length c.deref.ensures.value ∙ sym (c.len.ensures ∙ own.ok.0) in
    subst (λ fs. AreRows F list fs rows) expressed.are (AreRows-formed G expressed.made c.len.result rows from (c.in_ok-rows.ensures.value (G ++ expressed.made) made))
