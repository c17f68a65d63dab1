use Rattle.std.proofs.Common.{◌≡◌, List, length, map, ap, ap₂, sym, subst, ◌∙◌}
use Rattle.std.proofs.lemmas.List.{length-map}
use Rattle.std.proofs.lemmas.Result.{IfOk-weaker}
use Rattle.fj_theory.specs.Plain.{polynomial}
use Rattle.fj_theory.specs.Polynomial.{Polynomial}
use Rattle.fj_groebner.specs.Rows.{AreRows, product_of_rows}
use Rattle.fj_groebner.proofs.Rows.{AreRows-product}
use Rattle.fj_basis.proofs.MadeRows.{AreRows-long, AreRows-wide}
use Rattle.fj_ideal.specs.Ideal.{IsIdeal}
use Rattle.fj_ideal.proofs.PlainTables.{lengths-views}
use Rattle.fj_ideal.proofs.ideal.same.rows_over.Goals as goal

pub product_of_tables-requires-clause-wide : goal.product_of_tables-requires-clause-wide
product_of_tables-requires-clause-wide g c =
    let F = g.K.Coeff.field in
    let J = c.args.sources.now in
    let I : IsIdeal F J = subst (IsIdeal F) c.sources.view_is c.sources.invariant in
    lengths-views c.in_ok-rows.rows J.down (c.in_ok-rows.ensures.value ∙ ap (λ J. J.down) c.sources.view_is) (length J.given) (AreRows-wide F J.given J.members J.down I.made.down)
    c.len.result (c.len.ensures ∙ c.sources.inside.given.ok.0 ∙ ap (λ J. length J.given) c.sources.view_is)

pub product_of_tables-requires-clause-long : goal.product_of_tables-requires-clause-long
product_of_tables-requires-clause-long g c =
    let F = g.K.Coeff.field in
    let J = c.args.sources.now in
    let T = c.args.targets.now in
    let I : IsIdeal F J = subst (IsIdeal F) c.sources.view_is c.sources.invariant in
    let S : IsIdeal F T = subst (IsIdeal F) c.targets.view_is c.targets.invariant in
    let down : map (map polynomial) c.in_ok-rows.rows ≡ J.down = c.in_ok-rows.ensures.value ∙ ap (λ J. J.down) c.sources.view_is in
    let long : length c.in_ok-rows.rows ≡ length T.members =
    sym (length-map c.in_ok-rows.rows (map polynomial)) ∙ ap length down ∙ AreRows-long F J.given J.members J.down I.made.down ∙ ap length c.requires.members in
    lengths-views c.in_ok-factors.factors T.up (c.in_ok-factors.ensures.value ∙ ap (λ J. J.up) c.targets.view_is) (length T.members) (AreRows-wide F T.members T.given T.up S.made.up)
    (length c.in_ok-rows.rows) long

pub returns-clause-rows : goal.returns-clause-rows
returns-clause-rows g c =
    let F = g.K.Coeff.field in
    let J = c.args.sources.now in
    let T = c.args.targets.now in
    let I : IsIdeal F J = subst (IsIdeal F) c.sources.view_is c.sources.invariant in
    let S : IsIdeal F T = subst (IsIdeal F) c.targets.view_is c.targets.invariant in
    let down : map (map polynomial) c.in_ok-rows.rows ≡ J.down = c.in_ok-rows.ensures.value ∙ ap (λ J. J.down) c.sources.view_is in
    let up : map (map polynomial) c.in_ok-factors.factors ≡ T.up = c.in_ok-factors.ensures.value ∙ ap (λ J. J.up) c.targets.view_is in
    let width : c.len.result ≡ length J.given = c.len.ensures ∙ c.sources.inside.given.ok.0 ∙ ap (λ J. length J.given) c.sources.view_is in
    let there : AreRows F J.members T.given T.up = subst (λ (G : List Polynomial). AreRows F G T.given T.up) (sym c.requires.members) S.made.up in
    let rows : AreRows F J.given T.given (product_of_rows F (length J.given) T.up J.down) = AreRows-product g.met.K.Coeff.lawful I.polynomials J.members J.down I.made.down T.given T.up there in
    let same = ap (λ n. product_of_rows F n (map (map polynomial) c.in_ok-factors.factors) (map (map polynomial) c.in_ok-rows.rows)) width ∙ ap₂ (product_of_rows F (length J.given)) up down in
    IfOk-weaker c.product_of_tables.result _ _ (λ table value. subst (AreRows F J.given T.given) (sym (value ∙ same)) rows) c.product_of_tables.ensures.value
