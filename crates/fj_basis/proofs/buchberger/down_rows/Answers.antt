use Rattle.std.proofs.Common.{◌++◌, length, length-append, map, sym, ap, subst, arith}
use Rattle.std.proofs.lemmas.Result.{IfOk-weaker}
use Rattle.fj_groebner.specs.Division.{polynomials_of}
use Rattle.fj_groebner.specs.Rows.{AreRows}
use Rattle.fj_basis.specs.History.{AreMade}
use Rattle.fj_basis.specs.Members.{sugared_members}
use Rattle.fj_basis.proofs.MadeRows.{AreRows-formed}
use Rattle.fj_basis.proofs.buchberger.down_rows.Goals as goal

pub rows_from-requires-clause-made : goal.rows_from-requires-clause-made
rows_from-requires-clause-made g c =
    let run = c.requires.finished.1 in
    let G = run.before ++ sugared_members c.args.found.now.members.items in
    record { all = G; made = subst (AreMade g.K.Coeff.field c.args.list.now G) (sym c.deref-2.ensures.value) (run.history.made c.requires.kept) }

pub rows_from-requires-clause-from : goal.rows_from-requires-clause-from
rows_from-requires-clause-from g c =
    let run = c.requires.finished.1 in
    let made = (run.history.made c.requires.kept).long in
    let from = run.from in
    let same = ap length c.deref-2.ensures.value in
    omega (arith, made, from, same, length-append run.before (sugared_members c.args.found.now.members.items))

pub returns-clause-value : goal.returns-clause-value
returns-clause-value g c =
    let F = g.K.Coeff.field in
    let list = c.args.list.now in
    let run = c.requires.finished.1 in
    let from = c.args.found.now.from in
    let G = sugared_members c.args.found.now.members.items in
    let made = subst (AreMade F list (run.before ++ G)) (sym c.deref-2.ensures.value) (run.history.made c.requires.kept) in
    IfOk-weaker c.rows_from.result _ (λ rows. AreRows F list (polynomials_of G) (map (λ row. row.items) rows.items))
    (λ rows formed. AreRows-formed run.before G from (map (λ row. row.items) rows.items) run.from (formed (run.before ++ G) made)) c.rows_from.ensures.value
