use Rattle.std.proofs.Common.{◌∙◌, sym, subst}
use Rattle.fj_basis.specs.SugaredRun.{IsSugaredRun}
use Rattle.fj_basis.proofs.sugared_rows.run_within.Goals as goal
use Rattle.fj_basis.proofs.sugared_rows.run_within.Goals.{else-loop-test, then-loop-test+then-has_all, then-has_all-via-then-has_all, then-has_all-via-else-has_all+in_ok-turn+then-not-branch}

pub returns : goal.returns
returns g c =
    let F = g.K.Coeff.field in
    let key = g.O.Order.key in
    let list = c.args.list.now in
    elim c.loop-test.branch [
      | else-loop-test w ↦ subst (IsSugaredRun F key list) (sym w.run-is) c.loop.invariant
      | then-loop-test+then-has_all w ↦
          elim w.then-has_all.branch [
            | then-has_all-via-then-has_all v ↦ subst (IsSugaredRun F key list) (sym (w.run-is ∙ v.run-is)) c.loop.invariant
            | then-has_all-via-else-has_all+in_ok-turn+then-not-branch v ↦ subst (IsSugaredRun F key list) (sym (w.run-is ∙ v.run-is)) (v.in_ok-turn.ensures list c.loop.invariant)
          ]
    ]
