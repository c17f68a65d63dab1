use Rattle.std.proofs.Common.{sym, subst}
use Rattle.fj_basis.specs.State.{IsFirstMember}
use Rattle.fj_basis.specs.SugaredRun.{IsSugaredRun}
use Rattle.fj_basis.proofs.Starting.{first-nonzero}
use Rattle.fj_basis.proofs.SugaredRun.{sugared-first, sugared-none}
use Rattle.fj_basis.proofs.sugared_run.SugaredRun.start.Goals as goal
use Rattle.fj_basis.proofs.sugared_run.SugaredRun.start.Goals.{in-Some+in_ok-push+in_ok-append, in_default}

pub loop-j-init : goal.loop-j-init
loop-j-init g c = sugared-none g.met.K.Coeff.lawful g.met.O.Order.monomial_order c.requires _ c.new.ensures.items c.new-2.ensures.kept c.new-2.ensures.none

pub append-requires : goal.append-requires
append-requires g c =
    let first = subst (IsFirstMember g.K.Coeff.field g.O.Order.key g.K.Coeff.rank c.args.list.now c.loop-j.j c.len.result) c.in-Some.is c.in_ok-member.ensures in
    first-nonzero c.args.list.now g.met.K.Coeff.lawful g.met.O.Order.monomial_order c.requires c.loop-j.j c.loop-j-test.true c.in-Some.member first.found.0 first.found.1

pub loop-j-preserved : goal.loop-j-preserved
loop-j-preserved g c =
    let F = g.K.Coeff.field in
    let key = g.O.Order.key in
    let list = c.args.list.now in
    let j = c.loop-j.j in
    elim c.match-branch-2.branch [
      | in-Some+in_ok-push+in_ok-append w ↦
          let first = subst (IsFirstMember F key g.K.Coeff.rank list j c.len.result) w.in-Some.is c.in_ok-member.ensures in
          subst (IsSugaredRun F key list) (sym w.run-is)
          (sugared-first g.met.K.Coeff.lawful g.met.O.Order.monomial_order c.loop-j.run w.append.new.self g.K.Coeff.rank j c.len.result c.loop-j-test.true w.in-Some.member w.in-Some.inverse first _ w.in_ok-push.ensures
          w.in_ok-append.ensures.history w.in_ok-append.ensures.members c.loop-j.invariant)
      | in_default w ↦ subst (IsSugaredRun F key list) (sym w.run-is) c.loop-j.invariant
    ]
