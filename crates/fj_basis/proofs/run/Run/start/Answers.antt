use Rattle.std.proofs.Common.{◌+◌, refl, sym, ap, ◌∙◌, subst, arith}
use Rattle.fj_theory.specs.Exponents.{origin}
use Rattle.fj_theory.specs.Polynomial.{term}
use Rattle.fj_basis.specs.declared.history.Making.{Making}
use Rattle.fj_basis.specs.declared.history.Source.TheVariants.{Given}
use Rattle.fj_basis.specs.Members.{sugared, sugared_members}
use Rattle.fj_basis.specs.State.{IsFirstMember}
use Rattle.fj_basis.proofs.Combined.{HasRecordedOver}
use Rattle.fj_basis.proofs.Starting.{IsStarted, first-IsMaking, first-nonzero, started-all, started-more, started-none, started-zero}
use Rattle.fj_basis.proofs.run.Run.start.Goals as goal
use Rattle.fj_basis.proofs.run.Run.start.Goals.{in-Some+in_ok-push+in_ok-append, in_default}

pub loop-j-init : goal.loop-j-init
loop-j-init g c = record {
  started = started-none c.args.list.now _ c.new.ensures.items c.new-2.ensures.leads c.new-2.ensures.pairs c.new-3.ensures.none;
  kept = c.new-3.ensures.kept;
}

pub append-requires : goal.append-requires
append-requires g c =
    let first = subst (IsFirstMember g.K.Coeff.field g.O.Order.key g.K.Coeff.rank c.args.list.now c.loop-j.j c.len.result) c.in-Some.is c.in_ok-member.ensures in
    first-nonzero c.args.list.now g.met.K.Coeff.lawful g.met.O.Order.monomial_order c.look_over.ensures c.loop-j.j c.loop-j-test.true c.in-Some.member first.found.0 first.found.1

pub loop-j-preserved : goal.loop-j-preserved
loop-j-preserved g c =
    let F = g.K.Coeff.field in
    let key = g.O.Order.key in
    let L = g.met.K.Coeff.lawful in
    let O = g.met.O.Order.monomial_order in
    let list = c.args.list.now in
    let j = c.loop-j.j in
    let A = c.look_over.ensures in
    let l = c.loop-j-test.true in
    let members = c.loop-j.run.members in
    elim c.match-branch-2.branch [
      | in-Some+in_ok-push+in_ok-append w ↦
          let first = subst (IsFirstMember F key g.K.Coeff.rank list j c.len.result) w.in-Some.is c.in_ok-member.ensures in
          let m = w.in-Some.member in
          let making : Making g.row.K.Denot g.row.O.Denot = record { constant = term (g.K.Coeff.rank w.in-Some.inverse) origin; source = Given j } in
          let pushed = w.in_ok-push.ensures in
          let history = ap (λ h. h.is_kept) w.in_ok-append.ensures.history ∙ pushed.kept in
          let recorded : HasRecordedOver F list (sugared_members members.items) (sugared m) c.loop-j.run.history w.append.new.self.history = record {
            kept = history;
            making = λ was. (
              making,
              ap (λ h. h.makings.items) w.in_ok-append.ensures.history ∙ pushed.recorded was,
              first-IsMaking list L O A j l (sugared_members members.items) m first.found.0 first.found.1 first.found.2 making (ap (λ n. term n origin) first.found.4) refl,
            );
          } in
          record {
            started = subst (IsStarted F key list (j + 1)) (sym w.run-is)
                (started-more list j c.loop-j.run w.append.new.self m l first.found.0 first.found.1 (first.found.3 ∙ c.len.ensures ∙ members.ok.0) first.found.2 recorded
                (first-nonzero list L O A j l m first.found.0 first.found.1) w.in_ok-append.ensures.members w.in_ok-append.ensures.leads w.in_ok-append.ensures.pending c.loop-j.invariant.started);
            kept = ap (λ run. run.history.is_kept) w.run-is ∙ history ∙ c.loop-j.invariant.kept;
          }
      | in_default w ↦
          let first = subst (IsFirstMember F key g.K.Coeff.rank list j c.len.result) w.in_default.is c.in_ok-member.ensures in
          record {
            started = subst (IsStarted F key list (j + 1)) (sym w.run-is) (started-zero list j c.loop-j.run l first.found c.loop-j.invariant.started);
            kept = ap (λ run. run.history.is_kept) w.run-is ∙ c.loop-j.invariant.kept;
          }
    ]

pub returns : goal.returns
returns g c = record {
  value = started-all c.args.list.now c.look_over.ensures c.loop-j.j c.loop-j.run _ (omega (arith, c.loop-j-test.false)) c.loop-j.invariant.started refl refl c.remove_spared.ensures;
  kept = c.loop-j.invariant.kept;
}
