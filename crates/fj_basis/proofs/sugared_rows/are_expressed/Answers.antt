use Rattle.std.proofs.Common.{sym, subst}
use Rattle.fj_basis.specs.Members.{sugared_members}
use Rattle.fj_basis.specs.SugaredRun.{AreExpressed}
use Rattle.fj_basis.proofs.SugaredRows.{expressed-more, expressed-none, polynomials-more}
use Rattle.fj_basis.proofs.sugared_rows.are_expressed.Goals as goal

pub loop-member-init : goal.loop-member-init
loop-member-init g c = λ N kept history. expressed-none (sugared_members c.args.members.now) c.args.history.now kept history

pub loop-member-preserved : goal.loop-member-preserved
loop-member-preserved g c = λ N kept history.
    let m = c.member-item.result in
    let G = sugared_members c.args.members.now in
    subst (λ fs. AreExpressed g.K.Coeff.field N G fs c.is_expressed.new.history)
    (sym (polynomials-more c.args.basis.now c.loop-member.member-index m c.loop-member-test.true c.member-item.is))
    (expressed-more G _ m.polynomial c.loop-member.history c.is_expressed.new.history (c.loop-member.invariant N kept history) (c.in_ok-is_expressed.ensures c.if-not-branch.false))
