use Rattle.std.proofs.Common.{Some, sym, subst, arith}
use Rattle.fj_basis.specs.Members.{sugared_members}
use Rattle.fj_basis.specs.State.{IsNextMember, IsPairOf}
use Rattle.fj_basis.proofs.Leading.{nonzero_at, nonzero_members}
use Rattle.fj_basis.proofs.MonicMembers.{monic-AreGood}
use Rattle.fj_basis.proofs.SugaredRun.{found-nonzero, pair-of, sugared-found}
use Rattle.fj_basis.proofs.sugared_run.SugaredRun.treat.Goals as goal

pub lead-requires : goal.lead-requires
lead-requires g c =
    let items = c.args.self.now.members.items in
    let ok = c.args.self.now.members.ok.0 in
    let order = c.if-first-second.false in
    let inside = c.if-second-len.false in
    let len = c.len.ensures in
    nonzero_at items (nonzero_members items (monic-AreGood g.met.K.Coeff.lawful g.met.O.Order.monomial_order c.requires).nonzero) c.args.first c.index.result.now (omega (arith, order, inside, len, ok)) c.index.ensures

pub lead-requires-2 : goal.lead-requires-2
lead-requires-2 g c =
    let items = c.args.self.now.members.items in
    let ok = c.args.self.now.members.ok.0 in
    let inside = c.if-second-len.false in
    let len = c.len.ensures in
    nonzero_at items (nonzero_members items (monic-AreGood g.met.K.Coeff.lawful g.met.O.Order.monomial_order c.requires).nonzero) c.args.second c.index-2.result.now (omega (arith, inside, len, ok)) c.index-2.ensures

pub next_member-requires-clause-pair : goal.next_member-requires-clause-pair
next_member-requires-clause-pair g c =
    let items = c.args.self.now.members.items in
    let ok = c.args.self.now.members.ok.0 in
    let order = c.if-first-second.false in
    let inside = c.if-second-len.false in
    let len = c.len.ensures in
    subst (λ ms. IsPairOf g.O.Order.key (sugared_members ms) c.new-pair.result) (sym c.deref.ensures.value)
    (pair-of g.O.Order.key items c.args.first c.args.second c.new-pair.result c.index.result.now c.index-2.result.now _ _ (omega (arith, order, inside, len, ok)) (omega (arith, inside, len, ok)) c.index.ensures c.index-2.ensures
    c.lead.ensures c.lead-2.ensures c.new-pair.ensures.first c.new-pair.ensures.second c.new-pair.ensures.lcm)

pub append-requires : goal.append-requires
append-requires g c =
    let items = c.args.self.now.members.items in
    let p = c.new-pair.result in
    let m = c.in-Some.member in
    let before = c.args.self.now.history in
    let new = c.next_member.new.history in
    found-nonzero g.met.K.Coeff.lawful g.met.O.Order.monomial_order items c.requires p.i p.j m before new
    (subst (λ ms. IsNextMember g.K.Coeff.field g.O.Order.key ms (p.i, p.j) before new (Some m)) c.deref.ensures.value
    (subst (IsNextMember g.K.Coeff.field g.O.Order.key c.deref.result.now (p.i, p.j) before new) c.in-Some.is c.in_ok-member.ensures.value))

pub returns-in_ok-append : goal.returns-in_ok-append
returns-in_ok-append g c = λ N old.
    let items = c.args.self.now.members.items in
    let p = c.new-pair.result in
    let m = c.in-Some.member in
    let before = c.args.self.now.history in
    let new = c.next_member.new.history in
    let ok = c.args.self.now.members.ok.0 in
    let order = c.if-first-second.false in
    let inside = c.if-second-len.false in
    let len = c.len.ensures in
    let first = c.new-pair.ensures.first in
    let second = c.new-pair.ensures.second in
    sugared-found g.met.K.Coeff.lawful g.met.O.Order.monomial_order c.args.self.now c.append.new.self p.i p.j (omega (arith, order, inside, len, ok, first)) (omega (arith, inside, len, ok, second)) m
    (subst (λ h. IsNextMember g.K.Coeff.field g.O.Order.key items (p.i, p.j) before h (Some m)) (sym c.append.ensures.history)
    (subst (λ ms. IsNextMember g.K.Coeff.field g.O.Order.key ms (p.i, p.j) before new (Some m)) c.deref.ensures.value
    (subst (IsNextMember g.K.Coeff.field g.O.Order.key c.deref.result.now (p.i, p.j) before new) c.in-Some.is c.in_ok-member.ensures.value)))
    c.in_ok-append.ensures.members old
