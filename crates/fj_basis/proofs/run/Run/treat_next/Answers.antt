use Rattle.std.proofs.Common.{◌≡◌, ◌≢◌, ◌<◌, Some, None, All, length, true, false, refl, sym, ◌∙◌, subst, arith}
use Rattle.std.specs.FinMap.{empty}
use Rattle.std.proofs.lemmas.Result.{err_from_is_err_and}
use Rattle.fj_groebner.specs.Division.{IsHighDivision}
use Rattle.fj_groebner.specs.Run.{has_coprime_leads, s_polynomial}
use Rattle.fj_basis.specs.Members.{AreMonicMembers, sugared_members}
use Rattle.fj_basis.specs.State.{IsNextMember}
use Rattle.fj_basis.proofs.HighOnly.{only_only}
use Rattle.fj_basis.proofs.MonicMembers.{state-monic}
use Rattle.fj_basis.proofs.Turning.{after-appended, after-dropped, after-empty, after-nonzero, first-places, members-of, next-high, next-nonzero}
use Rattle.fj_basis.proofs.run.Run.treat_next.Goals as goal

pub has_coprime_leads-requires-clause-nonzero : goal.has_coprime_leads-requires-clause-nonzero
has_coprime_leads-requires-clause-nonzero g c =
    subst (All (λ m. m.polynomial ≢ empty)) (sym c.deref.ensures.value) (after-nonzero g.met.K.Coeff.lawful g.met.O.Order.monomial_order c.requires.state.after)

pub has_coprime_leads-requires-clause-first : goal.has_coprime_leads-requires-clause-first
has_coprime_leads-requires-clause-first g c =
    let places = first-places g.met.K.Coeff.lawful g.met.O.Order.monomial_order c.requires.state.after c.take_next-pair.result c.take_next-pair.new.self c.take_next-pair.ensures.pairs in
    subst (λ ms. c.take_next-pair.result.i < length ms) (sym c.deref.ensures.value) (omega (arith, places.0, places.1))

pub has_coprime_leads-requires-clause-second : goal.has_coprime_leads-requires-clause-second
has_coprime_leads-requires-clause-second g c =
    subst (λ ms. c.take_next-pair.result.j < length ms) (sym c.deref.ensures.value)
    (first-places g.met.K.Coeff.lawful g.met.O.Order.monomial_order c.requires.state.after c.take_next-pair.result c.take_next-pair.new.self c.take_next-pair.ensures.pairs).1

pub returns-then-has_coprime_leads-clause-turn : goal.returns-then-has_coprime_leads-clause-turn
returns-then-has_coprime_leads-clause-turn g c = λ N turns after.
    let pair = c.take_next-pair.result in
    after-dropped g.met.K.Coeff.lawful g.met.O.Order.monomial_order after c.take_next-pair.result c.take_next-pair.new.self c.take_next-pair.ensures.pairs c.take_next-pair.ensures.above c.take_next-pair.ensures.leads _ refl refl refl
    (subst (λ ms. has_coprime_leads g.O.Order.key (sugared_members ms) (pair.i, pair.j) ≡ true) c.deref.ensures.value (sym c.has_coprime_leads.ensures ∙ c.if-has_coprime_leads.true))

pub next_member-requires-clause-members : goal.next_member-requires-clause-members
next_member-requires-clause-members g c =
    subst (λ ms. AreMonicMembers g.K.Coeff.field g.O.Order.key (sugared_members ms)) (sym c.deref-2.ensures.value)
    (state-monic g.met.K.Coeff.lawful g.met.O.Order.monomial_order (members-of c.requires.state.after))

pub next_member-requires-clause-first : goal.next_member-requires-clause-first
next_member-requires-clause-first g c =
    (first-places g.met.K.Coeff.lawful g.met.O.Order.monomial_order c.requires.state.after c.take_next-pair.result c.take_next-pair.new.self c.take_next-pair.ensures.pairs).0

pub next_member-requires-clause-second : goal.next_member-requires-clause-second
next_member-requires-clause-second g c =
    subst (λ ms. c.take_next-pair.result.j < length ms) (sym c.deref-2.ensures.value)
    (first-places g.met.K.Coeff.lawful g.met.O.Order.monomial_order c.requires.state.after c.take_next-pair.result c.take_next-pair.new.self c.take_next-pair.ensures.pairs).1

pub returns-in_err-member-clause-high : goal.returns-in_err-member-clause-high
returns-in_err-member-clause-high g c =
    let F = g.K.Coeff.field in
    let key = g.O.Order.key in
    let pair = c.take_next-pair.result in
    let coprime = subst (λ ms. has_coprime_leads key (sugared_members ms) (pair.i, pair.j) ≡ false) c.deref.ensures.value (sym c.has_coprime_leads.ensures ∙ c.if-has_coprime_leads.false) in
    let p = err_from_is_err_and c.from_residual.result c.from_residual.ensures.1 in
    only_only (Unit {0}) _ _ _ _ p.0 c.in_err-member.field-0.0 p.1 p.2
    (λ high. record {
      high = λ N turns after.
          next-high g.met.K.Coeff.lawful g.met.O.Order.monomial_order after pair c.take_next-pair.new.self c.take_next-pair.ensures.pairs c.take_next-pair.ensures.above c.take_next-pair.ensures.leads coprime
          (subst (λ ms. IsHighDivision F key (sugared_members ms) (s_polynomial F key (sugared_members ms) (pair.i, pair.j))) c.deref-2.ensures.value high);
    })
    c.in_err-member.ensures.high

pub append-requires : goal.append-requires
append-requires g c =
    let items = c.args.self.now.members.items in
    let pair = c.take_next-pair.result in
    let m = c.in-Some.member in
    let before = c.args.self.now.history in
    let new = c.next_member.new.history in
    let found =
    subst (λ ms. IsNextMember g.K.Coeff.field g.O.Order.key ms (pair.i, pair.j) before new (Some m)) c.deref-2.ensures.value
    (subst (IsNextMember g.K.Coeff.field g.O.Order.key c.deref-2.result.now (pair.i, pair.j) before new) c.in-Some.is c.in_ok-member.ensures.value) in
    next-nonzero g.met.K.Coeff.lawful g.met.O.Order.monomial_order items (members-of c.requires.state.after) pair.i pair.j m before new found

pub returns-in_ok-append-clause-turn : goal.returns-in_ok-append-clause-turn
returns-in_ok-append-clause-turn g c = λ N turns after.
    let key = g.O.Order.key in
    let items = c.args.self.now.members.items in
    let pair = c.take_next-pair.result in
    let m = c.in-Some.member in
    let before = c.args.self.now.history in
    let new = c.next_member.new.history in
    let coprime = subst (λ ms. has_coprime_leads key (sugared_members ms) (pair.i, pair.j) ≡ false) c.deref.ensures.value (sym c.has_coprime_leads.ensures ∙ c.if-has_coprime_leads.false) in
    let found =
    subst (λ ms. IsNextMember g.K.Coeff.field key ms (pair.i, pair.j) before new (Some m)) c.deref-2.ensures.value
    (subst (IsNextMember g.K.Coeff.field key c.deref-2.result.now (pair.i, pair.j) before new) c.in-Some.is c.in_ok-member.ensures.value) in
    after-appended g.met.K.Coeff.lawful g.met.O.Order.monomial_order after pair c.take_next-pair.new.self c.take_next-pair.ensures.pairs c.take_next-pair.ensures.above c.take_next-pair.ensures.leads coprime
    c.append.new.self m c.in_ok-append.ensures.members c.in_ok-append.ensures.leads c.in_ok-append.ensures.pending
    (subst (λ h. IsNextMember g.K.Coeff.field key items (pair.i, pair.j) before h (Some m)) (sym c.append.ensures.history) found)

pub returns-in_default-clause-turn : goal.returns-in_default-clause-turn
returns-in_default-clause-turn g c = λ N turns after.
    let F = g.K.Coeff.field in
    let key = g.O.Order.key in
    let pair = c.take_next-pair.result in
    let before = c.args.self.now.history in
    let new = c.next_member.new.history in
    let coprime = subst (λ ms. has_coprime_leads key (sugared_members ms) (pair.i, pair.j) ≡ false) c.deref.ensures.value (sym c.has_coprime_leads.ensures ∙ c.if-has_coprime_leads.false) in
    let found =
    subst (λ ms. IsNextMember F key ms (pair.i, pair.j) before new None) c.deref-2.ensures.value
    (subst (IsNextMember F key c.deref-2.result.now (pair.i, pair.j) before new) c.in_default.is c.in_ok-member.ensures.value) in
    after-empty g.met.K.Coeff.lawful g.met.O.Order.monomial_order after pair c.take_next-pair.new.self c.take_next-pair.ensures.pairs c.take_next-pair.ensures.above c.take_next-pair.ensures.leads coprime
    _ refl refl found
