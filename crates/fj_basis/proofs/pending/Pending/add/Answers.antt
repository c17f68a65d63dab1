use Rattle.std.proofs.Common.{◌≡◌, ◌∷◌, ◌+◌, [], length, length-append, get_or, sym, ap, ◌∙◌, subst, subst₂, arith}
use Rattle.std.proofs.lemmas.List.{length-map}
use Rattle.fj_basis.specs.Pending.{HasPairsUpTo}
use Rattle.fj_basis.proofs.PendingIndex.{pair-over, row-at}
use Rattle.fj_basis.proofs.PendingSets.{insert-pair, pairs-none}
use Rattle.fj_basis.proofs.pending.Pending.add.Goals as goal

pub loop-i-init : goal.loop-i-init
loop-i-init g c = record {
  leads = c.in_ok-add_place.ensures.leads;
  pairs = subst (HasPairsUpTo c.add_place.new.self.leads (length c.args.self.now.leads) 0 c.args.self.now.pairs) (sym c.in_ok-add_place.ensures.pairs)
      (pairs-none g.O.Order.key c.add_place.new.self.leads (length c.args.self.now.leads) c.args.self.now.pairs);
}

pub index-requires : goal.index-requires
index-requires g c =
    let before = c.len-j.ensures ∙ c.self.inside.leads.ok.0 in
    let old = sym (length-map c.self.inside.leads.items (λ m. m.exponents)) ∙ ap (λ v. length v.leads) c.self.view_is in
    let now = sym (length-map c.self-in-loop-i.inside.leads.items (λ m. m.exponents)) ∙ ap (λ v. length v.leads) c.self-in-loop-i.view_is in
    let grown = ap length c.loop-i.invariant.leads in
    let more = length-append c.args.self.now.leads (c.args.lead.exponents ∷ []) in
    let less = c.loop-i-test.true in
    let own = c.self-in-loop-i.inside.leads.ok.0 in
    omega (arith, before, old, now, grown, more, less, own)

pub insert-requires-clause-second : goal.insert-requires-clause-second
insert-requires-clause-second g c =
    let before = c.len-j.ensures ∙ c.self.inside.leads.ok.0 in
    let old = sym (length-map c.self.inside.leads.items (λ m. m.exponents)) ∙ ap (λ v. length v.leads) c.self.view_is in
    let grown = ap length c.loop-i.invariant.leads in
    let more = length-append c.args.self.now.leads (c.args.lead.exponents ∷ []) in
    let second = c.new-pair.ensures.second in
    omega (arith, before, old, grown, more, second)

pub insert-requires-clause-pair : goal.insert-requires-clause-pair
insert-requires-clause-pair g c =
    let leads = c.args.self.now.leads in
    let i = c.loop-i.i in
    let before = c.len-j.ensures ∙ c.self.inside.leads.ok.0 in
    let old = sym (length-map c.self.inside.leads.items (λ m. m.exponents)) ∙ ap (λ v. length v.leads) c.self.view_is in
    let now = sym (length-map c.self-in-loop-i.inside.leads.items (λ m. m.exponents)) ∙ ap (λ v. length v.leads) c.self-in-loop-i.view_is in
    let grown = ap length c.loop-i.invariant.leads in
    let more = length-append leads (c.args.lead.exponents ∷ []) in
    let less = c.loop-i-test.true in
    pair-over leads c.loop-i.self.leads c.args.lead.exponents c.new-pair.result i c.index.result.now.exponents c.loop-i.invariant.leads c.new-pair.ensures.first
    (c.new-pair.ensures.second ∙ before ∙ old)
    (ap (λ v. get_or v.leads i []) (sym c.self-in-loop-i.view_is)
    ∙ row-at (λ m. m.exponents) c.self-in-loop-i.inside.leads.items i c.index.result.now (omega (arith, before, old, now, grown, more, less)) c.index.ensures) c.new-pair.ensures.lcm

pub loop-i-preserved : goal.loop-i-preserved
loop-i-preserved g c =
    let leads = c.args.self.now.leads in
    let n = length leads in
    let i = c.loop-i.i in
    let before = c.len-j.ensures ∙ c.self.inside.leads.ok.0 in
    let old = sym (length-map c.self.inside.leads.items (λ m. m.exponents)) ∙ ap (λ v. length v.leads) c.self.view_is in
    let now = sym (length-map c.self-in-loop-i.inside.leads.items (λ m. m.exponents)) ∙ ap (λ v. length v.leads) c.self-in-loop-i.view_is in
    let grown = ap length c.loop-i.invariant.leads in
    let more = length-append leads (c.args.lead.exponents ∷ []) in
    let less = c.loop-i-test.true in
    let first = c.new-pair.ensures.first in
    let second = c.new-pair.ensures.second ∙ before ∙ old in
    let own = pair-over leads c.loop-i.self.leads c.args.lead.exponents c.new-pair.result i c.index.result.now.exponents c.loop-i.invariant.leads first second
    (ap (λ v. get_or v.leads i []) (sym c.self-in-loop-i.view_is)
    ∙ row-at (λ m. m.exponents) c.self-in-loop-i.inside.leads.items i c.index.result.now (omega (arith, before, old, now, grown, more, less)) c.index.ensures) c.new-pair.ensures.lcm in
    record {
      leads = c.in_ok-insert.ensures.leads ∙ c.loop-i.invariant.leads;
      pairs = subst₂ (λ ls ps. HasPairsUpTo ls n (i + 1) c.args.self.now.pairs ps) (sym c.in_ok-insert.ensures.leads) (sym c.in_ok-insert.ensures.pairs)
          (insert-pair g.O.Order.key c.loop-i.self.leads n i c.args.self.now.pairs c.loop-i.self.pairs c.new-pair.result (omega (arith, before, old, less)) first second own c.loop-i.invariant.pairs);
    }

pub returns-clause-leads : goal.returns-clause-leads
returns-clause-leads g c = c.loop-i.invariant.leads

pub returns-clause-pairs : goal.returns-clause-pairs
returns-clause-pairs g c =
    let n = length c.args.self.now.leads in
    let before = c.len-j.ensures ∙ c.self.inside.leads.ok.0 in
    let old = sym (length-map c.self.inside.leads.items (λ m. m.exponents)) ∙ ap (λ v. length v.leads) c.self.view_is in
    let end = c.loop-i-test.false in
    let last = c.loop-i.auto.i-end in
    let all : c.loop-i.i ≡ n = omega (arith, before, old, end, last) in
    subst (λ k. HasPairsUpTo c.loop-i.self.leads n k c.args.self.now.pairs c.loop-i.self.pairs) all c.loop-i.invariant.pairs
