use Rattle.std.proofs.Common.{◌≡◌, All, ap, false, sym, ◌∙◌, subst, true≢false}
use Rattle.std.specs.Ordering.{is_gt}
use Rattle.fj_basis.proofs.PendingPairs.{order_of_pairs}
use Rattle.fj_basis.proofs.Sparing.{first-splits, next-spared, none-first, none-next}
use Rattle.fj_basis.proofs.pending.Pending.is_next_spared.Goals as goal

pub returns-in-Some-clause-spared : goal.returns-in-Some-clause-spared
returns-in-Some-clause-spared g c = λ s h.
    let pair = c.in-Some.pair.now in
    let are = ap (λ v. v.pairs) c.self.view_is in
    let split = first-splits c.self.inside.pairs.keys pair c.in-Some.ensures.first in
    next-spared g.O.Order.key s c.args.self.now h pair split.0 (sym are ∙ split.1)
    (subst (All (λ o. is_gt (order_of_pairs g.O.Order.key pair o) ≡ false)) are c.in-Some.ensures.all_from) c.is_spared.result (c.is_spared.ensures s h)

pub returns-in-None-clause-spared : goal.returns-in-None-clause-spared
returns-in-None-clause-spared g c = λ s h.
    let are = ap (λ v. v.pairs) c.self.view_is in (
      λ t. absurd (true≢false (sym t)),
      λ found. absurd (none-next g.O.Order.key s c.args.self.now h (sym are ∙ none-first c.self.inside.pairs.keys (λ l. true≢false (sym (c.in-None.ensures.variant.1 l)))) found.0 found.1),
    )
