use Rattle.std.proofs.Common.{◌≡◌, ◌<◌, ◌⊎◌, ℕ, length, get_or, [], ap, ap₂, sym, ◌∙◌, subst, arith, true≢false}
use Rattle.std.proofs.lemmas.List.{length-map}
use Rattle.fj_theory.specs.Exponents.{divides, least_common_multiple}
use Rattle.fj_mono.specs.Monomial.{Monomial}
use Rattle.fj_basis.specs.Pending.{HasPair}
use Rattle.fj_basis.proofs.PendingIndex.{row-at}
use Rattle.fj_basis.proofs.Sparing.{spared-by, spared-divides, spared-first, spared-second}
use Rattle.fj_basis.proofs.pending.Pending.spares.Goals as goal
use Rattle.fj_basis.proofs.pending.Pending.spares.Goals.{then-has-via-then-has, then-has-via-else-has+then-has-2}

pub returns-then-has : goal.returns-then-has
returns-then-has g c = λ s h.
    let key = g.O.Order.key in
    let pending = c.args.self.now in
    let pair = c.args.pair.now in
    let place = c.requires.place in
    let first = c.requires.first in
    let second = c.requires.second in
    let inside : pair.i < length pending.leads = omega (arith, first, second) in (
      λ t. absurd (true≢false (sym t)),
      λ spared. elim c.then-has.branch [
        | then-has-via-then-has w ↦
            absurd (spared-first key s pending h place inside second spared
            (subst (λ i. HasPair pending.pairs i c.args.k ⊎ HasPair pending.pairs c.args.k i) c.first-i.ensures (c.has.ensures.0 w.if-has.true)))
        | then-has-via-else-has+then-has-2 w ↦
            absurd (spared-second key s pending h place inside second spared
            (subst (λ j. HasPair pending.pairs j c.args.k ⊎ HasPair pending.pairs c.args.k j) c.second-j.ensures (w.has-else-has.ensures.0 w.if-has-2.true)))
      ],
    )

pub returns : goal.returns
returns g c = λ s h.
    let key = g.O.Order.key in
    let pending = c.args.self.now in
    let pair = c.args.pair.now in
    let k = c.args.k in
    let place = c.requires.place in
    let first = c.requires.first in
    let second = c.requires.second in
    let inside : pair.i < length pending.leads = omega (arith, first, second) in
    let divisor = sym (c.divides_multiple.ensures ∙ ap₂ (λ a b. divides a b) (lead k c.index.result.now place c.index.ensures)
    (ap₂ least_common_multiple (lead c.first-i.result c.index-2.result.now (let e = c.first-i.ensures in omega (arith, inside, e)) c.index-2.ensures ∙ ap (λ i. get_or pending.leads i []) c.first-i.ensures)
    (lead c.second-j.result c.index-3.result.now (let e = c.second-j.ensures in omega (arith, second, e)) c.index-3.ensures ∙ ap (λ j. get_or pending.leads j []) c.second-j.ensures))) in (
      λ t. spared-by key s pending h k pair.i pair.j place inside second (λ e. c.if-k-i.false (e ∙ sym c.first-i.ensures)) (λ e. c.if-k-j.false (e ∙ sym c.second-j.ensures))
          (λ found. true≢false (sym (c.has.ensures.1 (subst (λ i. HasPair pending.pairs i k ⊎ HasPair pending.pairs k i) (sym c.first-i.ensures) found)) ∙ c.if-has.false))
          (λ found. true≢false (sym (c.has-else-has.ensures.1 (subst (λ j. HasPair pending.pairs j k ⊎ HasPair pending.pairs k j) (sym c.second-j.ensures) found)) ∙ c.if-has-2.false))
          (divisor ∙ t),
      λ spared. sym divisor ∙ spared-divides key s pending h place inside second spared,
    )
  where
    lead : (n : ℕ) (m : Monomial) → n < length c.args.self.now.leads → m ≡ get_or c.self.inside.leads.items n m → m.exponents ≡ get_or c.args.self.now.leads n []
    lead n m l is =
        let are = ap (λ v. v.leads) c.self.view_is in
        let long = length-map c.self.inside.leads.items (λ m. m.exponents) in
        let count = ap length are in
        sym (row-at (λ (m : Monomial). m.exponents) c.self.inside.leads.items n m (omega (arith, l, long, count)) is) ∙ ap (λ xs. get_or xs n []) are
