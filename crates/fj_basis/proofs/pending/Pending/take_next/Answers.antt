use Rattle.std.proofs.Common.{◌<◌, length, map, refl, sym, ap₂, ◌∙◌, subst, arith, false}
use Rattle.std.proofs.lemmas.List.Elements.{All-head}
use Rattle.fj_basis.specs.Pending.{IsIndexed}
use Rattle.fj_basis.proofs.PendingIndex.{indexed-take, mark, marked-rows, row-long}
use Rattle.fj_basis.proofs.pending.Pending.take_next.Goals as goal

pub index_mut-requires-2 : goal.index_mut-requires-2
index_mut-requires-2 g c =
    let pair = c.unwrap-pair.result in
    let removal = rw c.unwrap-pair.ensures at c.pop_first.ensures.removal in
    let leads = map (λ m. m.exponents) c.self.inside.leads.items in
    let rows = map (λ r. r.items) c.self.inside.rows.items in
    let indexed = subst (λ keys. IsIndexed leads keys rows) removal c.self.invariant in
    let both = All-head (λ p. (p.i < p.j) × (p.j < length leads)) pair c.pop_first.new.self.keys indexed.within in
    let first = both.0 in
    let second = both.1 in
    let j = c.second.ensures in
    let i = c.first.ensures in
    let row = c.index_mut.result.now in
    let long = row-long c.self.invariant (λ r. r.items) c.self.inside.rows.items c.second.result row refl (omega (arith, second, j)) c.index_mut.ensures.value in
    let count = row.ok.0 in
    let is = long.1 in
    omega (arith, first, i, j, is, count)

pub invariant_of-self : goal.invariant_of-self
invariant_of-self g c =
    let pair = c.unwrap-pair.result in
    let removal = rw c.unwrap-pair.ensures at c.pop_first.ensures.removal in
    let above = rw c.unwrap-pair.ensures at c.pop_first.ensures.all_above in
    let leads = map (λ m. m.exponents) c.self.inside.leads.items in
    let rows = map (λ r. r.items) c.self.inside.rows.items in
    let indexed = subst (λ keys. IsIndexed leads keys rows) removal c.self.invariant in
    let second = (All-head (λ p. (p.i < p.j) × (p.j < length leads)) pair c.pop_first.new.self.keys indexed.within).1 in
    let j = c.second.ensures in
    let row = c.index_mut.result.now in
    let long = row-long c.self.invariant (λ r. r.items) c.self.inside.rows.items c.second.result row refl (omega (arith, second, j)) c.index_mut.ensures.value in
    subst (IsIndexed leads c.pop_first.new.self.keys)
    (sym (marked-rows (λ r. r.items) c.self.inside.rows.items c.first.result c.second.result row _ false long.0 c.index_mut.ensures.value refl
    ∙ ap₂ (λ i j. mark rows i j false) c.first.ensures c.second.ensures))
    (indexed-take g.O.Order.key pair indexed above)
