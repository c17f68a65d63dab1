use Rattle.std.proofs.Common.{◌<◌, length, map, refl, sym, ap, ap₂, ◌∙◌, subst, subst₂, arith, true}
use Rattle.fj_basis.specs.Pending.{IsIndexed, IsPairOver}
use Rattle.fj_basis.proofs.PendingIndex.{indexed-insert, mark, marked-rows, row-long}
use Rattle.fj_basis.proofs.pending.Pending.insert.Goals as goal

pub index_mut-requires-2 : goal.index_mut-requires-2
index_mut-requires-2 g c =
    let second = c.requires.second in
    let first = c.requires.first in
    let leads = ap (λ v. length v.leads) c.self.view_is in
    let j = c.second-j.ensures in
    let i = c.first-i.ensures in
    let row = c.index_mut.result.now in
    let long = row-long c.self.invariant (λ r. r.items) c.self.inside.rows.items c.second-j.result row refl (omega (arith, second, leads, j)) c.index_mut.ensures.value in
    let count = row.ok.0 in
    let is = long.1 in
    omega (arith, first, i, j, is, count)

pub invariant_of-self-2 : goal.invariant_of-self-2
invariant_of-self-2 g c =
    let pair = c.args.pair in
    let leads = ap (λ v. v.leads) c.self.view_is in
    let rows = c.self.inside.rows.items in
    let row = c.index_mut.result.now in
    let j = c.second-j.ensures in
    let second = c.requires.second in
    let within = subst (λ l. pair.j < length l) (sym leads) second in
    let inside : c.second-j.result < length (map (λ m. m.exponents) c.self.inside.leads.items) = omega (arith, within, j) in
    let long = row-long c.self.invariant (λ r. r.items) rows c.second-j.result row refl inside c.index_mut.ensures.value in
    subst₂ (IsIndexed (map (λ m. m.exponents) c.self.inside.leads.items)) (sym c.in_ok-insert.ensures.keys)
    (sym (marked-rows (λ r. r.items) rows c.first-i.result c.second-j.result row _ true long.0 c.index_mut.ensures.value refl
    ∙ ap₂ (λ i j. mark (map (λ r. r.items) rows) i j true) c.first-i.ensures c.second-j.ensures))
    (indexed-insert g.O.Order.key c.self.invariant pair c.requires.first within (subst (λ l. IsPairOver l pair) (sym leads) c.requires.pair))
