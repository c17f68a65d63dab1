use Rattle.std.proofs.Common.{◌≡◌, ◌≤◌, ◌<◌, ◌⊎◌, inl, inr, ◌∷◌, [], ℕ, false, length, length-append, map, get_or, replicate, sym, ap, ◌∙◌, subst₂, arith}
use Rattle.std.proofs.lemmas.List.{length-map, map-append, length-replicate, get_or-replicate, get_or_past}
use Rattle.std.proofs.lemmas.Bool.{cases_lt}
use Rattle.fj_basis.specs.Pending.{IsIndexed}
use Rattle.fj_basis.proofs.PendingIndex.{indexed-lead, indexed-row}
use Rattle.fj_basis.proofs.pending.Pending.add_place.Goals as goal

all_false : (n i : ℕ) → (i < n) ⊎ (n ≤ i) → get_or (replicate n false) i false ≡ false
all_false n i (inl l) = get_or-replicate n i false false l
all_false n i (inr l) = get_or_past (replicate n false) i false (omega (arith, l, length-replicate n false))

pub invariant_of-self-2 : goal.invariant_of-self-2
invariant_of-self-2 g c =
    let rows = map (λ r. r.items) c.self.inside.rows.items in
    let leads = map (λ m. m.exponents) c.self.inside.leads.items in
    let row = c.in_ok-row.row.items in
    let n = c.len.result in
    let are : row ≡ replicate n false = c.in_ok-row.ensures.items_if_clones_equal (λ y e. e) in
    let count = c.len.ensures ∙ c.self.inside.rows.ok.0 ∙ sym (length-map c.self.inside.rows.items (λ r. r.items)) in
    let grown = indexed-row c.self.invariant row (ap length are ∙ length-replicate n false ∙ count) (λ i. ap (λ xs. get_or xs i false) are ∙ all_false n i (cases_lt i n)) in
    let enough = c.self.invariant.enough in
    subst₂ (λ ls rs. IsIndexed ls c.self.inside.pairs.keys rs)
    (sym (ap (map (λ m. m.exponents)) c.in_ok-push-2.ensures.items ∙ map-append (λ m. m.exponents) c.self.inside.leads.items (c.args.lead ∷ [])))
    (sym (ap (map (λ r. r.items)) c.in_ok-push.ensures.items ∙ map-append (λ r. r.items) c.self.inside.rows.items (c.in_ok-row.row ∷ [])))
    (indexed-lead grown c.args.lead.exponents (omega (arith, enough, length-append rows (row ∷ []))))
