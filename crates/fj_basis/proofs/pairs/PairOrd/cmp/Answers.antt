use Rattle.std.proofs.Common.{◌∷◌, [], List, ℕ, ap₂, ◌∙◌, sym, nat_cmp}
use Rattle.std.specs.Cmp.Lexicographic.{slice_cmp}
use Rattle.std.specs.Ordering.{ordering_then}
use Rattle.fj_basis.specs.Place.{place, place_by}
use Rattle.fj_basis.proofs.Places.{place-both, place-first, place-second, place-neither}
use Rattle.fj_basis.proofs.pairs.PairOrd.cmp.Goals as goal

pub returns-in-Some-Some : goal.returns-in-Some-Some
unfolding place
returns-in-Some-Some g c =
    let key = g.O.Order.key in
    let us : List ℕ = c.args.self.now.j ∷ (c.args.self.now.i ∷ []) in
    let vs : List ℕ = c.args.o.now.j ∷ (c.args.o.now.i ∷ []) in
    c.then.ensures ∙ ap₂ ordering_then c.cmp.ensures c.compare_places.ensures
    ∙ sym (place-both g.met.O.Order.monomial_order c.in-Some-Some.a c.in-Some-Some.b us vs)
    ∙ ap₂ (λ m n. slice_cmp nat_cmp (place_by key m us) (place_by key n vs)) (sym c.in-Some-Some.is-0) (sym c.in-Some-Some.is-1)

pub returns-in-Some-None : goal.returns-in-Some-None
unfolding place
returns-in-Some-None g c =
    let key = g.O.Order.key in
    let us : List ℕ = c.args.self.now.j ∷ (c.args.self.now.i ∷ []) in
    let vs : List ℕ = c.args.o.now.j ∷ (c.args.o.now.i ∷ []) in
    sym (place-first key c.in-Some-None.field-0-0 us vs)
    ∙ ap₂ (λ m n. slice_cmp nat_cmp (place_by key m us) (place_by key n vs)) (sym c.in-Some-None.is-0) (sym c.in-Some-None.is-1)

pub returns-in-None-Some : goal.returns-in-None-Some
unfolding place
returns-in-None-Some g c =
    let key = g.O.Order.key in
    let us : List ℕ = c.args.self.now.j ∷ (c.args.self.now.i ∷ []) in
    let vs : List ℕ = c.args.o.now.j ∷ (c.args.o.now.i ∷ []) in
    sym (place-second key c.in-None-Some.field-0-1 us vs)
    ∙ ap₂ (λ m n. slice_cmp nat_cmp (place_by key m us) (place_by key n vs)) (sym c.in-None-Some.is-0) (sym c.in-None-Some.is-1)

pub returns-in-None-None : goal.returns-in-None-None
unfolding place
returns-in-None-None g c =
    let key = g.O.Order.key in
    let us : List ℕ = c.args.self.now.j ∷ (c.args.self.now.i ∷ []) in
    let vs : List ℕ = c.args.o.now.j ∷ (c.args.o.now.i ∷ []) in
    c.compare_places-in-None-None.ensures ∙ sym (place-neither key us vs)
    ∙ ap₂ (λ m n. slice_cmp nat_cmp (place_by key m us) (place_by key n vs)) (sym c.in-None-None.is-0) (sym c.in-None-None.is-1)
