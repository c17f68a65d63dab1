use Rattle.std.proofs.Common.{◌≡◌, ◌<◌, length, get_or, refl, sym, ap, ◌∙◌, subst, arith}
use Rattle.std.proofs.lemmas.List.{length-map, get_or-map}
use Rattle.fj_poly.specs.Terms.{entry, entries}
use Rattle.fj_poly.proofs.View.{coefficient-tied, coefficient-between}
use Rattle.std.proofs.Common.{rules}
use Rattle.std.proofs.lemmas.Fn.{answers_by}
use Rattle.fj_theory.specs.MonomialOrder.{compare_by}
use Rattle.fj_poly.proofs.poly.Poly.coeff.Goals as goal

pub returns-in-Ok : goal.returns-in-Ok
returns-in-Ok g c =
    let tied = c.in-Ok.ensures.position (λ t. compare_by g.O.Order.key c.args.m.now.exponents t.monomial.exponents) (answers_by _ _ (λ f. f.0 ≡ c.args.m) (λ f a r after called same. (rw (← same) (search rules), search rules)) _ refl) c.index.result.now in
    let items : c.deref.result.now ≡ c.self.inside.terms.items = c.deref.ensures.value in
    let within : c.in-Ok.i < length c.self.inside.terms.items = subst (λ ts. c.in-Ok.i < length ts) items c.in-Ok.ensures.bound in
    let item : get_or (entries g.K.Coeff.rank c.self.inside.terms.items) c.in-Ok.i (entry g.K.Coeff.rank c.index.result.now) ≡ entry g.K.Coeff.rank c.index.result.now =
    get_or-map (entry g.K.Coeff.rank) c.self.inside.terms.items c.in-Ok.i c.index.result.now _ within ∙ ap (entry g.K.Coeff.rank) (sym c.index.ensures) in
    let seen = coefficient-tied g.met.O.Order.monomial_order g.K.Coeff.field _ c.self.invariant.0 c.self.invariant.1 (record { eight = c.args.m.now.eight }) c.in-Ok.i (entry g.K.Coeff.rank c.index.result.now)
    (omega (arith, length-map c.self.inside.terms.items (entry g.K.Coeff.rank))) (rw item (rw (items, ← c.index.ensures) at tied)) in
    rw (← c.self.view_is) (sym (ap (λ t. t.1) item) ∙ seen)

pub returns-in-Err : goal.returns-in-Err
returns-in-Err g c =
    let apart = c.in-Err.ensures.position (λ t. compare_by g.O.Order.key c.args.m.now.exponents t.monomial.exponents) (answers_by _ _ (λ f. f.0 ≡ c.args.m) (λ f a r after called same. (rw (← same) (search rules), search rules)) _ refl) in
    rw (← c.self.view_is, c.zero.ensures)
    (sym (coefficient-between g.met.O.Order.monomial_order g.K.Coeff.field (entry g.K.Coeff.rank) c.self.inside.terms.items c.self.invariant.0 c.self.invariant.1
    (record { eight = c.args.m.now.eight }) c.in-Err.field-0 (rw c.deref.ensures.value at apart)))
