use Rattle.std.proofs.Common.{◌≡◌, ◌<◌, sym, ap, ◌∙◌, arith}
use Rattle.std.proofs.lemmas.Bool.{eqb-true, eqb-false}
use Rattle.fj_theory.specs.Polynomial.{sum, term}
use Rattle.fj_poly.specs.Terms.{entries}
use Rattle.fj_poly.proofs.Adding.{cancelled_items, changed_items, own_exponents}
use Rattle.fj_poly.proofs.Polynomials.{polynomial_of}
use Rattle.fj_poly.proofs.poly.adding.change_at.Goals as goal

pub returns-then-eq : goal.returns-then-eq
returns-then-eq g c =
    let L = g.met.K.Coeff.lawful in
    let rank = g.K.Coeff.rank in
    let items = c.args.terms.now.items in
    let t = c.index-t.result.now in
    let none : rank c.add-coefficient.result ≡ 0 = eqb-true _ _ (sym (g.met.K.Coeff.eq_is_rank c.add-coefficient.result c.zero.result) ∙ sym c.eq.ensures ∙ c.if-eq.true) ∙ c.zero.ensures in
    let own = own_exponents L g.O.Order.key rank items c.args.i t c.requires.place c.index-t.ensures c.requires.falls c.requires.terms in
    let after = cancelled_items L g.O.Order.key rank items c.args.i t c.requires.place c.index-t.ensures c.requires.falls c.requires.terms c.args.c c.add-coefficient.result
    (g.met.K.Coeff.rank_below c.args.c) c.add-coefficient.ensures none in
    rw c.remove.ensures.items (record {
      value = λ m e. after.value ∙ ap (λ a. sum g.K.Coeff.field (polynomial_of (entries rank items)) (term (rank c.args.c) a)) (own m e);
      falls = after.falls;
      terms = after.terms;
    })

pub returns-else-eq : goal.returns-else-eq
returns-else-eq g c =
    let L = g.met.K.Coeff.lawful in
    let rank = g.K.Coeff.rank in
    let items = c.args.terms.now.items in
    let t = c.index-t.result.now in
    let differs = eqb-false _ _ (sym (g.met.K.Coeff.eq_is_rank c.add-coefficient.result c.zero.result) ∙ sym c.eq.ensures ∙ c.if-eq.false) in
    let positive : 0 < rank c.add-coefficient.result = omega (arith, c.zero.ensures) in
    let own = own_exponents L g.O.Order.key rank items c.args.i t c.requires.place c.index-t.ensures c.requires.falls c.requires.terms in
    let after = changed_items L g.O.Order.key rank items c.args.i t c.requires.place c.index-t.ensures c.requires.falls c.requires.terms c.args.c c.add-coefficient.result
    (g.met.K.Coeff.rank_below c.args.c) c.add-coefficient.ensures positive in
    record {
      value = λ m e. after.value ∙ ap (λ a. sum g.K.Coeff.field (polynomial_of (entries rank items)) (term (rank c.args.c) a)) (own m e);
      falls = after.falls;
      terms = after.terms;
    }
