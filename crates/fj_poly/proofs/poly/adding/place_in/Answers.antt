use Rattle.std.proofs.Common.{◌≡◌, refl, rules}
use Rattle.std.proofs.lemmas.Fn.{answers_by}
use Rattle.fj_theory.specs.MonomialOrder.{compare_by}
use Rattle.fj_poly.specs.Terms.{entry}
use Rattle.fj_poly.proofs.Adding.{IsPlace-searched}
use Rattle.fj_poly.proofs.poly.adding.place_in.Goals as goal

pub returns : goal.returns
returns g c =
    IsPlace-searched g.met.O.Order.monomial_order g.K.Coeff.field (entry g.K.Coeff.rank) c.args.terms.now c.requires.falls c.requires.terms (record { eight = c.args.m.now.eight })
    c.binary_search_by.result c.binary_search_by.ensures.bound
    (c.binary_search_by.ensures.position (λ t. compare_by g.O.Order.key c.args.m.now.exponents t.monomial.exponents) (answers_by _ _ (λ f. f.0 ≡ c.args.m) (λ f a r after called same. (rw (← same) (search rules), search rules)) _ refl))
