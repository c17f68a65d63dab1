use Rattle.fj_poly.proofs.Slots.{AfterPop, IsTakenOut, after_pop, taken_out}
use Rattle.fj_poly.proofs.buckets.take_greatest.Given as given
use Rattle.fj_poly.proofs.buckets.take_greatest.Goals as goal

popped : (g : given.Over) (c : goal.After-m-1 g)
    → AfterPop g.K.Coeff.field g.O.Order.key c.args.slots.now.items c.args.place c.pop-first.result.1.exponents (g.K.Coeff.rank c.pop-first.result.0) c.pop-first.new.self
popped g c =
    after_pop g.met.K.Coeff.lawful g.met.O.Order.monomial_order (record { eight = c.pop-first.result.1.eight }) c.args.slots.now.items c.requires.polynomials c.args.place
    c.requires.greatest c.index_mut.result.now c.index_mut.ensures.value (g.K.Coeff.rank c.pop-first.result.0) (g.met.K.Coeff.rank_below c.pop-first.result.0)
    c.pop-first.ensures.lead c.pop-first.ensures.value c.pop-first.ensures.below c.pop-first.ensures.polynomial c.pop-first.ensures.fewer

pub take_all-others-requires-clause-polynomials : goal.take_all-others-requires-clause-polynomials
take_all-others-requires-clause-polynomials g c = (popped g c).polynomials

pub take_all-others-requires-clause-up_to : goal.take_all-others-requires-clause-up_to
take_all-others-requires-clause-up_to g c = (popped g c).up_to

whole : (g : given.Over) (c : goal.After-add g)
    → IsTakenOut g.K.Coeff.field g.O.Order.key c.args.slots.now.items c.take_all-others.new.slots.items c.pop-first.result.1.exponents (g.K.Coeff.rank c.add.result)
whole g c =
    let L = g.met.K.Coeff.lawful in
    let O = g.met.O.Order.monomial_order in
    taken_out L O (record { eight = c.pop-first.result.1.eight })
    (after_pop L O (record { eight = c.pop-first.result.1.eight }) c.args.slots.now.items c.requires.polynomials c.args.place
    c.requires.greatest c.index_mut.result.now c.index_mut.ensures.value (g.K.Coeff.rank c.pop-first.result.0) (g.met.K.Coeff.rank_below c.pop-first.result.0)
    c.pop-first.ensures.lead c.pop-first.ensures.value c.pop-first.ensures.below c.pop-first.ensures.polynomial c.pop-first.ensures.fewer)
    (g.met.K.Coeff.rank_below c.pop-first.result.0) (g.met.K.Coeff.rank_below c.take_all-others.result) c.take_all-others.ensures.polynomials c.take_all-others.ensures.below
    c.take_all-others.ensures.value c.take_all-others.ensures.fewer (g.K.Coeff.rank c.add.result) c.add.ensures

pub returns-clause-value : goal.returns-clause-value
returns-clause-value g c = (whole g c).value

pub returns-clause-below : goal.returns-clause-below
returns-clause-below g c = (whole g c).below

pub returns-clause-fewer : goal.returns-clause-fewer
returns-clause-fewer g c = (whole g c).fewer
