use Rattle.std.proofs.Common.{◌<◌, ◌≤◌, length, sym, ◌∙◌, subst, arith}
use Rattle.std.specs.FinMap.{empty, len}
use Rattle.std.proofs.lemmas.List.{get_or_default}
use Rattle.fj_poly.proofs.Slots.{takes_all-start, takes_all-more, takes_all-below}
use Rattle.fj_poly.proofs.buckets.take_all.Goals as goal

pub loop-i-init : goal.loop-i-init
loop-i-init g c =
    takes_all-start g.met.K.Coeff.lawful g.met.O.Order.monomial_order (record { eight = c.args.m.now.eight }) c.args.slots.now.items c.requires.polynomials c.requires.up_to _ c.zero-coefficient.ensures

pub loop-i-preserved : goal.loop-i-preserved
loop-i-preserved g c =
    let within : c.loop-i.i < length c.loop-i.slots.items = omega (arith, c.loop-i-test.true, c.len-i-end.ensures, c.args.slots.now.ok.0, c.loop-i.invariant.long) in
    let own = c.index_mut.ensures.value ∙ get_or_default c.loop-i.slots.items c.loop-i.i c.index_mut.result.now empty within in
    takes_all-more g.met.K.Coeff.lawful g.met.O.Order.monomial_order (record { eight = c.args.m.now.eight }) c.loop-i.invariant within (g.met.K.Coeff.rank_below c.loop-i.coefficient)
    (g.K.Coeff.rank c.take.result) (g.met.K.Coeff.rank_below c.take.result) c.take.ensures.polynomial (sym own ∙ c.take.ensures.value) c.take.ensures.below
    (subst (λ x. len c.take.new.self ≤ len x) own c.take.ensures.fewer) (g.K.Coeff.rank c.add-coefficient.result) c.add-coefficient.ensures

pub returns-clause-below : goal.returns-clause-below
returns-clause-below g c =
    takes_all-below g.met.K.Coeff.lawful g.met.O.Order.monomial_order (record { eight = c.args.m.now.eight }) c.loop-i.invariant
    (omega (arith, c.loop-i-test.false, c.len-i-end.ensures, c.args.slots.now.ok.0, c.loop-i.invariant.long))
