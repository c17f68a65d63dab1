use Rattle.std.proofs.Common.{length, ap, sym, ◌∙◌, arith, true≢false}
use Rattle.fj_basis.proofs.Sparing.{removed-all, removed-more, removed-none}
use Rattle.fj_basis.proofs.pending.Pending.remove_spared.Goals as goal

pub loop-self-init : goal.loop-self-init
loop-self-init g c = λ s h. removed-none g.O.Order.key s c.args.self.now h

pub loop-self-smaller : goal.loop-self-smaller
loop-self-smaller g c = let e = ap length c.take_next.ensures.pairs in omega (arith, e)

pub loop-self-preserved : goal.loop-self-preserved
loop-self-preserved g c = λ s h.
    removed-more g.O.Order.key s c.loop-self.self c.take_next.new.self c.take_next.result c.take_next.ensures.pairs c.take_next.ensures.above c.take_next.ensures.leads
    (λ t k. (c.is_next_spared.ensures.spared t k).0 c.loop-self-test.true) (c.loop-self.invariant s h)

pub returns : goal.returns
returns g c = λ s h.
    removed-all g.O.Order.key s c.loop-self.self (λ t k found. true≢false (sym ((c.is_next_spared.ensures.spared t k).1 found) ∙ c.loop-self-test.false)) (c.loop-self.invariant s h)
