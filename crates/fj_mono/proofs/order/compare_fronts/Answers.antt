use Rattle.std.proofs.Common.{◌≡◌, sym, ◌∙◌, ap, arith, refl}
use Rattle.fj_theory.specs.MonomialOrder.{compare_by, front_sums}
use Rattle.fj_mono.proofs.Compare.{compare_front-none, compare_front-more, ordering_then-equal, ordering_then-differing, sum-take-less}
use Rattle.fj_mono.proofs.order.compare_fronts.Goals as goal

pub loop-count-init : goal.loop-count-init
loop-count-init c = record { within = c.requires; left = c.front-left.ensures; right = c.front-right.ensures; rest = refl }

pub returns-then-left-right : goal.returns-then-left-right
returns-then-left-right c =
    let held = c.loop-count.invariant in
    (rw (held.left, held.right) at c.cmp.ensures) ∙ sym (held.rest ∙ compare_front-more _ _ _ c.loop-count-test.true ∙ ordering_then-differing _ _ _ (λ same. c.if-left-right.true (held.left ∙ same ∙ sym held.right)))

pub loop-count-preserved : goal.loop-count-preserved
loop-count-preserved c =
    let a = sum-take-less c.loop-count.count c.args.a.now.exponents c.loop-count-test.true (omega (arith, c.args.a.now.eight)) in
    let b = sum-take-less c.loop-count.count c.args.b.now.exponents c.loop-count-test.true (omega (arith, c.args.b.now.eight)) in
    record {
      within = omega arith;
      left = omega (arith, a);
      right = omega (arith, b);
      rest = c.loop-count.invariant.rest ∙ compare_front-more _ _ _ c.loop-count-test.true ∙ ordering_then-equal _ _ _ (sym c.loop-count.invariant.left ∙ c.if-left-right.false ∙ c.loop-count.invariant.right);
    }

pub returns : goal.returns
returns c =
    let done : c.loop-count.count ≡ 0 = omega arith in
    sym (c.loop-count.invariant.rest ∙ ap (λ k. compare_by (front_sums k) c.args.a.now.exponents c.args.b.now.exponents) done ∙ compare_front-none _ _)
