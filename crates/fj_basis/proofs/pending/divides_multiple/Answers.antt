use Rattle.std.proofs.Common.{◌≡◌, ◌⊎◌, inl, inr, ℕ, ◌+◌, ◌<◌, ◌≤◌, get_or, max, sym, ap₂, ◌∙◌, subst, subst₂, arith}
use Rattle.fj_theory.specs.Exponents.{least_common_multiple}
use Rattle.fj_groebner.proofs.Multiple.{length-least_common_multiple}
use Rattle.fj_mono.proofs.Combine.{divides_from_entries, divides_not}
use Rattle.fj_basis.proofs.Sparing.{multiple-entry}
use Rattle.fj_basis.proofs.pending.divides_multiple.Goals as goal

pub returns-then-exp-max : goal.returns-then-exp-max
returns-then-exp-max c =
    let a = c.args.a.now in
    let b = c.args.b.now in
    let i = c.loop-i.i in
    let same = a.eight ∙ sym b.eight in
    let entry = multiple-entry a.exponents b.exponents i same in
    let greatest = c.max.ensures in
    let first = c.exp-in-loop-i.ensures in
    let second = c.exp-in-loop-i-2.ensures in
    let own = c.exp.ensures in
    sym (divides_not c.args.m.now.exponents (least_common_multiple a.exponents b.exponents)
    (c.args.m.now.eight ∙ sym (length-least_common_multiple a.exponents b.exponents same ∙ a.eight)) i
    (subst (λ x. x < get_or c.args.m.now.exponents i 0) (greatest ∙ ap₂ max first second ∙ sym entry) (subst (λ x. c.max.result < x) own c.if-exp-max.true)))

pub loop-i-preserved : goal.loop-i-preserved
loop-i-preserved c = λ k l. go k l (le_or k c.loop-i.i l)
  where
    le_or : (k i : ℕ) → k < i + 1 → (k < i) ⊎ (k ≡ i)
    le_or k i l = grind arith

    go : (k : ℕ) → k < c.loop-i.i + 1 → (k < c.loop-i.i) ⊎ (k ≡ c.loop-i.i)
        → get_or c.args.m.now.exponents k 0 ≤ max (get_or c.args.a.now.exponents k 0) (get_or c.args.b.now.exponents k 0)
    go k l (inl before) = c.loop-i.invariant k before
    go k l (inr e) =
        subst (λ k. get_or c.args.m.now.exponents k 0 ≤ max (get_or c.args.a.now.exponents k 0) (get_or c.args.b.now.exponents k 0)) (sym e)
        (subst₂ ◌≤◌ c.exp.ensures (c.max.ensures ∙ ap₂ max c.exp-in-loop-i.ensures c.exp-in-loop-i-2.ensures) c.if-exp-max.false)

pub returns : goal.returns
returns c =
    let a = c.args.a.now in
    let b = c.args.b.now in
    let same = a.eight ∙ sym b.eight in
    sym (divides_from_entries c.args.m.now.exponents (least_common_multiple a.exponents b.exponents) c.args.m.now.eight
    (length-least_common_multiple a.exponents b.exponents same ∙ a.eight)
    (λ k l. subst (λ x. get_or c.args.m.now.exponents k 0 ≤ x) (sym (multiple-entry a.exponents b.exponents k same))
    (c.loop-i.invariant k (let past = c.loop-i-test.false in omega (arith, l, past)))))
