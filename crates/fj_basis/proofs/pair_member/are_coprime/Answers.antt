use Rattle.std.proofs.Common.{◌+◌, ◌<◌, length, drop, get_or, ◌∙◌, sym, arith}
use Rattle.fj_groebner.specs.Run.{are_coprime}
use Rattle.fj_basis.proofs.Places.{coprime-more, coprime-end, coprime-none, coprime-first, coprime-second}
use Rattle.fj_basis.proofs.pair_member.are_coprime.Goals as goal
use Rattle.fj_basis.proofs.pair_member.are_coprime.Goals.{else-exp-ne0-via-then-exp-ne0+else-exp-ne0-2, else-exp-ne0-via-else-exp-ne0}

pub returns-then-exp-ne0-2 : goal.returns-then-exp-ne0-2
returns-then-exp-ne0-2 c =
    let a = c.args.a.now in
    let b = c.args.b.now in
    let i = c.loop-i.i in
    let left : i < length a.exponents = (let e = a.eight in omega (arith, e, c.loop-i-test.true)) in
    let right : i < length b.exponents = (let e = b.eight in omega (arith, e, c.loop-i-test.true)) in
    sym (c.loop-i.invariant ∙ coprime-more a.exponents b.exponents i left right
    ∙ coprime-none (get_or a.exponents i 0) (get_or b.exponents i 0) (are_coprime (drop (i + 1) a.exponents) (drop (i + 1) b.exponents))
    (λ z. c.if-exp-ne0.true (c.exp.ensures ∙ z)) (λ z. c.if-exp-ne0-2.true (c.exp-then-exp-ne0.ensures ∙ z)))

pub loop-i-preserved : goal.loop-i-preserved
loop-i-preserved c =
    let a = c.args.a.now in
    let b = c.args.b.now in
    let i = c.loop-i.i in
    let left : i < length a.exponents = (let e = a.eight in omega (arith, e, c.loop-i-test.true)) in
    let right : i < length b.exponents = (let e = b.eight in omega (arith, e, c.loop-i-test.true)) in
    let rest = are_coprime (drop (i + 1) a.exponents) (drop (i + 1) b.exponents) in
    c.loop-i.invariant ∙ coprime-more a.exponents b.exponents i left right
    ∙ elim c.else-exp-ne0.branch [
      | else-exp-ne0-via-then-exp-ne0+else-exp-ne0-2 w ↦ coprime-second (get_or a.exponents i 0) (get_or b.exponents i 0) rest (sym w.exp-then-exp-ne0.ensures ∙ w.if-exp-ne0-2.false)
      | else-exp-ne0-via-else-exp-ne0 w ↦ coprime-first (get_or a.exponents i 0) (get_or b.exponents i 0) rest (sym c.exp.ensures ∙ w.if-exp-ne0.false)
    ]

pub returns : goal.returns
returns c =
    coprime-end c.args.a.now.exponents c.args.b.now.exponents c.loop-i.i (let e = c.args.a.now.eight in let past = c.loop-i-test.false in omega (arith, e, past))
    ∙ sym c.loop-i.invariant
