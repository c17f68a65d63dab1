use Rattle.std.proofs.Common.{◌≡◌, ◌+◌, ◌*◌, ◌^◌, ◌∙◌, ap, arith, get_or, length, refl, rules}
use Rattle.fj_theory.specs.Digits.{value_of}
use Rattle.fj_plain.proofs.PackedExponents.{room_for_digit, value_of-take}
use Rattle.fj_plain.proofs.packing.packed.Goals as goal

pub loop-k-init : goal.loop-k-init
unfolding value_of
loop-k-init c = refl

pub overflow_mul-key : goal.overflow_mul-key
overflow_mul-key c =
    let eight : length c.args.exps ≡ 8 = search rules in
    let room = room_for_digit c.args.exps c.loop-k.k-index eight (omega arith) c.requires in
    omega (arith, c.loop-k.invariant)

pub overflow_add-key : goal.overflow_add-key
overflow_add-key c =
    let eight : length c.args.exps ≡ 8 = search rules in
    let room = room_for_digit c.args.exps c.loop-k.k-index eight (omega arith) c.requires in
    omega (arith, c.loop-k.invariant)

pub loop-k-preserved : goal.loop-k-preserved
loop-k-preserved c = ap (λ n. 2 ^ 16 * n + get_or c.args.exps c.loop-k.k-index 0) c.loop-k.invariant ∙ value_of-take c.args.exps c.loop-k.k-index (omega arith)
