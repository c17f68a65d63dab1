use Rattle.std.proofs.Common.{◌≡◌, ℕ, ◌+◌, ◌*◌, ◌^◌, ◌<◌, ◌≤◌, length, get_or, take, refl, sym, ap, ap₂, ◌∙◌, arith}
use Rattle.std.proofs.Math.Nat.{pow-le-pow_right}
use Rattle.std.proofs.lemmas.Nat.{pow-add}
use Rattle.std.proofs.lemmas.List.{take_more}
use Rattle.fj_basis.specs.Leads.{height, mask_after}
use Rattle.fj_basis.proofs.Dividing.{mask_after-push}
use Rattle.fj_basis.proofs.leads.mask_of.Goals as goal

-- One byte more still fits.
grown : (x h i : ℕ) → i < 8 → x < 2 ^ (8 * i) → h < 256 → (x * 256 + h < 2 ^ (8 * (i + 1))) × (2 ^ (8 * (i + 1)) ≤ 2 ^ 64) × (x * 256 < 2 ^ 64)
grown x h i l m b =
    let same : 8 * (i + 1) ≡ 8 * i + 8 = omega arith in
    let more : 2 ^ (8 * (i + 1)) ≡ 2 ^ (8 * i) * 256 = ap (λ k. 2 ^ k) same ∙ pow-add 2 (8 * i) 8 in
    let last : 8 * (i + 1) ≤ 64 = omega arith in
    let top : 2 ^ (8 * (i + 1)) ≤ 2 ^ 64 = pow-le-pow_right {n = 2} (omega arith) last in
    (omega (arith, more), top, omega (arith, more, top))

pub loop-i-init : goal.loop-i-init
unfolding mask_after
loop-i-init c = (refl, omega arith)

pub overflow_mul-mask : goal.overflow_mul-mask
overflow_mul-mask c = let small = (grown c.loop-i.mask 0 c.loop-i.i c.loop-i-test.true c.loop-i.invariant.1 (omega arith)).2 in omega (arith, small)

pub loop-i-preserved : goal.loop-i-preserved
loop-i-preserved c =
    let within : c.loop-i.i < length c.args.m.now.exponents = omega (arith, c.args.m.now.eight, c.loop-i-test.true) in (
      ap₂ (λ x y. x * 256 + y) c.loop-i.invariant.0 (c.height_of.ensures.value ∙ ap height c.exp.ensures)
          ∙ sym (ap (mask_after 0) (take_more c.args.m.now.exponents c.loop-i.i 0 within) ∙ mask_after-push 0 (take c.loop-i.i c.args.m.now.exponents) (get_or c.args.m.now.exponents c.loop-i.i 0)),
      (grown c.loop-i.mask c.height_of.result c.loop-i.i c.loop-i-test.true c.loop-i.invariant.1 c.height_of.ensures.byte).0,
    )
