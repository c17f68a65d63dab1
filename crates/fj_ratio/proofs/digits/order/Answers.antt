use Rattle.std.proofs.Common.{◌≡◌, ◌*◌, ◌%◌, ◌^◌, ◌<◌, ◌≤◌, arith, sym, ap, ◌∙◌, inl, inr}
use Rattle.std.proofs.lemmas.Bool.{cases_lt}
use Rattle.std.proofs.lemmas.Nat.{mod_below, mul-le}
use Rattle.std.proofs.Math.Nat.{pow-suc, pow-zero}
use Rattle.fj_coeff.specs.Field.{greatest_prime}
use Rattle.fj_coeff.specs.PrimeFieldLaws.{prime_bounds, pow-mod-more}
use Rattle.fj_theory.proofs.Divisibility.{order_exists}
use Rattle.fj_ratio.proofs.digits.order.Goals as goal

pub loop-k-init : goal.loop-k-init
loop-k-init c = record {
  power_is = ap (λ m. m % c.args.n) (sym (pow-suc c.args.p 0 ∙ rw (pow-zero c.args.p) (omega arith)));
  none_before = λ j some below _. omega arith;
}

pub overflow_mul-power : goal.overflow_mul-power
overflow_mul-power c =
    let small : c.args.p ^ c.loop-k.k % c.args.n < c.args.n = mod_below _ _ c.requires.positive in
    let power : c.loop-k.power < 2 ^ 16 = omega (arith, c.loop-k.invariant.power_is) in
    let short : c.args.p ≤ greatest_prime = (prime_bounds _ c.requires.prime).1 in
    let product : c.loop-k.power * c.args.p ≤ 2 ^ 16 * greatest_prime = mul-le c.loop-k.power c.args.p (2 ^ 16) greatest_prime (omega arith) short in
    omega arith

pub loop-k-preserved : goal.loop-k-preserved
loop-k-preserved c = record {
  power_is = pow-mod-more _ _ _ _ c.loop-k.invariant.power_is;
  none_before = λ j some below one. elim (cases_lt j c.loop-k.k) [
    | inl before ↦ c.loop-k.invariant.none_before j some before one
    | inr last ↦ let same : j ≡ c.loop-k.k = omega arith in c.if-power-n.false (c.loop-k.invariant.power_is ∙ ap (λ e. c.args.p ^ e % c.args.n) (sym same) ∙ one)
  ];
}

pub returns-then-power-n : goal.returns-then-power-n
returns-then-power-n c = record {
  positive = omega arith;
  one = sym c.loop-k.invariant.power_is ∙ c.if-power-n.true;
  least = λ k some one. elim (cases_lt k c.loop-k.k) [
    | inl before ↦ absurd (c.loop-k.invariant.none_before k some before one)
    | inr after ↦ after
  ];
}

pub unreachable-requires : goal.unreachable-requires
unreachable-requires c =
    let large = (prime_bounds _ c.requires.prime).0 in
    order_exists c.args.p c.args.n (omega arith) c.requires.positive c.requires.prime_to (λ k some at_most one. c.loop-k.invariant.none_before k some (omega arith) one)
