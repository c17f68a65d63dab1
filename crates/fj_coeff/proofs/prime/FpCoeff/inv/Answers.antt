use Rattle.std.proofs.Common.{arith, ◌≡◌, ◌<◌, ◌≤◌, ◌%◌, ◌^◌, ◌-◌, ◌+◌, ◌*◌, sym, ◌∙◌, ap, subst, ℕ}
use Rattle.std.proofs.lemmas.Nat.{mod_below}
use Rattle.std.proofs.Math.Nat.{mod-eq_of_lt, pow-zero}
use Rattle.fj_coeff.specs.PrimeFieldLaws.{prime_bounds, prime_product_fits, pow-mod-more}
use Rattle.fj_coeff.proofs.prime.FpCoeff.inv.Goals as goal

below_prime : (p value power : ℕ) → 0 < p → value ≡ power % p → value < p
below_prime p value power positive e = rw e (mod_below power p positive)

pub powers-init : goal.powers-init
powers-init g c = (omega arith, sym (rw pow-zero (mod-eq_of_lt (omega (arith, (prime_bounds _ g.bound-1.is_prime).0)))))

pub overflow_mul-value : goal.overflow_mul-value
overflow_mul-value g c =
    let below = below_prime _ _ _ (omega (arith, (prime_bounds _ g.bound-1.is_prime).0)) c.powers.invariant.1 in
    omega (arith, prime_product_fits _ _ _ g.bound-1.is_prime below c.args.self.reduced)

pub powers-preserved : goal.powers-preserved
powers-preserved g c =
    let next : c.powers.counter - 2 + 1 ≡ c.powers.counter + 1 - 2 = omega arith in
    (omega arith, pow-mod-more _ _ _ _ c.powers.invariant.1 ∙ ap (λ k. c.args.self.value ^ k % g.row.P) next)

pub returns : goal.returns
returns g c =
    let all : c.powers.counter ≡ g.row.P = omega (arith, prime_bounds _ g.bound-1.is_prime) in
    c.powers.invariant.1 ∙ ap (λ k. c.args.self.value ^ (k - 2) % g.row.P) all

pub invariant_of-result : goal.invariant_of-result
invariant_of-result g c = record {
  reduced = below_prime _ _ _ (omega (arith, (prime_bounds _ g.bound-1.is_prime).0)) c.powers.invariant.1;
}
