-- The whole part of a fraction above 0, where the rest is in (0, 1].
use Rattle.std.proofs.Common.{◌≡◌, ℕ, ◌+◌, ◌-◌, ◌*◌, ◌/◌, ◌≤◌, subst, arith}
use Rattle.std.specs.Int.{IsGcd}
use Rattle.std.proofs.Math.Nat.{dvd-add, dvd-mul_left_of_dvd, one-dvd}
use Prim.Native.Nat.{◌∣◌}

-- What is left of n without a multiple of d has the common divisors of n and d alone.
pub prime_to_rest : (n d k : ℕ) → k * d ≤ n → IsGcd n d 1 → IsGcd (n - k * d) d 1
prime_to_rest n d k h gcd =
    let whole : n - k * d + k * d ≡ n = omega (arith, h) in
    (one-dvd (n - k * d), one-dvd d, λ e first second. gcd.2 e (subst (λ m. e ∣ m) whole (dvd-add e first (dvd-mul_left_of_dvd e second k))) second)

pub whole_below : (n d : ℕ) → (n - 1) / d * d ≤ n
whole_below n d = grind arith
