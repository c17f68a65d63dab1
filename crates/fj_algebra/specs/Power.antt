-- Powers and natural multiples of an element of a commutative ring.
use Rattle.std.specs.Prelude.{ℕ, zero, suc}
use Rattle.fj_algebra.specs.Ring.{CommutativeRing}

-- The n-th power of x: the product of n times x.
unfoldable pub power : {A : Type 0} → CommutativeRing A → A → ℕ → A
power R x zero = R.one
power R x (suc n) = R.mul x (power R x n)

-- n times x: the sum of n times x.
unfoldable pub multiple : {A : Type 0} → CommutativeRing A → ℕ → A → A
multiple R zero x = R.zero
multiple R (suc n) x = R.add x (multiple R n x)
