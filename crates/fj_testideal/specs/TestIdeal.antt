-- Test ideals of powers of a polynomial with rational exponents, and their limits from the left
-- (Blickle, Mustață and Smith 2008, section 2, for principal ideals).
use Rattle.std.specs.Prelude.{ℕ, ◌-◌, ◌^◌, ◌≤◌, List, [], ◌∷◌}
use Rattle.fj_coeff.specs.Field.{Field}
use Rattle.fj_theory.specs.Polynomial.{Polynomial, power}
use Rattle.fj_theory.specs.Fraction.{Fraction, ceil_times}
use Rattle.fj_theory.specs.Root.{IsRoot}

-- T is tau(f^t), the test ideal of f at the exponent t >= 0: for every e from some one on, T is the root of
-- f^ceil(t*p^e) at e.
pub record IsTestIdeal (F : Field) (f : Polynomial) (t : Fraction) (T : List Polynomial) : Type 0 where
  pub start : ℕ
  pub root : (e : ℕ) → start ≤ e → IsRoot F (F.characteristic ^ e) (power F f (ceil_times t (F.characteristic ^ e)) ∷ []) T

-- T is the left limit of the test ideals of f at t > 0: for every e from some one on, T is the root of
-- f^(ceil(t*p^e) - 1) at e.
pub record IsLeftLimit (F : Field) (f : Polynomial) (t : Fraction) (T : List Polynomial) : Type 0 where
  pub start : ℕ
  pub root : (e : ℕ) → start ≤ e → IsRoot F (F.characteristic ^ e) (power F f (ceil_times t (F.characteristic ^ e) - 1) ∷ []) T
