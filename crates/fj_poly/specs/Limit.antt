-- The limit of the total degree, and refusals by it.
use Rattle.std.specs.Prelude.{◌<◌, ◌^◌, Result, Ok, Err}
use Rattle.std.specs.Option.{IsSomeAnd}
use Rattle.fj_theory.specs.Polynomial.{Polynomial, degree}
use Rattle.fj_poly.specs.declared.fault.PolyFault.{PolyFault}
use Rattle.fj_poly.specs.declared.fault.PolyFault.TheVariants.{High, Memory}

-- Some term of the polynomial has a total degree above 2^40.
abbrev pub IsHigh : Polynomial → Type 0
IsHigh f = IsSomeAnd (degree f) (λ n. 2 ^ 40 < n)

-- The answer is `High` exactly where P holds. Of want of memory nothing is said.
abbrev pub IsHighWhere : {T : Type 0} → Type 0 → Result T PolyFault → Type 0
IsHighWhere P (Ok x) = P → ⊥
IsHighWhere P (Err High) = P
IsHighWhere P (Err Memory) = Unit {0}
