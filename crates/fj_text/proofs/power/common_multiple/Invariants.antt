use Rattle.std.proofs.Common.{◌≡◌, ℕ, ◌<◌, IsTrue, List, Some, slice_get}
use Rattle.fj_theory.specs.Exponents.{divides}
use Rattle.fj_theory.specs.MonomialOrder.{grevlex_key}
use Rattle.fj_theory.specs.Polynomial.{terms_falling}
use Rattle.fj_text.proofs.power.common_multiple.Given as goal

-- The terms so far divide it.
abbrev pub invariant-terms : goal.invariant-terms
invariant-terms g l = (j : ℕ) (t : List ℕ × ℕ) → j < l.i → slice_get (terms_falling grevlex_key l.f) j ≡ Some t → IsTrue (divides t.0 l.multiple.exponents)
