-- Monomial orders that compare the total degrees first.
use Rattle.std.specs.Prelude.{◌≡◌, ℕ, ◌<◌, List}
use Rattle.std.specs.declared.cmp.Ordering.TheVariants.{Less}
use Rattle.fj_theory.specs.Exponents.{IsExponents, total}
use Rattle.fj_theory.specs.MonomialOrder.{compare_by}

-- The order of the key is a degree order, as Grevlex and Grlex are: a monomial of a smaller total is less (Cox, Little and
-- O'Shea 2015, chapter 2, section 2).
pub record IsDegreeOrder (key : List ℕ → List ℕ) : Type 0 where
  pub lower : (a b : List ℕ) → IsExponents a → IsExponents b → total a < total b → compare_by key a b ≡ Less
