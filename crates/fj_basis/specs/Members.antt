-- Members of a run as the code keeps them: with their sugars, and at their places.
use Rattle.std.specs.Prelude.{◌≡◌, ℕ, ◌<◌, ◌≤◌, List, length, map, slice_index_or, All}
use Rattle.fj_coeff.specs.Field.{Field}
use Rattle.fj_theory.specs.Ideal.{ArePolynomials}
use Rattle.fj_theory.specs.Lead.{lead_coefficient}
use Rattle.fj_theory.specs.Polynomial.{Polynomial}
use Rattle.fj_groebner.specs.Rows.{IsRow}
use Rattle.fj_groebner.specs.Division.{AreWithinSugars, Sugared, DegreeAtMost, degree_limit, polynomials_of}
use Rattle.fj_basis.specs.declared.members.Member.{Member}

-- The member without its place.
abbrev pub sugared : {K O : Type 0} → Member K O → Sugared
sugared m = record { polynomial = m.polynomial; sugar = m.sugar }

abbrev pub sugared_members : {K O : Type 0} → List (Member K O) → List Sugared
sugared_members = map sugared

-- Each member has its place, and a sugar that is not above the limit.
pub record AreInPlace {K O : Type 0} (members : List (Member K O)) : Type 0 where
  pub places : (k : ℕ) (m : Member K O) → k < length members → (slice_index_or members k m).place ≡ k
  pub low : All (λ m. m.sugar ≤ degree_limit) members

-- What the members of a run are, in whichever order it takes its pairs: monic polynomials, with terms whose totals are at most
-- their sugars.
pub record AreMonicMembers (F : Field) (key : List ℕ → List ℕ) (G : List Sugared) : Type 0 where
  pub polynomials : ArePolynomials F (polynomials_of G)
  pub monic : All (λ g. lead_coefficient key g ≡ 1) (polynomials_of G)
  pub within : AreWithinSugars G

-- The row gives a polynomial as the combination of the list L, and its terms have totals of at most the sugar.
pub record IsRowWithin (F : Field) (L : List Polynomial) (g : Sugared) (row : List Polynomial) : Type 0 where
  pub is : IsRow F L g.polynomial row
  pub within : All (DegreeAtMost g.sugar) row
