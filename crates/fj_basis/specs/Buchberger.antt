-- A finished run as the code hands it on.
use Rattle.std.specs.Prelude.{◌≡◌, ℕ, List, ◌++◌, length, map}
use Rattle.fj_coeff.specs.Field.{Field}
use Rattle.fj_theory.specs.Polynomial.{Polynomial}
use Rattle.fj_theory.specs.Ideal.{ArePolynomials}
use Rattle.fj_groebner.specs.Division.{Sugared, polynomials_of}
use Rattle.fj_groebner.specs.Rows.{AreRows}
use Rattle.fj_groebner.specs.Run.{IsFinished}
use Rattle.fj_basis.specs.declared.buchberger.FinishedRun.{FinishedRun}
use Rattle.fj_basis.specs.History.{IsHistoryOf}
use Rattle.fj_basis.specs.Members.{sugared_members}

-- The run on L is finished within the budget with these members, with the cofactors of L over them, and with how they were
-- made, after the members of the run.
pub record IsFinishedRun {K O : Type 0} (F : Field) (key : List ℕ → List ℕ) (L : List Polynomial) (budget : ℕ) (r : FinishedRun K O) : Type 0 where
  pub given : ArePolynomials F L
  pub finished : IsFinished F key L budget (sugared_members r.members.items)
  pub up : AreRows F (polynomials_of (sugared_members r.members.items)) L (map (λ row. row.items) r.up.items)
  pub before : List Sugared
  pub from : length before ≡ r.from
  pub history : IsHistoryOf F L (before ++ sugared_members r.members.items) r.history
