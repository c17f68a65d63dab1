-- A run by the sugar strategy, and what is made of its members. That it finds a Gröbner basis is no part of it.
use Rattle.std.specs.Prelude.{◌≡◌, ℕ, true, List, ◌++◌}
use Rattle.fj_coeff.specs.Field.{Field}
use Rattle.fj_theory.specs.Polynomial.{IsPolynomial, Polynomial}
use Rattle.fj_theory.specs.Ideal.{ArePolynomials}
use Rattle.fj_groebner.specs.Division.{Sugared, polynomials_of}
use Rattle.fj_basis.specs.declared.history.History.{History}
use Rattle.fj_basis.specs.declared.sugared_run.SugaredRun.{SugaredRun}
use Rattle.fj_basis.specs.History.{HasRecordedMember, IsHistoryOf}
use Rattle.fj_basis.specs.Members.{AreMonicMembers, sugared_members}

-- The members are monic, and made from the list L as the history says.
pub record IsSugaredRun {K O : Type 0} (F : Field) (key : List ℕ → List ℕ) (L : List Polynomial) (s : SugaredRun K O) : Type 0 where
  pub given : ArePolynomials F L
  pub members : AreMonicMembers F key (sugared_members s.members.items)
  pub kept : s.history.is_kept ≡ true
  pub history : IsHistoryOf F L (sugared_members s.members.items) s.history

-- How f is made of the polynomials of G comes to be recorded, whatever stands behind them.
pub record IsExpressed {K O : Type 0} (F : Field) (G : List Sugared) (f : Polynomial) (before after : History K O) : Type 0 where
  pub polynomial : IsPolynomial F f
  pub sugar : ℕ
  pub recorded : (B : List Sugared) → ArePolynomials F (polynomials_of B) → HasRecordedMember F (G ++ B) (record { polynomial = f; sugar = sugar }) before after

-- The polynomials are made of those of G, each recorded behind them.
pub record AreExpressed {K O : Type 0} (F : Field) (L : List Polynomial) (G : List Sugared) (fs : List Polynomial) (h : History K O) : Type 0 where
  pub kept : h.is_kept ≡ true
  pub made : List Sugared
  pub are : polynomials_of made ≡ fs
  pub polynomials : ArePolynomials F fs
  pub history : IsHistoryOf F L (G ++ made) h
