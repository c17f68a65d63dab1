-- The operations on ideals depend on the ideals alone, and cofactors show that one ideal is inside another.
use Rattle.std.proofs.Common.{◌≡◌, ◌↔◌, List, [], ◌∷◌, sym, subst}
use Rattle.fj_coeff.specs.Field.{Field, IsField}
use Rattle.fj_theory.specs.Ideal.{ArePolynomials, list_combination, Member, Inside, SameIdeal}
use Rattle.fj_theory.specs.Polynomial.{Polynomial}
use Rattle.fj_groebner.specs.Rows.{IsRow, AreRows}
use Rattle.fj_theory.proofs.Ideal.{Inside-nil, Inside-cons}
pub use Rattle.fj_theory.proofs.Ideal.{ArePolynomials-append, ArePolynomials-products, Inside-refl, Inside-trans, SameIdeal-refl, SameIdeal-sym, SameIdeal-trans, Member-Inside, Member-from_list, Inside-append, Inside-append_both, SameIdeal-append, Inside-products_both, SameIdeal-products}
pub use Rattle.fj_theory.proofs.FrobeniusPower.{ArePolynomials-frobenius_power, Inside-frobenius_power, SameIdeal-frobenius_power}
pub use Rattle.fj_theory.proofs.Root.{IsRoot-SameIdeal, IsRoot-SameIdeal_root}

module _ {F : Field} (L : IsField F) where
  -- Equal ideals have the same members.
  pub Member-SameIdeal : {M N : List Polynomial} → ArePolynomials F M → ArePolynomials F N → SameIdeal F M N → {h : Polynomial} → Member F M h ↔ Member F N h
  Member-SameIdeal P Q E = (Member-Inside L P Q E.forth, Member-Inside L Q P E.back)

  module _ {M : List Polynomial} (P : ArePolynomials F M) where
    -- What is a combination of the list with cofactors is a member.
    pub Member-list_combination : {cs : List Polynomial} {h : Polynomial} → ArePolynomials F cs → h ≡ list_combination F cs M → Member F M h
    Member-list_combination {cs} C e = subst (Member F M) (sym e) (Member-from_list L P cs C)

    pub Member-IsRow : {h : Polynomial} {row : List Polynomial} → IsRow F M h row → Member F M h
    Member-IsRow r = Member-list_combination r.polynomials r.is

    -- Rows of cofactors for the polynomials of a list show that its ideal is inside.
    pub Inside-AreRows : (N : List Polynomial) (rows : List (List Polynomial)) → AreRows F M N rows → Inside F N M
    unfolding AreRows
    Inside-AreRows [] [] all = Inside-nil M
    Inside-AreRows [] (row ∷ rows) all = absurd all
    Inside-AreRows (g ∷ N) [] all = absurd all
    Inside-AreRows (g ∷ N) (row ∷ rows) all = Inside-cons (Member-IsRow all.0) (Inside-AreRows N rows all.1)

  -- Rows both ways show that two lists generate one ideal.
  pub SameIdeal-AreRows : {M N : List Polynomial} → ArePolynomials F M → ArePolynomials F N → (rows cofactors : List (List Polynomial)) → AreRows F N M rows → AreRows F M N cofactors
      → SameIdeal F M N
  SameIdeal-AreRows {M} {N} P Q rows cofactors forth back = record { forth = Inside-AreRows Q M rows forth; back = Inside-AreRows P N cofactors back }
