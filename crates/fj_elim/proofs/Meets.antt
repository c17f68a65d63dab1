-- What is eliminated is the meet.
use Rattle.std.proofs.Common.{◌≡◌, List, ◌∷◌, [], All, sym, ap, ◌∙◌, subst}
use Rattle.std.specs.FinMap.{empty}
use Rattle.std.proofs.lemmas.List.Elements.{All-cons, All-nil}
use Rattle.fj_coeff.specs.Field.{Field, IsField}
use Rattle.fj_theory.specs.Colon.{IsMeet}
use Rattle.fj_theory.specs.Ideal.{ArePolynomials, Member, SameIdeal}
use Rattle.fj_theory.specs.MonomialOrder.{elim_key, grevlex_key}
use Rattle.fj_theory.specs.PointIdeal.{UsesFirst}
use Rattle.fj_theory.specs.Polynomial.{Polynomial}
use Rattle.fj_theory.proofs.Colon.{IsMeet-SameIdeal}
use Rattle.fj_theory.proofs.Ideal.{SameIdeal-refl, SameIdeal-sym}
use Rattle.fj_theory.proofs.Keys.{elim_key-IsMonomialOrder}
use Rattle.fj_groebner.specs.Elimination.{elimination_list, without_eighth}
use Rattle.fj_groebner.specs.EliminationLaws.{Eliminates}
use Rattle.fj_groebner.specs.ReducedBasis.{IsReducedBasis}
use Rattle.fj_groebner.proofs.Elimination.{ArePolynomials-elimination, IsMeet-elimination, elimination_theorem}
use Rattle.fj_ideal.specs.Ideal.{IsIdeal, WithBasis}
use Rattle.fj_ideal.proofs.ReducedBasis.{ArePolynomials-members, SameIdeal-members}
use Rattle.fj_elim.specs.Lists.{IsEliminated}

module _ {F : Field} (L : IsField F) {G H N : List Polynomial} (A : ArePolynomials F G) (B : ArePolynomials F H) (e : IsEliminated F G H N) where
  pub basis_is : IsReducedBasis F elim_key (elimination_list F G H) e.basis
  basis_is = subst (λ M. IsReducedBasis F elim_key M e.basis) e.formed.is e.reduced

  eliminates : Eliminates F (elimination_list F G H) e.basis
  eliminates = elimination_theorem L (ArePolynomials-elimination L A B) basis_is

  -- It is the reduced Grevlex basis of itself, and lacks the eighth variable.
  pub eliminated-reduced : IsReducedBasis F grevlex_key N N
  eliminated-reduced = subst (λ M. IsReducedBasis F grevlex_key M M) (sym e.is) eliminates.basis

  pub eliminated-lacks : All (UsesFirst 7) N
  eliminated-lacks = subst (All (UsesFirst 7)) (sym e.is) eliminates.lack

  pub eliminated-meet : All (UsesFirst 7) G → All (UsesFirst 7) H → IsMeet F G H N
  eliminated-meet lacks_G lacks_H = subst (IsMeet F G H) (sym e.is) (IsMeet-elimination L A B basis_is lacks_G lacks_H)

-- The meet of two ideals is that of their members.
pub meet_of_members : {F : Field} (L : IsField F) {I J : WithBasis} (P : IsIdeal F I) (Q : IsIdeal F J) {N : List Polynomial} → ArePolynomials F N → IsMeet F I.members J.members N → IsMeet F I.given J.given N
meet_of_members L P Q R m =
    IsMeet-SameIdeal L (ArePolynomials-members L P) P.polynomials (ArePolynomials-members L Q) Q.polynomials R R (SameIdeal-sym (SameIdeal-members L P)) (SameIdeal-sym (SameIdeal-members L Q)) (SameIdeal-refl L R) m
