-- What the names of a session stand for, in the first seven variables.
use Rattle.std.proofs.Common.{◌≡◌, ℕ, ◌≤◌, length, All, sym, ◌∙◌, subst, refl}
use Rattle.std.proofs.lemmas.List.Elements.{All-weaker}
use Rattle.fj_coeff.specs.Field.{Field, IsField}
use Rattle.fj_theory.specs.Plain.{polynomial}
use Rattle.fj_theory.specs.PointIdeal.{UsesFirst}
use Rattle.fj_theory.specs.Polynomial.{Polynomial}
use Rattle.fj_theory.proofs.Keys.{grevlex_key-IsMonomialOrder}
use Rattle.fj_theory.proofs.UsesFirst.{UsesFirst-more}
use Rattle.fj_groebner.proofs.Lacking.{IsReducedBasis-UsesFirst}
use Rattle.fj_ideal.specs.Ideal.{IsIdealOf, WithBasis}
use Rattle.fj_ideal.proofs.Lists.{basis_of_list, polynomials_of_list}
use Rattle.fj_chain.specs.Admissible.{IsAdmissible}
use Rattle.fj_script.specs.declared.script.Env.{Env}
use Rattle.fj_shell.specs.Asked.{IsNonconstantAt, IsPolyAt}
use Rattle.fj_shell.specs.Named.{polynomial_at}
use Rattle.fj_session.specs.Names.{IsAtHand, standing_in}
use Rattle.fj_session.specs.declared.names.Names.{Names}
use Rattle.fj_session.proofs.Standings.{standing_uses}

-- The basis of an ideal that is at hand.
pub members_lack : {K : Type 0} (names : Names K) → length names.env.now.vars ≤ 7 → {F : Field} (L : IsField F) (j : ℕ) → IsAtHand F names j → {J : WithBasis} → IsIdealOf F (standing_in names j).list J → All (UsesFirst 7) J.members
members_lack names few L j named is =
    IsReducedBasis-UsesFirst grevlex_key-IsMonomialOrder L (polynomials_of_list is)
    (All-weaker (UsesFirst (length names.env.now.vars)) (UsesFirst 7) (λ g u. UsesFirst-more few u) (standing_in names j).list (standing_uses names named)) (basis_of_list is)

module _ (env : Env) where
  pub polynomial_named : (f : ℕ) (P : IsPolyAt env f) → polynomial_at env f ≡ polynomial P.f
  polynomial_named f P = rw (P.stands, polynomial_at) refl

  -- A polynomial that isn't constant.
  pub admissible : length env.vars ≤ 7 → (f : ℕ) → IsNonconstantAt env f → (p : Polynomial) → p ≡ polynomial_at env f → IsAdmissible p
  admissible few f N p is =
      subst IsAdmissible (sym (is ∙ polynomial_named f N.poly)) (record { total = N.total; has_degree = N.has_degree; nonconstant = N.nonconstant; bounded = N.bounded; seven = UsesFirst-more few N.poly.variables })
