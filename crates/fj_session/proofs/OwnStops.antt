-- Stops of the runs that a question needs before its answer is printed.
use Rattle.std.proofs.Common.{◌≡◌, ℕ, List, Result, sym, subst, refl}
use Rattle.std.specs.Result.{IsErrAnd}
use Rattle.fj_coeff.specs.Field.{Field}
use Rattle.fj_theory.specs.Polynomial.{Polynomial}
use Rattle.fj_plain.specs.declared.order_name.OrderName.{OrderName}
use Rattle.fj_plain.specs.declared.order_name.OrderName.TheVariants.{Grevlex}
use Rattle.fj_basis.specs.declared.stop.Stop.{Stop}
use Rattle.fj_ideal.specs.Lists.{NoProduct, RunFor}
use Rattle.fj_ideal.specs.Stop.{IsCauseOf, IsWritten, StopsExactlyWith, StopsOnlyWith}
use Rattle.fj_ideal.proofs.Stops.{only_from_exactly, only_handed_on, only_of_more}
use Rattle.fj_session.specs.Outcome.{OwnStops}
use Rattle.fj_session.specs.Standing.{IsDeclaredList, Standing}

-- A stop of the run on a declared list, handed on.
pub declared_handed_on : {T : Type 0} (F : Field) (budget : ℕ) (IsList : OrderName → List Polynomial → Type 0) (IsProduct : List Polynomial → Type 0) (J : Standing) → ((M : List Polynomial) → IsDeclaredList J M → IsList Grevlex M)
    → (s : Stop) (r : Result T Stop) → IsErrAnd r (λ y. y ≡ s) → IsCauseOf F (RunFor Grevlex (IsDeclaredList J)) NoProduct budget s × IsWritten F s → StopsOnlyWith F IsList IsProduct budget r
declared_handed_on F budget IsList IsProduct J list s r is h =
    only_handed_on F budget (RunFor Grevlex (IsDeclaredList J)) IsList NoProduct IsProduct (λ o M e. subst (λ n. IsList n M) (sym e.0) (list M e.1)) (λ M none. absurd none) s r is h

module _ (F : Field) (budget : ℕ) (IsList IsProduct : List Polynomial → Type 0) where
  pub own_handed_on : {T : Type 0} (J : Standing) → ((M : List Polynomial) → IsDeclaredList J M → IsList M) → (s : Stop) (r : Result T Stop) → IsErrAnd r (λ y. y ≡ s)
      → IsCauseOf F (RunFor Grevlex (IsDeclaredList J)) NoProduct budget s × IsWritten F s → OwnStops F IsList IsProduct budget r
  own_handed_on J list s r is h = declared_handed_on F budget (RunFor Grevlex IsList) IsProduct J (λ M d. (refl, list M d)) s r is h

  module _ (P R : List Polynomial → Type 0) (f : (M : List Polynomial) → P M → IsList M) (g : (M : List Polynomial) → R M → IsProduct M) where
    -- The stops of an operation on ideals.
    pub own_of : {T : Type 0} (r : Result T Stop) → StopsOnlyWith F (RunFor Grevlex P) R budget r → OwnStops F IsList IsProduct budget r
    own_of r h = only_of_more F budget (RunFor Grevlex P) (RunFor Grevlex IsList) R IsProduct (λ o M e. (e.0, f M e.1)) g r h

    pub own_of_exactly : {T : Type 0} (r : Result T Stop) → StopsExactlyWith F (RunFor Grevlex P) R budget r → OwnStops F IsList IsProduct budget r
    own_of_exactly r h = own_of r (only_from_exactly F budget (RunFor Grevlex P) R r h)
