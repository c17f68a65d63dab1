-- What a stop keeps, written in another order, has the cause that it had.
use Rattle.std.proofs.Common.{◌≡◌, ℕ, List, sym, subst}
use Rattle.fj_coeff.specs.Field.{Field}
use Rattle.fj_theory.specs.Polynomial.{Polynomial}
use Rattle.fj_groebner.specs.Run.{TooHigh, Unfinished}
use Rattle.fj_plain.specs.declared.lists.Kept.{Kept}
use Rattle.fj_plain.specs.declared.order_name.OrderName.{OrderName}
use Rattle.fj_plain.specs.declared.order_name.OrderName.TheVariants.{Grevlex}
use Rattle.fj_ideal.specs.Stop.{IsProductOf, IsTooHigh, IsUnfinished, kept_list, key_of}
use Rattle.fj_session.specs.Outcome.{IsKeptAgain}

module _ {key : List ℕ → List ℕ} {old new : Kept} (again : IsKeptAgain key old new) where
  kept_again : (P : OrderName → List Polynomial → Type 0) → P old.order (kept_list old) → P new.order (kept_list new)
  kept_again P h = subst (λ o. P o (kept_list new)) (sym again.order) (subst (P old.order) (sym again.list) h)

  pub unfinished_again : (F : Field) (IsList : OrderName → List Polynomial → Type 0) (budget : ℕ) → IsUnfinished F IsList budget old → IsUnfinished F IsList budget new
  unfinished_again F IsList budget h = record { list = kept_again IsList h.list; unfinished = kept_again (λ o L. Unfinished F (key_of o) L budget) h.unfinished }

  pub too_high_again : (F : Field) (IsList : OrderName → List Polynomial → Type 0) (budget : ℕ) → IsTooHigh F IsList budget old → IsTooHigh F IsList budget new
  too_high_again F IsList budget h = record { list = kept_again IsList h.list; high = kept_again (λ o L. TooHigh F (key_of o) L budget) h.high }

  pub product_again : (IsProduct : List Polynomial → Type 0) → IsProductOf IsProduct old → IsProductOf IsProduct new
  product_again IsProduct h = record { order = kept_again (λ o L. o ≡ Grevlex) h.order; polynomials_are = kept_again (λ o L. IsProduct L) h.polynomials_are }
