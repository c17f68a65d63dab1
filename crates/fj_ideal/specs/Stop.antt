-- Why a call on ideals stops, and what it then keeps: the words of every call that is refused by a `Stop`.
use Rattle.std.specs.Prelude.{◌≡◌, ℕ, List, map, Result, Ok, Err, IfErr}
use Rattle.fj_coeff.specs.Field.{Field}
use Rattle.fj_theory.specs.MonomialOrder.{elim_key, grevlex_key, grlex_key, lex_key}
use Rattle.fj_theory.specs.Plain.{polynomial}
use Rattle.fj_theory.specs.Polynomial.{Polynomial}
use Rattle.fj_groebner.specs.Run.{TooHigh, Unfinished}
use Rattle.fj_plain.specs.declared.lists.Kept.{Kept}
use Rattle.fj_plain.specs.declared.order_name.OrderName.{OrderName}
use Rattle.fj_plain.specs.declared.order_name.OrderName.TheVariants.{Lex, Grlex, Grevlex, Elim}
use Rattle.fj_basis.specs.declared.stop.Stop.{Stop}
use Rattle.fj_basis.specs.declared.stop.Stop.TheVariants.{Pairs, High, Product, Memory}
use Rattle.fj_basis.specs.Outcome.{AreWritten}

-- The key of the order with this name.
abbrev pub key_of : OrderName → List ℕ → List ℕ
key_of Lex = lex_key
key_of Grlex = grlex_key
key_of Grevlex = grevlex_key
key_of Elim = elim_key

-- The polynomials that are kept.
abbrev pub kept_list : Kept → List Polynomial
kept_list k = map polynomial k.list

-- What is kept is one of these lists with its order, and the run on it makes all turns of the budget and leaves pairs pending.
pub record IsUnfinished (F : Field) (IsList : OrderName → List Polynomial → Type 0) (budget : ℕ) (k : Kept) : Type 0 where
  pub list : IsList k.order (kept_list k)
  pub unfinished : Unfinished F (key_of k.order) (kept_list k) budget

-- What is kept is one of these lists with its order, and in the run on it a sugar above 2^40 arises.
pub record IsTooHigh (F : Field) (IsList : OrderName → List Polynomial → Type 0) (budget : ℕ) (k : Kept) : Type 0 where
  pub list : IsList k.order (kept_list k)
  pub high : TooHigh F (key_of k.order) (kept_list k) budget

-- What is kept are polynomials of such a product.
pub record IsProductOf (IsProduct : List Polynomial → Type 0) (k : Kept) : Type 0 where
  pub order : k.order ≡ Grevlex
  pub polynomials_are : IsProduct (kept_list k)

-- Why a calculation stops that runs these lists and forms these products, the products being told by their polynomials
-- where they are too high. Of want of memory nothing is said.
abbrev pub IsCauseOf : Field → (OrderName → List Polynomial → Type 0) → (List Polynomial → Type 0) → ℕ → Stop → Type 0
IsCauseOf F IsList IsProduct budget (Pairs k) = IsUnfinished F IsList budget k
IsCauseOf F IsList IsProduct budget (High k) = IsTooHigh F IsList budget k
IsCauseOf F IsList IsProduct budget (Product k) = IsProductOf IsProduct k
IsCauseOf F IsList IsProduct budget Memory = Unit {0}

-- What is kept is written in the order that is kept with it.
abbrev pub IsWritten : Field → Stop → Type 0
IsWritten F (Pairs k) = AreWritten F (key_of k.order) k.list
IsWritten F (High k) = AreWritten F (key_of k.order) k.list
IsWritten F (Product k) = AreWritten F (key_of k.order) k.list
IsWritten F Memory = Unit {0}

-- The call stops only with such a cause.
abbrev pub StopsOnlyWith : {T : Type 0} → Field → (OrderName → List Polynomial → Type 0) → (List Polynomial → Type 0) → ℕ → Result T Stop → Type 0
StopsOnlyWith F IsList IsProduct budget r = IfErr r (λ stop. IsCauseOf F IsList IsProduct budget stop × IsWritten F stop)

abbrev pub NoneIsUnfinished : Field → (OrderName → List Polynomial → Type 0) → ℕ → Type 0
NoneIsUnfinished F IsList budget = (order : OrderName) (L : List Polynomial) → IsList order L → Unfinished F (key_of order) L budget → ⊥

abbrev pub NoneIsTooHigh : Field → (OrderName → List Polynomial → Type 0) → ℕ → Type 0
NoneIsTooHigh F IsList budget = (order : OrderName) (L : List Polynomial) → IsList order L → TooHigh F (key_of order) L budget → ⊥

abbrev pub NoProductIsTooHigh : (List Polynomial → Type 0) → Type 0
NoProductIsTooHigh IsProduct = (L : List Polynomial) → IsProduct L → ⊥

-- No list is unfinished at the budget or too high, and no product is too high.
pub record NothingStops (F : Field) (IsList : OrderName → List Polynomial → Type 0) (IsProduct : List Polynomial → Type 0) (budget : ℕ) : Type 0 where
  pub finished : NoneIsUnfinished F IsList budget
  pub low : NoneIsTooHigh F IsList budget
  pub products : NoProductIsTooHigh IsProduct

-- The call stops exactly where it has a cause, and never for two: where it answers, nothing stops it.
abbrev pub StopsExactlyWith : {T : Type 0} → Field → (OrderName → List Polynomial → Type 0) → (List Polynomial → Type 0) → ℕ → Result T Stop → Type 0
StopsExactlyWith F IsList IsProduct budget (Ok x) = NothingStops F IsList IsProduct budget
StopsExactlyWith F IsList IsProduct budget (Err (Pairs k)) = IsUnfinished F IsList budget k × AreWritten F (key_of k.order) k.list × NoneIsTooHigh F IsList budget × NoProductIsTooHigh IsProduct
StopsExactlyWith F IsList IsProduct budget (Err (High k)) = IsTooHigh F IsList budget k × AreWritten F (key_of k.order) k.list × NoneIsUnfinished F IsList budget × NoProductIsTooHigh IsProduct
StopsExactlyWith F IsList IsProduct budget (Err (Product k)) = IsProductOf IsProduct k × AreWritten F (key_of k.order) k.list
StopsExactlyWith F IsList IsProduct budget (Err Memory) = Unit {0}

-- The call has its answer, or wants memory.
abbrev pub IsAnswered : {T : Type 0} → Result T Stop → Type 0
IsAnswered (Ok x) = Unit {0}
IsAnswered (Err Memory) = Unit {0}
IsAnswered (Err stop) = ⊥
