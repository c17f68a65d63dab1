-- Why calculations stop, and what they say then.
use Rattle.std.specs.Prelude.{◌≡◌, ℕ, ◌≤◌, ◌^◌, List, All, map, Result, Ok, Err}
use Rattle.fj_coeff.specs.Field.{Field}
use Rattle.fj_theory.specs.Certificate.{AllRanksBelow}
use Rattle.fj_theory.specs.Exponents.{total}
use Rattle.fj_theory.specs.Plain as plain
use Rattle.fj_theory.specs.Polynomial.{Polynomial, terms_falling}
use Rattle.fj_poly.specs.declared.fault.PolyFault.{PolyFault}
use Rattle.fj_poly.specs.declared.fault.PolyFault.TheVariants as product
use Rattle.fj_plain.specs.declared.order_name.OrderName.{OrderName}
use Rattle.fj_plain.specs.declared.lists.Kept.{Kept}
use Rattle.fj_basis.specs.declared.stop.Stop.{Stop}
use Rattle.fj_basis.specs.declared.stop.Stop.TheVariants.{Pairs, High, Product, Memory}
use Rattle.fj_basis.specs.declared.buchberger.RunFault.{RunFault}
use Rattle.fj_basis.specs.declared.buchberger.RunFault.TheVariants as run

-- The terms of each polynomial of the list fall in the order of the key.
abbrev pub TermsFall : (List ℕ → List ℕ) → List plain.PlainPolynomial → Type 0
TermsFall key list = All (λ h. h.terms ≡ terms_falling key (plain.polynomial h)) list

-- No term has a total degree above 2^40.
abbrev pub TotalsAreLow : List plain.PlainPolynomial → Type 0
TotalsAreLow list = All (λ h. All (λ t. total t.0 ≤ 2 ^ 40) h.terms) list

-- Polynomials over F as they are told: their terms fall in the order of the key.
pub record AreWritten (F : Field) (key : List ℕ → List ℕ) (list : List plain.PlainPolynomial) : Type 0 where
  pub falling : TermsFall key list
  pub ranks : AllRanksBelow F.size list
  pub totals : TotalsAreLow list

-- What is kept is the list L of the run, written in the order of the run, and its order.
pub record IsKeptOf (F : Field) (order : OrderName) (key : List ℕ → List ℕ) (L : List Polynomial) (k : Kept) : Type 0 where
  pub order_is : k.order ≡ order
  pub list_is : map plain.polynomial k.list ≡ L
  pub written : AreWritten F key k.list

-- The answer is `Pairs` exactly where P holds and `High` exactly where Q holds, and both keep the list L of the run. It is
-- never `Product`. Of want of memory nothing is said.
abbrev pub IsStopWhere : {T : Type 0} → Field → Type 0 → Type 0 → OrderName → (List ℕ → List ℕ) → List Polynomial → Result T Stop → Type 0
IsStopWhere F P Q order key L (Ok x) = (P → ⊥) × (Q → ⊥)
IsStopWhere F P Q order key L (Err (Pairs k)) = P × (Q → ⊥) × IsKeptOf F order key L k
IsStopWhere F P Q order key L (Err (High k)) = Q × (P → ⊥) × IsKeptOf F order key L k
IsStopWhere F P Q order key L (Err (Product k)) = ⊥
IsStopWhere F P Q order key L (Err Memory) = Unit {0}

-- The stop that a fault of the run on L is told as.
abbrev pub IsStopOf : Field → OrderName → (List ℕ → List ℕ) → List Polynomial → RunFault → Stop → Type 0
IsStopOf F order key L run.Pairs stop = (k : Kept) × (stop ≡ Pairs k) × IsKeptOf F order key L k
IsStopOf F order key L run.High stop = (k : Kept) × (stop ≡ High k) × IsKeptOf F order key L k
IsStopOf F order key L run.Memory stop = stop ≡ Memory

-- The same of a fault, but for the list, and only that it comes where P or Q holds.
abbrev pub IsFaultOnlyWhere : {T : Type 0} → Type 0 → Type 0 → Result T RunFault → Type 0
IsFaultOnlyWhere P Q (Ok x) = Unit {0}
IsFaultOnlyWhere P Q (Err run.Pairs) = P
IsFaultOnlyWhere P Q (Err run.High) = Q
IsFaultOnlyWhere P Q (Err run.Memory) = Unit {0}

-- The answer is `High` only where P holds.
abbrev pub IsHighOnlyWhere : {T : Type 0} → Type 0 → Result T PolyFault → Type 0
IsHighOnlyWhere P (Ok x) = Unit {0}
IsHighOnlyWhere P (Err product.High) = P
IsHighOnlyWhere P (Err product.Memory) = Unit {0}

-- A refused product as the fault of a run.
abbrev pub run_fault : PolyFault → RunFault
run_fault product.High = run.High
run_fault product.Memory = run.Memory
