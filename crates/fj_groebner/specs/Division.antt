-- Division of polynomials by a list, as the list of its states (Cox, Little and O'Shea 2015, chapter 2, section 3), with
-- sugar degrees (Giovini and others 1991, "One sugar cube, please").
use Rattle.std.specs.Prelude.{◌≡◌, ◌≢◌, ℕ, suc, ◌+◌, ◌<◌, ◌≤◌, ◌^◌, max, if◌then◌else◌, List, [], ◌∷◌, length, map, All, replicate, set, slice_index_or, Option, Some, None}
use Rattle.std.specs.Option.{option_map}
use Rattle.std.specs.FinMap.{empty}
use Rattle.fj_coeff.specs.Field.{Field}
use Rattle.fj_theory.specs.Exponents.{total, divides, minus}
use Rattle.fj_theory.specs.Polynomial.{Polynomial, coefficient, difference, term, sum, product}
use Rattle.fj_theory.specs.Lead.{lead_exponents, lead_coefficient}
use Rattle.fj_theory.specs.Steps.{StepsTo}

-- The greatest degree that polynomials have in a calculation.
abbrev pub degree_limit : ℕ
degree_limit = 2 ^ 40

-- A polynomial with its sugar degree.
pub record Sugared : Type 0 where
  pub polynomial : Polynomial
  pub sugar : ℕ

-- The polynomials of a list, without their sugars.
abbrev pub polynomials_of : List Sugared → List Polynomial
polynomials_of G = map (λ g. g.polynomial) G

-- The state of a division: what is still to be divided, one quotient for each member of the list, the remainder, and the
-- sugar degree of the dividend.
pub record Division : Type 0 where
  pub dividend : Polynomial
  pub quotients : List Polynomial
  pub remainder : Polynomial
  pub sugar : ℕ

-- The place of the first member whose lead divides the monomial.
unfoldable pub first_divisor : (List ℕ → List ℕ) → List Sugared → List ℕ → Option ℕ
first_divisor key [] a = None
first_divisor key (g ∷ G) a = if divides (lead_exponents key g.polynomial) a then Some 0 else option_map suc (first_divisor key G a)

-- The member of the list at a place.
unfoldable pub member_at : List Sugared → ℕ → Sugared
member_at G k = slice_index_or G k (record { polynomial = empty; sugar = 0 })

-- The factor whose product with g has the lead of the dividend.
abbrev pub cancelling_factor : Field → (List ℕ → List ℕ) → Polynomial → Polynomial → Polynomial
cancelling_factor F key dividend g =
    term (F.mul (lead_coefficient key dividend) (F.inverse (lead_coefficient key g))) (minus (lead_exponents key dividend) (lead_exponents key g))

-- The multiple of the member g at the place k that cancels the dividend's lead is subtracted, and its factor is added to
-- the member's quotient. The sugar rises to that of the multiple.
unfoldable pub cancel_lead : Field → (List ℕ → List ℕ) → ℕ → Sugared → Division → Division
cancel_lead F key k g s =
    let monomial = minus (lead_exponents key s.dividend) (lead_exponents key g.polynomial) in
    let factor = cancelling_factor F key s.dividend g.polynomial in
    record {
      dividend = difference F s.dividend (product F factor g.polynomial);
      quotients = set s.quotients k (sum F (slice_index_or s.quotients k empty) factor);
      remainder = s.remainder;
      sugar = max s.sugar (total monomial + g.sugar);
    }

-- The leading term of the dividend moves to the remainder.
unfoldable pub move_lead : Field → (List ℕ → List ℕ) → Division → Division
move_lead F key s =
    let leading = term (lead_coefficient key s.dividend) (lead_exponents key s.dividend) in
    record {
      dividend = difference F s.dividend leading;
      quotients = s.quotients;
      remainder = sum F s.remainder leading;
      sugar = s.sugar;
    }

-- One step: by the first member whose lead divides the dividend's lead, if there is one.
unfoldable pub step_by : Field → (List ℕ → List ℕ) → List Sugared → Option ℕ → Division → Division
step_by F key G (Some k) s = cancel_lead F key k (member_at G k) s
step_by F key G None s = move_lead F key s

pub record IsDivisionStep (F : Field) (key : List ℕ → List ℕ) (G : List Sugared) (s t : Division) : Type 0 where
  pub nonzero : s.dividend ≢ empty
  pub next : t ≡ step_by F key G (first_divisor key G (lead_exponents key s.dividend)) s

-- The division of h by the list begins.
unfoldable pub division_start : List Sugared → Sugared → Division
division_start G h = record { dividend = h.polynomial; quotients = replicate (length G) empty; remainder = empty; sugar = h.sugar }

-- The division of h by the list ends in the state `last`.
pub record IsDivision (F : Field) (key : List ℕ → List ℕ) (G : List Sugared) (h : Sugared) (last : Division) : Type 0 where
  pub states : List Division
  pub steps : StepsTo (IsDivisionStep F key G) (division_start G h) states last
  pub finished : last.dividend ≡ empty

-- The same, and no sugar is above the limit.
pub record IsLowDivision (F : Field) (key : List ℕ → List ℕ) (G : List Sugared) (h : Sugared) (last : Division) : Type 0 where
  pub division : IsDivision F key G h last
  pub low : last.sugar ≤ degree_limit

-- In the division of h by the list a sugar above the limit arises.
pub record IsHighDivision (F : Field) (key : List ℕ → List ℕ) (G : List Sugared) (h : Sugared) : Type 0 where
  pub states : List Division
  pub reached : Division
  pub steps : StepsTo (IsDivisionStep F key G) (division_start G h) states reached
  pub high : degree_limit < reached.sugar

-- In the division of h by the list a product is subtracted that has a term with a total above the limit.
pub record SubtractsHigh (F : Field) (key : List ℕ → List ℕ) (G : List Sugared) (h : Sugared) : Type 0 where
  pub states : List Division
  pub reached : Division
  pub steps : StepsTo (IsDivisionStep F key G) (division_start G h) states reached
  pub unfinished : reached.dividend ≢ empty
  pub place : ℕ
  pub divisor : first_divisor key G (lead_exponents key reached.dividend) ≡ Some place
  pub exponents : List ℕ
  pub in_product : let g = (member_at G place).polynomial in 0 < coefficient (product F (cancelling_factor F key reached.dividend g) g) exponents
  pub high : degree_limit < total exponents

-- Each term of the polynomial has a total of at most the bound.
pub record DegreeAtMost (bound : ℕ) (f : Polynomial) : Type 0 where
  pub within : (a : List ℕ) → 0 < coefficient f a → total a ≤ bound

-- Each polynomial of the list has terms with a total of at most its sugar.
abbrev pub AreWithinSugars : List Sugared → Type 0
AreWithinSugars G = All (λ g. DegreeAtMost g.sugar g.polynomial) G

-- The sugar of a division bounds its state: each term of the dividend and of the remainder has a total of at most the sugar,
-- and so has each term of a quotient together with the sugar of its member.
pub record IsWithinSugar (G : List Sugared) (s : Division) : Type 0 where
  pub dividend : DegreeAtMost s.sugar s.dividend
  pub remainder : DegreeAtMost s.sugar s.remainder
  pub quotients : (k : ℕ) → k < length s.quotients → (a : List ℕ) → 0 < coefficient (slice_index_or s.quotients k empty) a
      → total a + (member_at G k).sugar ≤ s.sugar
