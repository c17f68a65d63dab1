-- The names of a question with the values of the lets that it uses, as the code keeps them.
use Rattle.std.specs.Prelude.{◌≡◌, ℕ, List, [], All, Some, None, length, slice_get}
use Rattle.std.specs.declared.option.Option.{Option}
use Rattle.fj_coeff.specs.Field.{Field}
use Rattle.fj_theory.specs.PointIdeal.{UsesFirst}
use Rattle.fj_theory.specs.Polynomial.{Polynomial}
use Rattle.fj_ideal.specs.Ideal.{IsIdeal, WithBasis}
use Rattle.fj_script.specs.declared.question.Question.{Question}
use Rattle.fj_shell.specs.Asked.{IsDeclaredIdealAt, IsLetAt}
use Rattle.fj_shell.specs.Named.{places_in}
use Rattle.fj_session.specs.Standing as named
use Rattle.fj_session.specs.Standing.{Values, standing_at}
use Rattle.fj_session.specs.declared.names.Names.{Names}
use Rattle.fj_session.specs.declared.names.Standing.{Standing}
use Rattle.fj_session.specs.declared.names.Standing.TheVariants as standings

-- The ideal that a name stands for.
abbrev pub ideal_of : {K : Type 0} → Standing K → WithBasis
ideal_of (standings.Declared J) = J
ideal_of (standings.Kept J) = J.now

-- The list of the ideal kept at a place.
abbrev pub list_of : Option WithBasis → List Polynomial
list_of (Some J) = J.given
list_of None = []

-- The value of the let at each place where one is kept.
abbrev pub values_kept : List (Option WithBasis) → Values
values_kept kept place = elim (slice_get kept place) [ None ↦ [] | Some at ↦ list_of at ]

-- What the name at this place stands for, where the lets have the values that are kept.
abbrev pub standing_in : {K : Type 0} → Names K → ℕ → named.Standing
standing_in names place = standing_at names.env.now (values_kept names.lets.items) place

-- The ideal of a let is kept as that of its value, a list that is its own reduced basis, in the variables of the ring.
pub record IsKeptValue (F : Field) (variables : ℕ) (J : WithBasis) : Type 0 where
  pub ideal : IsIdeal F J
  pub own : J.members ≡ J.given
  pub uses : All (UsesFirst variables) J.given

-- The name at this place is a let whose value is kept.
pub record IsKept {K : Type 0} (F : Field) (names : Names K) (place : ℕ) : Type 0 where
  pub is_let : IsLetAt names.env.now place
  pub J : WithBasis
  pub stands : slice_get names.lets.items place ≡ Some (Some J)
  pub value : IsKeptValue F (length names.env.now.vars) J

-- The name at this place stands for an ideal that is at hand: it is declared by generators, or a let whose value is kept.
pub data IsAtHand {K : Type 0} (F : Field) (names : Names K) (place : ℕ) : Type 0 where
  declared : IsDeclaredIdealAt names.env.now place → IsAtHand F names place
  kept : IsKept F names place → IsAtHand F names place

-- The value of each let that the question names is kept.
abbrev pub AreAtHand : {K : Type 0} → Field → Names K → Question → Type 0
AreAtHand F names question = All (λ place. IsLetAt names.env.now place → IsKept F names place) (places_in question)
