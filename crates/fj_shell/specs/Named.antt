-- What the names of a session stand for, as polynomials, lists of polynomials and points.
use Rattle.std.specs.Prelude.{ℕ, List, [], ◌∷◌, Some, None, map, slice_get}
use Rattle.std.specs.FinMap.{empty}
use Rattle.fj_theory.specs.Plain.{PlainPolynomial, polynomial}
use Rattle.fj_theory.specs.Polynomial.{Polynomial}
use Rattle.fj_script.specs.declared.script.Env.{Env}
use Rattle.fj_script.specs.declared.question.Question.{Question}
use Rattle.fj_script.specs.declared.question.Question.TheVariants as questions
use Rattle.fj_script.specs.declared.value.Value.{Value}
use Rattle.fj_script.specs.declared.value.Value.TheVariants as values

abbrev pub polynomials : List PlainPolynomial → List Polynomial
polynomials list = map polynomial list

abbrev pub generators : Value → List Polynomial
generators (values.Poly f) = []
generators (values.Ideal gens) = polynomials gens
generators (values.Point c) = []
generators (values.Let budget question) = []

abbrev pub polynomial_of : Value → Polynomial
polynomial_of (values.Poly f) = polynomial f
polynomial_of (values.Ideal gens) = empty
polynomial_of (values.Point c) = empty
polynomial_of (values.Let budget question) = empty

abbrev pub coordinates : Value → List ℕ
coordinates (values.Poly f) = []
coordinates (values.Ideal gens) = []
coordinates (values.Point c) = c
coordinates (values.Let budget question) = []

-- The generators of the ideal whose name has this place among the declared ones, where it is declared by generators.
abbrev pub ideal_at : Env → ℕ → List Polynomial
ideal_at env place = elim (slice_get env.values place) [ None ↦ [] | Some named ↦ generators named.1 ]

-- The polynomial whose name has this place.
abbrev pub polynomial_at : Env → ℕ → Polynomial
polynomial_at env place = elim (slice_get env.values place) [ None ↦ empty | Some named ↦ polynomial_of named.1 ]

-- The coordinates of the point whose name has this place.
abbrev pub point_at : Env → ℕ → List ℕ
point_at env place = elim (slice_get env.values place) [ None ↦ [] | Some named ↦ coordinates named.1 ]

-- The places of the names that a question has.
abbrev pub places_in : Question → List ℕ
places_in (questions.Parts e f) = f ∷ []
places_in (questions.Basis j) = j ∷ []
places_in (questions.Member f j) = f ∷ j ∷ []
places_in (questions.Same j k) = j ∷ k ∷ []
places_in (questions.Sum j k) = j ∷ k ∷ []
places_in (questions.Product j k) = j ∷ k ∷ []
places_in (questions.Meet j k) = j ∷ k ∷ []
places_in (questions.Colon j k) = j ∷ k ∷ []
places_in (questions.Power e j) = j ∷ []
places_in (questions.Root e j) = j ∷ []
places_in (questions.Test f t) = f ∷ []
places_in (questions.Left f t) = f ∷ []
places_in (questions.IsJump f t) = f ∷ []
places_in (questions.Regular f t) = f ∷ []
places_in (questions.Jumps f e) = f ∷ []
places_in (questions.Nu e f j) = f ∷ j ∷ []
places_in (questions.Threshold f j e) = f ∷ j ∷ []
places_in (questions.ThresholdAt f at e) = f ∷ at ∷ []
places_in (questions.Pure j) = j ∷ []
places_in (questions.PureAt j at) = j ∷ at ∷ []
places_in (questions.Split j) = j ∷ []
places_in (questions.Compatible e u j) = u ∷ j ∷ []
