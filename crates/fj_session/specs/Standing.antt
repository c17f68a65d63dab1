-- What the names of ideals stand for in a question.
use Rattle.std.specs.Prelude.{◌≡◌, ℕ, Bool, true, false, IsTrue, List, [], Contains, Some, None, slice_get}
use Rattle.fj_theory.specs.Polynomial.{Polynomial}
use Rattle.fj_script.specs.declared.question.Asked.{Asked}
use Rattle.fj_script.specs.declared.question.Question.{Question}
use Rattle.fj_script.specs.declared.script.Env.{Env}
use Rattle.fj_script.specs.declared.value.Value.{Value}
use Rattle.fj_script.specs.declared.value.Value.TheVariants as values
use Rattle.fj_shell.specs.Asked.{AreOfOneSession, IsLetAt}
use Rattle.fj_shell.specs.Named.{generators, places_in}

-- A list that generates the ideal, and whether that is the list of generators as declared; it is else the value of a let.
pub record Standing : Type 0 where
  pub list : List Polynomial
  pub is_declared : Bool

-- The value of the let at each place that has one.
abbrev pub Values : Type 0
Values = ℕ → List Polynomial

abbrev pub standing_of : Value → List Polynomial → Standing
standing_of (values.Poly f) value = record { list = []; is_declared = true }
standing_of (values.Ideal gens) value = record { list = generators (values.Ideal gens); is_declared = true }
standing_of (values.Point c) value = record { list = []; is_declared = true }
standing_of (values.Let budget question) value = record { list = value; is_declared = false }

-- What the name at this place stands for.
abbrev pub standing_at : Env → Values → ℕ → Standing
standing_at env V place = elim (slice_get env.values place) [ None ↦ record { list = []; is_declared = true } | Some named ↦ standing_of named.1 (V place) ]

-- The list of generators of an ideal, as declared. The value of a let is a reduced basis, and isn't run.
abbrev pub IsDeclaredList : Standing → List Polynomial → Type 0
IsDeclaredList J L = IsTrue J.is_declared × (L ≡ J.list)

-- The name at this place is a let with this budget and this question.
pub record IsLet (env : Env) (place budget : ℕ) (question : Question) : Type 0 where
  pub name : List ℕ
  pub stands : slice_get env.values place ≡ Some (name, values.Let budget question)

-- The lets that a question uses: those that it names, and those that the question of one that it uses names.
pub data Uses (env : Env) (question : Question) : ℕ → ℕ → Question → Type 0 where
  itself : {place budget : ℕ} {asked : Question} → Contains (places_in question) place → IsLet env place budget asked → Uses env question place budget asked
  through : {place budget : ℕ} {asked : Question} {between limit : ℕ} {other : Question} →
      Uses env question between limit other → Contains (places_in other) place → IsLet env place budget asked → Uses env question place budget asked

-- The question stands in the accepted session with these values: it is asked there, or that of a let.
pub data IsStated (env : Env) (question : Question) : Type 0 where
  asked : (asked : Asked) → AreOfOneSession env asked → asked.question ≡ question → IsStated env question
  named : (place : ℕ) → (h : IsLetAt env place) → h.question ≡ question → IsStated env question
