-- The lets that a question uses, as the code finds them, and why the calculation of one stops.
use Rattle.std.specs.Prelude.{◌≡◌, ◌⊎◌, ℕ, ◌≤◌, Bool, true, false, List, All, Contains, Some, length, get_or}
use Rattle.std.specs.declared.option.Option.{Option}
use Rattle.fj_coeff.specs.Field.{Field}
use Rattle.fj_plain.specs.declared.order_name.OrderName.TheVariants.{Grevlex}
use Rattle.fj_basis.specs.declared.stop.Stop.{Stop}
use Rattle.fj_basis.specs.declared.stop.Stop.TheVariants.{Memory}
use Rattle.fj_ideal.specs.Ideal.{WithBasis}
use Rattle.fj_ideal.specs.Stop.{IsCauseOf, IsWritten}
use Rattle.fj_script.specs.declared.question.Question.{Question}
use Rattle.fj_script.specs.declared.script.Env.{Env}
use Rattle.fj_shell.specs.Named.{places_in}
use Rattle.fj_session.specs.Lets.{AreValues, IsValue}
use Rattle.fj_session.specs.Meaning.{Meaning}
use Rattle.fj_session.specs.Names.{IsKept, IsKeptValue, values_kept}
use Rattle.fj_session.specs.Standing.{IsLet, Uses, Values}
use Rattle.fj_session.specs.Statement.{meaning_of}
use Rattle.fj_session.specs.declared.names.Names.{Names}

-- The question has these names and no other: one, which is told twice, or two.
pub record AreNamesOf (question : Question) (first second : ℕ) : Type 0 where
  pub first_there : Contains (places_in question) first
  pub second_there : Contains (places_in question) second
  pub all : All (λ j. (j ≡ first) ⊎ (j ≡ second)) (places_in question)

abbrev pub IsMarked : List Bool → ℕ → Type 0
IsMarked marks place = get_or marks place false ≡ true

-- Of the lets exactly those that the question uses are marked.
pub record AreMarks (env : Env) (question : Question) (marks : List Bool) : Type 0 where
  pub within : length marks ≤ length env.values
  pub used : (place budget : ℕ) (asked : Question) → Uses env question place budget asked → IsMarked marks place
  pub only : (place budget : ℕ) (asked : Question) → IsMarked marks place → IsLet env place budget asked → Uses env question place budget asked

-- The names of the question are marked too, and nothing else.
pub record MarksNames (question : Question) (old new : List Bool) : Type 0 where
  pub long : length new ≡ length old
  pub kept : (j : ℕ) → IsMarked old j → IsMarked new j
  pub named : All (IsMarked new) (places_in question)
  pub only : (j : ℕ) → IsMarked new j → IsMarked old j ⊎ Contains (places_in question) j

-- What the let at this place names is marked too, where it is marked, and nothing else.
pub record AreMarkedFrom (env : Env) (place : ℕ) (old new : List Bool) : Type 0 where
  pub long : length new ≡ length old
  pub kept : (j : ℕ) → IsMarked old j → IsMarked new j
  pub named : (budget : ℕ) (asked : Question) → IsMarked old place → IsLet env place budget asked → All (IsMarked new) (places_in asked)
  pub only : (j : ℕ) → IsMarked new j → IsMarked old j ⊎ ((budget : ℕ) × (asked : Question) × IsMarked old place × IsLet env place budget asked × Contains (places_in asked) j)
  pub above : (j : ℕ) → place ≤ j → IsMarked new j → IsMarked old j

-- This is kept of a let with this question.
pub record IsValueOf {K : Type 0} (F : Field) (names : Names K) (question : Question) (held : Option WithBasis) : Type 0 where
  pub J : WithBasis
  pub is : held ≡ Some J
  pub value : IsKeptValue F (length names.env.now.vars) J
  pub of_question : IsValue F names.env.now (values_kept names.lets.items) question J.given

-- The values of the lets that the question uses are kept.
pub record HasValues {K : Type 0} (F : Field) (env : Env) (question : Question) (names : Names K) : Type 0 where
  pub env_there : names.env.now ≡ env
  pub kept : (place budget : ℕ) (asked : Question) → Uses env question place budget asked → IsKept F names place
  pub values : AreValues F env question (values_kept names.lets.items)

-- Why the calculation of the ideal that a question asks for stops.
abbrev pub IsCauseFor : Field → Meaning → ℕ → Stop → Type 0
IsCauseFor F meaning budget stop = IsCauseOf F meaning.lists meaning.products budget stop × IsWritten F stop

-- Why a question stops before its own lists: a let that it uses does, with the budget of that let.
pub record IsCauseOfLet (F : Field) (env : Env) (question : Question) (stop : Stop) : Type 0 where
  pub place : ℕ
  pub budget : ℕ
  pub asked : Question
  pub uses : Uses env question place budget asked
  pub values : Values
  pub are_values : AreValues F env asked values
  pub cause : IsCauseFor F (meaning_of F env values Grevlex asked) budget stop

-- Memory was wanting, or a let that the question uses stops.
abbrev pub IsStopBefore : Field → Env → Question → Stop → Type 0
IsStopBefore F env question stop = (stop ≡ Memory) ⊎ (IsCauseOfLet F env question stop × IsWritten F stop)

-- The let at this place, which has these names, stops.
pub record IsCauseAt {K : Type 0} (F : Field) (names : Names K) (place : ℕ) (stop : Stop) : Type 0 where
  pub budget : ℕ
  pub asked : Question
  pub is_let : IsLet names.env.now place budget asked
  pub cause : IsCauseFor F (meaning_of F names.env.now (values_kept names.lets.items) Grevlex asked) budget stop
