-- Questions and values of accepted sessions.
use Rattle.std.specs.Prelude.{◌≡◌, ℕ, ◌<◌, ◌≤◌, ◌^◌, List, All, Contains, Ok, Some, length, slice_get}
use Rattle.fj_coeff.specs.Field.{primes}
use Rattle.fj_theory.specs.Exponents.{total}
use Rattle.fj_theory.specs.Plain.{HasRanksBelow, PlainPolynomial, polynomial}
use Rattle.fj_theory.specs.PointIdeal.{UsesFirst}
use Rattle.fj_theory.specs.Polynomial.{degree}
use Rattle.fj_script.specs.declared.question.Asked.{Asked}
use Rattle.fj_script.specs.declared.question.Question.{Question}
use Rattle.fj_script.specs.declared.script.Env.{Env}
use Rattle.fj_script.specs.declared.script.Script.{Script}
use Rattle.fj_script.specs.declared.value.Value.TheVariants as values
use Rattle.fj_script.specs.Script as session
use Rattle.fj_script.specs.Seen.{IsReadingOf}

-- The bytes are an accepted session with this script.
abbrev pub IsScriptOf : List ℕ → Script → Type 0
IsScriptOf bytes script = IsReadingOf (session.script bytes) (Ok script)

-- The ring with its values is that of an accepted session.
pub record IsOfSession (env : Env) : Type 0 where
  pub bytes : List ℕ
  pub script : Script
  pub accepted : IsScriptOf bytes script
  pub env_there : env ≡ script.env

-- The ring with its values and the question are those of one accepted session.
pub record AreOfOneSession (env : Env) (asked : Asked) : Type 0 where
  pub bytes : List ℕ
  pub script : Script
  pub accepted : IsScriptOf bytes script
  pub env_there : env ≡ script.env
  pub asked_there : Contains script.asked asked

-- The name at this place stands for a polynomial over GF(p) in the variables of the ring.
pub record IsPolyAt (env : Env) (place : ℕ) : Type 0 where
  pub name : List ℕ
  pub f : PlainPolynomial
  pub stands : slice_get env.values place ≡ Some (name, values.Poly f)
  pub ranks : HasRanksBelow env.p f
  pub low : All (λ t. total t.0 ≤ 2 ^ 40) f.terms
  pub variables : UsesFirst (length env.vars) (polynomial f)

-- It isn't constant, and has a degree of at most 1,000.
pub record IsNonconstantAt (env : Env) (place : ℕ) : Type 0 where
  pub poly : IsPolyAt env place
  pub total : ℕ
  pub has_degree : degree (polynomial poly.f) ≡ Some total
  pub nonconstant : 0 < total
  pub bounded : total ≤ 1000

-- The name at this place stands for an ideal by its generators, which are over GF(p) in the variables of the ring.
pub record IsDeclaredIdealAt (env : Env) (place : ℕ) : Type 0 where
  pub name : List ℕ
  pub gens : List PlainPolynomial
  pub stands : slice_get env.values place ≡ Some (name, values.Ideal gens)
  pub ranks : All (HasRanksBelow env.p) gens
  pub low : All (λ g. All (λ t. total t.0 ≤ 2 ^ 40) g.terms) gens
  pub variables : All (λ g. UsesFirst (length env.vars) (polynomial g)) gens

-- The name at this place stands for the ideal that a question has as its answer, with a turn budget of its own.
pub record IsLetAt (env : Env) (place : ℕ) : Type 0 where
  pub session : IsOfSession env
  pub name : List ℕ
  pub budget : ℕ
  pub question : Question
  pub stands : slice_get env.values place ≡ Some (name, values.Let budget question)

-- The name at this place stands for an ideal, in one way or the other.
pub data IsIdealAt (env : Env) (place : ℕ) : Type 0 where
  declared : IsDeclaredIdealAt env place → IsIdealAt env place
  answered : IsLetAt env place → IsIdealAt env place

-- The name at this place stands for a point over GF(p), with a coordinate for each variable of the ring.
pub record IsPointAt (env : Env) (place : ℕ) : Type 0 where
  pub name : List ℕ
  pub coordinates : List ℕ
  pub stands : slice_get env.values place ≡ Some (name, values.Point coordinates)
  pub below : All (λ c. c < env.p) coordinates
  pub long : length coordinates ≡ length env.vars

-- What is known of a question for parts in an accepted session.
pub record IsPartsQuestion (env : Env) (e place : ℕ) : Type 0 where
  pub prime : Contains primes env.p
  pub small : e ≤ 12
  pub poly : IsPolyAt env place
