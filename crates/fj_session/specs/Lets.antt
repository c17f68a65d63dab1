-- The values of lets.
use Rattle.std.specs.Prelude.{ℕ, List}
use Rattle.fj_coeff.specs.Field.{Field}
use Rattle.fj_theory.specs.MonomialOrder.{grevlex_key}
use Rattle.fj_theory.specs.Polynomial.{Polynomial}
use Rattle.fj_groebner.specs.ReducedBasis.{IsReducedBasis}
use Rattle.fj_plain.specs.declared.order_name.OrderName.TheVariants.{Grevlex}
use Rattle.fj_script.specs.declared.question.Question.{Question}
use Rattle.fj_script.specs.declared.script.Env.{Env}
use Rattle.fj_session.specs.Standing.{Uses, Values}
use Rattle.fj_session.specs.Statement.{meaning_of}

-- G is the value of a let with this question: the reduced Grevlex basis of the ideal that it asks for.
pub record IsValue (F : Field) (env : Env) (V : Values) (question : Question) (G : List Polynomial) : Type 0 where
  pub ideal : List Polynomial
  pub asked : (meaning_of F env V Grevlex question).ideal ideal
  pub reduced : IsReducedBasis F grevlex_key ideal G

-- Each let that the question uses has its value, where those that stand in it have theirs.
abbrev pub AreValues : Field → Env → Question → Values → Type 0
AreValues F env question V = (place budget : ℕ) (asked : Question) → Uses env question place budget asked → IsValue F env V asked (V place)
