-- When a question has its answer.
use Rattle.std.specs.Prelude.{ℕ}
use Rattle.fj_coeff.specs.Field.{Field}
use Rattle.fj_coeff.specs.PrimeField.{prime_field}
use Rattle.fj_ideal.specs.Stop.{NothingStops}
use Rattle.fj_plain.specs.declared.order_name.OrderName.TheVariants.{Grevlex}
use Rattle.fj_script.specs.declared.question.Asked.{Asked}
use Rattle.fj_script.specs.declared.question.Question.{Question}
use Rattle.fj_script.specs.declared.script.Env.{Env}
use Rattle.fj_session.specs.Answer.{IsAnswer, IsStop}
use Rattle.fj_session.specs.Lets.{AreValues}
use Rattle.fj_session.specs.Meaning.{Meaning}
use Rattle.fj_session.specs.Standing.{Uses, Values}
use Rattle.fj_session.specs.Statement.{meaning_of}
use Rattle.fj_session.specs.declared.types.Answer.{Answer}

-- No list of the meaning is unfinished at the budget or too high, and none of its products is too high.
abbrev pub NothingStopsMeaning : Field → Meaning → ℕ → Type 0
NothingStopsMeaning F meaning budget = NothingStops F meaning.lists meaning.products budget

-- None of the question's own lists and products, and at their own budgets none of the lets that it uses.
pub record NothingStopsOver (F : Field) (env : Env) (asked : Asked) : Type 0 where
  pub itself : (V : Values) → AreValues F env asked.question V → NothingStopsMeaning F (meaning_of F env V asked.order asked.question) asked.budget
  pub lets : (place budget : ℕ) (question : Question) → Uses env asked.question place budget question →
      (V : Values) → AreValues F env question V → NothingStopsMeaning F (meaning_of F env V Grevlex question) budget

abbrev pub NothingStopsIt : Env → Asked → Type 0
NothingStopsIt env asked = NothingStopsOver (prime_field env.p) env asked

-- Where nothing stops a question, no stop is an answer to it.
abbrev pub StopsHaveCauses : Type 0
StopsHaveCauses = (env : Env) (asked : Asked) (answer : Answer) → IsAnswer env asked answer → NothingStopsIt env asked → IsStop answer → ⊥
