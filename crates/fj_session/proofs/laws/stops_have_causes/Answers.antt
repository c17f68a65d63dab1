use Rattle.std.proofs.Common.{◌⊎◌, ℕ, inl, inr}
use Rattle.fj_coeff.specs.Field.{Field}
use Rattle.fj_plain.specs.declared.lists.Kept.{Kept}
use Rattle.fj_plain.specs.declared.order_name.OrderName.{OrderName}
use Rattle.fj_plain.specs.declared.order_name.OrderName.TheVariants.{Grevlex}
use Rattle.fj_ideal.specs.Stop.{IsProductOf, IsTooHigh, kept_list}
use Rattle.fj_session.specs.Answer.{IsAnswerTo, IsAnswerOver, IsStop}
use Rattle.fj_session.specs.AnswerLaws.{NothingStopsMeaning, NothingStopsOver}
use Rattle.fj_session.specs.Meaning.{Meaning}
use Rattle.fj_coeff.specs.PrimeField.{prime_field}
use Rattle.fj_script.specs.declared.question.Asked.{Asked}
use Rattle.fj_script.specs.declared.script.Env.{Env}
use Rattle.fj_session.specs.Statement.{meaning_of}
use Rattle.fj_session.specs.declared.types.Answer.{Answer}
use Rattle.fj_session.specs.declared.types.Answer.TheVariants.{StoppedPairs, StoppedHigh}
use Rattle.fj_session.proofs.laws.stops_have_causes.Goals as goal

-- What nothing stops has no stop as its answer.
module _ (F : Field) (meaning : Meaning) (printing : OrderName) (budget : ℕ) (none : NothingStopsMeaning F meaning budget) where
  not_high : (k : Kept) → IsTooHigh F meaning.lists budget k ⊎ IsProductOf meaning.products k → ⊥
  not_high k (inl h) = none.low k.order (kept_list k) h.list h.high
  not_high k (inr h) = none.products (kept_list k) h.polynomials_are

  no_stop : (answer : Answer) → IsAnswerTo F meaning printing budget answer → IsStop answer → ⊥
  no_stop (StoppedPairs k) h stop = none.finished k.order (kept_list k) h.0.list h.0.unfinished
  no_stop (StoppedHigh k) h stop = not_high k h.0
  no_stop _ h stop = stop

no_answer : (F : Field) (env : Env) (asked : Asked) (answer : Answer) → NothingStopsOver F env asked → IsAnswerOver F env asked answer → IsStop answer → ⊥
no_answer F env asked answer none (inl (V, values, is)) stop = no_stop F (meaning_of F env V asked.order asked.question) asked.order asked.budget (none.itself V values) answer is stop
no_answer F env asked answer none (inr one) stop = no_stop F (meaning_of F env one.values Grevlex one.question) asked.order one.budget (none.lets one.place one.budget one.question one.uses one.values one.are_values) answer one.cause stop

pub returns : goal.returns
returns c env asked answer h none = no_answer (prime_field env.p) env asked answer none h
