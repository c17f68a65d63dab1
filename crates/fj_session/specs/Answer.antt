-- The answer to a question, as data.
use Rattle.std.specs.Prelude.{◌≡◌, ◌⊎◌, ℕ, ◌≤◌, Bool, true, false, List, [], All, slice_index}
use Rattle.fj_coeff.specs.Field.{Field}
use Rattle.fj_coeff.specs.PrimeField.{prime_field}
use Rattle.fj_theory.specs.Plain.{PlainPolynomial, polynomial}
use Rattle.fj_theory.specs.PointIdeal.{UsesFirst}
use Rattle.fj_plain.specs.declared.cert.Cert.{Cert}
use Rattle.fj_plain.specs.declared.order_name.OrderName.{OrderName}
use Rattle.fj_plain.specs.declared.order_name.OrderName.TheVariants.{Grevlex}
use Rattle.fj_plain.specs.Holds.{Holds}
use Rattle.fj_basis.specs.Outcome.{TermsFall}
use Rattle.fj_ideal.specs.Stop.{IsProductOf, IsTooHigh, IsUnfinished, key_of}
use Rattle.fj_script.specs.declared.question.Asked.{Asked}
use Rattle.fj_script.specs.declared.question.Question.{Question}
use Rattle.fj_script.specs.declared.script.Env.{Env}
use Rattle.fj_session.specs.Lets.{AreValues}
use Rattle.fj_session.specs.Meaning.{Meaning}
use Rattle.fj_session.specs.Standing.{Uses, Values}
use Rattle.fj_session.specs.Statement.{meaning_of}
use Rattle.fj_session.specs.declared.types.Answer.{Answer}
use Rattle.fj_session.specs.declared.types.Answer.TheVariants.{Parts, Ideal, Yes, No, Off, StoppedPairs, StoppedHigh}
use Rattle.fj_session.specs.declared.types.Answer.TheVariants as answers
use Rattle.fj_session.specs.declared.types.PartRow.{PartRow}

-- What the answer to a question is. A question stops only where the run on one of its lists, which is kept, makes all turns
-- of the budget or comes to a degree above 2^40, or one of its products does. The terms of what is kept fall in the
-- printing order.
abbrev pub IsAnswerTo : Field → Meaning → OrderName → ℕ → Answer → Type 0
IsAnswerTo F meaning printing budget (StoppedPairs k) = IsUnfinished F meaning.lists budget k × TermsFall (key_of printing) k.list
IsAnswerTo F meaning printing budget (StoppedHigh k) = (IsTooHigh F meaning.lists budget k ⊎ IsProductOf meaning.products k) × TermsFall (key_of printing) k.list
IsAnswerTo F meaning printing budget answer = meaning.answer answer

-- What the answer to a question is where the lets have these values.
abbrev pub IsAnswerWith : Field → Env → Asked → Answer → Values → Type 0
IsAnswerWith F env asked answer V = IsAnswerTo F (meaning_of F env V asked.order asked.question) asked.order asked.budget answer

abbrev pub IsStop : Answer → Type 0
IsStop (StoppedPairs k) = Unit {0}
IsStop (StoppedHigh k) = Unit {0}
IsStop _ = ⊥

-- The question stops since a let that it uses does, with the budget of that let.
pub record IsStopOfLet (F : Field) (env : Env) (asked : Asked) (answer : Answer) : Type 0 where
  pub place : ℕ
  pub budget : ℕ
  pub question : Question
  pub uses : Uses env asked.question place budget question
  pub values : Values
  pub are_values : AreValues F env question values
  pub stop : IsStop answer
  pub cause : IsAnswerTo F (meaning_of F env values Grevlex question) asked.order budget answer

-- What the answer to a question over the field F is.
abbrev pub IsAnswerOver : Field → Env → Asked → Answer → Type 0
IsAnswerOver F env asked answer = ((V : Values) × AreValues F env asked.question V × IsAnswerWith F env asked answer V) ⊎ IsStopOfLet F env asked answer

-- What the answer to a question of a session is, over the prime field of its ring.
abbrev pub IsAnswer : Env → Asked → Answer → Type 0
IsAnswer env asked answer = IsAnswerOver (prime_field env.p) env asked answer

-- The certificates of an answer; a question that stops has none.
abbrev pub CertifiesFor : Meaning → Answer → List Cert → Type 0
CertifiesFor meaning (StoppedPairs k) certs = certs ≡ []
CertifiesFor meaning (StoppedHigh k) certs = certs ≡ []
CertifiesFor meaning answer certs = meaning.certificates answer certs

abbrev pub CertifiesOver : Field → Env → Asked → Answer → List Cert → Type 0
CertifiesOver F env asked answer certs = IsStop answer × (certs ≡ []) ⊎ ((V : Values) × AreValues F env asked.question V × CertifiesFor (meaning_of F env V asked.order asked.question) answer certs)

-- The certificates of an answer to a question of a session, over the prime field of its ring, each of which holds.
pub record Certifies (env : Env) (asked : Asked) (answer : Answer) (certs : List Cert) : Type 0 where
  pub are : CertifiesOver (prime_field env.p) env asked answer certs
  pub hold : All Holds certs

-- The question stopped.
abbrev pub is_stopped : Answer → Bool
is_stopped (Parts rows) = false
is_stopped (Ideal list) = false
is_stopped Yes = false
is_stopped No = false
is_stopped Off = false
is_stopped (answers.Jumps jumps gaps complete) = false
is_stopped (answers.Nu r) = false
is_stopped (answers.At t) = false
is_stopped (answers.Between s t) = false
is_stopped answers.NotIn = false
is_stopped answers.Unit = false
is_stopped (StoppedPairs k) = true
is_stopped (StoppedHigh k) = true

-- Past the first n variables the residue has zeros, and no other variable occurs in the part.
pub record RowUsesFirst (n : ℕ) (row : PartRow) : Type 0 where
  pub residue : (i : ℕ) → n ≤ i → slice_index row.residue.exponents i ≡ 0
  pub part : UsesFirst n (polynomial row.poly)

abbrev pub IdealUsesFirst : ℕ → List PlainPolynomial → Type 0
IdealUsesFirst n list = All (λ h. UsesFirst n (polynomial h)) list

-- Nothing past the first n variables is printed.
abbrev pub AnswerUsesFirst : ℕ → Answer → Type 0
AnswerUsesFirst n (Parts rows) = All (RowUsesFirst n) rows
AnswerUsesFirst n (Ideal list) = IdealUsesFirst n list
AnswerUsesFirst n Yes = Unit {0}
AnswerUsesFirst n No = Unit {0}
AnswerUsesFirst n Off = Unit {0}
AnswerUsesFirst n (answers.Jumps jumps gaps complete) = All (λ row. IdealUsesFirst n row.ideal) jumps
AnswerUsesFirst n (answers.Nu r) = Unit {0}
AnswerUsesFirst n (answers.At t) = Unit {0}
AnswerUsesFirst n (answers.Between s t) = Unit {0}
AnswerUsesFirst n answers.NotIn = Unit {0}
AnswerUsesFirst n answers.Unit = Unit {0}
AnswerUsesFirst n (StoppedPairs k) = Unit {0}
AnswerUsesFirst n (StoppedHigh k) = Unit {0}
