-- What the calculation of the ideals of a question gives, and why it stops.
use Rattle.std.specs.Prelude.{◌≡◌, ◌≢◌, ◌⊎◌, ℕ, Bool, cond, true, List, [], ◌∷◌, ◌++◌, All, Contains, Result, Ok, Err, IfOk}
use Rattle.std.specs.Result.{IsErrAnd, IsOkAnd}
use Rattle.fj_coeff.specs.Field.{Field}
use Rattle.fj_theory.specs.Ideal.{SameIdeal}
use Rattle.fj_theory.specs.Plain.{PlainPolynomial}
use Rattle.fj_theory.specs.Polynomial.{Polynomial}
use Rattle.fj_plain.specs.declared.cert.Cert.{Cert}
use Rattle.fj_plain.specs.declared.lists.Kept.{Kept}
use Rattle.fj_plain.specs.declared.order_name.OrderName.{OrderName}
use Rattle.fj_plain.specs.declared.order_name.OrderName.TheVariants.{Grevlex}
use Rattle.fj_plain.specs.Holds.{Holds}
use Rattle.fj_basis.specs.Outcome.{TermsFall}
use Rattle.fj_basis.specs.declared.stop.Stop.{Stop}
use Rattle.fj_basis.specs.declared.stop.Stop.TheVariants.{Pairs, High, Product, Memory}
use Rattle.fj_ideal.specs.Ideal.{IsIdeal, WithBasis}
use Rattle.fj_ideal.specs.Lists.{NoProduct, RunFor}
use Rattle.fj_ideal.specs.Stop.{StopsOnlyWith, kept_list, key_of}
use Rattle.fj_jump.specs.declared.rows.JumpRow.{JumpRow}
use Rattle.fj_script.specs.declared.question.Asked.{Asked}
use Rattle.fj_script.specs.declared.question.Question.{Question}
use Rattle.fj_script.specs.declared.question.Question.TheVariants as questions
use Rattle.fj_script.specs.Question.{answers_ideal}
use Rattle.fj_script.specs.declared.script.Env.{Env}
use Rattle.fj_session.specs.Answer.{CertifiesFor, CertifiesOver, IsAnswerOver, IsAnswerTo}
use Rattle.fj_session.specs.Certificates.{IsBasisCertificate}
use Rattle.fj_session.specs.Ideals.{CertifiesSame}
use Rattle.fj_session.specs.Meaning.{IsShownBasis, IsVerdict, Meaning}
use Rattle.fj_session.specs.declared.certified.Certified.{Certified}
use Rattle.fj_session.specs.declared.types.Answer.{Answer}
use Rattle.fj_session.specs.declared.types.Answer.TheVariants as answers
use Rattle.fj_session.specs.declared.types.ShownJump.{ShownJump}

-- J is an ideal that is asked for, made of the last list.
pub record IsIdealFor (F : Field) (IsAsked IsLast : List Polynomial → Type 0) (J : WithBasis) : Type 0 where
  pub ideal : List Polynomial
  pub asked : IsAsked ideal
  pub same : SameIdeal F ideal J.given
  pub is_ideal : IsIdeal F J
  pub last : IsLast J.given

-- The list of which the basis of J for the printing order is calculated: what J was made of, or where the order isn't Grevlex
-- its members.
abbrev pub IsRunOf : OrderName → WithBasis → List Polynomial → Type 0
IsRunOf printing J L = (printing ≡ Grevlex) × (L ≡ J.given) ⊎ (printing ≢ Grevlex) × (L ≡ J.members)

-- The list is the reduced basis of J for the printing order, and the certificate that of this basis.
pub record IsShown (F : Field) (printing : OrderName) (J : WithBasis) (list : List PlainPolynomial) (cert : Cert) : Type 0 where
  pub basis : IsShownBasis F (key_of printing) J.given list
  pub given : List Polynomial
  pub run : IsRunOf printing J given
  pub certificate : IsBasisCertificate F.characteristic printing given list cert
  pub holds : Holds cert

-- The answer is J by its reduced basis for the printing order, and its certificate follows these.
pub record IsIdealAfter (F : Field) (printing : OrderName) (J : WithBasis) (before : List Cert) (certified : Certified) : Type 0 where
  pub list : List PlainPolynomial
  pub cert : Cert
  pub answer : certified.answer ≡ answers.Ideal list
  pub certificates : certified.certificates.items ≡ before ++ cert ∷ []
  pub shown : IsShown F printing J list cert

-- The calculation stops only with one of these lists, run for Grevlex, or such a product.
abbrev pub OwnStops : {T : Type 0} → Field → (List Polynomial → Type 0) → (List Polynomial → Type 0) → ℕ → Result T Stop → Type 0
OwnStops F IsList IsProduct budget r = StopsOnlyWith F (RunFor Grevlex IsList) IsProduct budget r

-- It stops only with the run on L for a printing order that isn't Grevlex.
abbrev pub PrintStops : {T : Type 0} → Field → OrderName → List Polynomial → ℕ → Result T Stop → Type 0
PrintStops F printing L budget r = StopsOnlyWith F (RunFor printing (λ M. (printing ≢ Grevlex) × (M ≡ L))) NoProduct budget r

-- It stops only with a cause that this meaning gives.
abbrev pub StopsFor : {T : Type 0} → Field → Meaning → ℕ → Result T Stop → Type 0
StopsFor F meaning budget r = StopsOnlyWith F meaning.lists meaning.products budget r

-- An answer that this meaning gives, with its certificates, each of which holds.
pub record IsCertified (F : Field) (meaning : Meaning) (printing : OrderName) (budget : ℕ) (certified : Certified) : Type 0 where
  pub answer : IsAnswerTo F meaning printing budget certified.answer
  pub certificates : CertifiesFor meaning certified.answer certified.certificates.items
  pub hold : All Holds certified.certificates.items

-- The same, of a question of a session, where a let that it uses may stop.
pub record IsCertifiedOver (F : Field) (env : Env) (asked : Asked) (certified : Certified) : Type 0 where
  pub answer : IsAnswerOver F env asked certified.answer
  pub certificates : CertifiesOver F env asked certified.answer certified.certificates.items
  pub hold : All Holds certified.certificates.items

-- The same is kept, its terms falling in the order of the key.
pub record IsKeptAgain (key : List ℕ → List ℕ) (old new : Kept) : Type 0 where
  pub order : new.order ≡ old.order
  pub list : kept_list new ≡ kept_list old
  pub falling : TermsFall key new.list

-- The stop as an answer: it keeps the same, its terms falling in this order. Want of memory isn't answered.
abbrev pub IsStopTold : OrderName → Stop → Answer → Type 0
IsStopTold printing (Pairs k) answer = (again : Kept) × (answer ≡ answers.StoppedPairs again) × IsKeptAgain (key_of printing) k again
IsStopTold printing (High k) answer = (again : Kept) × (answer ≡ answers.StoppedHigh again) × IsKeptAgain (key_of printing) k again
IsStopTold printing (Product k) answer = (again : Kept) × (answer ≡ answers.StoppedHigh again) × IsKeptAgain (key_of printing) k again
IsStopTold printing Memory answer = ⊥

-- The answer tells what the stop keeps, its terms falling in this order, and has no certificate.
pub record IsToldStop (printing : OrderName) (stop : Stop) (certified : Certified) : Type 0 where
  pub answer : IsStopTold printing stop certified.answer
  pub none : certified.certificates.items ≡ []

-- The question asks for an ideal, of which nothing else is told than its basis.
abbrev pub IsPlainIdeal : Question → Type 0
IsPlainIdeal (questions.Root e j) = ⊥
IsPlainIdeal question = answers_ideal question ≡ true

-- The result is an answer that this meaning gives with its certificates, or a stop with a cause that it gives.
abbrev pub IsFound : Field → Meaning → OrderName → ℕ → Result Certified Stop → Type 0
IsFound F meaning printing budget r = IfOk r (IsCertified F meaning printing budget) × StopsFor F meaning budget r

-- An ideal is answered by its basis for the printing order, whose certificate follows these.
abbrev pub IsPrintedAfter : Field → OrderName → ℕ → WithBasis → List Cert → Result Certified Stop → Type 0
IsPrintedAfter F printing budget J before r = IfOk r (IsIdealAfter F printing J before) × PrintStops F printing J.members budget r

-- An ideal is answered by its basis for the printing order; a stop of its calculation is handed on.
abbrev pub IsPrinted : Field → OrderName → ℕ → Result WithBasis Stop → Result Certified Stop → Type 0
IsPrinted F printing budget (Ok J) r = IsPrintedAfter F printing budget J [] r
IsPrinted F printing budget (Err stop) r = IsErrAnd r (λ s. s ≡ stop)

-- The same, after the certificate of the parts of which the ideal is made.
abbrev pub IsPrintedRoot : Field → OrderName → ℕ → Result (WithBasis × Cert) Stop → Result Certified Stop → Type 0
IsPrintedRoot F printing budget (Ok root) r = IsPrintedAfter F printing budget root.0 (root.1 ∷ []) r
IsPrintedRoot F printing budget (Err stop) r = IsErrAnd r (λ s. s ≡ stop)

-- This answer, without certificates.
pub record IsAlone (told : Answer) (certified : Certified) : Type 0 where
  pub answer : certified.answer ≡ told
  pub none : certified.certificates.items ≡ []

-- An answer that shows no ideal is handed on without certificates, and a stop as it is.
abbrev pub IsHandedOn : Result Answer Stop → Result Certified Stop → Type 0
IsHandedOn (Ok answer) r = IsOkAnd r (IsAlone answer)
IsHandedOn (Err stop) r = IsErrAnd r (λ s. s ≡ stop)

-- A verdict is answered by yes or no, without certificates; a stop of its calculation is handed on.
abbrev pub IsJudged : Result Bool Stop → Result Certified Stop → Type 0
IsJudged (Ok b) r = IsOkAnd r (IsAlone (cond b answers.Yes answers.No))
IsJudged (Err stop) r = IsErrAnd r (λ s. s ≡ stop)

-- The answer whether J and K are one ideal, with its certificate.
pub record IsCompared (F : Field) (J K : List Polynomial) (certified : Certified) : Type 0 where
  pub answer : IsVerdict (SameIdeal F J K) certified.answer
  pub certificates : CertifiesSame F J K certified.answer certified.certificates.items
  pub hold : All Holds certified.certificates.items

-- The row shows an F-jumping number that was found: the same number, and the reduced basis of its ideal for the order, with its
-- certificate.
pub record IsShownRow {K : Type 0} (F : Field) (printing : OrderName) (found : JumpRow K) (row : ShownJump) (cert : Cert) : Type 0 where
  pub at : row.at ≡ found.at
  pub ideal : IsShown F printing found.ideal row.ideal cert

-- It shows one of these.
pub record ShowsSomeRow {K : Type 0} (F : Field) (printing : OrderName) (all : List (JumpRow K)) (row : ShownJump) (cert : Cert) : Type 0 where
  pub found : JumpRow K
  pub among : Contains all found
  pub shows : IsShownRow F printing found row cert
