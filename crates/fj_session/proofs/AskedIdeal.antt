-- The ideal that a question asks for, and the answer that it is.
use Rattle.std.proofs.Common.{◌≡◌, ◌⊎◌, ℕ, List, Result, IfOk, true, inl, inr, sym, subst, refl}
use Rattle.fj_coeff.specs.Field.{Field, IsField}
use Rattle.fj_theory.specs.Polynomial.{Polynomial}
use Rattle.fj_plain.specs.declared.order_name.OrderName.{OrderName}
use Rattle.fj_plain.specs.declared.order_name.OrderName.TheVariants.{Grevlex}
use Rattle.fj_basis.specs.declared.stop.Stop.{Stop}
use Rattle.fj_ideal.specs.Ideal.{WithBasis}
use Rattle.fj_ideal.specs.Lists.{RunFor}
use Rattle.fj_ideal.specs.Stop.{StopsOnlyWith}
use Rattle.fj_ideal.proofs.Stops.{only_of_more}
use Rattle.fj_script.specs.declared.question.Question.{Question}
use Rattle.fj_script.specs.declared.question.Question.TheVariants as questions
use Rattle.fj_script.specs.declared.script.Env.{Env}
use Rattle.fj_script.specs.Question.{answers_ideal}
use Rattle.fj_session.specs.Meaning.{IsPrintedList, Meaning, meaning_of_ideal}
use Rattle.fj_session.specs.Outcome.{IsFound, IsIdealFor, IsPlainIdeal, IsPrinted, StopsFor}
use Rattle.fj_session.specs.Standing.{Values}
use Rattle.fj_session.specs.Statement.{meaning_of}
use Rattle.fj_session.specs.declared.certified.Certified.{Certified}
use Rattle.fj_session.proofs.Printed.{found_ideal}

module _ (F : Field) (env : Env) (V : Values) {given : Question} (q : Question) (is : given ≡ q) where
  -- What a question asks for is told by its kind,
  pub asked_as : (r : Result WithBasis Stop) → IfOk r (IsIdealFor F (meaning_of F env V Grevlex q).ideal (meaning_of F env V Grevlex q).last)
      → IfOk r (IsIdealFor F (meaning_of F env V Grevlex given).ideal (meaning_of F env V Grevlex given).last)
  asked_as r h = subst (λ k. IfOk r (IsIdealFor F (meaning_of F env V Grevlex k).ideal (meaning_of F env V Grevlex k).last)) (sym is) h

  -- and so is why it stops.
  pub stops_as : (budget : ℕ) (r : Result WithBasis Stop) → StopsFor F (meaning_of F env V Grevlex q) budget r → StopsFor F (meaning_of F env V Grevlex given) budget r
  stops_as budget r h = subst (λ k. StopsFor F (meaning_of F env V Grevlex k) budget r) (sym is) h

module _ (F : Field) (budget : ℕ) (IsAsked : List Polynomial → Type 0) (IsList : OrderName → List Polynomial → Type 0) (IsProduct : List Polynomial → Type 0) where
  -- The lists of an ideal that isn't printed are its own.
  abbrev IsListOrPrinted : OrderName → List Polynomial → Type 0
  IsListOrPrinted order M = IsList order M ⊎ RunFor Grevlex (IsPrintedList F Grevlex IsAsked) order M

  pub from_own : {T : Type 0} (r : Result T Stop) → StopsOnlyWith F IsList IsProduct budget r → StopsOnlyWith F (λ order M. IsList order M ⊎ RunFor Grevlex (IsPrintedList F Grevlex IsAsked) order M) IsProduct budget r
  from_own r h = only_of_more F budget IsList IsListOrPrinted IsProduct IsProduct (λ o M e. inl e) (λ M e. e) r h

  is_own : (o : OrderName) (M : List Polynomial) → IsListOrPrinted o M → IsList o M
  is_own o M (inl e) = e
  is_own o M (inr e) = absurd (e.1.other refl)

  pub only_own : {T : Type 0} (r : Result T Stop) → StopsOnlyWith F (λ order M. IsList order M ⊎ RunFor Grevlex (IsPrintedList F Grevlex IsAsked) order M) IsProduct budget r → StopsOnlyWith F IsList IsProduct budget r
  only_own r h = only_of_more F budget IsListOrPrinted IsList IsProduct IsProduct is_own (λ M e. e) r h

-- The answer that the ideal is, printed.
module _ {F : Field} (L : IsField F) (printing : OrderName) (budget : ℕ) where
  printed_as : (IsAsked IsLast : List Polynomial → Type 0) (IsList : OrderName → List Polynomial → Type 0) (IsProduct : List Polynomial → Type 0) (j : Result WithBasis Stop) (r : Result Certified Stop) → IsPrinted F printing budget j r
      → IfOk j (IsIdealFor F IsAsked IsLast) → StopsFor F (meaning_of_ideal F Grevlex IsAsked IsLast IsList IsProduct) budget j → IsFound F (meaning_of_ideal F printing IsAsked IsLast IsList IsProduct) printing budget r
  printed_as IsAsked IsLast IsList IsProduct j r printed I stop = found_ideal L printing budget IsAsked IsLast IsList IsProduct j r printed I (only_own F budget IsAsked IsList IsProduct j stop)

  module _ (env : Env) (V : Values) (j : Result WithBasis Stop) (r : Result Certified Stop) (printed : IsPrinted F printing budget j r) where
    pub found_plain : (q : Question) → IsPlainIdeal q → IfOk j (IsIdealFor F (meaning_of F env V Grevlex q).ideal (meaning_of F env V Grevlex q).last) → StopsFor F (meaning_of F env V Grevlex q) budget j
        → IsFound F (meaning_of F env V printing q) printing budget r
    found_plain (questions.Basis i) plain I stop = printed_as _ _ _ _ j r printed I stop
    found_plain (questions.Sum i k) plain I stop = printed_as _ _ _ _ j r printed I stop
    found_plain (questions.Product i k) plain I stop = printed_as _ _ _ _ j r printed I stop
    found_plain (questions.Meet i k) plain I stop = printed_as _ _ _ _ j r printed I stop
    found_plain (questions.Colon i k) plain I stop = printed_as _ _ _ _ j r printed I stop
    found_plain (questions.Power e i) plain I stop = printed_as _ _ _ _ j r printed I stop
    found_plain (questions.Test f t) plain I stop = printed_as _ _ _ _ j r printed I stop
    found_plain (questions.Left f t) plain I stop = printed_as _ _ _ _ j r printed I stop
    found_plain (questions.Split i) plain I stop = printed_as _ _ _ _ j r printed I stop
    found_plain (questions.Root e i) plain I stop = absurd plain
    found_plain (questions.Parts e f) plain I stop = absurd cc
    found_plain (questions.Member f i) plain I stop = absurd cc
    found_plain (questions.Same i k) plain I stop = absurd cc
    found_plain (questions.IsJump f t) plain I stop = absurd cc
    found_plain (questions.Regular f t) plain I stop = absurd cc
    found_plain (questions.Jumps f e) plain I stop = absurd cc
    found_plain (questions.Nu e f i) plain I stop = absurd cc
    found_plain (questions.Threshold f i e) plain I stop = absurd cc
    found_plain (questions.ThresholdAt f at e) plain I stop = absurd cc
    found_plain (questions.Pure i) plain I stop = absurd cc
    found_plain (questions.PureAt i at) plain I stop = absurd cc
    found_plain (questions.Compatible e u i) plain I stop = absurd cc

-- A question for an ideal alone has one as its answer.
pub plain_answers : (q : Question) → IsPlainIdeal q → answers_ideal q ≡ true
plain_answers (questions.Root e j) plain = absurd plain
plain_answers (questions.Parts e f) plain = plain
plain_answers (questions.Basis j) plain = plain
plain_answers (questions.Member f j) plain = plain
plain_answers (questions.Same j k) plain = plain
plain_answers (questions.Sum j k) plain = plain
plain_answers (questions.Product j k) plain = plain
plain_answers (questions.Meet j k) plain = plain
plain_answers (questions.Colon j k) plain = plain
plain_answers (questions.Power e j) plain = plain
plain_answers (questions.Test f t) plain = plain
plain_answers (questions.Left f t) plain = plain
plain_answers (questions.IsJump f t) plain = plain
plain_answers (questions.Regular f t) plain = plain
plain_answers (questions.Jumps f e) plain = plain
plain_answers (questions.Nu e f j) plain = plain
plain_answers (questions.Threshold f j e) plain = plain
plain_answers (questions.ThresholdAt f at e) plain = plain
plain_answers (questions.Pure j) plain = plain
plain_answers (questions.PureAt j at) plain = plain
plain_answers (questions.Split j) plain = plain
plain_answers (questions.Compatible e u j) plain = plain
