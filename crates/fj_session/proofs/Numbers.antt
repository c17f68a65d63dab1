-- The number nu, and thresholds, as answers to questions.
use Rattle.std.proofs.Common.{ℕ, List, Result, IfOk, refl}
use Rattle.std.proofs.lemmas.Result.{IfOk-weaker}
use Rattle.fj_coeff.specs.Field.{Field}
use Rattle.fj_theory.specs.Polynomial.{Polynomial}
use Rattle.fj_plain.specs.declared.order_name.OrderName.{OrderName}
use Rattle.fj_basis.specs.declared.stop.Stop.{Stop}
use Rattle.fj_thresh.specs.Answer.{IsNuAnswer}
use Rattle.fj_thresh.specs.Lists.{IsHighInNu}
use Rattle.fj_thresh.specs.declared.types.Nu.{Nu}
use Rattle.fj_thresh.specs.declared.types.Nu.TheVariants as nus
use Rattle.fj_thresh.specs.declared.types.Threshold.{Threshold}
use Rattle.fj_thresh.specs.declared.types.Threshold.TheVariants as thresholds
use Rattle.fj_ideal.specs.Stop.{StopsOnlyWith}
use Rattle.fj_session.specs.Answer.{IsAnswerTo}
use Rattle.fj_session.specs.Meaning.{Meaning, NoCertificate, NoIdeal}
use Rattle.fj_session.specs.Outcome.{IsFound, IsHandedOn, OwnStops}
use Rattle.fj_session.specs.Standing.{Standing}
use Rattle.fj_session.specs.Thresholds.{IsListOfNu, IsShownNu, IsShownThreshold, meaning_of_nu, nu_shown, threshold_shown}
use Rattle.fj_session.specs.declared.certified.Certified.{Certified}
use Rattle.fj_session.specs.declared.types.Answer.{Answer}
use Rattle.fj_session.specs.declared.types.Answer.TheVariants as answers
use Rattle.fj_session.proofs.Printed.{found_alone}

module _ (F : Field) (e : ℕ) (f : Polynomial) (J : Standing) where
  pub shown_nu : (n : Nu) → IsNuAnswer F e f J.list n → IsShownNu F e f J.list (nu_shown n)
  shown_nu (nus.Is r) h = h
  shown_nu nus.Unit h = h
  shown_nu nus.NotIn h = h

  module _ (printing : OrderName) (budget : ℕ) where
    nu_for : (a : Answer) → IsShownNu F e f J.list a → IsAnswerTo F (meaning_of_nu F e f J) printing budget a
    nu_for (answers.Nu r) h = h
    nu_for answers.Unit h = h
    nu_for answers.NotIn h = h
    nu_for _ h = absurd h

    pub found_nu : (j : Result Answer Stop) (r : Result Certified Stop) → IsHandedOn j r → IfOk j (IsShownNu F e f J.list) → OwnStops F (IsListOfNu F e f J) (IsHighInNu F e f J.list) budget j → IsFound F (meaning_of_nu F e f J) printing budget r
    found_nu j r handed h stop =
        found_alone F (meaning_of_nu F e f J) printing budget (λ a. refl) j r handed (IfOk-weaker j (IsShownNu F e f J.list) (IsAnswerTo F (meaning_of_nu F e f J) printing budget) nu_for h, stop)

module _ (Holds : Threshold → Type 0) where
  pub shown_threshold : (t : Threshold) → Holds t → IsShownThreshold Holds (threshold_shown t)
  shown_threshold (thresholds.At t) h = h
  shown_threshold (thresholds.Between s t) h = h
  shown_threshold thresholds.NotIn h = h
  shown_threshold thresholds.Unit h = h
  shown_threshold thresholds.Off h = h

  module _ (F : Field) (IsList : OrderName → List Polynomial → Type 0) (IsProduct : List Polynomial → Type 0) (printing : OrderName) (budget : ℕ) where
    abbrev meaning : Meaning
    meaning = record { ideal = NoIdeal; last = NoIdeal; answer = IsShownThreshold Holds; certificates = NoCertificate; lists = IsList; products = IsProduct }

    threshold_for : (a : Answer) → IsShownThreshold Holds a → IsAnswerTo F meaning printing budget a
    threshold_for (answers.At t) h = h
    threshold_for (answers.Between s t) h = h
    threshold_for answers.NotIn h = h
    threshold_for answers.Unit h = h
    threshold_for answers.Off h = h
    threshold_for _ h = absurd h

    pub found_threshold : (j : Result Answer Stop) (r : Result Certified Stop) → IsHandedOn j r → IfOk j (IsShownThreshold Holds) → StopsOnlyWith F IsList IsProduct budget j
        → IsFound F (record { ideal = NoIdeal; last = NoIdeal; answer = IsShownThreshold Holds; certificates = NoCertificate; lists = IsList; products = IsProduct }) printing budget r
    found_threshold j r handed h stop = found_alone F meaning printing budget (λ a. refl) j r handed (IfOk-weaker j (IsShownThreshold Holds) (IsAnswerTo F meaning printing budget) threshold_for h, stop)
