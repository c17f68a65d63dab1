-- What the questions on nu and thresholds mean. f is the polynomial that they name, J the ideal, by a list that generates it.
use Rattle.std.specs.Prelude.{◌≡◌, ◌⊎◌, ℕ, List}
use Rattle.fj_coeff.specs.Field.{Field}
use Rattle.fj_theory.specs.Polynomial.{Polynomial}
use Rattle.fj_plain.specs.declared.order_name.OrderName.TheVariants.{Grevlex}
use Rattle.fj_ideal.specs.Lists.{RunFor}
use Rattle.fj_thresh.specs.Answer.{IsNuAnswer, IsPointAnswer, IsThresholdAnswer}
use Rattle.fj_thresh.specs.Lists.{IsHighInNu, IsHighInPointThreshold, IsHighInThreshold, IsNuList, IsPointThresholdList, IsThresholdList}
use Rattle.fj_thresh.specs.declared.types.Nu.{Nu}
use Rattle.fj_thresh.specs.declared.types.Nu.TheVariants as nus
use Rattle.fj_thresh.specs.declared.types.Threshold.{Threshold}
use Rattle.fj_thresh.specs.declared.types.Threshold.TheVariants as thresholds
use Rattle.fj_session.specs.Standing.{IsDeclaredList, Standing}
use Rattle.fj_session.specs.Meaning.{Meaning, NoCertificate, NoIdeal}
use Rattle.fj_session.specs.declared.types.Answer.{Answer}
use Rattle.fj_session.specs.declared.types.Answer.TheVariants as answers

-- The answer of the call as the answer of the question.
abbrev pub nu_shown : Nu → Answer
nu_shown (nus.Is r) = answers.Nu r
nu_shown nus.Unit = answers.Unit
nu_shown nus.NotIn = answers.NotIn

abbrev pub IsShownNu : Field → ℕ → Polynomial → List Polynomial → Answer → Type 0
IsShownNu F e f J (answers.Nu r) = IsNuAnswer F e f J (nus.Is r)
IsShownNu F e f J answers.Unit = IsNuAnswer F e f J nus.Unit
IsShownNu F e f J answers.NotIn = IsNuAnswer F e f J nus.NotIn
IsShownNu F e f J _ = ⊥

-- The lists of nu: the ideal as declared, and the nu lists.
abbrev pub IsListOfNu : Field → ℕ → Polynomial → Standing → List Polynomial → Type 0
IsListOfNu F e f J L = IsDeclaredList J L ⊎ IsNuList F e f J.list L

-- `nu e F J`
abbrev pub meaning_of_nu : Field → ℕ → Polynomial → Standing → Meaning
meaning_of_nu F e f J = record { ideal = NoIdeal; last = NoIdeal; answer = IsShownNu F e f J.list; certificates = NoCertificate; lists = RunFor Grevlex (IsListOfNu F e f J); products = IsHighInNu F e f J.list }

-- The answer of a call for a threshold as the answer of the question.
abbrev pub threshold_shown : Threshold → Answer
threshold_shown (thresholds.At t) = answers.At t
threshold_shown (thresholds.Between s t) = answers.Between s t
threshold_shown thresholds.NotIn = answers.NotIn
threshold_shown thresholds.Unit = answers.Unit
threshold_shown thresholds.Off = answers.Off

-- The answer is one for a threshold, and what it says holds.
abbrev pub IsShownThreshold : (Threshold → Type 0) → Answer → Type 0
IsShownThreshold Holds (answers.At t) = Holds (thresholds.At t)
IsShownThreshold Holds (answers.Between s t) = Holds (thresholds.Between s t)
IsShownThreshold Holds answers.NotIn = Holds thresholds.NotIn
IsShownThreshold Holds answers.Unit = Holds thresholds.Unit
IsShownThreshold Holds answers.Off = Holds thresholds.Off
IsShownThreshold Holds _ = ⊥

-- The lists of a threshold at an ideal: the ideal as declared, and those of the threshold.
abbrev pub IsListOfThreshold : Field → ℕ → Polynomial → Standing → List Polynomial → Type 0
IsListOfThreshold F E f J L = IsDeclaredList J L ⊎ IsThresholdList F E f J.list L

-- `threshold F J E`
abbrev pub meaning_of_threshold : Field → ℕ → Polynomial → Standing → Meaning
meaning_of_threshold F E f J = record { ideal = NoIdeal; last = NoIdeal; answer = IsShownThreshold (IsThresholdAnswer F E f J.list); certificates = NoCertificate; lists = RunFor Grevlex (IsListOfThreshold F E f J); products = IsHighInThreshold F E f J.list }

-- `threshold F P E`, P a point in the n variables of the ring
abbrev pub meaning_of_threshold_at : Field → ℕ → Polynomial → ℕ → List ℕ → Meaning
meaning_of_threshold_at F E f n point =
    record { ideal = NoIdeal; last = NoIdeal; answer = IsShownThreshold (IsPointAnswer F E f n point); certificates = NoCertificate; lists = RunFor Grevlex (IsPointThresholdList F E f n point); products = IsHighInPointThreshold F E f n point }
