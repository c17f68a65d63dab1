-- A stop as an answer.
use Rattle.std.proofs.Common.{◌≡◌, ◌⊎◌, ℕ, [], inl, inr, sym, subst, refl, All}
use Rattle.std.proofs.lemmas.List.Elements.{All-nil}
use Rattle.fj_coeff.specs.Field.{Field}
use Rattle.fj_plain.specs.Holds.{Holds}
use Rattle.fj_plain.specs.declared.order_name.OrderName.{OrderName}
use Rattle.fj_plain.specs.declared.order_name.OrderName.TheVariants.{Grevlex}
use Rattle.fj_basis.specs.declared.stop.Stop.{Stop}
use Rattle.fj_basis.specs.declared.stop.Stop.TheVariants.{Pairs, High, Product, Memory}
use Rattle.fj_ideal.specs.Stop.{IsCauseOf, IsWritten}
use Rattle.fj_script.specs.declared.question.Asked.{Asked}
use Rattle.fj_script.specs.declared.question.Question.{Question}
use Rattle.fj_script.specs.declared.script.Env.{Env}
use Rattle.fj_session.specs.Answer.{IsAnswerTo, IsAnswerOver, IsStop}
use Rattle.fj_session.specs.Lets.{AreValues}
use Rattle.fj_session.specs.Meaning.{Meaning}
use Rattle.fj_session.specs.Outcome.{IsCertified, IsCertifiedOver, IsStopTold, IsToldStop}
use Rattle.fj_session.specs.Standing.{Values}
use Rattle.fj_session.specs.Statement.{meaning_of}
use Rattle.fj_session.specs.Used.{IsCauseOfLet, IsStopBefore}
use Rattle.fj_session.specs.declared.certified.Certified.{Certified}
use Rattle.fj_session.specs.declared.types.Answer.{Answer}
use Rattle.fj_session.proofs.KeptAgain.{product_again, too_high_again, unfinished_again}

module _ (F : Field) (printing : OrderName) (budget : ℕ) (meaning : Meaning) where
  -- A stop with a cause is an answer,
  told_answer : (s : Stop) (a : Answer) → IsCauseOf F meaning.lists meaning.products budget s → IsStopTold printing s a → IsAnswerTo F meaning printing budget a
  told_answer (Pairs k) a cause told = subst (IsAnswerTo F meaning printing budget) (sym told.1) (unfinished_again told.2 F meaning.lists budget cause, told.2.falling)
  told_answer (High k) a cause told = subst (IsAnswerTo F meaning printing budget) (sym told.1) (inl (too_high_again told.2 F meaning.lists budget cause), told.2.falling)
  told_answer (Product k) a cause told = subst (IsAnswerTo F meaning printing budget) (sym told.1) (inr (product_again told.2 meaning.products cause), told.2.falling)
  told_answer Memory a cause told = absurd told

-- and one that is a stop.
told_stop : (printing : OrderName) (s : Stop) (a : Answer) → IsStopTold printing s a → IsStop a
told_stop printing (Pairs k) a told = subst IsStop (sym told.1) tt
told_stop printing (High k) a told = subst IsStop (sym told.1) tt
told_stop printing (Product k) a told = subst IsStop (sym told.1) tt
told_stop printing Memory a told = absurd told

-- It has no certificates.
no_certificates : (printing : OrderName) (s : Stop) (c : Certified) → IsToldStop printing s c → All Holds c.certificates.items
no_certificates printing s c told = subst (All Holds) (sym told.none) (All-nil Holds)

module _ {F : Field} {env : Env} {asked : Asked} where
  -- The answer where the lets have their values.
  pub answered_with : (V : Values) → AreValues F env asked.question V → (c : Certified) → IsCertified F (meaning_of F env V asked.order asked.question) asked.order asked.budget c → IsCertifiedOver F env asked c
  answered_with V values c h = record { answer = inl (V, values, h.answer); certificates = inr (V, values, h.certificates); hold = h.hold }

  -- A stop of the question itself,
  pub stopped_with : (V : Values) → AreValues F env asked.question V → (s : Stop) (c : Certified) → IsCauseOf F (meaning_of F env V asked.order asked.question).lists (meaning_of F env V asked.order asked.question).products asked.budget s → IsToldStop asked.order s c
      → IsCertifiedOver F env asked c
  stopped_with V values s c cause told = record {
    answer = inl (V, values, told_answer F asked.order asked.budget (meaning_of F env V asked.order asked.question) s c.answer cause told.answer);
    certificates = inl (told_stop asked.order s c.answer told.answer, told.none);
    hold = no_certificates asked.order s c told;
  }

  -- and of a let that it uses.
  by_let : (s : Stop) (c : Certified) → IsCauseOfLet F env asked.question s → IsToldStop asked.order s c → IsCertifiedOver F env asked c
  by_let s c h told = record {
    answer = inr (record {
      place = h.place;
      budget = h.budget;
      question = h.asked;
      uses = h.uses;
      values = h.values;
      are_values = h.are_values;
      stop = told_stop asked.order s c.answer told.answer;
      cause = told_answer F asked.order h.budget (meaning_of F env h.values Grevlex h.asked) s c.answer h.cause.0 told.answer;
    });
    certificates = inl (told_stop asked.order s c.answer told.answer, told.none);
    hold = no_certificates asked.order s c told;
  }

  pub stopped_by_let : (s : Stop) (c : Certified) → IsStopBefore F env asked.question s → IsToldStop asked.order s c → IsCertifiedOver F env asked c
  stopped_by_let s c (inl is) told = absurd (subst (λ z. IsStopTold asked.order z c.answer) is told.answer)
  stopped_by_let s c (inr h) told = by_let s c h.0 told

-- What the stop keeps is written.
pub written_before : {F : Field} {env : Env} {question : Question} (s : Stop) → IsStopBefore F env question s → IsWritten F s
written_before {F} s (inl is) = subst (IsWritten F) (sym is) tt
written_before s (inr h) = h.1
