-- Questions that are answered one after the other, and the pieces that are their texts.
use Rattle.std.proofs.Common.{◌≡◌, ℕ, ◌+◌, ◌≤◌, Bool, true, false, ◌||◌, cond, List, [], ◌∷◌, ◌++◌, Contains, length, map, take, Some, refl, sym, ap, ap₂, ◌∙◌, subst, append-nil}
use Rattle.std.specs.List.{flat_map, list_any, slice_get}
use Rattle.std.proofs.lemmas.List.{length-map, length-take-le, map_push}
use Rattle.std.proofs.lemmas.List.Concat.{flat_map-append}
use Rattle.std.proofs.lemmas.List.Elements.{All-append, All-cons, All-nil, Contains-get_or}
use Rattle.std.proofs.lemmas.Option.{get_or_from_slice_get, slice_get_within}
use Rattle.fj_audit.specs.Account.{Account}
use Rattle.fj_audit.specs.Handing.{AreShownAll}
use Rattle.fj_audit.proofs.Shown.{AreShownAll-append}
use Rattle.fj_text.proofs.Joined.{take_at}
use Rattle.fj_script.specs.declared.question.Asked.{Asked}
use Rattle.fj_script.specs.declared.script.Env.{Env}
use Rattle.fj_script.specs.declared.script.Script.{Script}
use Rattle.fj_session.specs.Answer.{is_stopped}
use Rattle.fj_session.specs.Reply.{AreReplies, IsReply, Reply, answer_texts, certificates_of, status_of}
use Rattle.fj_session.specs.Text.{answer_bytes}
use Rattle.fj_shell.specs.Asked.{AreOfOneSession, IsScriptOf}
use Rattle.fj_shell.specs.Shell.{together}
use Rattle.fj_shell.proofs.Pieces.{flat_push}

-- All pieces of two lists.
pub together-append : (a b : List (List ℕ)) → together (a ++ b) ≡ together a ++ together b
together-append a b = flat_map-append (λ piece. piece) a b

module _ (env : Env) where
  -- The texts of the first replies, and of one more.
  pub texts_push : (replies : List Reply) (r : Reply) → answer_texts env (replies ++ r ∷ []) ≡ answer_texts env replies ++ answer_bytes env.vars r.asked.number r.answer ∷ []
  texts_push replies r = map_push (λ x. answer_bytes env.vars x.asked.number x.answer) replies r

  pub together_push : (replies : List Reply) (r : Reply) → together (answer_texts env (replies ++ r ∷ [])) ≡ together (answer_texts env replies) ++ answer_bytes env.vars r.asked.number r.answer
  together_push replies r =
      ap together (texts_push replies r) ∙ flat_push (λ piece. piece) (answer_texts env replies) (answer_bytes env.vars r.asked.number r.answer)

  pub replies_push : (asked : List Asked) (i : ℕ) (q : Asked) (replies : List Reply) (r : Reply) → slice_get asked i ≡ Some q → AreReplies env (take i asked) replies → r.asked ≡ q → IsReply env r
      → AreReplies env (take (i + 1) asked) (replies ++ r ∷ [])
  replies_push asked i q replies r at h same is = record {
    questions = map_push (λ x. x.asked) replies r ∙ ap₂ (λ qs p. qs ++ p ∷ []) h.questions same ∙ sym (take_at asked i q at);
    each = All-append (IsReply env) replies (r ∷ []) h.each (All-cons (IsReply env) r [] is (All-nil (IsReply env)));
  }

  pub replies_count : (asked : List Asked) (i : ℕ) (replies : List Reply) → i ≤ length asked → AreReplies env (take i asked) replies → length replies ≡ i
  replies_count asked i replies fits h = sym (length-map replies (λ x. x.asked)) ∙ ap length h.questions ∙ length-take-le i asked fits

  pub no_replies : (asked : List Asked) → AreReplies env (take 0 asked) []
  no_replies asked = record { questions = refl; each = All-nil (IsReply env) }

-- The certificates of the first replies, and of one more.
pub certificates_push : (replies : List Reply) (r : Reply) → certificates_of (replies ++ r ∷ []) ≡ certificates_of replies ++ r.certificates
certificates_push replies r = flat_map-append (λ x. x.certificates) replies (r ∷ []) ∙ ap (λ s. certificates_of replies ++ s) (append-nil r.certificates)

-- Auditors are shown the certificates of the first replies, and then of one more.
pub shown_push : (replies : List Reply) (r : Reply) (a b c : List Account) → AreShownAll (certificates_of replies) a b → AreShownAll r.certificates b c → AreShownAll (certificates_of (replies ++ r ∷ [])) a c
shown_push replies r a b c first then =
    subst (λ certs. AreShownAll certs a c) (sym (certificates_push replies r)) (AreShownAll-append (certificates_of replies) r.certificates a b c first then)

-- A question of a session is one of it.
pub session_of_question : (script : Script) (bytes : List ℕ) → IsScriptOf bytes script → (i : ℕ) (q : Asked) → slice_get script.asked i ≡ Some q → AreOfOneSession script.env q
session_of_question script bytes accepted i q at = record {
  bytes = bytes;
  script = script;
  accepted = accepted;
  env_there = refl;
  asked_there = subst (Contains script.asked) (get_or_from_slice_get script.asked i q q at) (Contains-get_or script.asked i q (slice_get_within script.asked i q at));
}

any_push : {X : Type 0} (f : X → Bool) (xs : List X) (x : X) → list_any f (xs ++ x ∷ []) ≡ (list_any f xs || f x)
any_push f [] x = by (f x)
  where
    by : (b : Bool) → (b || false) ≡ b
    by true = refl
    by false = refl
any_push f (y ∷ xs) x = ap (λ b. f y || b) (any_push f xs x) ∙ by (f y) (list_any f xs) (f x)
  where
    by : (a b c : Bool) → (a || (b || c)) ≡ ((a || b) || c)
    by true b c = refl
    by false b c = refl

pub status_push : (replies : List Reply) (r : Reply) → status_of (replies ++ r ∷ []) ≡ cond (is_stopped r.answer) 3 (status_of replies)
status_push replies r = ap (λ b. cond b 3 0) (any_push (λ x. is_stopped x.answer) replies r) ∙ by (list_any (λ x. is_stopped x.answer) replies) (is_stopped r.answer)
  where
    by : (b c : Bool) → ◌≡◌ {A = ℕ} (cond (b || c) 3 0) (cond c 3 (cond b 3 0))
    by true true = refl
    by true false = refl
    by false true = refl
    by false false = refl
