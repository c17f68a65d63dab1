-- The questions of a session with their answers and certificates.
use Rattle.std.specs.Prelude.{◌≡◌, ℕ, if◌then◌else◌, List, All, map}
use Rattle.std.specs.List.{flat_map, list_any}
use Rattle.fj_plain.specs.declared.cert.Cert.{Cert}
use Rattle.fj_script.specs.declared.question.Asked.{Asked}
use Rattle.fj_script.specs.declared.script.Env.{Env}
use Rattle.fj_session.specs.Answer.{Certifies, IsAnswer, is_stopped}
use Rattle.fj_session.specs.Text.{answer_bytes}
use Rattle.fj_session.specs.declared.types.Answer.{Answer}

-- A question, with an answer and certificates.
pub record Reply : Type 0 where
  pub asked : Asked
  pub answer : Answer
  pub certificates : List Cert

-- The answer is one to the question, and the certificates are those of the answer.
pub record IsReply (env : Env) (reply : Reply) : Type 0 where
  pub answer : IsAnswer env reply.asked reply.answer
  pub certificates : Certifies env reply.asked reply.answer reply.certificates

-- One reply to each of these questions, in order.
pub record AreReplies (env : Env) (asked : List Asked) (replies : List Reply) : Type 0 where
  pub questions : map (λ r. r.asked) replies ≡ asked
  pub each : All (IsReply env) replies

-- The text of each answer.
abbrev pub answer_texts : Env → List Reply → List (List ℕ)
answer_texts env replies = map (λ r. answer_bytes env.vars r.asked.number r.answer) replies

-- The certificates of all answers, in order.
abbrev pub certificates_of : List Reply → List Cert
certificates_of replies = flat_map (λ r. r.certificates) replies

-- 3 where a question stopped, else 0.
abbrev pub status_of : List Reply → ℕ
status_of replies = if list_any (λ r. is_stopped r.answer) replies then 3 else 0
