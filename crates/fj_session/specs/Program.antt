-- What `fjcalc` writes, which certificates the auditors are shown and how it ends, over the words of the command line, the
-- bytes that the source gave and the auditors.
use Rattle.std.specs.Prelude.{◌≡◌, ◌⊎◌, ℕ, List, [], ◌∷◌, ◌++◌, Err, length, take}
use Rattle.std.specs.declared.option.Option.{Option}
use Rattle.fj_audit.specs.Account.{Account}
use Rattle.fj_gen.specs.Generated.{generated}
use Rattle.fj_plain.specs.declared.cert.Cert.{Cert}
use Rattle.fj_script.specs.declared.fault.Fault.{Fault}
use Rattle.fj_script.specs.declared.script.Env.{Env}
use Rattle.fj_script.specs.declared.script.Script.{Script}
use Rattle.fj_script.specs.Script as session
use Rattle.fj_session.specs.Lines.{auditor_lines, summary_line, summary_of}
use Rattle.fj_session.specs.Reply.{AreReplies, Reply, answer_texts, certificates_of, status_of}
use Rattle.fj_session.specs.Words.{IsForm, IsNoForm, usage_line}
use Rattle.fj_session.specs.declared.words.Form.{Form}
use Rattle.fj_session.specs.declared.words.Form.TheVariants.{Run, Audit, Gen}
use Rattle.fj_shell.specs.Asked.{IsScriptOf}
use Rattle.fj_shell.specs.Shell.{IsRead, fault_line}

-- The bytes of the session that is answered: those that the source gave, or those of the generated session.
abbrev pub IsSession : Form → Option (List ℕ) → Option (List ℕ) → List ℕ → Type 0
IsSession Run before after bytes = IsRead before after bytes
IsSession Audit before after bytes = IsRead before after bytes
IsSession (Gen n) before after bytes = bytes ≡ generated n

-- The texts of answers, each of which is handed to the sink as one piece. `gen` writes none.
abbrev pub texts : Form → Env → List Reply → List (List ℕ)
texts Run env replies = answer_texts env replies
texts Audit env replies = answer_texts env replies
texts (Gen n) env replies = []

-- The lines behind them, each one piece, where the auditors are then as these accounts say.
abbrev pub last_lines : Form → List Account → List Reply → List (List ℕ)
last_lines Run accounts replies = []
last_lines Audit accounts replies = auditor_lines accounts
last_lines (Gen n) accounts replies = summary_line n (summary_of replies) ∷ []

-- All pieces of an accepted session.
abbrev pub all_pieces : Form → List Account → Env → List Reply → List (List ℕ)
all_pieces form accounts env replies = texts form env replies ++ last_lines form accounts replies

-- The status, the pieces and the certificates of a session of these bytes: those of its fault, or of the replies to its
-- questions.
abbrev pub IsOutcome : Form → List Account → List ℕ → ℕ → List (List ℕ) → List Cert → Type 0
IsOutcome form accounts bytes status pieces certs =
    ((fault : Fault) × (session.script bytes ≡ Err fault) × (status ≡ 2) × (pieces ≡ fault_line fault ∷ []) × (certs ≡ []))
    ⊎ ((script : Script) × IsScriptOf bytes script × ((replies : List Reply) × AreReplies script.env script.asked replies
    × (status ≡ status_of replies) × (pieces ≡ all_pieces form accounts script.env replies) × (certs ≡ certificates_of replies)))

-- The status, the pieces and the certificates of a run that nothing outside ends, over its words, what the source had before
-- and after, and the accounts of the auditors after it.
abbrev pub IsRun : List (List ℕ) → Option (List ℕ) → Option (List ℕ) → List Account → ℕ → List (List ℕ) → List Cert → Type 0
IsRun words before after accounts status pieces certs =
    IsNoForm words × (status ≡ 1) × (pieces ≡ usage_line ∷ []) × (certs ≡ [])
    ⊎ ((form : Form) × IsForm form words × ((bytes : List ℕ) × IsSession form before after bytes × IsOutcome form accounts bytes status pieces certs))

-- The texts of the answers to the first questions of a session.
abbrev pub AreFirstTexts : Form → Script → List (List ℕ) → Type 0
AreFirstTexts form script pieces =
    (replies : List Reply) × AreReplies script.env (take (length replies) script.asked) replies × (pieces ≡ texts form script.env replies)

-- Pieces of a session all of whose questions are answered, from the first one on.
abbrev pub AreFirstOfAll : Form → List Account → Script → List (List ℕ) → Type 0
AreFirstOfAll form accounts script pieces =
    (replies : List Reply) × AreReplies script.env script.asked replies × ((rest : List (List ℕ)) × (all_pieces form accounts script.env replies ≡ pieces ++ rest))

-- The first pieces of an accepted session.
abbrev pub AreFirstOfSession : Form → List Account → Script → List (List ℕ) → Type 0
AreFirstOfSession form accounts script pieces = AreFirstTexts form script pieces ⊎ AreFirstOfAll form accounts script pieces

-- The first pieces of an accepted session, behind which a line or an answer is wanting.
abbrev pub AreBeforeLast : Form → List Account → Script → List (List ℕ) → Type 0
AreBeforeLast form accounts script pieces = AreFirstTexts form script pieces ⊎ ((next : List ℕ) × AreFirstOfAll form accounts script (pieces ++ next ∷ []))

-- The first pieces of a run.
abbrev pub AreFirstOfRun : List (List ℕ) → Option (List ℕ) → Option (List ℕ) → List Account → List (List ℕ) → Type 0
AreFirstOfRun words before after accounts pieces =
    IsNoForm words × (pieces ≡ usage_line ∷ [])
    ⊎ ((form : Form) × IsForm form words × ((bytes : List ℕ) × IsSession form before after bytes
    × (((fault : Fault) × (session.script bytes ≡ Err fault) × (pieces ≡ fault_line fault ∷ []))
    ⊎ ((script : Script) × IsScriptOf bytes script × AreFirstOfSession form accounts script pieces))))
