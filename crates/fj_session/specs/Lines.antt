-- The lines that belong to no answer: one for each auditor, and the summary of a generated session.
use Rattle.std.specs.Prelude.{ℕ, ◌+◌, ◌*◌, ◌^◌, ◌≤◌, if◌then◌else◌, List, ◌++◌, length, map, filter, codes, decimal}
use Rattle.std.specs.List.{count_by, sum_by}
use Rattle.fj_audit.specs.Account.{Account}
use Rattle.fj_audit.specs.Handing.{remains}
use Rattle.fj_session.specs.Answer.{is_stopped}
use Rattle.fj_session.specs.Reply.{Reply}
use Rattle.fj_session.specs.declared.summary.Summary.{Summary}
use Rattle.fj_session.specs.declared.types.Answer.{Answer}
use Rattle.fj_session.specs.declared.types.Answer.TheVariants as answers

-- The line of an auditor: `auditor NAME: seen S, bad B`.
unfoldable pub auditor_line : Account → List ℕ
auditor_line a = codes "auditor " ++ a.title ++ codes ": seen " ++ decimal a.seen ++ codes ", bad " ++ decimal a.bad ++ codes "\n"

-- The lines of the auditors that remain.
abbrev pub auditor_lines : List Account → List (List ℕ)
auditor_lines accounts = map auditor_line (filter remains accounts)

-- How many F-jumping numbers an answer lists.
abbrev pub jumps_in : Answer → ℕ
jumps_in (answers.Jumps jumps gaps complete) = length jumps
jumps_in _ = 0

-- How many open gaps it lists.
abbrev pub gaps_in : Answer → ℕ
gaps_in (answers.Jumps jumps gaps complete) = length gaps
gaps_in _ = 0

-- The questions, all F-jumping numbers, all open gaps and the stops.
abbrev pub summary_of : List Reply → Summary
summary_of replies = record {
  questions = length replies;
  jumps = sum_by (λ r. jumps_in r.answer) replies;
  gaps = sum_by (λ r. gaps_in r.answer) replies;
  stopped = count_by (λ r. is_stopped r.answer) replies;
}

-- The summary of no answer, and that with one answer more.
abbrev pub no_answer : Summary
no_answer = record { questions = 0; jumps = 0; gaps = 0; stopped = 0 }

abbrev pub with_answer : Summary → Answer → Summary
with_answer s a = record { questions = s.questions + 1; jumps = s.jumps + jumps_in a; gaps = s.gaps + gaps_in a; stopped = s.stopped + (if is_stopped a then 1 else 0) }

-- Each answer gives at most 2^64 of each.
pub record IsCount (s : Summary) : Type 0 where
  pub jumps : s.jumps ≤ 2 ^ 64 * s.questions
  pub gaps : s.gaps ≤ 2 ^ 64 * s.questions
  pub stopped : s.stopped ≤ s.questions

-- The line of a summary: `gen N: questions Q, jumps J, open G, stopped S`.
unfoldable pub summary_line : ℕ → Summary → List ℕ
summary_line n s =
    codes "gen " ++ decimal n ++ codes ": questions " ++ decimal s.questions ++ codes ", jumps " ++ decimal s.jumps ++ codes ", open " ++ decimal s.gaps ++ codes ", stopped " ++ decimal s.stopped ++ codes "\n"
