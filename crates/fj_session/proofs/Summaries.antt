-- The summary of replies, one after the other.
use Rattle.std.proofs.Common.{◌≡◌, ℕ, ◌+◌, ◌==◌, Bool, true, false, ◌||◌, cond, List, [], ◌∷◌, ◌++◌, length, refl, sym, ap, ◌∙◌, arith}
use Rattle.std.specs.List.{count_by, list_any, sum_by}
use Rattle.std.proofs.lemmas.List.Sums.{sum_by-append}
use Rattle.fj_shell.proofs.Pieces.{length_push}
use Rattle.fj_session.specs.Answer.{is_stopped}
use Rattle.fj_session.specs.Lines.{IsCount, gaps_in, jumps_in, no_answer, summary_of, with_answer}
use Rattle.fj_session.specs.Reply.{Reply, status_of}
use Rattle.fj_session.specs.declared.summary.Summary.{Summary}

sum_push : {X : Type 0} (f : X → ℕ) (xs : List X) (x : X) → sum_by f (xs ++ x ∷ []) ≡ sum_by f xs + f x
sum_push f xs x = sum_by-append f xs (x ∷ []) ∙ omega arith

same_fields : (a b c d e f g h : ℕ) → a ≡ e → b ≡ f → c ≡ g → d ≡ h
    → ◌≡◌ {A = Summary} (record { questions = a; jumps = b; gaps = c; stopped = d }) (record { questions = e; jumps = f; gaps = g; stopped = h })
same_fields a b c d e f g h p q r s = grind arith

-- One answer more.
pub summary_push : (replies : List Reply) (r : Reply) → summary_of (replies ++ r ∷ []) ≡ with_answer (summary_of replies) r.answer
summary_push replies r =
    same_fields _ _ _ _ _ _ _ _ (length_push replies r) (sum_push (λ x. jumps_in x.answer) replies r) (sum_push (λ x. gaps_in x.answer) replies r) (sum_push (λ x. cond (is_stopped x.answer) 1 0) replies r)

any_counted : {X : Type 0} (p : X → Bool) (xs : List X) → ◌≡◌ {A = ℕ} (cond (list_any p xs) 3 0) (cond (count_by p xs == 0) 0 3)
any_counted p [] = refl
any_counted p (x ∷ xs) =
    by (p x) (list_any p xs) (count_by p xs) (any_counted p xs)
    ∙ ap (λ n. cond (n == 0) 0 3) (sym (sum_by-append (λ y. cond (p y) 1 0) (x ∷ []) xs))
  where
    by : (b c : Bool) (n : ℕ) → ◌≡◌ {A = ℕ} (cond c 3 0) (cond (n == 0) 0 3) → ◌≡◌ {A = ℕ} (cond (b || c) 3 0) (cond (((0 + cond b 1 0) + n) == 0) 0 3)
    by true c n h = grind arith
    by false c n h = h ∙ ap (λ m. cond (m == 0) 0 3) (let e : n ≡ (0 + 0) + n = omega arith in e)

-- The summary of no answer.
pub no_answer-IsCount : IsCount no_answer
no_answer-IsCount = record { jumps = omega arith; gaps = omega arith; stopped = omega arith }

-- The status by the number of stops.
pub status_of_summary : (replies : List Reply) → status_of replies ≡ cond ((summary_of replies).stopped == 0) 0 3
status_of_summary replies = any_counted (λ r. is_stopped r.answer) replies
