-- What is known of the names that stand for the answers of questions.
use Rattle.std.proofs.Common.{◌≡◌, ℕ, ◌<◌, ◌≤◌, ◌^◌, Bool, true, false, List, [], ◌∷◌, ◌++◌, length, take, drop, All, Contains, Some, refl, sym, ap, ◌∙◌, subst, arith, append_assoc, min}
use Rattle.std.specs.List.{slice_get}
use Rattle.std.specs.Option.{option_map}
use Rattle.std.proofs.lemmas.List.{append-nil, length-take, take-append-drop}
use Rattle.std.proofs.lemmas.List.Elements.{All-cons, All-nil}
use Rattle.std.proofs.lemmas.Option.{slice_get-map, slice_get_within}
use Rattle.fj_coeff.specs.Field.{primes}
use Rattle.fj_theory.specs.Fraction.{Fraction}
use Rattle.fj_script.specs.declared.fault.FaultKind.{FaultKind}
use Rattle.fj_script.specs.declared.question.Question.{Question}
use Rattle.fj_script.specs.declared.question.Question.TheVariants as questions
use Rattle.fj_script.specs.declared.script.Env.{Env}
use Rattle.fj_script.specs.declared.value.Kind.{Kind}
use Rattle.fj_script.specs.Question.{answers_ideal}
use Rattle.fj_script.specs.Seen.{seen, seen_values}
use Rattle.fj_script.specs.Session.{Value, Let}
use Rattle.fj_script.proofs.AcceptedArguments.{IsExponent, IsSoundQuestion, Names, question_kept}
use Rattle.fj_shell.specs.Asked.{IsIdealAt, IsLetAt, IsNonconstantAt}
use Rattle.fj_shell.specs.Named.{places_in}
use Rattle.fj_shell.proofs.Known.{IsKnownRing, both_at, ideal_at, nonconstant_at, ring_known, small_at, sound_at}

-- A question about some values is one about them with more values behind them.
with_later : (p : ℕ) (q : Question) (vs ws : List (List ℕ × Value)) → IsSoundQuestion p vs q → IsSoundQuestion p (vs ++ ws) q
with_later p q vs [] h = subst (λ us. IsSoundQuestion p us q) (sym (append-nil vs)) h
with_later p q vs (w ∷ ws) h = subst (λ us. IsSoundQuestion p us q) (append_assoc vs (w ∷ []) ws) (with_later p q (vs ++ w ∷ []) ws (question_kept vs w p q h))

-- ---- places

one : (P : ℕ → Type 0) (j : ℕ) → P j → All P (j ∷ [])
one P j h = All-cons P j [] h (All-nil P)

two : (P : ℕ → Type 0) (j k : ℕ) → P j → P k → All P (j ∷ k ∷ [])
two P j k h l = All-cons P j (k ∷ []) h (one P k l)

below : {taken : Kind → _} {j : ℕ} (vs : List (List ℕ × Value)) (i : ℕ) → length vs ≤ i → Names taken vs j → j < i
below {taken} {j} vs i few h = let inside = slice_get_within vs j (h.name, h.value) h.is in omega (arith, inside, few)

-- The names of a question about i values have places below i.
pub places_below : (p : ℕ) (vs : List (List ℕ × Value)) (i : ℕ) → length vs ≤ i → (q : Question) → IsSoundQuestion p vs q → All (λ j. j < i) (places_in q)
places_below p vs i few (questions.Parts e f) h = one (λ j. j < i) _ (below vs i few h.1)
places_below p vs i few (questions.Basis j) h = one (λ j. j < i) _ (below vs i few h)
places_below p vs i few (questions.Member f j) h = two (λ j. j < i) _ _ (below vs i few h.0) (below vs i few h.1)
places_below p vs i few (questions.Same j k) h = two (λ j. j < i) _ _ (below vs i few h.0) (below vs i few h.1)
places_below p vs i few (questions.Sum j k) h = two (λ j. j < i) _ _ (below vs i few h.0) (below vs i few h.1)
places_below p vs i few (questions.Product j k) h = two (λ j. j < i) _ _ (below vs i few h.0) (below vs i few h.1)
places_below p vs i few (questions.Meet j k) h = two (λ j. j < i) _ _ (below vs i few h.0) (below vs i few h.1)
places_below p vs i few (questions.Colon j k) h = two (λ j. j < i) _ _ (below vs i few h.0) (below vs i few h.1)
places_below p vs i few (questions.Power e j) h = one (λ j. j < i) _ (below vs i few h.1)
places_below p vs i few (questions.Root e j) h = one (λ j. j < i) _ (below vs i few h.1)
places_below p vs i few (questions.Test f t) h = one (λ j. j < i) _ (below vs i few h.0)
places_below p vs i few (questions.Left f t) h = one (λ j. j < i) _ (below vs i few h.0)
places_below p vs i few (questions.IsJump f t) h = one (λ j. j < i) _ (below vs i few h.0)
places_below p vs i few (questions.Regular f t) h = one (λ j. j < i) _ (below vs i few h.0)
places_below p vs i few (questions.Jumps f e) h = one (λ j. j < i) _ (below vs i few h.0)
places_below p vs i few (questions.Nu e f j) h = two (λ j. j < i) _ _ (below vs i few h.1) (below vs i few h.2)
places_below p vs i few (questions.Threshold f j e) h = two (λ j. j < i) _ _ (below vs i few h.0) (below vs i few h.1)
places_below p vs i few (questions.ThresholdAt f at e) h = two (λ j. j < i) _ _ (below vs i few h.0) (below vs i few h.1)
places_below p vs i few (questions.Pure j) h = one (λ j. j < i) _ (below vs i few h)
places_below p vs i few (questions.PureAt j at) h = two (λ j. j < i) _ _ (below vs i few h.0) (below vs i few h.1)
places_below p vs i few (questions.Split j) h = one (λ j. j < i) _ (below vs i few h)
places_below p vs i few (questions.Compatible e u j) h = two (λ j. j < i) _ _ (below vs i few h.1) (below vs i few h.2)

-- ---- a name that stands for the answer of a question

module _ (env : Env) (place : ℕ) (h : IsLetAt env place) where
  K : IsKnownRing env
  K = ring_known env h.session

  seen_there : slice_get (seen_values env.values) place ≡ Some (h.name, Let h.budget h.question)
  seen_there = slice_get-map (λ v. (v.0, seen v.1)) env.values place ∙ ap (option_map (λ v. (v.0, seen v.1))) h.stands

  earlier : IsSoundQuestion env.p (take place (seen_values env.values)) h.question
  earlier = K.earlier place (h.name, Let h.budget h.question) seen_there

  -- Its turn budget is one of a session,
  pub let_budget : (1 ≤ h.budget) × (h.budget ≤ 10000000)
  let_budget = let sound = sound_at env place K.values h.name (Let h.budget h.question) seen_there in (sound.0, sound.1)

  -- the question has an ideal as its answer,
  pub let_answers : answers_ideal h.question ≡ true
  let_answers = (sound_at env place K.values h.name (Let h.budget h.question) seen_there).2

  -- and each of its names stands at an earlier place.
  pub let_earlier : All (λ j. j < place) (places_in h.question)
  let_earlier = places_below env.p (take place (seen_values env.values)) place (let long = length-take place (seen_values env.values) in omega (arith, long)) h.question earlier

  pub question_in : (q : Question) → h.question ≡ q → IsSoundQuestion env.p (seen_values env.values) q
  question_in q is =
      subst (IsSoundQuestion env.p (seen_values env.values)) is
      (subst (λ vs. IsSoundQuestion env.p vs h.question) (take-append-drop place (seen_values env.values)) (with_later env.p h.question (take place (seen_values env.values)) (drop place (seen_values env.values)) earlier))

  pub let_prime : Contains primes env.p
  let_prime = K.prime

  -- What the names and the numbers of its question are.
  pub let_basis : (j : ℕ) → h.question ≡ questions.Basis j → IsIdealAt env j
  let_basis j is = ideal_at env j K.values h.session (question_in (questions.Basis j) is)

  pub let_sum : (j k : ℕ) → h.question ≡ questions.Sum j k → IsIdealAt env j × IsIdealAt env k
  let_sum j k is = both_at env j k K.values h.session (question_in (questions.Sum j k) is)

  pub let_product : (j k : ℕ) → h.question ≡ questions.Product j k → IsIdealAt env j × IsIdealAt env k
  let_product j k is = both_at env j k K.values h.session (question_in (questions.Product j k) is)

  pub let_meet : (j k : ℕ) → h.question ≡ questions.Meet j k → IsIdealAt env j × IsIdealAt env k
  let_meet j k is = both_at env j k K.values h.session (question_in (questions.Meet j k) is)

  pub let_colon : (j k : ℕ) → h.question ≡ questions.Colon j k → IsIdealAt env j × IsIdealAt env k
  let_colon j k is = both_at env j k K.values h.session (question_in (questions.Colon j k) is)

  pub let_power : (e j : ℕ) → h.question ≡ questions.Power e j → (e ≤ 12) × IsIdealAt env j
  let_power e j is = small_at env e j K.values h.session (question_in (questions.Power e j) is)

  pub let_root : (e j : ℕ) → h.question ≡ questions.Root e j → (e ≤ 12) × IsIdealAt env j
  let_root e j is = small_at env e j K.values h.session (question_in (questions.Root e j) is)

  pub let_test : (f : ℕ) (t : Fraction) → h.question ≡ questions.Test f t → IsNonconstantAt env f × IsExponent false t
  let_test f t is = let q = question_in (questions.Test f t) is in (nonconstant_at env f K.values K.prime q.0, q.1)

  pub let_left : (f : ℕ) (t : Fraction) → h.question ≡ questions.Left f t → IsNonconstantAt env f × IsExponent true t
  let_left f t is = let q = question_in (questions.Left f t) is in (nonconstant_at env f K.values K.prime q.0, q.1)

  pub let_split : (j : ℕ) → h.question ≡ questions.Split j → IsIdealAt env j
  let_split j is = ideal_at env j K.values h.session (question_in (questions.Split j) is)
