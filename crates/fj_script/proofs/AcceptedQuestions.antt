-- Questions that are read: the arguments of each are of the kinds and within the limits that it takes.
use Rattle.std.proofs.Common.{◌≡◌, ℕ, ◌≤◌, Bool, true, false, cond, List, Option, Some, None, Ok, Err, refl, sym, ap, ◌∙◌}
use Rattle.std.specs.List.{slice_get}
use Rattle.std.specs.Option.{option_and_then, option_map, option_map_or}
use Rattle.std.proofs.lemmas.Option.{none-some, same_Some}
use Rattle.fj_theory.specs.Fraction.{Fraction}
use Rattle.fj_text.specs.State.{State, next}
use Rattle.fj_text.specs.Token.{Token}
use Rattle.fj_text.specs.Word.{place_of}
use Rattle.fj_script.specs.declared.ask.Ask.{Ask}
use Rattle.fj_script.specs.declared.ask.Ask.TheVariants as asks
use Rattle.fj_script.specs.declared.ask.OneIdeal.{OneIdeal}
use Rattle.fj_script.specs.declared.ask.OneIdeal.TheVariants as ones
use Rattle.fj_script.specs.declared.ask.TwoIdeals.{TwoIdeals}
use Rattle.fj_script.specs.declared.ask.TwoIdeals.TheVariants as twos
use Rattle.fj_script.specs.declared.ask.Frobenius.{Frobenius}
use Rattle.fj_script.specs.declared.ask.Frobenius.TheVariants as frobenius
use Rattle.fj_script.specs.declared.ask.TestIdeal.{TestIdeal}
use Rattle.fj_script.specs.declared.ask.TestIdeal.TheVariants as tests
use Rattle.fj_script.specs.declared.fault.FaultKind.{FaultKind}
use Rattle.fj_script.specs.declared.fault.LineFault.{LineFault}
use Rattle.fj_script.specs.declared.question.Question.{Question}
use Rattle.fj_script.specs.declared.question.Question.TheVariants as questions
use Rattle.fj_script.specs.declared.value.Kind.{Kind}
use Rattle.fj_script.specs.declared.value.Kind.TheVariants as kinds
use Rattle.fj_script.specs.Items.{word, word_of}
use Rattle.fj_script.specs.LineFault.{Answer, ◌>>=◌, fault_at}
use Rattle.fj_script.specs.Names as names
use Rattle.fj_script.specs.Numbers.{exponent, level, ratio}
use Rattle.fj_script.specs.Question as question
use Rattle.fj_script.specs.Question.{Target}
use Rattle.fj_script.specs.Session.{Session, Value, kind}
use Rattle.fj_script.proofs.AcceptedArguments.{IsExponent, IsLevel, IsSoundQuestion, Names, NamesIdeal, NamesNonconstant, NamesPoint, NamesPoly}
use Rattle.fj_script.proofs.AcceptedNumbers.{exponent_limits, level_limits, ratio_limits}
use Rattle.fj_script.proofs.AcceptedYields.{Yields, Anything, yields_anything, yields_both, yields_option, yields_then}

-- The word of a question that has an ideal as its answer is the word of a question.
pub ideal_ask : (w : List ℕ) (a : Ask) → question.ideal_ask_of w ≡ Some a → (question.ask_of w ≡ Some a) × (question.asks_ideal a ≡ true)
unfolding question.ideal_ask_of
ideal_ask w a = by (question.ask_of w)
  where
    at : (b : Ask) (c : Bool) → question.asks_ideal b ≡ c → cond c (Some b) None ≡ Some a → (Some b ≡ Some a) × (question.asks_ideal a ≡ true)
    at b true is e = (e, ap question.asks_ideal (sym (same_Some b a e)) ∙ is)
    at b false is e = absurd (none-some _ e)

    by : (o : Option Ask) → option_and_then (λ b. cond (question.asks_ideal b) (Some b) None) o ≡ Some a → (o ≡ Some a) × (question.asks_ideal a ≡ true)
    by None e = absurd (none-some _ e)
    by (Some b) e = at b (question.asks_ideal b) refl e

module _ (S : Session) where
  -- A declared name has the kind of its value.
  abbrev HasKind : ℕ × Kind → Type 0
  HasKind v = (x : List ℕ × Value) × (slice_get S.values v.0 ≡ Some x) × (kind x.1 ≡ v.1)

  abbrev IsDeclared : (ℕ × Kind) × State → Type 0
  IsDeclared v = HasKind v.0

  declared_as_found : (w : List ℕ) (v : ℕ × Kind) → names.declared_as S w ≡ Some v → HasKind v
  unfolding names.declared_as
  declared_as_found w v h = by (place_of (names.declared_names S.values) w) h
    where
      at : (i : ℕ) (o : Option (List ℕ × Value)) → slice_get S.values i ≡ o → option_map (λ x. (i, kind x.1)) o ≡ Some v → HasKind v
      at i None e h = absurd (none-some _ h)
      at i (Some x) e h = let same = same_Some _ _ h in (x, ap (λ u. slice_get S.values u.0) (sym same) ∙ e, ap (λ u. u.1) same)

      by : (o : Option ℕ) → option_and_then (λ i. option_map (λ x. (i, kind x.1)) (slice_get S.values i)) o ≡ Some v → HasKind v
      by None h = absurd (none-some _ h)
      by (Some i) h = at i (slice_get S.values i) refl h

  declared_by_found : (t : Token) (s : State) → Yields IsDeclared (names.declared_by S t s)
  unfolding names.declared_by
  declared_by_found t s =
      yields_then Anything IsDeclared (word_of t s) _ (yields_anything _)
      (λ w _. yields_option IsDeclared (names.declared_as S w.0) _ _ (λ v e. declared_as_found w.0 v e) tt)

  declared_found : (s : State) → Yields IsDeclared (names.declared S s)
  unfolding names.declared
  declared_found s = yields_option IsDeclared (next s) _ _ (λ t _. declared_by_found t.0 t.1) tt

  of_kind_found : (taken : Kind → Option FaultKind) (v : (ℕ × Kind) × State) → IsDeclared v → Yields (λ f. Names taken S.values f.0) (names.of_kind taken v)
  of_kind_found taken v h = by (taken v.0.1) refl
    where
      by : (o : Option FaultKind) → taken v.0.1 ≡ o → Yields {A = ℕ × State} {E = LineFault} (λ f. Names taken S.values f.0) (option_map_or (λ fault. Err (fault_at fault v.1)) o (Ok (v.0.0, v.1)))
      by (Some fault) e = tt
      by None e = record { name = h.0.0; value = h.0.1; is = h.1; fits = ap taken h.2 ∙ e }

  -- Names of the kinds that places take.
  abbrev IsPoly : ℕ × State → Type 0
  IsPoly f = NamesPoly S.values f.0

  abbrev IsNonconstant : ℕ × State → Type 0
  IsNonconstant f = NamesNonconstant S.values f.0

  abbrev IsIdeal : ℕ × State → Type 0
  IsIdeal j = NamesIdeal S.values j.0

  abbrev IsPoint : ℕ × State → Type 0
  IsPoint at = NamesPoint S.values at.0

  polynomial_found : (s : State) → Yields IsPoly (names.polynomial S s)
  unfolding names.polynomial
  polynomial_found s = yields_then IsDeclared IsPoly (names.declared S s) _ (declared_found s) (of_kind_found names.as_polynomial)

  nonconstant_found : (s : State) → Yields IsNonconstant (names.nonconstant S s)
  unfolding names.nonconstant
  nonconstant_found s = yields_then IsDeclared IsNonconstant (names.declared S s) _ (declared_found s) (of_kind_found names.as_nonconstant)

  ideal_found : (s : State) → Yields IsIdeal (names.ideal S s)
  unfolding names.ideal
  ideal_found s = yields_then IsDeclared IsIdeal (names.declared S s) _ (declared_found s) (of_kind_found names.as_ideal)

  point_found : (t : Token) (s : State) → Yields IsPoint (names.point_by S t s)
  unfolding names.point_by
  point_found t s = yields_then IsDeclared IsPoint (names.declared_by S t s) _ (declared_by_found t s) (of_kind_found names.as_point)

  -- An ideal or a point, by its place.
  abbrev IsTarget : Target → Type 0
  IsTarget (question.Ideal j) = NamesIdeal S.values j
  IsTarget (question.Point at) = NamesPoint S.values at

  target_found : (s : State) → Yields (λ x. IsTarget x.0) (question.target_at S s)
  unfolding question.target_at
  target_found s = yields_then IsDeclared (λ x. IsTarget x.0) (names.declared S s) question.target_of (declared_found s) by
    where
      by : (v : (ℕ × Kind) × State) → IsDeclared v → Yields (λ x. IsTarget x.0) (question.target_of v)
      by ((i, kinds.Ideal), s) h = record { name = h.0.0; value = h.0.1; is = h.1; fits = ap names.as_ideal h.2 }
      by ((i, kinds.Point), s) h = record { name = h.0.0; value = h.0.1; is = h.1; fits = ap names.as_point h.2 }
      by ((i, kinds.Nonconstant), s) h = tt
      by ((i, kinds.Constant), s) h = tt

  abbrev Sound : Question × State → Type 0
  Sound q = IsSoundQuestion S.prime S.values q.0

  -- Questions of two and of three arguments.
  two : {A B : Type 0} (P : A → Type 0) (Q : B → Type 0) (first : Answer A) (second : A × State → Answer B) (q : A → B → Question) → Yields (λ a. P a.0) first
      → ((a : A × State) → Yields (λ b. Q b.0) (second a)) → ((a : A) (b : B) → P a → Q b → IsSoundQuestion S.prime S.values (q a b)) → Yields Sound (first >>= λ a. second a >>= λ b. Ok (q a.0 b.0, b.1))
  two P Q first second q h k sound = yields_then (λ a. P a.0) Sound first _ h (λ a ha. yields_then (λ b. Q b.0) Sound (second a) _ (k a) (λ b hb. sound a.0 b.0 ha hb))

  three : {A B C : Type 0} (P : A → Type 0) (Q : B → Type 0) (R : C → Type 0) (first : Answer A) (second : A × State → Answer B) (third : B × State → Answer C) (q : A → B → C → Question)
      → Yields (λ a. P a.0) first → ((a : A × State) → Yields (λ b. Q b.0) (second a)) → ((b : B × State) → Yields (λ c. R c.0) (third b))
      → ((a : A) (b : B) (c : C) → P a → Q b → R c → IsSoundQuestion S.prime S.values (q a b c)) → Yields Sound (first >>= λ a. second a >>= λ b. third b >>= λ c. Ok (q a.0 b.0 c.0, c.1))
  three P Q R first second third q h k l sound =
      yields_then (λ a. P a.0) Sound first _ h
      (λ a ha. yields_then (λ b. Q b.0) Sound (second a) _ (k a) (λ b hb. yields_then (λ c. R c.0) Sound (third b) _ (l b) (λ c hc. sound a.0 b.0 c.0 ha hb hc)))

  one_ideal : (which : OneIdeal) (s : State) → Yields Sound (question.of_ideal which S s)
  unfolding question.of_ideal
  one_ideal which s = yields_then IsIdeal Sound (names.ideal S s) _ (ideal_found s) (λ j. by which j.0)
    where
      by : (which : OneIdeal) (j : ℕ) → NamesIdeal S.values j → IsSoundQuestion S.prime S.values (question.about_ideal which j)
      by ones.Basis j h = h
      by ones.Split j h = h

  two_ideals : (which : TwoIdeals) (s : State) → Yields Sound (question.of_two_ideals which S s)
  unfolding question.of_two_ideals
  two_ideals which s = two (NamesIdeal S.values) (NamesIdeal S.values) (names.ideal S s) (λ j. names.ideal S j.1) (question.about_two_ideals which) (ideal_found s) (λ j. ideal_found j.1) (by which)
    where
      by : (which : TwoIdeals) (j k : ℕ) → NamesIdeal S.values j → NamesIdeal S.values k → IsSoundQuestion S.prime S.values (question.about_two_ideals which j k)
      by twos.Same j k h l = (h, l)
      by twos.Sum j k h l = (h, l)
      by twos.Product j k h l = (h, l)
      by twos.Meet j k h l = (h, l)
      by twos.Colon j k h l = (h, l)

  frobenius_sound : (which : Frobenius) (s : State) → Yields Sound (question.of_frobenius which S s)
  unfolding question.of_frobenius
  frobenius_sound which s = two (λ e. e ≤ 12) (NamesIdeal S.values) (exponent s) (λ e. names.ideal S e.1) (question.about_frobenius which) (exponent_limits s) (λ e. ideal_found e.1) (by which)
    where
      by : (which : Frobenius) (e j : ℕ) → e ≤ 12 → NamesIdeal S.values j → IsSoundQuestion S.prime S.values (question.about_frobenius which e j)
      by frobenius.Power e j small h = (small, h)
      by frobenius.Root e j small h = (small, h)

  test_sound : (which : TestIdeal) (s : State) → Yields Sound (question.of_test_ideal which S s)
  unfolding question.of_test_ideal
  test_sound which s =
      two (NamesNonconstant S.values) (IsExponent (question.is_above_zero which)) (names.nonconstant S s) (λ f. ratio (question.is_above_zero which) f.1) (question.about_test_ideal which) (nonconstant_found s)
      (λ f. ratio_limits (question.is_above_zero which) f.1) (by which)
    where
      by : (which : TestIdeal) (f : ℕ) (t : Fraction) → NamesNonconstant S.values f → IsExponent (question.is_above_zero which) t → IsSoundQuestion S.prime S.values (question.about_test_ideal which f t)
      by tests.Test f t h k = (h, k)
      by tests.Left f t h k = (h, k)
      by tests.IsJump f t h k = (h, k)
      by tests.Regular f t h k = (h, k)

  threshold_sound : (s : State) → Yields Sound (question.threshold S s)
  unfolding question.threshold
  threshold_sound s =
      three (NamesNonconstant S.values) IsTarget (IsLevel S.prime) (names.nonconstant S s) (λ f. question.target_at S f.1) (λ x. level S.prime x.1) question.threshold_of (nonconstant_found s)
      (λ f. target_found f.1) (λ x. level_limits S.prime x.1) by
    where
      by : (f : ℕ) (x : Target) (e : ℕ) → NamesNonconstant S.values f → IsTarget x → IsLevel S.prime e → IsSoundQuestion S.prime S.values (question.threshold_of f x e)
      by f (question.Ideal j) e h k l = (h, k, l)
      by f (question.Point at) e h k l = (h, k, l)

  pure_sound : (s : State) → Yields Sound (question.pure S s)
  unfolding question.pure
  pure_sound s =
      yields_then IsIdeal Sound (names.ideal S s) _ (ideal_found s)
      (λ j h. yields_option Sound (next j.1) _ _ (λ t _. yields_then IsPoint Sound (names.point_by S t.0 t.1) _ (point_found t.0 t.1) (λ at k. (h, k))) h)

  arguments_sound : (a : Ask) (s : State) → Yields Sound (question.arguments a S s)
  unfolding question.arguments question.parts question.member question.jumps question.nu question.compatible
  arguments_sound asks.Parts s = two (λ e. e ≤ 12) (NamesPoly S.values) (exponent s) (λ e. names.polynomial S e.1) (λ e f. questions.Parts e f) (exponent_limits s) (λ e. polynomial_found e.1) (λ e f small h. (small, h))
  arguments_sound asks.Member s = two (NamesPoly S.values) (NamesIdeal S.values) (names.polynomial S s) (λ f. names.ideal S f.1) (λ f j. questions.Member f j) (polynomial_found s) (λ f. ideal_found f.1) (λ f j h k. (h, k))
  arguments_sound (asks.OneIdeal which) s = one_ideal which s
  arguments_sound (asks.TwoIdeals which) s = two_ideals which s
  arguments_sound (asks.Frobenius which) s = frobenius_sound which s
  arguments_sound (asks.TestIdeal which) s = test_sound which s
  arguments_sound asks.Jumps s =
      two (NamesNonconstant S.values) (IsLevel S.prime) (names.nonconstant S s) (λ f. level S.prime f.1) (λ f e. questions.Jumps f e) (nonconstant_found s) (λ f. level_limits S.prime f.1) (λ f e h k. (h, k))
  arguments_sound asks.Nu s =
      three (λ e. e ≤ 12) (NamesNonconstant S.values) (NamesIdeal S.values) (exponent s) (λ e. names.nonconstant S e.1) (λ f. names.ideal S f.1) (λ e f j. questions.Nu e f j) (exponent_limits s)
      (λ e. nonconstant_found e.1) (λ f. ideal_found f.1) (λ e f j small h k. (small, h, k))
  arguments_sound asks.Threshold s = threshold_sound s
  arguments_sound asks.Pure s = pure_sound s
  arguments_sound asks.Compatible s =
      three (λ e. e ≤ 12) (NamesPoly S.values) (NamesIdeal S.values) (exponent s) (λ e. names.polynomial S e.1) (λ u. names.ideal S u.1) (λ e u j. questions.Compatible e u j) (exponent_limits s)
      (λ e. polynomial_found e.1) (λ u. ideal_found u.1) (λ e u j small h k. (small, h, k))

  pub question_sound : (s : State) → Yields Sound (question.question_at S s)
  unfolding question.question_at question.question_by
  question_sound s =
      yields_then Anything Sound (word s) _ (yields_anything _)
      (λ w _. yields_option Sound (question.ask_of w.0) _ _ (λ a _. arguments_sound a w.1) tt)

  -- ---- questions that have an ideal as their answer

  abbrev Answers : Question × State → Type 0
  Answers q = question.answers_ideal q.0 ≡ true

  one_answers : (which : OneIdeal) (s : State) → Yields Answers (question.of_ideal which S s)
  unfolding question.of_ideal
  one_answers which s = yields_then Anything Answers (names.ideal S s) _ (yields_anything _) (λ j _. by which j.0)
    where
      by : (which : OneIdeal) (j : ℕ) → question.answers_ideal (question.about_ideal which j) ≡ true
      by ones.Basis j = refl
      by ones.Split j = refl

  two_answer : (which : TwoIdeals) → question.asks_ideal (asks.TwoIdeals which) ≡ true → (s : State) → Yields Answers (question.of_two_ideals which S s)
  unfolding question.of_two_ideals
  two_answer which e s = yields_then Anything Answers (names.ideal S s) _ (yields_anything _) (λ j _. yields_then Anything Answers (names.ideal S j.1) _ (yields_anything _) (λ k _. by which e j.0 k.0))
    where
      by : (which : TwoIdeals) → question.asks_ideal (asks.TwoIdeals which) ≡ true → (j k : ℕ) → question.answers_ideal (question.about_two_ideals which j k) ≡ true
      by twos.Same e j k = absurd cc
      by twos.Sum e j k = refl
      by twos.Product e j k = refl
      by twos.Meet e j k = refl
      by twos.Colon e j k = refl

  frobenius_answers : (which : Frobenius) (s : State) → Yields Answers (question.of_frobenius which S s)
  unfolding question.of_frobenius
  frobenius_answers which s = yields_then Anything Answers (exponent s) _ (yields_anything _) (λ e _. yields_then Anything Answers (names.ideal S e.1) _ (yields_anything _) (λ j _. by which e.0 j.0))
    where
      by : (which : Frobenius) (e j : ℕ) → question.answers_ideal (question.about_frobenius which e j) ≡ true
      by frobenius.Power e j = refl
      by frobenius.Root e j = refl

  test_answers : (which : TestIdeal) → question.asks_ideal (asks.TestIdeal which) ≡ true → (s : State) → Yields Answers (question.of_test_ideal which S s)
  unfolding question.of_test_ideal
  test_answers which e s =
      yields_then Anything Answers (names.nonconstant S s) _ (yields_anything _)
      (λ f _. yields_then Anything Answers (ratio (question.is_above_zero which) f.1) _ (yields_anything _) (λ t _. by which e f.0 t.0))
    where
      by : (which : TestIdeal) → question.asks_ideal (asks.TestIdeal which) ≡ true → (f : ℕ) (t : Fraction) → question.answers_ideal (question.about_test_ideal which f t) ≡ true
      by tests.Test e f t = refl
      by tests.Left e f t = refl
      by tests.IsJump e f t = absurd cc
      by tests.Regular e f t = absurd cc

  pub arguments_answer : (a : Ask) → question.asks_ideal a ≡ true → (s : State) → Yields Answers (question.arguments a S s)
  unfolding question.arguments
  arguments_answer (asks.OneIdeal which) e s = one_answers which s
  arguments_answer (asks.TwoIdeals which) e s = two_answer which e s
  arguments_answer (asks.Frobenius which) e s = frobenius_answers which s
  arguments_answer (asks.TestIdeal which) e s = test_answers which e s
  arguments_answer asks.Parts e s = absurd cc
  arguments_answer asks.Member e s = absurd cc
  arguments_answer asks.Jumps e s = absurd cc
  arguments_answer asks.Nu e s = absurd cc
  arguments_answer asks.Threshold e s = absurd cc
  arguments_answer asks.Pure e s = absurd cc
  arguments_answer asks.Compatible e s = absurd cc

  pub ideal_question_sound : (s : State) → Yields (λ q. IsSoundQuestion S.prime S.values q.0 × (question.answers_ideal q.0 ≡ true)) (question.ideal_question_at S s)
  unfolding question.ideal_question_at question.question_by
  ideal_question_sound s =
      let Both : Question × State → Type 0 = λ q. IsSoundQuestion S.prime S.values q.0 × (question.answers_ideal q.0 ≡ true) in
      yields_then Anything Both (word s) _ (yields_anything _)
      (λ w _. yields_option Both (question.ideal_ask_of w.0) _ _ (λ a e. yields_both Sound Answers (question.arguments a S w.1) (arguments_sound a w.1) (arguments_answer a (ideal_ask w.0 a e).1 w.1)) tt)
