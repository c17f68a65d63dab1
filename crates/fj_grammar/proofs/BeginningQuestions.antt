-- What was read of a question before a fault can go on.
use Rattle.std.proofs.Common.{◌≡◌, ℕ, zero, suc, ◌+◌, ◌^◌, ◌<◌, Bool, true, false, cond, List, [], ◌∷◌, ◌++◌, length, codes, Contains, Option, Some, None, Ok, Err, refl, sym, ap, ◌∙◌, subst, arith, append_assoc, inr}
use Rattle.std.specs.Option.{option_map_or}
use Rattle.fj_coeff.specs.Field.{primes}
use Rattle.fj_theory.specs.Fraction.{Fraction}
use Rattle.fj_text.specs.State.{State, after, after_sign, next}
use Rattle.fj_text.specs.Token.{Token, Word, Number, Sign, Placed}
use Rattle.fj_grammar.specs.Beginning as beginning
use Rattle.fj_script.specs.declared.ask.Ask.{Ask}
use Rattle.fj_script.specs.declared.ask.Ask.TheVariants as asks
use Rattle.fj_script.specs.declared.ask.OneIdeal.TheVariants as ones
use Rattle.fj_script.specs.declared.ask.TwoIdeals.TheVariants as twos
use Rattle.fj_script.specs.declared.ask.Frobenius.TheVariants as frobenius
use Rattle.fj_script.specs.declared.ask.TestIdeal.{TestIdeal}
use Rattle.fj_script.specs.declared.ask.TestIdeal.TheVariants as tests
use Rattle.fj_script.specs.declared.fault.FaultKind.TheVariants as kinds
use Rattle.fj_script.specs.declared.question.Question.{Question}
use Rattle.fj_script.specs.declared.question.Question.TheVariants as questions
use Rattle.fj_grammar.specs.Grammar as grammar
use Rattle.fj_grammar.specs.Grammar.{IsExponent, IsLevel, IsQuestion, IsRatio, NamesIdeal, NamesNonconstant, NamesPoint}
use Rattle.fj_script.specs.Items.{narrow, slash}
use Rattle.fj_script.specs.LineFault.{Answer, ◌>>=◌, fault_at}
use Rattle.fj_script.specs.Names as names
use Rattle.fj_script.specs.Numbers as numbers
use Rattle.fj_script.specs.Question as question
use Rattle.fj_script.specs.Question.{Target}
use Rattle.fj_script.specs.Session.{Session}
use Rattle.fj_script.proofs.AcceptedYields.{Yields}
use Rattle.fj_grammar.proofs.Beginnings.{Numbers, Reached, Reading, Sayings, SoFar, Words, WrongNumber, behind, init_is, last_is, late, number_first, number_narrow, numbers_at, read, sign_reached, stuck, taken, then_reading, toks}
use Rattle.fj_grammar.proofs.BeginningLines.{Asks, MayStand, TargetIn, argument_next, ask_goes, ask_with, asks_one, asks_three, asks_two, behind_lines, exponent_argument, ideal_argument, ideal_reading, level_argument, narrow_reading, nonconstant_argument, nonconstant_reading, point_by_reading, polynomial_argument, target_argument, word_reading, words_behind}
use Rattle.fj_grammar.proofs.Continuations.{fresh, longest, nothing_ratio, one_above, one_ratio, some_ideal, some_nonconstant, some_point, whole_ratio, wide, wide_ideal, wide_nonconstant, zero_ratio}
use Rattle.fj_grammar.proofs.ExpressionEnds.{IsNarrow}
use Rattle.fj_grammar.proofs.GrammarPieces.{Taken, ratio_of_takes}
use Rattle.fj_grammar.proofs.GrammarSound.{ask_is, ask_word}

-- ---- fractions

module _ (s0 : State) (V : Sayings) where
  ratio_of_reading : (positive : Bool) (m n : ℕ) → m < 2 ^ 32 → n < 2 ^ 32 → (ts us : List Token) (u : State) (H : SoFar s0 V (ts ++ us) u) → (Numbers s0 V (toks H.reached.init) × WrongNumber s0 V kinds.Range (toks H.reached.init) (H.reached.last.token ∷ toks u.left)) × IsNarrow H.reached.last.token
      → Reading s0 V (λ e. e) (λ t vs. (vs ≡ us) × Taken positive m n t) ts (numbers.ratio_of positive m n u)
  unfolding numbers.ratio_of
  ratio_of_reading positive m n few fewer ts us u H k = by (numbers.lowest m n) (ratio_of_takes positive m n u few fewer)
    where
      Q : Fraction → List Token → Type 0
      Q t vs = (vs ≡ us) × Taken positive m n t

      at : (t : Fraction) (b : Bool) → Yields (λ (x : Fraction × State). Taken positive m n x.0 × (x.1 ≡ u)) (cond {A = Answer Fraction} b (Ok (t, u)) (Err (fault_at kinds.Range u))) → Reading s0 V (λ e. e) Q ts (cond b (Ok (t, u)) (Err (fault_at kinds.Range u)))
      at t true h = read us (refl, h.0) H
      at t false h = stuck (late s0 V H k)

      by : (o : Option Fraction) → Yields (λ (x : Fraction × State). Taken positive m n x.0 × (x.1 ≡ u)) (option_map_or {U = Answer Fraction} (λ t. cond (numbers.is_exponent positive t) (Ok (t, u)) (Err (fault_at kinds.Range u))) o (Err (fault_at kinds.Range u)))
          → Reading s0 V (λ e. e) Q ts (option_map_or (λ t. cond (numbers.is_exponent positive t) (Ok (t, u)) (Err (fault_at kinds.Range u))) o (Err (fault_at kinds.Range u)))
      by None h = stuck (late s0 V H k)
      by (Some t) h = at t (numbers.is_exponent positive t) h

  pub ratio_reading : (positive : Bool) (ws : List Token) (t : State) → Reached s0 ws t → V.Goes ws → Numbers s0 V ws → ((m : ℕ) → m < 2 ^ 32 → V.Goes (ws ++ Number m ∷ Sign slash ∷ []) × Numbers s0 V (ws ++ Number m ∷ Sign slash ∷ []))
      → Reading s0 V (λ e. e) (λ t us. IsRatio us t × (positive ≡ true → 0 < t.numerator)) ws (numbers.ratio positive t)
  unfolding numbers.ratio
  ratio_reading positive ws t H v k goes = then_reading s0 V (λ e. e) _ (narrow_reading s0 V ws t H v k) (λ m us u h Hu. by m us u h Hu (after_sign slash u) refl)
    where
      Goal : Fraction → List Token → Type 0
      Goal t us = IsRatio us t × (positive ≡ true → 0 < t.numerator)

      -- the last number of a fraction
      last_of : (m n : ℕ) (vs : List Token) (y : State) → vs ≡ Number m ∷ Sign slash ∷ Number n ∷ [] → n < 2 ^ 32 → (Hy : SoFar s0 V (ws ++ vs) y) → Numbers s0 V (ws ++ Number m ∷ Sign slash ∷ []) → (Numbers s0 V (toks Hy.reached.init) × WrongNumber s0 V kinds.Range (toks Hy.reached.init) (Hy.reached.last.token ∷ toks y.left)) × IsNarrow Hy.reached.last.token
      last_of m n vs y e few Hy k =
          let front : List Token = Number m ∷ Sign slash ∷ [] in
          ((subst (Numbers s0 V) (init_is s0 V ws vs front (Number n) Hy e) k, number_first s0 V kinds.Range ws vs front n Hy e (V.narrow k.0 (ws ++ front) n few)), subst IsNarrow (last_is s0 V ws vs front (Number n) Hy e) few)

      whole : (m : ℕ) (us : List Token) → us ≡ Number m ∷ [] → (r : Answer Fraction) → Reading s0 V (λ e. e) (λ t vs. (vs ≡ us) × Taken positive m 1 t) ws r → Reading s0 V (λ e. e) Goal ws r
      whole m us e r (read {x = x} vs h K) = read vs (subst (λ ts. IsRatio ts x) (sym (h.0 ∙ e)) (grammar.whole h.1.0), h.1.1) K
      whole m us e r (stuck K) = stuck K

      over : (m n : ℕ) (vs : List Token) → vs ≡ Number m ∷ Sign slash ∷ Number n ∷ [] → (r : Answer Fraction) → Reading s0 V (λ e. e) (λ t xs. (xs ≡ vs) × Taken positive m n t) ws r → Reading s0 V (λ e. e) Goal ws r
      over m n vs e r (read {x = x} xs h K) = read xs (subst (λ ts. IsRatio ts x) (sym (h.0 ∙ e)) (grammar.quotient h.1.0), h.1.1) K
      over m n vs e r (stuck K) = stuck K

      by : (m : ℕ) (us : List Token) (u : State) → (us ≡ Number m ∷ []) × (m < 2 ^ 32) → SoFar s0 V (ws ++ us) u → (o : Option State) → after_sign slash u ≡ o
          → Reading s0 V (λ e. e) Goal ws (option_map_or (λ t. narrow t >>= λ n. numbers.ratio_of positive m n.0 n.1) o (numbers.ratio_of positive m 1 u))
      by m us u h Hu None e = whole m us h.0 _ (ratio_of_reading positive m 1 h.1 (omega arith) ws us u Hu (numbers_at s0 V kinds.Range Hu h.0 k (V.narrow k.0 ws m h.1), number_narrow s0 V ws Hu h.0 h.1))
      by m us u h Hu (Some x) e =
          let slashed = sign_reached s0 slash u x Hu.reached e in
          let here : (ws ++ us) ++ Sign slash ∷ [] ≡ ws ++ Number m ∷ Sign slash ∷ [] = append_assoc ws us (Sign slash ∷ []) ∙ ap (λ vs. ws ++ (vs ++ Sign slash ∷ [])) h.0 in
          let read_n = narrow_reading s0 V (ws ++ Number m ∷ Sign slash ∷ []) x (subst (λ vs. Reached s0 vs x) here slashed) (goes m h.1).0 (goes m h.1).1 in
          then_reading s0 V (λ e. e) _
          (behind s0 V (λ e. e) {R = λ n vs. (vs ≡ Number m ∷ Sign slash ∷ Number n ∷ []) × (n < 2 ^ 32)} ws (Number m ∷ Sign slash ∷ []) (narrow x) read_n (λ n vs l. (ap (λ xs. Number m ∷ Sign slash ∷ xs) l.0, l.1)))
          (λ n vs y l Hy. over m n vs l.0 _ (ratio_of_reading positive m n h.1 l.1 ws vs y Hy (last_of m n vs y l.0 l.1 Hy (goes m h.1).1)))

-- ---- questions

module _ (s0 : State) (S : Session) (known : Contains primes S.prime) where
  test_reading : (which : TestIdeal) (t : State) → SoFar s0 (behind_lines (Some S)) (Word (codes "ask") ∷ Word (ask_word (asks.TestIdeal which)) ∷ []) t
      → Reading s0 (behind_lines (Some S)) (λ e. e) (Asks s0 S known (ask_word (asks.TestIdeal which))) (Word (codes "ask") ∷ Word (ask_word (asks.TestIdeal which)) ∷ []) (question.of_test_ideal which S t)
  unfolding question.of_test_ideal ask_word nonconstant_argument
  test_reading which t H =
      let named = argument_next s0 S known (nonconstant_argument s0 S known) (Word (ask_word (asks.TestIdeal which)) ∷ [])
      (λ n. (Number 1 ∷ [], _, wide_test which n (fresh (n + 1)) (length S.values + 0) (some_nonconstant S n) (Number 1 ∷ []) one_ratio (grammar.whole (whole_ratio 1 (omega arith) (omega arith))) (λ _. one_above))) in
      then_reading s0 (behind_lines (Some S)) (λ e. e) _ (nonconstant_reading s0 (behind_lines (Some S)) S (words_behind s0 S) (Word (codes "ask") ∷ Word (ask_word (asks.TestIdeal which)) ∷ []) t H.reached named.0 named.1)
      (λ f us u h Hu. let w = h.2.0 in
      let is : us ≡ Word w ∷ [] = h.1 ∙ ap (λ tok. tok ∷ []) h.2.1 in
      let Hw = subst (λ ws. SoFar s0 (behind_lines (Some S)) (Word (codes "ask") ∷ Word (ask_word (asks.TestIdeal which)) ∷ ws) u) is Hu in
      let one = one_next w f h.2.2 in
      let ratio = ratio_reading s0 (behind_lines (Some S)) (question.is_above_zero which) (Word (codes "ask") ∷ Word (ask_word (asks.TestIdeal which)) ∷ Word w ∷ []) u Hw.reached one.0 one.1 (slashed which w f h.2.2) in
      then_reading s0 (behind_lines (Some S)) (λ e. e) _
      (behind s0 (behind_lines (Some S)) (λ e. e) {R = λ x ws. (vs : List Token) × (ws ≡ Word w ∷ vs) × (IsRatio vs x × (question.is_above_zero which ≡ true → 0 < x.numerator))} (Word (codes "ask") ∷ Word (ask_word (asks.TestIdeal which)) ∷ []) (Word w ∷ []) _ ratio (λ x vs k. (vs, refl, k)))
      (λ x ws y k Hy. read ws (subst (λ vs. Asks s0 S known (ask_word (asks.TestIdeal which)) (question.about_test_ideal which f x) vs) (sym k.1) (here_test which w f h.2.2 k.0 x k.2.0 k.2.1)) Hy))
    where
      here_test : (which : TestIdeal) (w : List ℕ) (f : ℕ) → NamesNonconstant S w f → (ts : List Token) (t : Fraction) → IsRatio ts t → (question.is_above_zero which ≡ true → 0 < t.numerator) → IsQuestion S (Word (ask_word (asks.TestIdeal which)) ∷ Word w ∷ ts) (question.about_test_ideal which f t)
      here_test tests.Test w f h ts t k above = grammar.test h k
      here_test tests.Left w f h ts t k above = grammar.left h k (above refl)
      here_test tests.IsJump w f h ts t k above = grammar.isjump h k (above refl)
      here_test tests.Regular w f h ts t k above = grammar.regular h k

      wide_test : (which : TestIdeal) (n : ℕ) (w : List ℕ) (f : ℕ) → NamesNonconstant (wide S n) w f → (ts : List Token) (t : Fraction) → IsRatio ts t → (question.is_above_zero which ≡ true → 0 < t.numerator)
          → IsQuestion (wide S n) (Word (ask_word (asks.TestIdeal which)) ∷ Word w ∷ ts) (question.about_test_ideal which f t)
      wide_test tests.Test n w f h ts t k above = grammar.test h k
      wide_test tests.Left n w f h ts t k above = grammar.left h k (above refl)
      wide_test tests.IsJump n w f h ts t k above = grammar.isjump h k (above refl)
      wide_test tests.Regular n w f h ts t k above = grammar.regular h k

      -- Tokens that go on with a number, and so to a question.
      number_next : (ts : List Token) (m : ℕ) → ((n : ℕ) → (q : Question) × IsQuestion (wide S n) (ts ++ Number m ∷ []) q) → MayStand (Some S) (Word (codes "ask") ∷ ts) × Numbers s0 (behind_lines (Some S)) (Word (codes "ask") ∷ ts)
      number_next ts m f =
          let x = f (longest ts) in
          (ask_goes s0 S known ts (λ n. (Number m ∷ [], (f n).0, (f n).1)), (tt, m, inr (ask_with s0 S known ts (Number m) [] x.0 x.1)))

      one_next : (w : List ℕ) (f : ℕ) → NamesNonconstant S w f → MayStand (Some S) (Word (codes "ask") ∷ Word (ask_word (asks.TestIdeal which)) ∷ Word w ∷ []) × Numbers s0 (behind_lines (Some S)) (Word (codes "ask") ∷ Word (ask_word (asks.TestIdeal which)) ∷ Word w ∷ [])
      one_next w f h = number_next (Word (ask_word (asks.TestIdeal which)) ∷ Word w ∷ []) 1 (λ n. (_, wide_test which n w f (wide_nonconstant S n w f h) (Number 1 ∷ []) one_ratio (grammar.whole (whole_ratio 1 (omega arith) (omega arith))) (λ _. one_above)))

      -- a fraction as far as its `/`
      Over : TestIdeal → List ℕ → ℕ → List Token
      Over which w m = Word (ask_word (asks.TestIdeal which)) ∷ Word w ∷ Number m ∷ Sign slash ∷ []

      Slashed : TestIdeal → List ℕ → ℕ → Type 0
      Slashed which w m = MayStand (Some S) (Word (codes "ask") ∷ Over which w m) × Numbers s0 (behind_lines (Some S)) (Word (codes "ask") ∷ Over which w m)

      -- m/m is 1
      one_over : (which : TestIdeal) (w : List ℕ) (f : ℕ) → NamesNonconstant S w f → (m : ℕ) → m < 2 ^ 32 → 0 < m → Slashed which w m
      one_over which w f h m fits above = number_next (Over which w m) m (λ n. (_, wide_test which n w f (wide_nonconstant S n w f h) (Number m ∷ Sign slash ∷ Number m ∷ []) one_ratio (grammar.quotient (whole_ratio m fits above)) (λ _. one_above)))

      -- 0/1 is 0
      zero_over : (which : TestIdeal) → question.is_above_zero which ≡ false → (w : List ℕ) (f : ℕ) → NamesNonconstant S w f → Slashed which w 0
      zero_over which e w f h = number_next (Over which w 0) 1 (λ n. (_, wide_test which n w f (wide_nonconstant S n w f h) (Number 0 ∷ Sign slash ∷ Number 1 ∷ []) zero_ratio (grammar.quotient nothing_ratio) (λ k. absurd cc)))

      slashed : (which : TestIdeal) (w : List ℕ) (f : ℕ) → NamesNonconstant S w f → (m : ℕ) → m < 2 ^ 32 → Slashed which w m
      slashed tests.Test w f h zero fits = zero_over tests.Test refl w f h
      slashed tests.Left w f h zero fits = (inr beginning.left, (tt, 1, inr (inr beginning.left_over)))
      slashed tests.IsJump w f h zero fits = (inr beginning.isjump, (tt, 1, inr (inr beginning.isjump_over)))
      slashed tests.Regular w f h zero fits = zero_over tests.Regular refl w f h
      slashed which w f h (suc m) fits = one_over which w f h (suc m) fits (omega arith)

  pure_reading : (t : State) → SoFar s0 (behind_lines (Some S)) (Word (codes "ask") ∷ Word (codes "fpure") ∷ []) t
      → Reading s0 (behind_lines (Some S)) (λ e. e) (Asks s0 S known (codes "fpure")) (Word (codes "ask") ∷ Word (codes "fpure") ∷ []) (question.pure S t)
  unfolding question.pure next ideal_argument
  pure_reading t H =
      let named = argument_next s0 S known (ideal_argument s0 S known) (Word (codes "fpure") ∷ []) (λ n. ([], _, grammar.fpure (some_ideal S n))) in
      then_reading s0 (behind_lines (Some S)) (λ e. e) _ (ideal_reading s0 (behind_lines (Some S)) S (words_behind s0 S) (Word (codes "ask") ∷ Word (codes "fpure") ∷ []) t H.reached named.0 named.1)
      (λ j us u h Hu. by j h.2.0 h.2.2 us (h.1 ∙ ap (λ tok. tok ∷ []) h.2.1) u Hu u.left refl)
    where
      base : List Token
      base = Word (codes "ask") ∷ Word (codes "fpure") ∷ []

      point_next : (w : List ℕ) (j : ℕ) → NamesIdeal S w j → Words s0 (behind_lines (Some S)) (Word (codes "ask") ∷ Word (codes "fpure") ∷ Word w ∷ [])
      point_next w j h =
          let ts : List Token = Word (codes "fpure") ∷ Word w ∷ [] in
          let n = longest ts in
          (fresh (n + 3), inr (ask_with s0 S known ts (Word (fresh (n + 3))) [] (questions.PureAt j (length S.values + 2)) (grammar.fpure_at (wide_ideal S n w j h) (some_point S n))))

      by : (j : ℕ) (w : List ℕ) → NamesIdeal S w j → (us : List Token) → us ≡ Word w ∷ [] → (u : State) → SoFar s0 (behind_lines (Some S)) (base ++ us) u → (ps : List Placed) → u.left ≡ ps
          → Reading s0 (behind_lines (Some S)) (λ e. e) (Asks s0 S known (codes "fpure")) base
          (option_map_or (λ t. names.point_by S t.0 t.1 >>= λ at. Ok (questions.PureAt j at.0, at.1)) (next (record { left = ps; start = u.start; end = u.end })) (Ok (questions.Pure j, u)))
      by j w h us e u Hu [] is = read us (subst (λ vs. Asks s0 S known (codes "fpure") (questions.Pure j) vs) (sym e) (grammar.fpure h)) Hu
      by j w h us e u Hu (p ∷ rest) is =
          let Hw = subst (λ ws. SoFar s0 (behind_lines (Some S)) (base ++ ws) u) e Hu in
          let v = ask_goes s0 S known (Word (codes "fpure") ∷ Word w ∷ []) (λ n. ([], _, grammar.fpure (wide_ideal S n w j h))) in
          let point = point_by_reading s0 (behind_lines (Some S)) S (words_behind s0 S) (Word (codes "ask") ∷ Word (codes "fpure") ∷ Word w ∷ []) p.token (after p rest) (taken s0 (behind_lines (Some S)) Hw.reached v p rest is) (point_next w j h) in
          then_reading s0 (behind_lines (Some S)) (λ e. e) _
          (behind s0 (behind_lines (Some S)) (λ e. e) {R = λ i ws. (x : List ℕ) × (ws ≡ Word w ∷ Word x ∷ []) × NamesPoint S x i} base (Word w ∷ []) _ point (λ i vs k. (k.2.0, ap (λ xs. Word w ∷ xs) (k.1 ∙ ap (λ tok. tok ∷ []) k.2.1), k.2.2)))
          (λ i ws y k Hy. read ws (subst (λ vs. Asks s0 S known (codes "fpure") (questions.PureAt j i) vs) (sym k.1) (grammar.fpure_at h k.2)) Hy)

  arguments_reading : (a : Ask) (t : State) → SoFar s0 (behind_lines (Some S)) (Word (codes "ask") ∷ Word (ask_word a) ∷ []) t
      → Reading s0 (behind_lines (Some S)) (λ e. e) (Asks s0 S known (ask_word a)) (Word (codes "ask") ∷ Word (ask_word a) ∷ []) (question.arguments a S t)
  unfolding question.arguments question.parts question.member question.of_ideal question.of_two_ideals question.of_frobenius question.jumps question.nu question.threshold question.compatible ask_word exponent_argument level_argument polynomial_argument nonconstant_argument ideal_argument target_argument
  arguments_reading asks.Parts t H = asks_two s0 S known (codes "parts") t H (exponent_argument s0 S known) (polynomial_argument s0 S known) (λ e f. questions.Parts e f) (λ e f p w h k. grammar.parts h k) (λ n e f p w h k. grammar.parts h k)
  arguments_reading asks.Member t H = asks_two s0 S known (codes "member") t H (polynomial_argument s0 S known) (ideal_argument s0 S known) (λ f j. questions.Member f j) (λ f j v w h k. grammar.member h k) (λ n f j v w h k. grammar.member h k)
  arguments_reading (asks.OneIdeal ones.Basis) t H = asks_one s0 S known (codes "basis") t H (ideal_argument s0 S known) (λ j. questions.Basis j) (λ j w h. grammar.basis h) (λ n j w h. grammar.basis h)
  arguments_reading (asks.OneIdeal ones.Split) t H = asks_one s0 S known (codes "split") t H (ideal_argument s0 S known) (λ j. questions.Split j) (λ j w h. grammar.split h) (λ n j w h. grammar.split h)
  arguments_reading (asks.TwoIdeals twos.Same) t H = asks_two s0 S known (codes "same") t H (ideal_argument s0 S known) (ideal_argument s0 S known) (λ j k. questions.Same j k) (λ j k v w h l. grammar.same h l) (λ n j k v w h l. grammar.same h l)
  arguments_reading (asks.TwoIdeals twos.Sum) t H = asks_two s0 S known (codes "sum") t H (ideal_argument s0 S known) (ideal_argument s0 S known) (λ j k. questions.Sum j k) (λ j k v w h l. grammar.sum h l) (λ n j k v w h l. grammar.sum h l)
  arguments_reading (asks.TwoIdeals twos.Product) t H = asks_two s0 S known (codes "product") t H (ideal_argument s0 S known) (ideal_argument s0 S known) (λ j k. questions.Product j k) (λ j k v w h l. grammar.product h l) (λ n j k v w h l. grammar.product h l)
  arguments_reading (asks.TwoIdeals twos.Meet) t H = asks_two s0 S known (codes "meet") t H (ideal_argument s0 S known) (ideal_argument s0 S known) (λ j k. questions.Meet j k) (λ j k v w h l. grammar.meet h l) (λ n j k v w h l. grammar.meet h l)
  arguments_reading (asks.TwoIdeals twos.Colon) t H = asks_two s0 S known (codes "colon") t H (ideal_argument s0 S known) (ideal_argument s0 S known) (λ j k. questions.Colon j k) (λ j k v w h l. grammar.colon h l) (λ n j k v w h l. grammar.colon h l)
  arguments_reading (asks.Frobenius frobenius.Power) t H = asks_two s0 S known (codes "power") t H (exponent_argument s0 S known) (ideal_argument s0 S known) (λ e j. questions.Power e j) (λ e j p w h k. grammar.power h k) (λ n e j p w h k. grammar.power h k)
  arguments_reading (asks.Frobenius frobenius.Root) t H = asks_two s0 S known (codes "root") t H (exponent_argument s0 S known) (ideal_argument s0 S known) (λ e j. questions.Root e j) (λ e j p w h k. grammar.root h k) (λ n e j p w h k. grammar.root h k)
  arguments_reading (asks.TestIdeal which) t H = test_reading which t H
  arguments_reading asks.Jumps t H = asks_two s0 S known (codes "jumps") t H (nonconstant_argument s0 S known) (level_argument s0 S known) (λ f e. questions.Jumps f e) (λ f e w p h k. grammar.jumps h k) (λ n f e w p h k. grammar.jumps h k)
  arguments_reading asks.Nu t H =
      asks_three s0 S known (codes "nu") t H (exponent_argument s0 S known) (nonconstant_argument s0 S known) (ideal_argument s0 S known) (λ e f j. questions.Nu e f j) (λ e f j p v w h k l. grammar.nu h k l) (λ n e f j p v w h k l. grammar.nu h k l)
  arguments_reading asks.Threshold t H =
      asks_three s0 S known (codes "threshold") t H (nonconstant_argument s0 S known) (target_argument s0 S known) (level_argument s0 S known) question.threshold_of here there
    where
      here : (f : ℕ) (x : Target) (e : ℕ) (v w : List ℕ) (p : Unit {0}) → NamesNonconstant S v f → TargetIn s0 S known S x w → IsLevel S.prime e → IsQuestion S (Word (codes "threshold") ∷ Word v ∷ Word w ∷ Number e ∷ []) (question.threshold_of f x e)
      here f (question.Ideal j) e v w p h k l = grammar.threshold h k l
      here f (question.Point at) e v w p h k l = grammar.threshold_at h k l

      there : (n f : ℕ) (x : Target) (e : ℕ) (v w : List ℕ) (p : Unit {0}) → NamesNonconstant (wide S n) v f → TargetIn s0 S known (wide S n) x w → IsLevel S.prime e → IsQuestion (wide S n) (Word (codes "threshold") ∷ Word v ∷ Word w ∷ Number e ∷ []) (question.threshold_of f x e)
      there n f (question.Ideal j) e v w p h k l = grammar.threshold h k l
      there n f (question.Point at) e v w p h k l = grammar.threshold_at h k l
  arguments_reading asks.Pure t H = pure_reading t H
  arguments_reading asks.Compatible t H =
      asks_three s0 S known (codes "compatible") t H (exponent_argument s0 S known) (polynomial_argument s0 S known) (ideal_argument s0 S known) (λ e u j. questions.Compatible e u j) (λ e u j p v w h k l. grammar.compatible h k l) (λ n e u j p v w h k l. grammar.compatible h k l)

  pub question_reading : (t : State) → SoFar s0 (behind_lines (Some S)) (Word (codes "ask") ∷ []) t
      → Reading s0 (behind_lines (Some S)) (λ e. e) (λ q us. IsQuestion S us q) (Word (codes "ask") ∷ []) (question.question_at S t)
  unfolding question.question_at question.question_by
  question_reading t H =
      then_reading s0 (behind_lines (Some S)) (λ e. e) _ (word_reading s0 (behind_lines (Some S)) (Word (codes "ask") ∷ []) t H.reached (ask_goes s0 S known [] (λ n. (Word (codes "basis") ∷ Word (fresh (n + 2)) ∷ [], _, grammar.basis (some_ideal S n)))))
      (λ w us u e Hu. by w us e u Hu (question.ask_of w) refl)
    where
      by : (w : List ℕ) (us : List Token) → us ≡ Word w ∷ [] → (u : State) → SoFar s0 (behind_lines (Some S)) (Word (codes "ask") ∷ us) u → (o : Option Ask) → question.ask_of w ≡ o
          → Reading s0 (behind_lines (Some S)) (λ e. e) (λ q us. IsQuestion S us q) (Word (codes "ask") ∷ []) (option_map_or (λ a. question.arguments a S u) o (Err (fault_at kinds.Syntax u)))
      by w us e u Hu None is = stuck (late s0 (behind_lines (Some S)) Hu tt)
      by w us e u Hu (Some a) is =
          behind s0 (behind_lines (Some S)) (λ e. e) {Q = Asks s0 S known (ask_word a)} (Word (codes "ask") ∷ []) (Word (ask_word a) ∷ []) _
          (arguments_reading a u (subst (λ vs. SoFar s0 (behind_lines (Some S)) (Word (codes "ask") ∷ vs) u) (e ∙ ap (λ v. Word v ∷ []) (ask_is w a is)) Hu)) (λ q vs h. h)
