-- What stands before the fault of a session can go on.
use Rattle.std.proofs.Common.{◌≡◌, ◌≢◌, ℕ, zero, suc, ◌+◌, ◌-◌, ◌*◌, ◌<◌, ◌≤◌, true, cond, leb, List, [], ◌∷◌, ◌++◌, length, map, get_or, take, drop, codes, All, AllPairs, Contains, Option, Some, None, Result, Ok, Err, refl, sym, ap, ◌∙◌, subst, arith, append_assoc, inl, inr, ◌⊎◌, ⊎_elim}
use Rattle.std.specs.List.{filter}
use Rattle.std.specs.Option.{is_some, option_map_or}
use Rattle.std.proofs.lemmas.Bool.{cases_lt, leb-false, leb-true, lt-ltb}
use Rattle.std.proofs.lemmas.List.{append-nil, get_or-map, length-append, length-map}
use Rattle.fj_coeff.specs.Field.{is_prime, primes}
use Rattle.fj_coeff.specs.PrimeTest.{prime_tested}
use Rattle.fj_plain.specs.declared.order_name.OrderName.{OrderName}
use Rattle.fj_text.specs.Grammar.{tokens_left}
use Rattle.fj_text.specs.State.{State, after, end_of, next}
use Rattle.fj_text.specs.Token.{Token, Word, Number, Sign, BadByte, Placed, tokens_from}
use Rattle.fj_text.specs.Word.{place_of}
use Rattle.fj_grammar.specs.Beginning.{BeginningIsLegal, CanGoOn, CanGoOnWith, IsDoomedWith, MakeSession}
use Rattle.fj_grammar.specs.Beginning as beginning
use Rattle.fj_script.specs.declared.fault.FaultKind.TheVariants as kinds
use Rattle.fj_script.specs.declared.fault.LineFault.{LineFault}
use Rattle.fj_script.specs.declared.question.Question.{Question}
use Rattle.fj_script.specs.declared.statement.Keyword.{Keyword}
use Rattle.fj_script.specs.declared.statement.Keyword.TheVariants as keywords
use Rattle.fj_script.specs.declared.fault.Fault.{Fault}
use Rattle.fj_grammar.specs.FirstFault.{line_at, tokens_before}
use Rattle.fj_grammar.specs.Grammar as grammar
use Rattle.fj_grammar.specs.Grammar.{AreListed, AreStatements, IsQuestion, IsRing, IsSession, IsStatement, IsVariable, tokens_of}
use Rattle.fj_script.specs.Items.{at_end, comma, number, word_of}
use Rattle.fj_script.specs.LineFault.{◌>>=◌, fault_at}
use Rattle.fj_grammar.specs.Many as rank
use Rattle.fj_grammar.specs.Wrong as wrong
use Rattle.fj_grammar.specs.Wrong.{IsWrong}
use Rattle.fj_grammar.proofs.NamesOf.{found_among}
use Rattle.fj_script.specs.declared.fault.FaultKind.{FaultKind}
use Rattle.std.proofs.lemmas.List.Elements.{Contains-append_left}
use Rattle.fj_script.specs.Ring as rings
use Rattle.fj_script.specs.Names.{declared_names}
use Rattle.fj_script.specs.Script.{from_line, lines}
use Rattle.fj_script.specs.Session.{Session, new_session}
use Rattle.fj_script.specs.Statement as statements
use Rattle.fj_script.proofs.AcceptedYields.{yielded}
use Rattle.fj_grammar.proofs.FirstFault.{FirstWrong, first_wrong, line_is, lines_wrong, no_tokens}
use Rattle.fj_grammar.proofs.Rising.{AreRising, line_rises, none_before, rising_behind, starts_before, starts_below}
use Rattle.fj_grammar.proofs.TwoReadings.{line_from}
use Rattle.fj_grammar.proofs.Beginnings.{Reading, SoFar, StandsAt, Stuck, Took, Words, WrongWord, behind, caused, init_is, late, number_first, read, reading_if, sound, stuck, then_reading, toks, word_first, wrong_token}
use Rattle.fj_grammar.proofs.BeginningLines.{MayFollow, MayStand, ask_goes, behind_lines, number_reading, within_reading, word_reading}
use Rattle.fj_grammar.proofs.BeginningQuestions.{question_reading}
use Rattle.fj_grammar.proofs.BeginningResults.{named_result_stopped}
use Rattle.fj_grammar.proofs.BeginningStatements.{IsStopped, bare, bare_alike, ideal_stopped, listed_more, listed_reading, point_stopped, poly_stopped, reading_with, stop_end, stop_if, stop_then}
use Rattle.fj_grammar.proofs.Continuations.{other_word, other_word-is, wide, wide_ideal, wide_nonconstant, wide_point, wide_polynomial}
use Rattle.fj_grammar.proofs.GrammarComplete.{IsSane, sane_begin, sane_next}
use Rattle.fj_grammar.proofs.GrammarPieces.{nothing_found}
use Rattle.fj_grammar.proofs.GrammarSound.{Become, lines_take, keyword_is, keyword_word, order_named, prime_takes}
use Rattle.fj_script.proofs.NewNames.{pairs_more, unlike}

-- ---- the ring

module _ (s0 : State) where
  abbrev Variables : List (List ℕ) → List Token → Type 0
  Variables vs us = AreListed IsVariable us vs × (length vs ≤ 7) × AllPairs (λ v w. v ≢ w) vs

  some_prime : Contains primes 2
  unfolding primes
  some_prime = (0, omega arith, refl)

  one_variable : (v : List ℕ) → Variables (v ∷ []) (Word v ∷ [])
  one_variable v = (grammar.last grammar.variable, omega arith, λ i j d less inside. absurd (omega (arith, less, inside)))

  listed_length : {us : List Token} {vs : List (List ℕ)} → AreListed IsVariable us vs → length us + 1 ≡ 2 * length vs
  listed_length (grammar.last grammar.variable) = omega arith
  listed_length (grammar.more {ts = ts} {us = us} grammar.variable l) = let rest = listed_length l in omega (arith, rest)

  listed_words : {us : List Token} {vs : List (List ℕ)} → AreListed IsVariable us vs → (w : List ℕ) → Contains vs w → Contains us (Word w)
  listed_words (grammar.last grammar.variable) w (zero, inside, is) = (0, omega arith, ap Word is)
  listed_words (grammar.last grammar.variable) w (suc k, inside, is) = absurd (omega (arith, inside))
  listed_words (grammar.more grammar.variable l) w (zero, inside, is) = (0, omega arith, ap Word is)
  listed_words (grammar.more grammar.variable l) w (suc k, inside, is) = let x = listed_words l w (k, omega (arith, inside), is) in (suc (suc x.0), omega (arith, x.1), x.2)

  -- one variable more
  variables_more : (vs : List (List ℕ)) (us : List Token) (w : List ℕ) → Variables vs us → length vs < 7 → All (λ v. v ≢ w) vs → Variables (vs ++ w ∷ []) (us ++ Sign comma ∷ Word w ∷ [])
  variables_more vs us w l few new = (listed_more l.0 grammar.variable, omega (arith, few, length-append vs (w ∷ [])), pairs_more (λ v w. v ≢ w) vs w l.2 (λ i d inside. new i d inside))

  ring_whole : (p : ℕ) (vs : List (List ℕ)) (us : List Token) → Contains primes p → Variables vs us → CanGoOn None (Word (codes "ring") ∷ Number p ∷ us)
  ring_whole p vs us known l = ([], new_session p vs, subst (λ ws. IsRing (Word (codes "ring") ∷ Number p ∷ ws) (new_session p vs)) (sym (append-nil us)) (grammar.ring known l.0 l.1 l.2))

  -- after a comma, with another variable
  variable_next : (p : ℕ) (vs : List (List ℕ)) (us : List Token) → Contains primes p → Variables vs us → length vs < 7 → CanGoOnWith None (Word (codes "ring") ∷ Number p ∷ (us ++ Sign comma ∷ [])) (Word (other_word vs))
  variable_next p vs us known l few =
      let all = variables_more vs us (other_word vs) l few (other_word-is vs) in (
        [],
        new_session p (vs ++ other_word vs ∷ []),
        subst (λ ws. IsRing (Word (codes "ring") ∷ Number p ∷ ws) (new_session p (vs ++ other_word vs ∷ []))) (sym (append_assoc us (Sign comma ∷ []) (Word (other_word vs) ∷ []))) (grammar.ring known all.0 all.1 all.2),
      )

  seven : {vs : List (List ℕ)} {us : List Token} → Variables vs us → 7 ≤ length vs → length vs ≡ 7
  seven l many = omega (arith, many, l.1)

  ring_comma : (p : ℕ) (vs : List (List ℕ)) (us : List Token) → Contains primes p → Variables vs us → MayStand None (Word (codes "ring") ∷ Number p ∷ (us ++ Sign comma ∷ []))
  ring_comma p vs us known l = ⊎_elim less full (cases_lt (length vs) 7)
    where
      less : length vs < 7 → MayStand None (Word (codes "ring") ∷ Number p ∷ (us ++ Sign comma ∷ []))
      less few = let x = variable_next p vs us known l few in inl (Word (other_word vs) ∷ x.0, x.1, x.2)

      full : 7 ≤ length vs → MayStand None (Word (codes "ring") ∷ Number p ∷ (us ++ Sign comma ∷ []))
      full many = inr (beginning.ring l.0 (seven l many))

  ring_with_prime : CanGoOnWith None (Word (codes "ring") ∷ []) (Number 2)
  ring_with_prime = (Word (other_word []) ∷ [], _, grammar.ring some_prime (one_variable (other_word [])).0 (one_variable (other_word [])).1 (one_variable (other_word [])).2)

  ring_begins : MayStand None (Word (codes "ring") ∷ [])
  ring_begins = inl (Number 2 ∷ ring_with_prime.0, ring_with_prime.1, ring_with_prime.2)

  prime_begins : (p : ℕ) → Contains primes p → MayStand None (Word (codes "ring") ∷ Number p ∷ [])
  prime_begins p known = inl (Word (other_word []) ∷ [], _, grammar.ring known (one_variable (other_word [])).0 (one_variable (other_word [])).1 (one_variable (other_word [])).2)

  prime_reading : (t : State) → SoFar s0 (behind_lines None) (Word (codes "ring") ∷ []) t
      → Reading s0 (behind_lines None) (λ e. e) (λ p us. (us ≡ Number p ∷ []) × Contains primes p) (Word (codes "ring") ∷ []) (rings.prime t)
  unfolding rings.prime
  prime_reading t H = reading_with s0 (behind_lines None) (λ p. (tokens_left t ≡ Number p.0 ∷ tokens_left p.1) × Contains primes p.0) (rings.prime t) plain (prime_takes t) (λ p u us e h. (e, h.1))
    where
      plain : Reading s0 (behind_lines None) (λ e. e) (λ p us. us ≡ Number p ∷ []) (Word (codes "ring") ∷ []) (rings.prime t)
      plain =
          then_reading s0 (behind_lines None) (λ e. e) _ (number_reading s0 (behind_lines None) (Word (codes "ring") ∷ []) t H.reached ring_begins)
          (λ n us u e Hu. reading_if s0 (behind_lines None) (λ e. e) (is_prime n) _ _ (λ _. read us e Hu) (λ no. stuck (late s0 (behind_lines None) Hu ((2, subst (λ ts. MayFollow None ts (Number 2)) (init_is s0 (behind_lines None) (Word (codes "ring") ∷ []) us [] (Number n) Hu e) (inl ring_with_prime)), number_first s0 (behind_lines None) kinds.Prime (Word (codes "ring") ∷ []) us [] n Hu e (wrong.no_prime (λ known. absurd (let both = sym no ∙ prime_tested n known in cc)))))))

  module _ (p : ℕ) (known : Contains primes p) where
    variable_more : (vs : List (List ℕ)) (us : List Token) (t : State) → Variables vs us → SoFar s0 (behind_lines None) ((Word (codes "ring") ∷ Number p ∷ []) ++ (us ++ Sign comma ∷ [])) t
        → Reading s0 (behind_lines None) (λ e. e) (λ w ws. Variables (vs ++ w ∷ []) ws) (Word (codes "ring") ∷ Number p ∷ []) (rings.variable vs t)
    unfolding rings.variable
    variable_more vs us t l H =
        then_reading s0 (behind_lines None) (λ e. e) _
        (behind s0 (behind_lines None) (λ e. e) {Q = λ w ws. ws ≡ Word w ∷ []} {R = λ w ws. ws ≡ us ++ Sign comma ∷ Word w ∷ []} (Word (codes "ring") ∷ Number p ∷ []) (us ++ Sign comma ∷ []) _
        (word_reading s0 (behind_lines None) (Word (codes "ring") ∷ Number p ∷ (us ++ Sign comma ∷ [])) t H.reached (ring_comma p vs us known l)) (λ w ws e. ap (λ xs. (us ++ Sign comma ∷ []) ++ xs) e ∙ append_assoc us (Sign comma ∷ []) (Word w ∷ [])))
        (λ w ws u e Hu. reading_if s0 (behind_lines None) (λ e. e) (leb 7 (length vs)) _ _ (λ many. let doomed : IsDoomedWith (Word (codes "ring") ∷ Number p ∷ (us ++ Sign comma ∷ [])) (Word w) = beginning.eighth l.0 (seven l (leb-true 7 (length vs) many)) in stuck (late s0 (behind_lines None) Hu (subst (Words s0 (behind_lines None)) (before_word ws w e Hu) (w, inr (inr doomed)), variable_there kinds.Vars ws w e Hu (wrong.eighth doomed))))
        (λ few. reading_if s0 (behind_lines None) (λ e. e) (is_some (place_of vs w)) _ _ (λ yes. stuck (late s0 (behind_lines None) Hu (taken_early ws w e Hu (leb-false 7 (length vs) few) (found_among vs w yes))))
        (λ new. read ws (subst (Variables (vs ++ w ∷ [])) (sym e) (variables_more vs us w l (leb-false 7 (length vs) few) (λ i d inside. unlike w vs (nothing_found _ new) i d inside))) Hu)))
      where
        before_word : (ws : List Token) (w : List ℕ) {u : State} → ws ≡ us ++ Sign comma ∷ Word w ∷ [] → (Hu : SoFar s0 (behind_lines None) ((Word (codes "ring") ∷ Number p ∷ []) ++ ws) u) → Word (codes "ring") ∷ Number p ∷ (us ++ Sign comma ∷ []) ≡ toks Hu.reached.init
        before_word ws w e Hu = init_is s0 (behind_lines None) (Word (codes "ring") ∷ Number p ∷ []) ws (us ++ Sign comma ∷ []) (Word w) Hu (e ∙ sym (append_assoc us (Sign comma ∷ []) (Word w ∷ [])))

        variable_there : (k : FaultKind) (ws : List Token) (w : List ℕ) {u : State} → ws ≡ us ++ Sign comma ∷ Word w ∷ [] → (Hu : SoFar s0 (behind_lines None) ((Word (codes "ring") ∷ Number p ∷ []) ++ ws) u) → IsWrong None (Word (codes "ring") ∷ Number p ∷ (us ++ Sign comma ∷ [])) k (Word w) → WrongWord s0 (behind_lines None) k (toks Hu.reached.init) (Hu.reached.last.token ∷ toks u.left)
        variable_there k ws w e Hu is = word_first s0 (behind_lines None) k (Word (codes "ring") ∷ Number p ∷ []) ws (us ++ Sign comma ∷ []) w Hu (e ∙ sym (append_assoc us (Sign comma ∷ []) (Word w ∷ []))) is

        among : (xs : List Token) (x : Token) → Contains xs x → Contains (Number p ∷ xs) x
        among xs x (k, inside, is) = (suc k, omega (arith, inside), is)

        -- a variable that is taken is one of the first seven
        taken_early : (ws : List Token) (w : List ℕ) {u : State} → ws ≡ us ++ Sign comma ∷ Word w ∷ [] → (Hu : SoFar s0 (behind_lines None) ((Word (codes "ring") ∷ Number p ∷ []) ++ ws) u) → length vs < 7 → Contains vs w
            → (Words s0 (behind_lines None) (toks Hu.reached.init) × WrongWord s0 (behind_lines None) kinds.Taken (toks Hu.reached.init) (Hu.reached.last.token ∷ toks u.left)) × (⊥ ⊎ (length (toks Hu.reached.init) ≤ 14))
        taken_early ws w {u} e Hu few there =
            let before = before_word ws w e Hu in
            let same = ap length before in
            let long = length-append us (Sign comma ∷ []) in
            ((subst (Words s0 (behind_lines None)) before (other_word vs, inr (inl (variable_next p vs us known l few))), variable_there kinds.Taken ws w e Hu (wrong.again (among (us ++ Sign comma ∷ []) (Word w) (Contains-append_left us (Sign comma ∷ []) (Word w) (listed_words l.0 w there))))), inr (omega (arith, same, long, few, listed_length l.0)))

    variable_first : (t : State) → SoFar s0 (behind_lines None) (Word (codes "ring") ∷ Number p ∷ []) t
        → Reading s0 (behind_lines None) (λ e. e) (λ w ws. Variables (w ∷ []) ws) (Word (codes "ring") ∷ Number p ∷ []) (rings.variable [] t)
    unfolding rings.variable
    variable_first t H =
        then_reading s0 (behind_lines None) (λ e. e) _ (word_reading s0 (behind_lines None) (Word (codes "ring") ∷ Number p ∷ []) t H.reached (prime_begins p known))
        (λ w ws u e Hu. read ws (subst (Variables (w ∷ [])) (sym e) (one_variable w)) Hu)

  ring_stopped : (t : State) → SoFar s0 (behind_lines None) (Word (codes "ring") ∷ []) t → IsStopped s0 (behind_lines None) (rings.ring t)
  unfolding rings.ring
  ring_stopped t H =
      stop_then s0 (behind_lines None) _ (prime_reading t H)
      (λ p us u h Hu. let Hp = subst (λ ws. SoFar s0 (behind_lines None) (Word (codes "ring") ∷ ws) u) h.0 Hu in
      stop_then s0 (behind_lines None) _
      (listed_reading s0 (behind_lines None) Variables rings.variable (Word (codes "ring") ∷ Number p ∷ []) (λ vs ws l. inl (ring_whole p vs ws h.1 l)) (variable_more p h.1) u (variable_first p h.1 u Hp))
      (λ vs ws w l Hw. stop_end s0 (behind_lines None) _ _ w Hw (inl (ring_whole p vs ws h.1 l))))

-- ---- the other statements

wide_question : (S : Session) (n : ℕ) {ts : List Token} {q : Question} → IsQuestion S ts q → IsQuestion (wide S n) ts q
wide_question S n (grammar.parts h k) = grammar.parts h (wide_polynomial S n _ _ k)
wide_question S n (grammar.basis h) = grammar.basis (wide_ideal S n _ _ h)
wide_question S n (grammar.member h k) = grammar.member (wide_polynomial S n _ _ h) (wide_ideal S n _ _ k)
wide_question S n (grammar.same h k) = grammar.same (wide_ideal S n _ _ h) (wide_ideal S n _ _ k)
wide_question S n (grammar.sum h k) = grammar.sum (wide_ideal S n _ _ h) (wide_ideal S n _ _ k)
wide_question S n (grammar.product h k) = grammar.product (wide_ideal S n _ _ h) (wide_ideal S n _ _ k)
wide_question S n (grammar.meet h k) = grammar.meet (wide_ideal S n _ _ h) (wide_ideal S n _ _ k)
wide_question S n (grammar.colon h k) = grammar.colon (wide_ideal S n _ _ h) (wide_ideal S n _ _ k)
wide_question S n (grammar.power h k) = grammar.power h (wide_ideal S n _ _ k)
wide_question S n (grammar.root h k) = grammar.root h (wide_ideal S n _ _ k)
wide_question S n (grammar.test h k) = grammar.test (wide_nonconstant S n _ _ h) k
wide_question S n (grammar.left h k l) = grammar.left (wide_nonconstant S n _ _ h) k l
wide_question S n (grammar.isjump h k l) = grammar.isjump (wide_nonconstant S n _ _ h) k l
wide_question S n (grammar.regular h k) = grammar.regular (wide_nonconstant S n _ _ h) k
wide_question S n (grammar.jumps h k) = grammar.jumps (wide_nonconstant S n _ _ h) k
wide_question S n (grammar.nu h k l) = grammar.nu h (wide_nonconstant S n _ _ k) (wide_ideal S n _ _ l)
wide_question S n (grammar.threshold h k l) = grammar.threshold (wide_nonconstant S n _ _ h) (wide_ideal S n _ _ k) l
wide_question S n (grammar.threshold_at h k l) = grammar.threshold_at (wide_nonconstant S n _ _ h) (wide_point S n _ _ k) l
wide_question S n (grammar.fpure h) = grammar.fpure (wide_ideal S n _ _ h)
wide_question S n (grammar.fpure_at h k) = grammar.fpure_at (wide_ideal S n _ _ h) (wide_point S n _ _ k)
wide_question S n (grammar.split h) = grammar.split (wide_ideal S n _ _ h)
wide_question S n (grammar.compatible h k l) = grammar.compatible h (wide_polynomial S n _ _ k) (wide_ideal S n _ _ l)

module _ (s0 : State) (S : Session) (known : Contains primes S.prime) (some_variable : 1 ≤ length S.variables) (distinct : AllPairs (λ v w. v ≢ w) (declared_names S.values)) where
  order_stopped : (t : State) → SoFar s0 (behind_lines (Some S)) (Word (codes "order") ∷ []) t → IsStopped s0 (behind_lines (Some S)) (statements.order S t)
  unfolding statements.order
  order_stopped t H =
      stop_then s0 (behind_lines (Some S)) _ (word_reading s0 (behind_lines (Some S)) (Word (codes "order") ∷ []) t H.reached (inl (bare S, bare_alike S _, Word (codes "lex") ∷ [], _, grammar.lex)))
      (λ w us u e Hu. by w us e u Hu (statements.order_of w) refl)
    where
      by : (w : List ℕ) (us : List Token) → us ≡ Word w ∷ [] → (u : State) → SoFar s0 (behind_lines (Some S)) (Word (codes "order") ∷ us) u → (o : Option OrderName) → statements.order_of w ≡ o
          → IsStopped s0 (behind_lines (Some S)) (option_map_or (λ name. at_end (record S { order = name }, u)) o (Err (fault_at kinds.Syntax u)))
      by w us e u Hu None is = late s0 (behind_lines (Some S)) Hu tt
      by w us e u Hu (Some name) is =
          stop_end s0 (behind_lines (Some S)) _ (Word (codes "order") ∷ Word w ∷ []) u (subst (λ vs. SoFar s0 (behind_lines (Some S)) (Word (codes "order") ∷ vs) u) e Hu) (inl (bare S, bare_alike S _, [], _, order_named (bare S) known w name is))

  budget_stopped : (t : State) → SoFar s0 (behind_lines (Some S)) (Word (codes "budget") ∷ []) t → IsStopped s0 (behind_lines (Some S)) (statements.budget S t)
  unfolding statements.budget
  budget_stopped t H =
      stop_then s0 (behind_lines (Some S)) _ (within_reading s0 (behind_lines (Some S)) 1 10000000 (Word (codes "budget") ∷ []) t H.reached (inl (bare S, bare_alike S _, Number 1 ∷ [], _, grammar.budget (omega arith) (omega arith)))
      (tt, 1, inr (inl (bare S, bare_alike S _, [], _, grammar.budget (omega arith) (omega arith)))))
      (λ n us u h Hu. stop_end s0 (behind_lines (Some S)) _ (Word (codes "budget") ∷ Number n ∷ []) u (subst (λ vs. SoFar s0 (behind_lines (Some S)) (Word (codes "budget") ∷ vs) u) h.0 Hu) (inl (bare S, bare_alike S _, [], _, grammar.budget h.1.0 h.1.1)))

  asking_stopped : (t : State) → SoFar s0 (behind_lines (Some S)) (Word (codes "ask") ∷ []) t → IsStopped s0 (behind_lines (Some S)) (statements.asking S t)
  unfolding statements.asking
  asking_stopped t H =
      stop_if s0 (behind_lines (Some S)) (leb 4096 (length S.asked)) _ _ (λ full. late s0 (behind_lines (Some S)) H (caused s0 (behind_lines (Some S)) kinds.Many H (rank.questions (leb-true 4096 (length S.asked) full))))
      (λ _. stop_then s0 (behind_lines (Some S)) _ (question_reading s0 S known t H)
      (λ q us u h Hu. stop_end s0 (behind_lines (Some S)) _ _ u Hu (ask_goes s0 S known us (λ n. ([], q, subst (λ ws. IsQuestion (wide S n) ws q) (sym (append-nil us)) (wide_question S n h))))))

  later_stopped : (k : Keyword) (t : State) → SoFar s0 (behind_lines (Some S)) (Word (keyword_word k) ∷ []) t → IsStopped s0 (behind_lines (Some S)) (statements.later (Some k) S t)
  unfolding statements.later keyword_word
  later_stopped keywords.Ring t H = late s0 (behind_lines (Some S)) H tt
  later_stopped keywords.Order t H = order_stopped t H
  later_stopped keywords.Budget t H = budget_stopped t H
  later_stopped keywords.Poly t H = poly_stopped s0 S known some_variable t H
  later_stopped keywords.Ideal t H = ideal_stopped s0 S known some_variable t H
  later_stopped keywords.Point t H = point_stopped s0 S known some_variable t H
  later_stopped keywords.Let t H = named_result_stopped s0 S known some_variable distinct t H
  later_stopped keywords.Ask t H = asking_stopped t H

-- ---- lines

-- What is known of the session before a line.
abbrev pub IsUsual : Option Session → Type 0
IsUsual None = Unit {0}
IsUsual (Some S) = IsSane S × (1 ≤ length S.variables)

nothing_stands : (before : Option Session) → IsUsual before → MayStand before []
nothing_stands None h = inl (Word (codes "ring") ∷ Number 2 ∷ Word (other_word []) ∷ [], _, grammar.ring (some_prime (record { left = []; start = 0; end = 0 })) (grammar.last grammar.variable) (omega arith) (λ i j d less inside. absurd (omega (arith, less, inside))))
nothing_stands (Some S) h = inl (bare S, bare_alike S _, Word (codes "order") ∷ Word (codes "lex") ∷ [], _, grammar.lex)

-- another statement's word, where there is no ring yet
without_ring : (s0 : State) (w : List ℕ) (t : State) → SoFar s0 (behind_lines None) (Word w ∷ []) t → wrong.BeginsLater w → Stuck s0 (behind_lines None) (fault_at kinds.NoRing t)
without_ring s0 w t H other = late s0 (behind_lines None) H (word_first s0 (behind_lines None) kinds.NoRing [] (Word w ∷ []) [] w H refl (wrong.no_ring other))

statement_of_stopped : (s0 : State) (before : Option Session) → IsUsual before → (k : Option Keyword) (w : List ℕ) → statements.keyword_of w ≡ k → (t : State) → SoFar s0 (behind_lines before) (Word w ∷ []) t
    → IsStopped s0 (behind_lines before) (statements.statement_of before k t)
unfolding statements.first statements.later keyword_word
statement_of_stopped s0 None h None w e t H = late s0 (behind_lines None) H tt
statement_of_stopped s0 None h (Some keywords.Ring) w e t H = ring_stopped s0 t (subst (λ v. SoFar s0 (behind_lines None) (Word v ∷ []) t) (keyword_is w keywords.Ring e) H)
statement_of_stopped s0 None h (Some keywords.Order) w e t H = without_ring s0 w t H (inl (keyword_is w keywords.Order e))
statement_of_stopped s0 None h (Some keywords.Budget) w e t H = without_ring s0 w t H (inr (inl (keyword_is w keywords.Budget e)))
statement_of_stopped s0 None h (Some keywords.Poly) w e t H = without_ring s0 w t H (inr (inr (inl (keyword_is w keywords.Poly e))))
statement_of_stopped s0 None h (Some keywords.Ideal) w e t H = without_ring s0 w t H (inr (inr (inr (inl (keyword_is w keywords.Ideal e)))))
statement_of_stopped s0 None h (Some keywords.Point) w e t H = without_ring s0 w t H (inr (inr (inr (inr (inl (keyword_is w keywords.Point e))))))
statement_of_stopped s0 None h (Some keywords.Let) w e t H = without_ring s0 w t H (inr (inr (inr (inr (inr (inl (keyword_is w keywords.Let e)))))))
statement_of_stopped s0 None h (Some keywords.Ask) w e t H = without_ring s0 w t H (inr (inr (inr (inr (inr (inr (keyword_is w keywords.Ask e)))))))
statement_of_stopped s0 (Some S) h None w e t H = late s0 (behind_lines (Some S)) H tt
statement_of_stopped s0 (Some S) h (Some k) w e t H = later_stopped s0 S h.0.prime h.1 h.0.distinct k t (subst (λ v. SoFar s0 (behind_lines (Some S)) (Word v ∷ []) t) (keyword_is w k e) H)

statement_stopped : (s0 : State) (before : Option Session) → IsUsual before → (p : Placed) (rest : List Placed) → s0.left ≡ p ∷ rest → IsStopped s0 (behind_lines before) (statements.statement before p.token (after p rest))
unfolding statements.statement word_of
statement_stopped s0 before h p rest e = by p.token (record { reached = record { init = []; last = p; all = e; tokens = refl; start = refl; end = refl }; goes_on = nothing_stands before h })
  where
    by : (tok : Token) → Took s0 (behind_lines before) (tok ∷ []) (after p rest) → IsStopped s0 (behind_lines before) (statements.statement before tok (after p rest))
    by (Word w) H = statement_of_stopped s0 before h (statements.keyword_of w) w refl (after p rest) (sound s0 (behind_lines before) [] (Word w) tt H)
    by (Number n) H = wrong_token s0 (behind_lines before) [] (Number n) H
    by (Sign b) H = wrong_token s0 (behind_lines before) [] (Sign b) H
    by BadByte H = wrong_token s0 (behind_lines before) [] BadByte H

-- A line stops at its fault.
line_stuck : (before : Option Session) → IsUsual before → (ts : List Placed) (f : LineFault) → line_from before (record { left = ts; start = 0; end = 0 }) ≡ Err f → Stuck (record { left = ts; start = 0; end = 0 }) (behind_lines before) f
unfolding next
line_stuck before h [] f e = absurd cc
line_stuck before h (p ∷ rest) f e = by (statements.statement before p.token (after p rest)) (statement_stopped (record { left = p ∷ rest; start = 0; end = 0 }) before h p rest refl) e
  where
    by : (r : Result Session LineFault) → IsStopped (record { left = p ∷ rest; start = 0; end = 0 }) (behind_lines before) r → (r >>= λ S. Ok (Some S)) ≡ Err f → Stuck (record { left = p ∷ rest; start = 0; end = 0 }) (behind_lines before) f
    by (Ok S) k e = absurd cc
    by (Err g) k e = let same : g ≡ f = cc in subst (λ h. Stuck (record { left = p ∷ rest; start = 0; end = 0 }) (behind_lines before) h) same k

-- ---- the tokens before the place

filter_front : (column : ℕ) (ps rest : List Placed) → All (λ t. t.start + 1 < column) ps → filter (starts_before column) rest ≡ [] → filter (starts_before column) (ps ++ rest) ≡ ps
filter_front column [] rest low none = none
filter_front column (p ∷ ps) rest low none =
    let here : starts_before column p ≡ true = lt-ltb (p.start + 1) column (low 0 p (omega arith)) in
    ap (λ c. cond c (p ∷ filter (starts_before column) (ps ++ rest)) (filter (starts_before column) (ps ++ rest))) here ∙ ap (λ us. p ∷ us) (filter_front column ps rest (λ i d inside. low (suc i) d (omega arith)) none)

pub before_is : (line : List ℕ) (c : ℕ) (ps rest : List Placed) → tokens_from zero zero line ≡ ps ++ rest → StandsAt c rest (end_of ps 0) → tokens_before (c + 1) line ≡ ps
before_is line c ps rest all at =
    ap (filter (starts_before (c + 1))) all ∙ filter_front (c + 1) ps rest (λ i d inside. let below = starts_below 0 ps rest rises i d inside in omega (arith, below, ends rest at behind)) (later rest at behind)
  where
    rises : AreRising 0 (ps ++ rest)
    rises = subst (AreRising 0) all (line_rises line)

    behind : AreRising (end_of ps 0) rest
    behind = rising_behind 0 ps rest rises

    ends : (rest : List Placed) → StandsAt c rest (end_of ps 0) → AreRising (end_of ps 0) rest → end_of ps 0 ≤ c
    ends [] e h = omega arith
    ends (t ∷ ts) e h = omega (arith, e, h.0)

    later : (rest : List Placed) → StandsAt c rest (end_of ps 0) → AreRising (end_of ps 0) rest → filter (starts_before (c + 1)) rest ≡ []
    later [] e h = refl
    later (t ∷ ts) e h = none_before (c + 1) t.start (t ∷ ts) (omega (arith, e)) (omega arith, h.1, h.2)

-- ---- the session before a line

statement_usual : {S T : Session} {ts : List Token} → IsStatement S ts T → 1 ≤ length S.variables → 1 ≤ length T.variables
statement_usual grammar.lex h = h
statement_usual grammar.grlex h = h
statement_usual grammar.grevlex h = h
statement_usual (grammar.budget l k) h = h
statement_usual (grammar.poly n e f) h = h
statement_usual (grammar.ideal n e f g) h = h
statement_usual (grammar.point n e f) h = h
statement_usual (grammar.named_result n q a) h = h
statement_usual (grammar.asked f q) h = h

statements_usual : {S T : Session} {ls : List (List Token)} → AreStatements S ls T → IsUsual (Some S) → IsUsual (Some T)
statements_usual grammar.none h = h
statements_usual (grammar.nothing d) h = statements_usual d h
statements_usual (grammar.statement k d) h = statements_usual d (sane_next _ h.0 k, statement_usual k h.1)

some_item : {A : Type 0} {Is : List Token → A → Type 0} {ts : List Token} {xs : List A} → AreListed Is ts xs → 1 ≤ length xs
some_item (grammar.last h) = omega arith
some_item (grammar.more h l) = omega arith

ring_usual : {T : Session} {ts : List Token} → IsRing ts T → IsUsual (Some T)
ring_usual (grammar.ring known l few apart) = (sane_begin (grammar.ring known l few apart), some_item l)

session_usual : {T : Session} {ls : List (List Token)} → IsSession ls T → IsUsual (Some T)
session_usual (grammar.blank d) = session_usual d
session_usual (grammar.begins h d) = statements_usual d (ring_usual h)

make_usual : (ls : List (List Token)) (before : Option Session) → MakeSession ls before → IsUsual before
make_usual ls None h = tt
make_usual ls (Some S) h = session_usual h

makes : (ls : List (List ℕ)) (before : Option Session) → from_line 1 None ls ≡ Ok before → MakeSession (map tokens_of ls) before
makes ls None e = λ i d inside. let none = (no_tokens 1 None ls e).1 i in get_or-map tokens_of ls i [] d (omega (arith, length-map ls tokens_of, inside)) ∙ none
makes ls (Some S) e = yielded (Become None (map tokens_of ls)) (from_line 1 None ls) (Some S) e (lines_take 1 None tt ls) S refl

take_twice : {A : Type 0} (n : ℕ) (xs : List A) → take n xs ≡ take n (take n xs)
take_twice zero xs = refl
take_twice (suc n) [] = refl
take_twice (suc n) (x ∷ xs) = ap (λ ys. x ∷ ys) (take_twice n xs)

drop_taken : {A : Type 0} (n : ℕ) (xs : List A) → drop n (take n xs) ≡ []
drop_taken zero xs = refl
drop_taken (suc n) [] = refl
drop_taken (suc n) (x ∷ xs) = drop_taken n xs

ended : (number : ℕ) (before : Option Session) → from_line number before [] ≡ Ok before
unfolding from_line
ended number before = refl

-- the session that the lines before a fault make
pub made_before : (bytes : List ℕ) (place : Fault) (w : FirstWrong 1 None (lines bytes) place) → MakeSession (map tokens_of (take (place.line - 1) (lines bytes))) w.session
made_before bytes place w =
    let line_of : place.line ≡ 1 + w.count = ap (λ f. f.line) w.is in
    let count_is : place.line - 1 ≡ w.count = omega (arith, line_of) in
    subst (λ n. MakeSession (map tokens_of (take n (lines bytes))) w.session) (sym count_is)
    (makes (take w.count (lines bytes)) w.session (w.reached (take w.count (lines bytes)) (take_twice w.count (lines bytes)) ∙ ap (from_line (1 + w.count) w.session) (drop_taken w.count (lines bytes)) ∙ ended (1 + w.count) w.session))

-- what is said of the line of a fault
pub stuck_at : (bytes : List ℕ) (place : Fault) (w : FirstWrong 1 None (lines bytes) place) → Stuck (record { left = tokens_from zero zero (get_or (lines bytes) w.count []); start = 0; end = 0 }) (behind_lines w.session) w.found
stuck_at bytes place w = line_stuck w.session (make_usual _ w.session (made_before bytes place w)) (tokens_from zero zero (get_or (lines bytes) w.count [])) w.found (sym (line_is w.session (get_or (lines bytes) w.count [])) ∙ w.wrong)

pub beginning_legal : BeginningIsLegal
beginning_legal bytes place H e =
    let w = first_wrong 1 None (lines bytes) place (lines_wrong bytes place H e) in
    let line_of : place.line ≡ 1 + w.count = ap (λ f. f.line) w.is in
    let count_is : place.line - 1 ≡ w.count = omega (arith, line_of) in
    let column_is : place.column ≡ w.found.column + 1 = ap (λ f. f.column) w.is in
    let l : List ℕ = get_or (lines bytes) w.count [] in
    let made = made_before bytes place w in
    let K = stuck_at bytes place w in
    let tokens : tokens_before place.column (line_at place.line bytes) ≡ K.before =
    ap (λ n. tokens_before n (line_at place.line bytes)) column_is ∙ ap (λ n. tokens_before (w.found.column + 1) (get_or (lines bytes) n [])) count_is ∙ before_is l w.found.column K.before K.rest K.all K.at in (
      w.session,
      made,
      subst (λ ts. MayStand w.session (map (λ t. t.token) ts)) (sym tokens) K.goes_on,
    )
