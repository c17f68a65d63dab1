-- Each rule of sessions reads what is wanted, and reports Syntax only at a token that may not stand there.
use Rattle.std.proofs.Common.{◌≡◌, ℕ, zero, suc, ◌+◌, ◌%◌, ◌^◌, ◌<◌, ◌≤◌, Bool, true, false, cond, ◌||◌, leb, ltb, eqb, List, [], ◌∷◌, ◌++◌, length, Option, Some, None, Result, Ok, Err, refl, sym, ap, ◌∙◌, subst, arith, append_assoc, inl, inr, ◌⊎◌}
use Rattle.std.specs.Option.{is_some, option_and_then, option_map, option_map_or}
use Rattle.std.proofs.lemmas.List.{append-nil, map-append}
use Rattle.fj_coeff.specs.Field.{Field, is_prime}
use Rattle.fj_coeff.specs.PrimeField.{prime_field}
use Rattle.fj_theory.specs.Exponents.{origin}
use Rattle.fj_theory.specs.PointIdeal.{variable_exponents}
use Rattle.fj_theory.specs.Polynomial.{Polynomial, negation, product, sum, term}
use Rattle.fj_plain.specs.declared.order_name.OrderName.{OrderName}
use Rattle.fj_text.specs.declared.fault.Cause.TheVariants as causes
use Rattle.fj_text.specs.declared.scope.Meaning.{Meaning}
use Rattle.fj_text.specs.declared.scope.Meaning.TheVariants as meanings
use Rattle.fj_text.specs.Expression as text
use Rattle.fj_text.specs.State.{State, after, after_sign, blame, end_of, is_the_sign, next, unexpected}
use Rattle.fj_text.specs.Token.{Token, Word, Number, Sign, BadByte, Placed, closing, minus, opening, plus, star}
use Rattle.fj_text.specs.Word.{place_of}
use Rattle.fj_script.specs.declared.ask.Ask.{Ask}
use Rattle.fj_script.specs.declared.ask.Ask.TheVariants as asks
use Rattle.fj_script.specs.declared.fault.FaultKind.{FaultKind}
use Rattle.fj_script.specs.declared.fault.FaultKind.TheVariants as kinds
use Rattle.fj_script.specs.declared.fault.LineFault.{LineFault}
use Rattle.fj_script.specs.declared.question.Question.TheVariants as questions
use Rattle.fj_script.specs.declared.statement.Keyword.{Keyword}
use Rattle.fj_script.specs.declared.statement.Keyword.TheVariants as keywords
use Rattle.fj_script.specs.declared.value.Kind.{Kind}
use Rattle.fj_script.specs.declared.value.Kind.TheVariants as values
use Rattle.fj_script.specs.Declaration as declaration
use Rattle.fj_script.specs.Items.{at_end, comma, enclosed, equals, listed, more, narrow, number, number_of, sign, taking, word, word_of}
use Rattle.fj_script.specs.LineFault.{Answer, ◌>>=◌, fault_at, fault_of, kind_of, not_here}
use Rattle.fj_script.specs.Names as names
use Rattle.fj_script.specs.Numbers as numbers
use Rattle.fj_script.specs.Question as question
use Rattle.fj_script.specs.Ring as rings
use Rattle.fj_script.specs.Session.{Session, Terms, Poly, Ideal, Point, Let, ask, declare, new_session, terms_in}
use Rattle.fj_script.specs.Statement as statements
use Rattle.fj_grammar.proofs.Beginnings.{end_last, toks}
use Rattle.fj_grammar.proofs.TwoReadings.{line_from, mapped}
use Rattle.fj_grammar.proofs.Wanted.{MayEnd, NotNext, Want, Beginning, Coordinates, Denominator, Factors, Generators, Mark, Name, Negative, Numeral, Operand, OrderWord, PerhapsName, Power, QuestionWord, IdealWord, Summands, Variables, a_coordinate, a_term, an_expression, IsOptional, coordinates_optional, denominator_optional, factors_optional, generators_optional, left_none, mark_step, minus_step, negative_optional, neither_step, none_left, on_sign, others_end, plus_step, power_optional, run, run_behind, step, still_wanted, variables_optional, wants_of_ask, wants_of_keyword}

-- a line was read from the state s0 on, where this was wanted first
module _ (s0 : State) (first : List Want) where
  abbrev Agree : List Want → List Want → List Placed → Type 0
  Agree vs ws [] = Unit {0}
  Agree vs ws (t ∷ ts) = step t.token vs ≡ step t.token ws

  -- So much is wanted next.
  pub record Wanted (ws : List Want) (s : State) : Type 0 where
    pub read : List Placed
    pub all : s0.left ≡ read ++ s.left
    pub wants : List Want
    pub reached : run (toks read) first ≡ Some wants
    pub agree : Agree wants ws s.left
    pub may_end : MayEnd wants → MayEnd ws
    pub end : s.end ≡ end_of read s0.end

  -- A fault stands where the line ends, or at a token that may not stand there.
  pub data Owed (c : ℕ) : Type 0 where
    ended : (wants : List Want) → c ≡ end_of s0.left s0.end → run (toks s0.left) first ≡ Some wants → (MayEnd wants → ⊥) → Owed c
    at_token : (read : List Placed) (t : Placed) (rest : List Placed) (wants : List Want) → s0.left ≡ read ++ t ∷ rest → c ≡ t.start → run (toks read) first ≡ Some wants → step t.token wants ≡ None → Owed c

  -- Of other kinds nothing is said.
  abbrev pub Blamed : FaultKind → ℕ → Type 0
  Blamed kinds.Syntax c = Owed c
  Blamed kinds.Long c = Unit {0}
  Blamed kinds.Byte c = Unit {0}
  Blamed kinds.NoRing c = Unit {0}
  Blamed kinds.Prime c = Unit {0}
  Blamed kinds.Vars c = Unit {0}
  Blamed kinds.Taken c = Unit {0}
  Blamed kinds.Unknown c = Unit {0}
  Blamed kinds.Kind c = Unit {0}
  Blamed kinds.Wide c = Unit {0}
  Blamed kinds.Large c = Unit {0}
  Blamed kinds.Constant c = Unit {0}
  Blamed kinds.Arity c = Unit {0}
  Blamed kinds.Many c = Unit {0}
  Blamed kinds.Range c = Unit {0}

  pub data Post {E A : Type 0} (fault : E → LineFault) (P : A → Type 0) : Result A E → Type 0 where
    fine : {x : A} → P x → Post fault P (Ok x)
    failed : {e : E} → Blamed (fault e).kind (fault e).column → Post fault P (Err e)

  -- So much is wanted after it, and at most so many tokens are left.
  record Goes {A : Type 0} (n : ℕ) (ws : List Want) (x : A × State) : Type 0 where
    wanted : Wanted ws x.1
    few : length x.1.left ≤ n

  -- the same, and fewer are left
  record Shrinks {A : Type 0} (n : ℕ) (ws : List Want) (x : A × State) : Type 0 where
    wanted : Wanted ws x.1
    fewer : length x.1.left < n

  record Takes {E A : Type 0} (fault : E → LineFault) (ws vs : List Want) (R : State → Result (A × State) E) : Type 0 where
    from : (s : State) → Wanted ws s → Post fault (Goes (length s.left) vs) (R s)

  abbrev Anything : {A : Type 0} → A → Type 0
  Anything x = Unit {0}

  record Stops {A : Type 0} (ws : List Want) (R : State → Result A LineFault) : Type 0 where
    from : (s : State) → Wanted ws s → Post (λ e. e) Anything (R s)

  -- the next token, and the state after it
  record Next (ws : List Want) (tok : Token) (n : ℕ) (u : State) : Type 0 where
    good : (vs : List Want) → step tok ws ≡ Some vs → Wanted vs u
    bad : step tok ws ≡ None → Owed u.start
    short : length u.left < n

  agree_at : {ws : List Want} {s : State} (H : Wanted ws s) (t : Placed) (ts : List Placed) → s.left ≡ t ∷ ts → step t.token H.wants ≡ step t.token ws
  agree_at {ws} H t ts e = subst (Agree H.wants ws) e H.agree

  taken : {ws : List Want} {s : State} → Wanted ws s → (t : Placed) (ts : List Placed) → s.left ≡ t ∷ ts → Next ws t.token (length s.left) (after t ts)
  taken {ws} {s} H t ts e = record {
    good = λ vs is. record {
      read = H.read ++ t ∷ [];
      all = H.all ∙ ap (λ us. H.read ++ us) e ∙ sym (append_assoc H.read (t ∷ []) ts);
      wants = vs;
      reached = ap (λ us. run us first) (map-append (λ (t : Placed). t.token) H.read (t ∷ [])) ∙ run_behind (toks H.read) (t.token ∷ []) first H.wants H.reached ∙ ap (option_and_then (run [])) (agree_at H t ts e ∙ is);
      agree = same vs ts;
      may_end = λ h. h;
      end = sym (end_last H.read t s0.end);
    };
    bad = λ is. at_token H.read t ts H.wants (H.all ∙ ap (λ us. H.read ++ us) e) refl H.reached (agree_at H t ts e ∙ is);
    short = let all = ap length e in omega (arith, all);
  }
    where
      same : (vs : List Want) (us : List Placed) → Agree vs vs us
      same vs [] = tt
      same vs (u ∷ us) = refl

  at_the_end : {ws : List Want} {s : State} → Wanted ws s → (MayEnd ws → ⊥) → s.left ≡ [] → Owed s.end
  at_the_end H needed e =
      let whole : H.read ≡ s0.left = sym (append-nil H.read) ∙ ap (λ us. H.read ++ us) (sym e) ∙ sym H.all in
      ended H.wants (H.end ∙ ap (λ us. end_of us s0.end) whole) (ap (λ us. run (toks us) first) (sym whole) ∙ H.reached) (λ h. needed (H.may_end h))

  -- where no token that is left may stand
  refused : {ws : List Want} (s : State) → Wanted ws s → (s.left ≡ [] → MayEnd ws → ⊥) → ((t : Placed) (ts : List Placed) → s.left ≡ t ∷ ts → (step t.token ws ≡ None) ⊎ (t.token ≡ BadByte)) → Blamed (fault_of (unexpected s)).kind (fault_of (unexpected s)).column
  unfolding unexpected
  refused {ws} s H needed none = by s.left refl
    where
      blamed : (tok : Token) (c : ℕ) → (step tok ws ≡ None) ⊎ (tok ≡ BadByte) → (step tok ws ≡ None → Owed c) → Blamed (kind_of (blame tok)) c
      blamed (Word w) c (inl is) owed = owed is
      blamed (Number n) c (inl is) owed = owed is
      blamed (Sign b) c (inl is) owed = owed is
      blamed (Word w) c (inr is) owed = absurd cc
      blamed (Number n) c (inr is) owed = absurd cc
      blamed (Sign b) c (inr is) owed = absurd cc
      blamed BadByte c is owed = tt

      by : (ts : List Placed) → s.left ≡ ts → Blamed (fault_of (unexpected (record { left = ts; start = s.start; end = s.end }))).kind (fault_of (unexpected (record { left = ts; start = s.start; end = s.end }))).column
      by [] e = at_the_end H (needed e) e
      by (t ∷ ts) e = blamed t.token t.start (none t ts e) (taken H t ts e).bad

  -- ---- one rule after another

  less : {E A : Type 0} {fault : E → LineFault} {ws : List Want} (m n : ℕ) {r : Result (A × State) E} → m ≤ n → Post fault (Goes m ws) r → Post fault (Goes n ws) r
  less m n below (fine h) = let few = h.few in fine (record { wanted = h.wanted; few = omega (arith, below, few) })
  less m n below (failed h) = failed h

  then_post : {E A B : Type 0} {fault : E → LineFault} {P : A → Type 0} {Q : B → Type 0} {r : Result A E} (f : A → Result B E) → Post fault P r → ((x : A) → P x → Post fault Q (f x)) → Post fault Q (r >>= f)
  then_post f (fine h) k = k _ h
  then_post f (failed h) k = failed h

  then_takes : {E A B : Type 0} {fault : E → LineFault} {ws vs us : List Want} (R : State → Result (A × State) E) (f : A × State → Result (B × State) E) → Takes fault ws vs R → ((x : A) → Takes fault vs us (λ s. f (x, s))) → Takes fault ws us (λ s. R s >>= f)
  then_takes R f H K = record { from = λ s at. then_post f (H.from s at) (λ x h. less (length x.1.left) (length s.left) h.few ((K x.0).from x.1 h.wanted)) }

  then_stops : {A B : Type 0} {ws vs : List Want} (R : State → Answer A) (f : A × State → Result B LineFault) → Takes (λ e. e) ws vs R → ((x : A) → Stops vs (λ s. f (x, s))) → Stops ws (λ s. R s >>= f)
  then_stops R f H K = record { from = λ s at. then_post f (H.from s at) (λ x h. (K x.0).from x.1 h.wanted) }

  value_takes : {E A : Type 0} {fault : E → LineFault} {ws : List Want} (x : A) → Takes fault ws ws (λ s. Ok (x, s))
  value_takes x = record { from = λ s at. fine (record { wanted = at; few = omega arith }) }

  if_post : {E A : Type 0} {fault : E → LineFault} {P : A → Type 0} (c : Bool) {q r : Result A E} → Post fault P q → Post fault P r → Post fault P (cond c q r)
  if_post true h k = h
  if_post false h k = k

  if_takes : {E A : Type 0} {fault : E → LineFault} {ws vs : List Want} (c : Bool) (Q R : State → Result (A × State) E) → Takes fault ws vs Q → Takes fault ws vs R → Takes fault ws vs (λ s. cond c (Q s) (R s))
  if_takes c Q R h k = record { from = λ s at. if_post c (h.from s at) (k.from s at) }

  option_takes : {X E A : Type 0} {fault : E → LineFault} {ws vs : List Want} (o : Option X) (F : X → State → Result (A × State) E) (D : State → Result (A × State) E) → ((x : X) → Takes fault ws vs (F x)) → Takes fault ws vs D → Takes fault ws vs (λ s. option_map_or (λ x. F x s) o (D s))
  option_takes None F D h k = k
  option_takes (Some x) F D h k = h x

  -- ---- tokens and signs

  next_post : {E A : Type 0} {fault : E → LineFault} {P : A → Type 0} {ws : List Want} (f : Token × State → Result A E) (d : Result A E) (s : State) → Wanted ws s
      → ((tok : Token) (u : State) → Next ws tok (length s.left) u → Post fault P (f (tok, u))) → (s.left ≡ [] → Post fault P d) → Post fault P (option_map_or f (next s) d)
  unfolding next
  next_post {fault = fault} {P = P} {ws = ws} f d s at each none = by s.left refl
    where
      by : (ts : List Placed) → s.left ≡ ts → Post fault P (option_map_or f (next (record { left = ts; start = s.start; end = s.end })) d)
      by [] e = none e
      by (t ∷ ts) e = each t.token (after t ts) (taken at t ts e)

  -- What one token makes.
  record Handles {E A : Type 0} (fault : E → LineFault) (ws vs : List Want) (read : Token → State → Result (A × State) E) : Type 0 where
    needed : MayEnd ws → ⊥
    each : (tok : Token) (n : ℕ) (u : State) → Next ws tok n u → Post fault (Goes n vs) (read tok u)

  nothing_left : {ws : List Want} (s : State) → Wanted ws s → (MayEnd ws → ⊥) → s.left ≡ [] → Blamed (fault_of (unexpected s)).kind (fault_of (unexpected s)).column
  nothing_left s at needed e = refused s at (λ _. needed) (λ t ts is. absurd (let both = sym e ∙ is in cc))

  text_taking : {A : Type 0} {ws vs : List Want} (read : Token → State → text.Answer A) → Handles fault_of ws vs read → Takes fault_of ws vs (text.taking read)
  text_taking read K = record { from = λ s at. next_post (λ t. read t.0 t.1) (Err (unexpected s)) s at (λ tok u k. K.each tok (length s.left) u k) (λ e. failed (nothing_left s at K.needed e)) }

  line_taking : {A : Type 0} {ws vs : List Want} (read : Token → State → Answer A) → Handles (λ e. e) ws vs read → Takes (λ e. e) ws vs (taking read)
  line_taking read K = record { from = λ s at. next_post (λ t. read t.0 t.1) (Err (not_here s)) s at (λ tok u k. K.each tok (length s.left) u k) (λ e. failed (nothing_left s at K.needed e)) }

  skipped : {b : ℕ} {w : Want} {inside : List Want → List Want} {ws : List Want} {s : State} → IsOptional b w inside → Wanted (w ∷ ws) s → NotNext b s.left → Wanted ws s
  skipped {b} {w} {inside} {ws} {s} optional H missing = record { read = H.read; all = H.all; wants = H.wants; reached = H.reached; agree = by s.left H.agree missing; may_end = λ h. others_end (H.may_end h); end = H.end }
    where
      by : (ts : List Placed) → Agree H.wants (w ∷ ws) ts → NotNext b ts → Agree H.wants ws ts
      by [] h k = tt
      by (t ∷ ts) h k = h ∙ optional.is t.token ws ∙ ap (λ c. cond c (Some (inside ws)) (step t.token ws)) k

  optional_sign : {b : ℕ} {w : Want} {inside : List Want → List Want} {ws : List Want} {s : State} → IsOptional b w inside → Wanted (w ∷ ws) s → (t : Placed) (ts : List Placed) → s.left ≡ t ∷ ts → is_the_sign b t.token ≡ true → Wanted (inside ws) (after t ts)
  optional_sign {b} {w} {inside} {ws} optional H t ts e is = (taken H t ts e).good (inside ws) (optional.is t.token ws ∙ ap (λ c. cond c (Some (inside ws)) (step t.token ws)) is)

  shorter : (s : State) (t : Placed) (ts : List Placed) → s.left ≡ t ∷ ts → length ts ≤ length s.left
  shorter s t ts e = let all = ap length e in omega (arith, all)

  sign_or : {E A : Type 0} {fault : E → LineFault} {b : ℕ} {w : Want} {inside : List Want → List Want} {ws vs : List Want} (F D : State → Result (A × State) E) → IsOptional b w inside → Takes fault (inside ws) vs F → Takes fault ws vs D
      → Takes fault (w ∷ ws) vs (λ s. option_map_or F (after_sign b s) (D s))
  sign_or {fault = fault} {b = b} {vs = vs} F D optional some other = record {
    from = λ s at. on_sign (Post fault (Goes (length s.left) vs)) b F (D s) s
        (λ t ts e is. less (length ts) (length s.left) (shorter s t ts e) (some.from (after t ts) (optional_sign optional at t ts e is))) (λ missing. other.from s (skipped optional at missing));
  }

  -- a sign that has to stand there
  mark_missing : {ws : List Want} (b : ℕ) (s : State) → Wanted (Mark b ∷ ws) s → NotNext b s.left → Blamed (fault_of (unexpected s)).kind (fault_of (unexpected s)).column
  mark_missing {ws} b s at missing = refused s at (λ _. still_wanted (λ h. h)) (λ t ts e. by t.token (subst (NotNext b) e missing))
    where
      by : (tok : Token) → is_the_sign b tok ≡ false → (step tok (Mark b ∷ ws) ≡ None) ⊎ (tok ≡ BadByte)
      by (Word w) is = inl refl
      by (Number n) is = inl refl
      by (Sign c) is = inl (ap (λ x. cond x (Some ws) None) is)
      by BadByte is = inr refl

  mark_or : {E A : Type 0} {fault : E → LineFault} {ws vs : List Want} (b : ℕ) (F : State → Result (A × State) E) (refuse : State → E) → ((s : State) → fault (refuse s) ≡ fault_of (unexpected s)) → Takes fault ws vs F
      → Takes fault (Mark b ∷ ws) vs (λ s. option_map_or F (after_sign b s) (Err (refuse s)))
  mark_or {fault = fault} {ws = ws} {vs = vs} b F refuse is K = record {
    from = λ s at. on_sign (Post fault (Goes (length s.left) vs)) b F (Err (refuse s)) s
        (λ t ts e yes. less (length ts) (length s.left) (shorter s t ts e) (K.from (after t ts) ((taken at t ts e).good ws (mark_step ws b t.token yes))))
        (λ missing. failed (subst (λ f. Blamed f.kind f.column) (sym (is s)) (mark_missing b s at missing)));
  }

  sign_takes : {A : Type 0} {ws vs : List Want} (b : ℕ) (f : State → Answer A) → Takes (λ e. e) ws vs f → Takes (λ e. e) (Mark b ∷ ws) vs (λ s. sign b s >>= f)
  unfolding sign
  sign_takes {ws = ws} {vs = vs} b f K = record { from = λ s at. subst (Post (λ e. e) (Goes (length s.left) vs)) (same s (after_sign b s)) ((mark_or b f not_here (λ s. refl) K).from s at) }
    where
      same : (s : State) (o : Option State) → option_map_or f o (Err (not_here s)) ≡ (option_map_or (λ t. Ok t) o (Err (not_here s)) >>= f)
      same s (Some t) = refl
      same s None = refl

  ends : {A : Type 0} (x : A) → Stops [] (λ s. at_end (x, s))
  unfolding at_end
  ends x = record { from = λ s at. next_post (λ _. Err (not_here s)) (Ok x) s at (λ tok u k. failed (refused s at (λ e. absurd (some s k e)) (λ t ts e. inl (nothing t.token)))) (λ e. fine tt) }
    where
      nothing : (tok : Token) → step tok [] ≡ None
      nothing tok = refl

      some : (s : State) {tok : Token} {u : State} → Next [] tok (length s.left) u → s.left ≡ [] → ⊥
      some s k e = let short = k.short in let none = ap length e in absurd (omega (arith, short, none))

  -- ---- lists with commas

  module _ {A : Type 0} {w : Want} {inside : List Want → List Want} (item : List A → State → Answer A) (ws : List Want) (optional : IsOptional comma w inside) (each : (xs : List A) → Takes (λ e. e) (inside ws) (w ∷ ws) (item xs)) where
    more_post : (n : ℕ) (xs : List A) (s : State) → Wanted (w ∷ ws) s → length s.left ≤ n → Post (λ e. e) (Goes (length s.left) ws) (more item n xs s)
    unfolding more
    more_post zero xs s at enough = fine (record { wanted = skipped optional at (left_none comma s (none_left s enough)); few = omega arith })
    more_post (suc n) xs s at enough =
        on_sign (Post (λ e. e) (Goes (length s.left) ws)) comma (λ t. item xs t >>= λ x. more item n (xs ++ x.0 ∷ []) x.1) (Ok (xs, s)) s
        (λ t ts e is. let all = ap length e in
        then_post (λ x. more item n (xs ++ x.0 ∷ []) x.1) ((each xs).from (after t ts) (optional_sign optional at t ts e is))
        (λ x h. let few = h.few in less (length x.1.left) (length s.left) (omega (arith, all, few)) (more_post n (xs ++ x.0 ∷ []) x.1 h.wanted (omega (arith, all, few, enough)))))
        (λ missing. fine (record { wanted = skipped optional at missing; few = omega arith }))

    listed_takes : {vs : List Want} → Takes (λ e. e) vs (w ∷ ws) (item []) → Takes (λ e. e) vs ws (listed item)
    unfolding listed
    listed_takes head = then_takes (item []) (λ x. more item (length x.1.left) (x.0 ∷ []) x.1) head (λ x. record { from = λ s at. more_post (length s.left) (x ∷ []) s at (omega arith) })

  enclosed_takes : {A : Type 0} {ws vs : List Want} (inside : State → Answer A) → Takes (λ e. e) ws (Mark closing ∷ vs) inside → Takes (λ e. e) (Mark opening ∷ ws) vs (enclosed inside)
  unfolding enclosed
  enclosed_takes inside K = sign_takes opening (λ o. inside o >>= λ x. sign closing x.1 >>= λ u. Ok (x.0, u)) (then_takes inside (λ x. sign closing x.1 >>= λ u. Ok (x.0, u)) K (λ x. sign_takes closing (λ u. Ok (x, u)) (value_takes x)))

  -- ---- repeated turns

  data TurnPost {A : Type 0} (ws : List Want) (w : Want) (s : State) : Option (text.Answer A) → Type 0 where
    no_turn : Wanted ws s → TurnPost ws w s None
    turned : {r : text.Answer A} → Post fault_of (Shrinks (length s.left) (w ∷ ws)) r → TurnPost ws w s (Some r)

  sign_turn : {A : Type 0} {w : Want} {ws : List Want} (b : ℕ) (F : State → text.Answer A) (D : State → Option (text.Answer A)) (s : State)
      → ((t : Placed) (ts : List Placed) → s.left ≡ t ∷ ts → is_the_sign b t.token ≡ true → Post fault_of (Goes (length ts) (w ∷ ws)) (F (after t ts))) → (NotNext b s.left → TurnPost ws w s (D s))
      → TurnPost ws w s (option_map_or (λ t. Some (F t)) (after_sign b s) (D s))
  sign_turn {A} {w} {ws} b F D s some other =
      on_sign (TurnPost ws w s) b (λ t. Some (F t)) (D s) s (λ t ts e is. let all = ap length e in turned (fewer (length ts) (omega (arith, all)) (some t ts e is))) other
    where
      fewer : (m : ℕ) → m < length s.left → {r : text.Answer A} → Post fault_of (Goes m (w ∷ ws)) r → Post fault_of (Shrinks (length s.left) (w ∷ ws)) r
      fewer m below (fine h) = let few = h.few in fine (record { wanted = h.wanted; fewer = omega (arith, below, few) })
      fewer m below (failed h) = failed h

  module _ {A : Type 0} {w : Want} {ws : List Want} (turn : A → State → Option (text.Answer A)) (each : (x : A) (s : State) → Wanted (w ∷ ws) s → TurnPost ws w s (turn x s)) (stop : (s : State) → Wanted (w ∷ ws) s → s.left ≡ [] → Wanted ws s) where
    repeat_post : (n : ℕ) (x : A) (s : State) → Wanted (w ∷ ws) s → length s.left ≤ n → Post fault_of (Goes (length s.left) ws) (text.repeat turn n x s)
    unfolding text.repeat
    repeat_post zero x s at enough = fine (record { wanted = stop s at (none_left s enough); few = omega arith })
    repeat_post (suc n) x s at enough = by (each x s at) (repeat_post n)
      where
        by : {o : Option (text.Answer A)} → TurnPost ws w s o → ((x : A) (s : State) → Wanted (w ∷ ws) s → length s.left ≤ n → Post fault_of (Goes (length s.left) ws) (text.repeat turn n x s))
            → Post fault_of (Goes (length s.left) ws) (option_map_or (λ a. a >>= λ r. text.repeat turn n r.0 r.1) o (Ok (x, s)))
        by (no_turn h) rec = fine (record { wanted = h; few = omega arith })
        by (turned h) rec = then_post (λ r. text.repeat turn n r.0 r.1) h (λ r k. let fewer = k.fewer in less (length r.1.left) (length s.left) (omega (arith, fewer)) (rec r.0 r.1 k.wanted (omega (arith, fewer, enough))))

    repeat_takes : (x : A) → Takes fault_of (w ∷ ws) ws (λ s. text.repeat turn (length s.left) x s)
    repeat_takes x = record { from = λ s at. repeat_post (length s.left) x s at (omega arith) }

  -- ---- expressions

  good : {E A : Type 0} {fault : E → LineFault} {ws : List Want} {tok : Token} {n : ℕ} {u : State} (vs : List Want) (x : A) → Next ws tok n u → step tok ws ≡ Some vs → Post fault (Goes n vs) (Ok (x, u))
  good vs x k is = let short = k.short in fine (record { wanted = k.good vs is; few = omega (arith, short) })

  exponent_of_handles : {ws : List Want} → Handles fault_of (Numeral ∷ ws) ws text.exponent_of
  unfolding text.exponent_of
  exponent_of_handles {ws} = record { needed = still_wanted (λ h. h); each = by }
    where
      by : (tok : Token) (m : ℕ) (u : State) → Next (Numeral ∷ ws) tok m u → Post fault_of (Goes m ws) (text.exponent_of tok u)
      by (Number n) m u k = if_post (text.is_wide n) (failed tt) (if_post (ltb 1000 n) (failed tt) (good ws n k refl))
      by (Word w) m u k = failed (k.bad refl)
      by (Sign b) m u k = failed (k.bad refl)
      by BadByte m u k = failed tt

  formed_takes : {ws : List Want} (o : Option Polynomial) → Takes fault_of ws ws (text.formed o)
  formed_takes None = record { from = λ s at. failed tt }
  formed_takes (Some f) = value_takes f

  variable_post : {ws : List Want} {tok : Token} {n : ℕ} {u : State} (vs : List Want) (m : Meaning) → Next ws tok n u → step tok ws ≡ Some vs → Post fault_of (Goes n vs) (text.variable m u)
  unfolding text.variable
  variable_post vs (meanings.Variable i) k is = good vs (term 1 (variable_exponents i)) k is
  variable_post vs meanings.Unknown k is = failed tt
  variable_post vs meanings.OtherKind k is = failed tt

  no_summand : {ws : List Want} {s : State} → Wanted (Summands ∷ ws) s → NotNext plus s.left → NotNext minus s.left → Wanted ws s
  no_summand {ws} {s} H unlike other = record { read = H.read; all = H.all; wants = H.wants; reached = H.reached; agree = by s.left H.agree unlike other; may_end = λ h. others_end (H.may_end h); end = H.end }
    where
      by : (ts : List Placed) → Agree H.wants (Summands ∷ ws) ts → NotNext plus ts → NotNext minus ts → Agree H.wants ws ts
      by [] h k l = tt
      by (t ∷ ts) h k l = h ∙ neither_step ws t.token k l

  module _ (F : Field) (meaning : List ℕ → Meaning) where
    module _ (inside : State → text.Answer Polynomial) (I : (ws : List Want) → Takes fault_of (an_expression (Mark closing ∷ ws)) ws inside) where
      atom_of_handles : {ws : List Want} → Handles fault_of (Operand ∷ ws) ws (text.atom_of F meaning inside)
      unfolding text.atom_of text.constant
      atom_of_handles {ws} = record { needed = still_wanted (λ h. h); each = by }
        where
          sign_by : (m b : ℕ) (u : State) → Next (Operand ∷ ws) (Sign b) m u → (c : Bool) → eqb b opening ≡ c → Post fault_of (Goes m ws) (cond c (inside u) (Err (record { cause = causes.Syntax; place = u.start })))
          sign_by m b u k true is = let short = k.short in less (length u.left) m (omega (arith, short)) ((I ws).from u (k.good _ (ap (λ c. cond c (Some (an_expression (Mark closing ∷ ws))) None) is)))
          sign_by m b u k false is = failed (k.bad (ap (λ c. cond c (Some (an_expression (Mark closing ∷ ws))) None) is))

          by : (tok : Token) (m : ℕ) (u : State) → Next (Operand ∷ ws) tok m u → Post fault_of (Goes m ws) (text.atom_of F meaning inside tok u)
          by (Number n) m u k = if_post (text.is_wide n) (failed tt) (good ws (term (n % F.characteristic) origin) k refl)
          by (Word w) m u k = variable_post ws (meaning w) k refl
          by (Sign b) m u k = sign_by m b u k (eqb b opening) refl
          by BadByte m u k = failed tt

      factor_takes : {ws : List Want} → Takes fault_of (Operand ∷ Power ∷ ws) ws (text.factor F meaning inside)
      unfolding text.factor text.atom
      factor_takes =
          then_takes (text.atom F meaning inside) _ (text_taking (text.atom_of F meaning inside) atom_of_handles)
          (λ base. sign_or (λ t. text.taking text.exponent_of t >>= λ k. text.formed (text.power_within F base k.0) k.1) (λ s. Ok (base, s)) power_optional
          (then_takes (text.taking text.exponent_of) _ (text_taking text.exponent_of exponent_of_handles) (λ k. formed_takes (text.power_within F base k))) (value_takes base))

      times_turn : {ws : List Want} (f : Polynomial) (s : State) → Wanted (Factors ∷ ws) s → TurnPost ws Factors s (text.times_factor F meaning inside f s)
      unfolding text.times_factor
      times_turn {ws} f s at =
          let times : State → text.Answer Polynomial = λ t. text.factor F meaning inside t >>= λ g. text.formed (text.within (product F f g.0)) g.1 in
          let K : Takes fault_of (a_term ws) (Factors ∷ ws) times = then_takes (text.factor F meaning inside) _ factor_takes (λ g. formed_takes (text.within (product F f g))) in
          subst (TurnPost ws Factors s) (mapped times (after_sign star s))
          (sign_turn star times (λ s. None) s (λ t ts e is. K.from (after t ts) (optional_sign factors_optional at t ts e is)) (λ missing. no_turn (skipped factors_optional at missing)))

      term_takes : {ws : List Want} → Takes fault_of (a_term ws) ws (text.term_at F meaning inside)
      unfolding text.term_at
      term_takes =
          then_takes (text.factor F meaning inside) _ factor_takes
          (λ f. repeat_takes (text.times_factor F meaning inside) times_turn (λ s at e. skipped factors_optional at (left_none star s e)) f)

      first_takes : {ws : List Want} → Takes fault_of (Negative ∷ a_term ws) ws (text.first_term F meaning inside)
      unfolding text.first_term
      first_takes = sign_or (λ t. text.term_at F meaning inside t >>= λ f. Ok (negation F f.0, f.1)) (text.term_at F meaning inside) negative_optional (then_takes (text.term_at F meaning inside) _ term_takes (λ f. value_takes (negation F f))) term_takes

      plus_turn : {ws : List Want} (f : Polynomial) (s : State) → Wanted (Summands ∷ ws) s → TurnPost ws Summands s (text.plus_term F meaning inside f s)
      unfolding text.plus_term
      plus_turn {ws} f s at =
          let added : State → text.Answer Polynomial = λ t. text.term_at F meaning inside t >>= λ g. text.formed (text.within (sum F f g.0)) g.1 in
          let lessened : State → text.Answer Polynomial = λ t. text.term_at F meaning inside t >>= λ g. text.formed (text.within (sum F f (negation F g.0))) g.1 in
          let K : Takes fault_of (a_term (Summands ∷ ws)) (Summands ∷ ws) added = then_takes (text.term_at F meaning inside) _ term_takes (λ g. formed_takes (text.within (sum F f g))) in
          let L : Takes fault_of (a_term (Summands ∷ ws)) (Summands ∷ ws) lessened = then_takes (text.term_at F meaning inside) _ term_takes (λ g. formed_takes (text.within (sum F f (negation F g)))) in
          sign_turn plus added (λ s. option_map lessened (after_sign minus s)) s
          (λ t ts e is. K.from (after t ts) ((taken at t ts e).good _ (plus_step ws t.token is)))
          (λ unlike. subst (TurnPost ws Summands s) (mapped lessened (after_sign minus s))
          (sign_turn minus lessened (λ s. None) s
          (λ t ts e is. L.from (after t ts) ((taken at t ts e).good _ (minus_step ws t.token (subst (NotNext plus) e unlike) is)))
          (λ other. no_turn (no_summand at unlike other))))

      sum_takes : {ws : List Want} → Takes fault_of (an_expression ws) ws (text.sum_at F meaning inside)
      unfolding text.sum_at
      sum_takes =
          then_takes (text.first_term F meaning inside) _ first_takes
          (λ f. repeat_takes (text.plus_term F meaning inside) plus_turn (λ s at e. no_summand at (left_none plus s e) (left_none minus s e)) f)

    parenthesised_takes : (depth : ℕ) (ws : List Want) → Takes fault_of (an_expression (Mark closing ∷ ws)) ws (text.parenthesised F meaning depth)
    unfolding text.parenthesised
    parenthesised_takes zero ws = record { from = λ s at. failed tt }
    parenthesised_takes (suc depth) ws =
        then_takes (text.sum_at F meaning (text.parenthesised F meaning depth)) _ (sum_takes (text.parenthesised F meaning depth) (parenthesised_takes depth)) (λ f. mark_or closing (λ t. Ok (f, t)) unexpected (λ s. refl) (value_takes f))

    expression_takes : {ws : List Want} → Takes fault_of (an_expression ws) ws (text.expression F meaning)
    unfolding text.expression
    expression_takes = sum_takes (text.parenthesised F meaning 64) (parenthesised_takes 64)

  -- ---- words, numbers and names

  refusal : {A : Type 0} {ws vs : List Want} (k : FaultKind) → ((c : ℕ) → Blamed k c) → Takes {A = A} (λ e. e) ws vs (λ s. Err (fault_at k s))
  refusal k h = record { from = λ s at. failed (h s.start) }

  word_of_handles : {ws : List Want} → Handles (λ e. e) (Name ∷ ws) ws word_of
  unfolding word_of
  word_of_handles {ws} = record { needed = still_wanted (λ h. h); each = by }
    where
      by : (tok : Token) (m : ℕ) (u : State) → Next (Name ∷ ws) tok m u → Post (λ e. e) (Goes m ws) (word_of tok u)
      by (Word w) n u k = good ws w k refl
      by (Number m) n u k = failed (k.bad refl)
      by (Sign b) n u k = failed (k.bad refl)
      by BadByte n u k = failed tt

  number_of_handles : {ws : List Want} → Handles (λ e. e) (Numeral ∷ ws) ws number_of
  unfolding number_of
  number_of_handles {ws} = record { needed = still_wanted (λ h. h); each = by }
    where
      by : (tok : Token) (m : ℕ) (u : State) → Next (Numeral ∷ ws) tok m u → Post (λ e. e) (Goes m ws) (number_of tok u)
      by (Number m) n u k = good ws m k refl
      by (Word w) n u k = failed (k.bad refl)
      by (Sign b) n u k = failed (k.bad refl)
      by BadByte n u k = failed tt

  word_takes : {ws : List Want} → Takes (λ e. e) (Name ∷ ws) ws word
  unfolding word
  word_takes = line_taking word_of word_of_handles

  number_takes : {ws : List Want} → Takes (λ e. e) (Numeral ∷ ws) ws number
  unfolding number
  number_takes = line_taking number_of number_of_handles

  narrow_takes : {ws : List Want} → Takes (λ e. e) (Numeral ∷ ws) ws narrow
  unfolding narrow
  narrow_takes = then_takes number _ number_takes (λ n. if_takes (text.is_wide n) _ _ (refusal kinds.Wide (λ c. tt)) (value_takes n))

  new_name_takes : {ws : List Want} (S : Session) → Takes (λ e. e) (Name ∷ ws) ws (names.new_name S)
  unfolding names.new_name
  new_name_takes S =
      then_takes word _ word_takes
      (λ w. if_takes (names.is_variable S w || is_some (place_of (names.declared_names S.values) w)) _ _ (refusal kinds.Taken (λ c. tt)) (if_takes (leb 4096 (length S.values)) _ _ (refusal kinds.Many (λ c. tt)) (value_takes w)))

  no_such_name : (c : Bool) (n : ℕ) → Blamed (cond c kinds.Kind kinds.Unknown) n
  no_such_name true n = tt
  no_such_name false n = tt

  declared_by_handles : {ws : List Want} (S : Session) → Handles (λ e. e) (Name ∷ ws) ws (names.declared_by S)
  unfolding names.declared_by
  declared_by_handles {ws} S = record {
    needed = still_wanted (λ h. h);
    each = λ tok n u k. then_post _ (word_of_handles.each tok n u k)
        (λ w h. less (length w.1.left) n h.few ((option_takes (names.declared_as S w.0) (λ v s. Ok (v, s)) _ value_takes (refusal (cond (names.is_variable S w.0) kinds.Kind kinds.Unknown) (no_such_name (names.is_variable S w.0)))).from w.1 h.wanted));
  }

  declared_takes : {ws : List Want} (S : Session) → Takes (λ e. e) (Name ∷ ws) ws (names.declared S)
  unfolding names.declared
  declared_takes S = line_taking (names.declared_by S) (declared_by_handles S)

  -- What a place doesn't take isn't Syntax.
  abbrev Refuses : (Kind → Option FaultKind) → Type 0
  Refuses place = (v : Kind) (k : FaultKind) → place v ≡ Some k → (c : ℕ) → Blamed k c

  of_kind_takes : {ws : List Want} (place : Kind → Option FaultKind) → Refuses place → (v : ℕ × Kind) → Takes (λ e. e) ws ws (λ s. names.of_kind place (v, s))
  of_kind_takes {ws} place is v = each (place v.1) refl
    where
      each : (o : Option FaultKind) → place v.1 ≡ o → Takes (λ e. e) ws ws (λ s. option_map_or (λ k. Err (fault_at k s)) o (Ok (v.0, s)))
      each None e = value_takes v.0
      each (Some k) e = refusal k (is v.1 k e)

  kind_blamed : (k : FaultKind) → Some kinds.Kind ≡ Some k → (c : ℕ) → Blamed k c
  kind_blamed k e c = let same : kinds.Kind ≡ k = cc in subst (λ k. Blamed k c) same tt

  polynomials : Refuses names.as_polynomial
  polynomials values.Nonconstant k e c = absurd cc
  polynomials values.Constant k e c = absurd cc
  polynomials values.Ideal k e c = kind_blamed k e c
  polynomials values.Point k e c = kind_blamed k e c

  nonconstants : Refuses names.as_nonconstant
  nonconstants values.Nonconstant k e c = absurd cc
  nonconstants values.Constant k e c = let same : kinds.Constant ≡ k = cc in subst (λ k. Blamed k c) same tt
  nonconstants values.Ideal k e c = kind_blamed k e c
  nonconstants values.Point k e c = kind_blamed k e c

  ideals : Refuses names.as_ideal
  ideals values.Nonconstant k e c = kind_blamed k e c
  ideals values.Constant k e c = kind_blamed k e c
  ideals values.Ideal k e c = absurd cc
  ideals values.Point k e c = kind_blamed k e c

  points : Refuses names.as_point
  points values.Nonconstant k e c = kind_blamed k e c
  points values.Constant k e c = kind_blamed k e c
  points values.Ideal k e c = kind_blamed k e c
  points values.Point k e c = absurd cc

  polynomial_takes : {ws : List Want} (S : Session) → Takes (λ e. e) (Name ∷ ws) ws (names.polynomial S)
  unfolding names.polynomial
  polynomial_takes S = then_takes (names.declared S) _ (declared_takes S) (of_kind_takes names.as_polynomial polynomials)

  nonconstant_takes : {ws : List Want} (S : Session) → Takes (λ e. e) (Name ∷ ws) ws (names.nonconstant S)
  unfolding names.nonconstant
  nonconstant_takes S = then_takes (names.declared S) _ (declared_takes S) (of_kind_takes names.as_nonconstant nonconstants)

  ideal_takes : {ws : List Want} (S : Session) → Takes (λ e. e) (Name ∷ ws) ws (names.ideal S)
  unfolding names.ideal
  ideal_takes S = then_takes (names.declared S) _ (declared_takes S) (of_kind_takes names.as_ideal ideals)

  -- ---- numbers

  within_takes : {ws : List Want} (low high : ℕ) → Takes (λ e. e) (Numeral ∷ ws) ws (numbers.within low high)
  unfolding numbers.within
  within_takes low high = then_takes narrow _ narrow_takes (λ n. if_takes (ltb n low || ltb high n) _ _ (refusal kinds.Range (λ c. tt)) (value_takes n))

  exponent_takes : {ws : List Want} → Takes (λ e. e) (Numeral ∷ ws) ws numbers.exponent
  unfolding numbers.exponent
  exponent_takes = within_takes 0 12

  level_takes : {ws : List Want} (p : ℕ) → Takes (λ e. e) (Numeral ∷ ws) ws (numbers.level p)
  unfolding numbers.level
  level_takes p = then_takes narrow _ narrow_takes (λ n. if_takes (eqb n 0 || ltb 65536 (p ^ n)) _ _ (refusal kinds.Range (λ c. tt)) (value_takes n))

  ratio_of_takes : {ws : List Want} (positive : Bool) (m n : ℕ) → Takes (λ e. e) ws ws (numbers.ratio_of positive m n)
  unfolding numbers.ratio_of
  ratio_of_takes positive m n =
      option_takes (numbers.lowest m n) (λ t s. cond (numbers.is_exponent positive t) (Ok (t, s)) (Err (fault_at kinds.Range s))) _ (λ t. if_takes (numbers.is_exponent positive t) _ _ (value_takes t) (refusal kinds.Range (λ c. tt))) (refusal kinds.Range (λ c. tt))

  ratio_takes : {ws : List Want} (positive : Bool) → Takes (λ e. e) (Numeral ∷ Denominator ∷ ws) ws (numbers.ratio positive)
  unfolding numbers.ratio
  ratio_takes positive =
      then_takes narrow _ narrow_takes
      (λ m. sign_or (λ t. narrow t >>= λ n. numbers.ratio_of positive m n.0 n.1) (numbers.ratio_of positive m 1) denominator_optional (then_takes narrow _ narrow_takes (λ n. ratio_of_takes positive m n)) (ratio_of_takes positive m 1))

  -- ---- questions

  target_takes : {ws : List Want} (S : Session) → Takes (λ e. e) (Name ∷ ws) ws (question.target_at S)
  unfolding question.target_at
  target_takes {ws} S = then_takes (names.declared S) question.target_of (declared_takes S) by
    where
      by : (v : ℕ × Kind) → Takes (λ e. e) ws ws (λ s. question.target_of (v, s))
      by (i, values.Ideal) = value_takes (question.Ideal i)
      by (i, values.Point) = value_takes (question.Point i)
      by (i, values.Nonconstant) = refusal kinds.Kind (λ c. tt)
      by (i, values.Constant) = refusal kinds.Kind (λ c. tt)

  -- After the ideal of `fpure` only a word may stand.
  as_name : {n : ℕ} {u : State} (tok : Token) → Next (PerhapsName ∷ []) tok n u → Next (Name ∷ []) tok n u
  as_name (Word w) k = record { good = k.good; bad = k.bad; short = k.short }
  as_name (Number m) k = record { good = λ vs is. absurd cc; bad = λ is. k.bad refl; short = k.short }
  as_name (Sign b) k = record { good = λ vs is. absurd cc; bad = λ is. k.bad refl; short = k.short }
  as_name BadByte k = record { good = λ vs is. absurd cc; bad = λ is. k.bad refl; short = k.short }

  point_by_post : (S : Session) (j : ℕ) (tok : Token) (n : ℕ) (u : State) → Next (PerhapsName ∷ []) tok n u → Post (λ e. e) (Goes n []) (names.point_by S tok u >>= λ at. Ok (questions.PureAt j at.0, at.1))
  unfolding names.point_by
  point_by_post S j tok n u k =
      then_post _ (then_post (names.of_kind names.as_point) ((declared_by_handles S).each tok n u (as_name tok k)) (λ v h. less (length v.1.left) n h.few ((of_kind_takes names.as_point points v.0).from v.1 h.wanted)))
      (λ v h. fine (record { wanted = h.wanted; few = h.few }))

  no_name : {s : State} → Wanted (PerhapsName ∷ []) s → s.left ≡ [] → Wanted [] s
  no_name {s} H e = record { read = H.read; all = H.all; wants = H.wants; reached = H.reached; agree = subst (Agree H.wants []) (sym e) tt; may_end = λ h. others_end (H.may_end h); end = H.end }

  perhaps_point_takes : (S : Session) (j : ℕ) → Takes (λ e. e) (PerhapsName ∷ []) [] (λ s. option_map_or (λ t. names.point_by S t.0 t.1 >>= λ at. Ok (questions.PureAt j at.0, at.1)) (next s) (Ok (questions.Pure j, s)))
  perhaps_point_takes S j = record {
    from = λ s at. next_post (λ t. names.point_by S t.0 t.1 >>= λ at. Ok (questions.PureAt j at.0, at.1)) (Ok (questions.Pure j, s)) s at (λ tok u k. point_by_post S j tok (length s.left) u k) (λ e. fine (record { wanted = no_name at e; few = omega arith }));
  }

  arguments_take : (a : Ask) (S : Session) → Takes (λ e. e) (wants_of_ask a) [] (question.arguments a S)
  unfolding question.arguments question.parts question.member question.of_ideal question.of_two_ideals question.of_frobenius question.of_test_ideal question.jumps question.nu question.threshold question.pure question.compatible
  arguments_take asks.Parts S = then_takes numbers.exponent _ exponent_takes (λ e. then_takes (names.polynomial S) _ (polynomial_takes S) (λ f. value_takes _))
  arguments_take asks.Member S = then_takes (names.polynomial S) _ (polynomial_takes S) (λ f. then_takes (names.ideal S) _ (ideal_takes S) (λ j. value_takes _))
  arguments_take (asks.OneIdeal which) S = then_takes (names.ideal S) _ (ideal_takes S) (λ j. value_takes _)
  arguments_take (asks.TwoIdeals which) S = then_takes (names.ideal S) _ (ideal_takes S) (λ j. then_takes (names.ideal S) _ (ideal_takes S) (λ k. value_takes _))
  arguments_take (asks.Frobenius which) S = then_takes numbers.exponent _ exponent_takes (λ e. then_takes (names.ideal S) _ (ideal_takes S) (λ j. value_takes _))
  arguments_take (asks.TestIdeal which) S = then_takes (names.nonconstant S) _ (nonconstant_takes S) (λ f. then_takes (numbers.ratio (question.is_above_zero which)) _ (ratio_takes (question.is_above_zero which)) (λ t. value_takes _))
  arguments_take asks.Jumps S = then_takes (names.nonconstant S) _ (nonconstant_takes S) (λ f. then_takes (numbers.level S.prime) _ (level_takes S.prime) (λ e. value_takes _))
  arguments_take asks.Nu S =
      then_takes numbers.exponent _ exponent_takes (λ e. then_takes (names.nonconstant S) _ (nonconstant_takes S) (λ f. then_takes (names.ideal S) _ (ideal_takes S) (λ j. value_takes _)))
  arguments_take asks.Threshold S =
      then_takes (names.nonconstant S) _ (nonconstant_takes S) (λ f. then_takes (question.target_at S) _ (target_takes S) (λ x. then_takes (numbers.level S.prime) _ (level_takes S.prime) (λ e. value_takes _)))
  arguments_take asks.Pure S = then_takes (names.ideal S) _ (ideal_takes S) (λ j. perhaps_point_takes S j)
  arguments_take asks.Compatible S =
      then_takes numbers.exponent _ exponent_takes (λ e. then_takes (names.polynomial S) _ (polynomial_takes S) (λ u. then_takes (names.ideal S) _ (ideal_takes S) (λ j. value_takes _)))

  -- A word that names something of a fixed list.
  named_post : {B : Type 0} {P : B → Type 0} {ws : List Want} (f : List ℕ × State → Result B LineFault) (s : State) → Wanted ws s → (MayEnd ws → ⊥)
      → ((w : List ℕ) (u : State) → Next ws (Word w) (length s.left) u → Post (λ e. e) P (f (w, u)))
      → ((tok : Token) → ((w : List ℕ) → tok ≡ Word w → ⊥) → step tok ws ≡ None) → Post (λ e. e) P (word s >>= f)
  unfolding word word_of
  named_post {P = P} {ws = ws} f s at needed each none = then_post f (next_post {P = λ w. Post (λ e. e) P (f w)} (λ t. word_of t.0 t.1) (Err (not_here s)) s at handle (λ e. failed (nothing_left s at needed e))) (λ w k. k)
    where
      handle : (tok : Token) (u : State) → Next ws tok (length s.left) u → Post (λ e. e) (λ w. Post (λ e. e) P (f w)) (word_of tok u)
      handle (Word w) u k = fine (each w u k)
      handle (Number n) u k = failed (k.bad (none (Number n) (λ w is. cc)))
      handle (Sign b) u k = failed (k.bad (none (Sign b) (λ w is. cc)))
      handle BadByte u k = failed tt

  -- a want that only words of questions meet
  record IsQuestionWord (x : Want) (named : List ℕ → Option Ask) : Type 0 where
    needed : MayEnd (x ∷ []) → ⊥
    word : (w : List ℕ) → step (Word w) (x ∷ []) ≡ option_map wants_of_ask (named w)
    other : (tok : Token) → ((w : List ℕ) → tok ≡ Word w → ⊥) → step tok (x ∷ []) ≡ None

  question_by_takes : (x : Want) (named : List ℕ → Option Ask) → IsQuestionWord x named → (S : Session) → Takes (λ e. e) (x ∷ []) [] (question.question_by named S)
  unfolding question.question_by
  question_by_takes x named X S = record { from = λ s at. named_post _ s at X.needed (λ w u k. by s w u k (named w) refl) X.other }
    where
      by : (s : State) (w : List ℕ) (u : State) → Next (x ∷ []) (Word w) (length s.left) u → (o : Option Ask) → named w ≡ o
          → Post (λ e. e) (Goes (length s.left) []) (option_map_or (λ a. question.arguments a S u) o (Err (fault_at kinds.Syntax u)))
      by s w u k None is = failed (k.bad (X.word w ∙ ap (option_map wants_of_ask) is))
      by s w u k (Some a) is = let short = k.short in less (length u.left) (length s.left) (omega (arith, short)) ((arguments_take a S).from u (k.good (wants_of_ask a) (X.word w ∙ ap (option_map wants_of_ask) is)))

  question_takes : (S : Session) → Takes (λ e. e) (QuestionWord ∷ []) [] (question.question_at S)
  unfolding question.question_at
  question_takes S = question_by_takes QuestionWord question.ask_of (record { needed = still_wanted (λ h. h); word = λ w. refl; other = other }) S
    where
      other : (tok : Token) → ((w : List ℕ) → tok ≡ Word w → ⊥) → step tok (QuestionWord ∷ []) ≡ None
      other (Word w) not_word = absurd (not_word w refl)
      other (Number n) not_word = refl
      other (Sign b) not_word = refl
      other BadByte not_word = refl

  ideal_question_takes : (S : Session) → Takes (λ e. e) (IdealWord ∷ []) [] (question.ideal_question_at S)
  unfolding question.ideal_question_at
  ideal_question_takes S = question_by_takes IdealWord question.ideal_ask_of (record { needed = still_wanted (λ h. h); word = λ w. refl; other = other }) S
    where
      other : (tok : Token) → ((w : List ℕ) → tok ≡ Word w → ⊥) → step tok (IdealWord ∷ []) ≡ None
      other (Word w) not_word = absurd (not_word w refl)
      other (Number n) not_word = refl
      other (Sign b) not_word = refl
      other BadByte not_word = refl

  -- ---- declarations

  of_text_post : {ws : List Want} {n : ℕ} {r : text.Answer Polynomial} → Post fault_of (Goes n ws) r → Post (λ e. e) (Goes n ws) (declaration.of_text r)
  of_text_post (fine {x = (f, s)} h) = fine (record { wanted = h.wanted; few = h.few })
  of_text_post (failed h) = failed h

  terms_take : {ws : List Want} (S : Session) → Takes (λ e. e) (an_expression ws) ws (declaration.expression S)
  unfolding declaration.expression
  terms_take S = record { from = λ s at. of_text_post ((expression_takes (prime_field S.prime) (names.meaning S)).from s at) }

  counted_takes : {ws : List Want} (S : Session) (terms : ℕ) → Takes (λ e. e) (an_expression ws) ws (declaration.counted S terms)
  unfolding declaration.counted
  counted_takes S terms = then_takes (declaration.expression S) _ (terms_take S) (λ f. if_takes (ltb 1000000 (terms + length f)) _ _ (refusal kinds.Many (λ c. tt)) (value_takes f))

  name_equals_takes : {ws : List Want} (S : Session) → Takes (λ e. e) (Name ∷ Mark equals ∷ ws) ws (declaration.name_equals S)
  unfolding declaration.name_equals
  name_equals_takes S = then_takes (names.new_name S) _ (new_name_takes S) (λ name. sign_takes equals (λ t. Ok (name, t)) (value_takes name))

  poly_stops : (S : Session) → Stops (Name ∷ Mark equals ∷ an_expression []) (declaration.poly S)
  unfolding declaration.poly
  poly_stops S = then_stops (declaration.name_equals S) _ (name_equals_takes S) (λ name. then_stops (declaration.counted S S.terms) _ (counted_takes S S.terms) (λ f. ends (declare S name (Poly f) (length f))))

  generator_takes : {ws : List Want} (S : Session) (fs : List Terms) → Takes (λ e. e) (an_expression ws) ws (declaration.generator S fs)
  unfolding declaration.generator
  generator_takes S fs = if_takes (leb 256 (length fs)) _ _ (refusal kinds.Many (λ c. tt)) (counted_takes S (S.terms + terms_in fs))

  ideal_stops : (S : Session) → Stops (Name ∷ Mark equals ∷ Mark opening ∷ an_expression (Generators ∷ Mark closing ∷ [])) (declaration.ideal S)
  unfolding declaration.ideal
  ideal_stops S =
      then_stops (declaration.name_equals S) _ (name_equals_takes S)
      (λ name. then_stops (enclosed (listed (declaration.generator S))) _ (enclosed_takes (listed (declaration.generator S)) (listed_takes (declaration.generator S) (Mark closing ∷ []) generators_optional (generator_takes S) (generator_takes S [])))
      (λ fs. ends (declare S name (Ideal fs) (terms_in fs))))

  constant_takes : {ws : List Want} (p : ℕ) → Takes (λ e. e) (a_coordinate ws) ws (declaration.constant p)
  unfolding declaration.constant
  constant_takes p = sign_or _ (λ s. narrow s >>= λ n. Ok (n.0 % p, n.1)) negative_optional (then_takes narrow _ narrow_takes (λ n. value_takes _)) (then_takes narrow _ narrow_takes (λ n. value_takes _))

  coordinate_takes : {ws : List Want} (S : Session) (cs : List ℕ) → Takes (λ e. e) (a_coordinate ws) ws (declaration.coordinate S cs)
  unfolding declaration.coordinate
  coordinate_takes S cs = if_takes (leb (length S.variables) (length cs)) _ _ (refusal kinds.Arity (λ c. tt)) (constant_takes S.prime)

  point_stops : (S : Session) → Stops (Name ∷ Mark equals ∷ Mark opening ∷ a_coordinate (Coordinates ∷ Mark closing ∷ [])) (declaration.point S)
  unfolding declaration.point
  point_stops S =
      then_stops (declaration.name_equals S) _ (name_equals_takes S)
      (λ name. then_stops (enclosed (listed (declaration.coordinate S))) _ (enclosed_takes (listed (declaration.coordinate S)) (listed_takes (declaration.coordinate S) (Mark closing ∷ []) coordinates_optional (coordinate_takes S) (coordinate_takes S [])))
      (λ cs. record { from = λ s at. if_post (ltb (length cs) (length S.variables)) (failed tt) ((ends (declare S name (Point cs) 0)).from s at) }))

  named_result_stops : (S : Session) → Stops (Name ∷ Mark equals ∷ IdealWord ∷ []) (declaration.named_result S)
  unfolding declaration.named_result
  named_result_stops S = then_stops (declaration.name_equals S) _ (name_equals_takes S) (λ name. then_stops (question.ideal_question_at S) _ (ideal_question_takes S) (λ q. ends (declare S name (Let S.budget q) 0)))

  -- ---- statements

  prime_takes : {ws : List Want} → Takes (λ e. e) (Numeral ∷ ws) ws rings.prime
  unfolding rings.prime
  prime_takes = then_takes number _ number_takes (λ n. if_takes (is_prime n) _ _ (value_takes n) (refusal kinds.Prime (λ c. tt)))

  variable_takes : {ws : List Want} (vs : List (List ℕ)) → Takes (λ e. e) (Name ∷ ws) ws (rings.variable vs)
  unfolding rings.variable
  variable_takes vs = then_takes word _ word_takes (λ w. if_takes (leb 7 (length vs)) _ _ (refusal kinds.Vars (λ c. tt)) (if_takes (is_some (place_of vs w)) _ _ (refusal kinds.Taken (λ c. tt)) (value_takes w)))

  ring_stops : Stops (Numeral ∷ Name ∷ Variables ∷ []) rings.ring
  unfolding rings.ring
  ring_stops = then_stops rings.prime _ prime_takes (λ p. then_stops (listed rings.variable) _ (listed_takes rings.variable [] variables_optional variable_takes (variable_takes [])) (λ vs. ends (new_session p vs)))

  order_stops : (S : Session) → Stops (OrderWord ∷ []) (statements.order S)
  unfolding statements.order
  order_stops S = record { from = λ s at. named_post _ s at (still_wanted (λ h. h)) (λ w u k. by s w u k (statements.order_of w) refl) other }
    where
      by : (s : State) (w : List ℕ) (u : State) → Next (OrderWord ∷ []) (Word w) (length s.left) u → (o : Option OrderName) → statements.order_of w ≡ o
          → Post (λ e. e) Anything (option_map_or (λ name. at_end (record S { order = name }, u)) o (Err (fault_at kinds.Syntax u)))
      by s w u k None is = failed (k.bad (ap (λ o. cond (is_some o) (Some []) None) is))
      by s w u k (Some name) is = (ends (record S { order = name })).from u (k.good [] (ap (λ o. cond (is_some o) (Some []) None) is))

      other : (tok : Token) → ((w : List ℕ) → tok ≡ Word w → ⊥) → step tok (OrderWord ∷ []) ≡ None
      other (Word w) not_word = absurd (not_word w refl)
      other (Number n) not_word = refl
      other (Sign b) not_word = refl
      other BadByte not_word = refl

  budget_stops : (S : Session) → Stops (Numeral ∷ []) (statements.budget S)
  unfolding statements.budget
  budget_stops S = then_stops (numbers.within 1 10000000) _ (within_takes 1 10000000) (λ n. ends (record S { budget = n }))

  asking_stops : (S : Session) → Stops (QuestionWord ∷ []) (statements.asking S)
  unfolding statements.asking
  asking_stops S = record { from = λ s at. if_post (leb 4096 (length S.asked)) (failed tt) ((then_stops (question.question_at S) _ (question_takes S) (λ q. ends (ask S q))).from s at) }

  keyword_post : (before : Option Session) (k : Keyword) (u : State) → ((vs : List Want) → wants_of_keyword (is_some before) k ≡ Some vs → Wanted vs u) → (wants_of_keyword (is_some before) k ≡ None → Owed u.start)
      → Post (λ e. e) Anything (statements.statement_of before (Some k) u)
  unfolding statements.first statements.later
  keyword_post None keywords.Ring u good bad = ring_stops.from u (good _ refl)
  keyword_post None keywords.Order u good bad = failed tt
  keyword_post None keywords.Budget u good bad = failed tt
  keyword_post None keywords.Poly u good bad = failed tt
  keyword_post None keywords.Ideal u good bad = failed tt
  keyword_post None keywords.Point u good bad = failed tt
  keyword_post None keywords.Let u good bad = failed tt
  keyword_post None keywords.Ask u good bad = failed tt
  keyword_post (Some S) keywords.Ring u good bad = failed (bad refl)
  keyword_post (Some S) keywords.Order u good bad = (order_stops S).from u (good _ refl)
  keyword_post (Some S) keywords.Budget u good bad = (budget_stops S).from u (good _ refl)
  keyword_post (Some S) keywords.Poly u good bad = (poly_stops S).from u (good _ refl)
  keyword_post (Some S) keywords.Ideal u good bad = (ideal_stops S).from u (good _ refl)
  keyword_post (Some S) keywords.Point u good bad = (point_stops S).from u (good _ refl)
  keyword_post (Some S) keywords.Let u good bad = (named_result_stops S).from u (good _ refl)
  keyword_post (Some S) keywords.Ask u good bad = (asking_stops S).from u (good _ refl)

  word_post : (before : Option Session) (w : List ℕ) (o : Option Keyword) → statements.keyword_of w ≡ o → {n : ℕ} (u : State) → Next (Beginning (is_some before) ∷ []) (Word w) n u → Post (λ e. e) Anything (statements.statement_of before o u)
  unfolding statements.first statements.later
  word_post None w None is u k = failed (k.bad (ap (λ o. option_map_or (wants_of_keyword false) o None) is))
  word_post (Some S) w None is u k = failed (k.bad (ap (λ o. option_map_or (wants_of_keyword true) o None) is))
  word_post before w (Some x) is u k =
      keyword_post before x u (λ vs e. k.good vs (ap (λ o. option_map_or (wants_of_keyword (is_some before)) o None) is ∙ e)) (λ e. k.bad (ap (λ o. option_map_or (wants_of_keyword (is_some before)) o None) is ∙ e))

  statement_post : (before : Option Session) (tok : Token) {n : ℕ} (u : State) → Next (Beginning (is_some before) ∷ []) tok n u → Post (λ e. e) Anything (statements.statement before tok u)
  unfolding statements.statement word_of
  statement_post before (Word w) u k = word_post before w (statements.keyword_of w) refl u k
  statement_post before (Number n) u k = failed (k.bad refl)
  statement_post before (Sign b) u k = failed (k.bad refl)
  statement_post before BadByte u k = failed tt

  line_post : (before : Option Session) (s : State) → Wanted (Beginning (is_some before) ∷ []) s → Post (λ e. e) Anything (line_from before s)
  line_post before s at =
      next_post (λ t. statements.statement before t.0 t.1 >>= λ S. Ok (Some S)) (Ok before) s at (λ tok u k. then_post (λ S. Ok (Some S)) (statement_post before tok u k) (λ S h. fine tt)) (λ e. fine tt)

-- The fault of a line stands, where it is Syntax, at a token that may not stand there, or at the end of the line.
pub line_owed : (before : Option Session) (ts : List Placed) (f : LineFault) → line_from before (record { left = ts; start = 0; end = 0 }) ≡ Err f → Blamed (record { left = ts; start = 0; end = 0 }) (Beginning (is_some before) ∷ []) f.kind f.column
line_owed before ts f e = by (line_post s0 first before s0 begun) e
  where
    s0 : State
    s0 = record { left = ts; start = 0; end = 0 }

    first : List Want
    first = Beginning (is_some before) ∷ []

    alike : (us : List Placed) → Agree s0 first first first us
    alike [] = tt
    alike (u ∷ us) = refl

    begun : Wanted s0 first first s0
    begun = record { read = []; all = refl; wants = first; reached = refl; agree = alike ts; may_end = λ h. h; end = refl }

    by : {r : Result (Option Session) LineFault} → Post s0 first (λ e. e) (Anything s0 first) r → r ≡ Err f → Blamed s0 first f.kind f.column
    by (fine h) is = absurd cc
    by (failed {e = g} h) is = let same : g ≡ f = cc in subst (λ g. Blamed s0 first g.kind g.column) same h
