-- The fault of a session is the first.
use Rattle.std.proofs.Common.{◌≡◌, ℕ, zero, suc, ◌+◌, ◌-◌, ◌<◌, ◌≤◌, List, [], ◌∷◌, ◌++◌, length, map, get_or, take, drop, All, Option, Some, None, Result, Ok, Err, refl, sym, ap, ◌∙◌, subst, arith, add-zero, append_assoc, inl, inr, ◌⊎◌}
use Rattle.std.proofs.lemmas.List.{append-nil, length-append, take-append-drop}
use Rattle.fj_text.specs.State.{end_of, next, state_at, state_from}
use Rattle.fj_text.specs.Token.{Placed, tokens_from}
use Rattle.fj_script.specs.declared.fault.Fault.{Fault}
use Rattle.fj_script.specs.declared.fault.LineFault.{LineFault}
use Rattle.fj_grammar.specs.FirstFault.{AreSameBefore, AreSameThrough, HasStatements, OthersFailAtFirst, StandsBehind, line_at, tokens_before, tokens_through}
use Rattle.fj_grammar.specs.Grammar.{tokens_of}
use Rattle.fj_script.specs.LineFault.{◌>>=◌}
use Rattle.fj_script.specs.Script.{from_line, in_line, lines, script, with_ring}
use Rattle.fj_script.specs.Session.{Session}
use Rattle.fj_script.specs.Statement.{line}
use Rattle.fj_grammar.proofs.GrammarComplete.{line_skipped}
use Rattle.fj_script.proofs.Scripts.{long_script, script_of, script_of_lines}
use Rattle.fj_grammar.proofs.Rising.{AreRising, Parted, edge_here, edge_passed, first_high, high_all, line_rises, parted, rising_all, rising_behind, starts_below}
use Rattle.fj_grammar.proofs.TwoReadings.{line_along, line_from}
use Rattle.fj_grammar.proofs.TwoRuns.{AlongStop, Any, AreBehindBoth, AreHigh, FirstHigh, IsEdge, Low, Stands, alike, faulty, fine, same, void, well}

-- ---- two lines

state_begins : (bytes : List ℕ) → state_at bytes 0 ≡ record { left = tokens_from zero zero bytes; start = 0; end = 0 }
unfolding state_at
state_begins bytes = by (tokens_from zero zero bytes) refl
  where
    by : (ts : List Placed) → tokens_from zero zero bytes ≡ ts → state_from ts 0 bytes ≡ record { left = ts; start = 0; end = 0 }
    by [] e = ap (λ us. record { left = []; start = 0; end = end_of us 0 }) e
    by (t ∷ ts) e = refl

pub line_is : (before : Option Session) (bytes : List ℕ) → line before bytes ≡ line_from before (record { left = tokens_from zero zero bytes; start = 0; end = 0 })
unfolding line
line_is before bytes = ap (line_from before) (state_begins bytes)

outcome : (M : Type 0) (b c : ℕ) (r q : List Placed) (u v : Result (Option Session) LineFault) (f : LineFault) → AlongStop M b c r q (λ (e : LineFault). e.column) u v → u ≡ Err f → f.column ≡ c
    → (v ≡ Err f) ⊎ (M × Stands (λ (e : LineFault). e.column) (Low M b c r q) Any v)
outcome M b c r q u v f (alike h) e at = absurd cc
outcome M b c r q u v f (same {e = g}) e at = inl e
outcome M b c r q u v f (fine m h) e at = inr (m, h)
outcome M b c r q u v f (void (well h)) e at = absurd cc
outcome M b c r q u v f (void (faulty {e = g} h)) e at = let here : g ≡ f = cc in let column : g.column ≡ c = ap (λ f. f.column) here ∙ at in absurd (omega (arith, h, column))

two_lines : (M : Type 0) (b c : ℕ) (r q : List Placed) → AreBehindBoth M b c r q → (before : Option Session) (one other : List ℕ) (ts : List Placed) → tokens_from zero zero one ≡ ts ++ r → tokens_from zero zero other ≡ ts ++ q → b ≤ end_of ts 0 → IsEdge M b c r q ts
    → (f : LineFault) → line before one ≡ Err f → f.column ≡ c → (line before other ≡ Err f) ⊎ (M × Stands (λ (e : LineFault). e.column) (Low M b c r q) Any (line before other))
two_lines M b c r q H before one other ts begins goes h edge f e at =
    let from : (ts : List Placed) → Result (Option Session) LineFault = λ ts. line_from before (record { left = ts; start = 0; end = 0 }) in
    let first : line before one ≡ from (ts ++ r) = line_is before one ∙ ap from begins in
    let second : line before other ≡ from (ts ++ q) = line_is before other ∙ ap from goes in
    subst (λ v. (v ≡ Err f) ⊎ (M × Stands (λ (e : LineFault). e.column) (Low M b c r q) Any v)) (sym second) (outcome M b c r q (from (ts ++ r)) (from (ts ++ q)) f (line_along M b c r q H before ts h edge) (sym first ∙ e) at)

-- Lines that are the same before a fault.
pub same_before : (before : Option Session) (one other : List ℕ) (f : LineFault) → line before one ≡ Err f → tokens_before (f.column + 1) one ≡ tokens_before (f.column + 1) other
    → (line before other ≡ Err f) ⊎ Stands (λ (e : LineFault). e.column) (λ n. end_of (tokens_before (f.column + 1) one) 0 ≤ n) Any (line before other)
same_before before one other f e agrees =
    let column : ℕ = f.column + 1 in
    let P = parted column 0 (tokens_from zero zero one) (line_rises one) in
    let Q = parted column 0 (tokens_from zero zero other) (line_rises other) in
    let ts : List Placed = tokens_before column one in
    let goes : tokens_from zero zero other ≡ ts ++ Q.rest = Q.all ∙ ap (λ us. us ++ Q.rest) (sym agrees) in
    let b : ℕ = end_of ts 0 in
    let ones = rising_behind 0 ts P.rest (subst (AreRising 0) P.all (line_rises one)) in
    let others = rising_all b Q.rest (rising_behind 0 ts Q.rest (subst (AreRising 0) goes (line_rises other))) in
    let H : AreBehindBoth (Unit {0}) b f.column P.rest Q.rest = record {
      one = first_high (Unit {0}) b f.column P.rest Q.rest b P.rest ones (λ i d inside. let at = P.behind i d inside in omega (arith, at));
      other = λ i d inside. let at = others i d inside in (at.0, omega (arith, at.1));
    } in
    elim (two_lines (Unit {0}) b f.column P.rest Q.rest H before one other ts P.all goes (omega arith) (edge_here (Unit {0}) b f.column P.rest Q.rest tt ts) f e refl) [ inl h ↦ inl h | inr h ↦ inr h.1 ]

take_append : (ts us : List Placed) → take (length ts + 1) (ts ++ us) ≡ ts ++ take 1 us
take_append [] us = refl
take_append (t ∷ ts) us = let more : suc (length ts) + 1 ≡ suc (length ts + 1) = omega arith in ap (λ n. take n (t ∷ (ts ++ us))) more ∙ ap (λ vs. t ∷ vs) (take_append ts us)

-- Lines that are the same through a fault.
pub same_through : (before : Option Session) (one other : List ℕ) (f : LineFault) → line before one ≡ Err f → tokens_through (f.column + 1) one ≡ tokens_through (f.column + 1) other → line before other ≡ Err f
same_through before one other f e agrees = by P.rest P.all P.behind Q.rest Q.all Q.behind
  where
    column : ℕ
    column = f.column + 1 + 1

    P : Parted column (tokens_from zero zero one)
    P = parted column 0 (tokens_from zero zero one) (line_rises one)

    Q : Parted column (tokens_from zero zero other)
    Q = parted column 0 (tokens_from zero zero other) (line_rises other)

    ts : List Placed
    ts = tokens_before column one

    us : List Placed
    us = tokens_before column other

    first : (rest : List Placed) → tokens_from zero zero one ≡ ts ++ rest → take (length ts + 1) (tokens_from zero zero one) ≡ ts ++ take 1 rest
    first rest all = ap (take (length ts + 1)) all ∙ take_append ts rest

    second : (rest : List Placed) → tokens_from zero zero other ≡ us ++ rest → take (length us + 1) (tokens_from zero zero other) ≡ us ++ take 1 rest
    second rest all = ap (take (length us + 1)) all ∙ take_append us rest

    by : (r : List Placed) → tokens_from zero zero one ≡ ts ++ r → All (λ t. column ≤ t.start + 1) r → (q : List Placed) → tokens_from zero zero other ≡ us ++ q → All (λ t. column ≤ t.start + 1) q → line before other ≡ Err f
    by [] all far [] goes away =
        let tokens : tokens_from zero zero one ≡ tokens_from zero zero other = all ∙ sym (first [] all) ∙ agrees ∙ second [] goes ∙ sym goes in
        line_is before other ∙ ap (λ ts. line_from before (record { left = ts; start = 0; end = 0 })) (sym tokens) ∙ sym (line_is before one) ∙ e
    by [] all far (y ∷ ys) goes away =
        let tokens : ts ≡ us ++ y ∷ [] = sym (append-nil ts) ∙ sym (first [] all) ∙ agrees ∙ second (y ∷ ys) goes in
        let low = P.before (length us) y (let many = ap length tokens ∙ length-append us (y ∷ []) in omega (arith, many)) in
        let here : get_or ts (length us) y ≡ y = ap (λ vs. get_or vs (length us) y) tokens ∙ last_of us y in
        let high = away 0 y (omega arith) in
        absurd (let now = subst (λ (t : Placed). t.start + 1 < column) here low in omega (arith, now, high))
      where
        last_of : (vs : List Placed) (y : Placed) → get_or (vs ++ y ∷ []) (length vs) y ≡ y
        last_of [] y = refl
        last_of (v ∷ vs) y = last_of vs y
    by (x ∷ xs) all far q goes away =
        let n : ℕ = length us + 1 in
        let begins : tokens_from zero zero one ≡ (ts ++ x ∷ []) ++ xs = all ∙ sym (append_assoc ts (x ∷ []) xs) in
        let other_begins : tokens_from zero zero other ≡ (ts ++ x ∷ []) ++ drop n (tokens_from zero zero other) =
        sym (take-append-drop n (tokens_from zero zero other)) ∙ ap (λ vs. vs ++ drop n (tokens_from zero zero other)) (sym agrees ∙ first (x ∷ xs) all) in
        let here = far 0 x (omega arith) in
        let rises : AreRising (end_of ts 0) (x ∷ xs) = rising_behind 0 ts (x ∷ xs) (subst (AreRising 0) all (line_rises one)) in
        let passed : AreHigh ⊥ 0 f.column xs (drop n (tokens_from zero zero other)) xs = high_all ⊥ 0 f.column xs (drop n (tokens_from zero zero other)) x.end xs (omega (arith, rises.1, here)) rises.2 in
        let H : AreBehindBoth ⊥ 0 f.column xs (drop n (tokens_from zero zero other)) = record {
          one = first_of xs passed;
          other = λ i d inside. (omega arith, omega arith);
        } in
        elim (two_lines ⊥ 0 f.column xs (drop n (tokens_from zero zero other)) H before one other (ts ++ x ∷ []) begins other_begins (omega arith)
        (edge_passed ⊥ 0 f.column xs (drop n (tokens_from zero zero other)) x (omega (arith, here), omega (arith, here, rises.1), passed) ts) f e refl) [ inl h ↦ h | inr h ↦ absurd h.0 ]
      where
        first_of : (vs : List Placed) → All (λ t. (f.column < t.start) × (f.column < t.end)) vs → FirstHigh ⊥ 0 f.column [] [] vs
        first_of [] h = tt
        first_of (v ∷ vs) h = ((h 0 v (omega arith)).1, λ i d inside. h (suc i) d (omega arith))

-- ---- the lines of a session

empty_line : tokens_of [] ≡ []
unfolding tokens_from
empty_line = refl

-- The line where lines go wrong, and the session before it.
pub record FirstWrong (number : ℕ) (before : Option Session) (ls : List (List ℕ)) (fault : Fault) : Type 0 where
  pub count : ℕ
  pub session : Option Session
  pub found : LineFault
  pub is : fault ≡ record { kind = found.kind; line = number + count; column = found.column + 1 }
  pub wrong : line session (get_or ls count []) ≡ Err found
  pub reached : (others : List (List ℕ)) → take count ls ≡ take count others → from_line number before others ≡ from_line (number + count) session (drop count others)

pub first_wrong : (number : ℕ) (before : Option Session) (ls : List (List ℕ)) (fault : Fault) → from_line number before ls ≡ Err fault → FirstWrong number before ls fault
unfolding from_line
first_wrong number before [] fault e = absurd cc
first_wrong number before (l ∷ ls) fault e = by (line before l) refl e (λ after h. first_wrong (number + 1) after ls fault h)
  where
    here : (g : LineFault) → line before l ≡ Err g → ◌≡◌ {A = Result (Option Session) Fault} (Err (record { kind = g.kind; line = number; column = g.column + 1 })) (Err fault) → FirstWrong number before (l ∷ ls) fault
    here g is h = record {
      count = 0;
      session = before;
      found = g;
      is = (let same_fault : fault ≡ record { kind = g.kind; line = number; column = g.column + 1 } = cc in same_fault) ∙ ap (λ n. record { kind = g.kind; line = n; column = g.column + 1 }) (sym (add-zero number));
      wrong = is;
      reached = λ others agrees. ap (λ n. from_line n before others) (sym (add-zero number));
    }

    there : (after : Option Session) → line before l ≡ Ok after → FirstWrong (number + 1) after ls fault → FirstWrong number before (l ∷ ls) fault
    there after is w =
        let next_line : number + 1 + w.count ≡ number + suc w.count = omega arith in
        record {
          count = suc w.count;
          session = w.session;
          found = w.found;
          is = w.is ∙ ap (λ n. record { kind = w.found.kind; line = n; column = w.found.column + 1 }) next_line;
          wrong = w.wrong;
          reached = others_reach;
        }
      where
        others_reach : (others : List (List ℕ)) → take (suc w.count) (l ∷ ls) ≡ take (suc w.count) others → from_line number before others ≡ from_line (number + suc w.count) w.session (drop (suc w.count) others)
        others_reach [] agrees = absurd cc
        others_reach (o ∷ others) agrees =
            let next_line : number + 1 + w.count ≡ number + suc w.count = omega arith in
            let first : l ≡ o = cc in
            let rest : take w.count ls ≡ take w.count others = cc in
            ap (λ r. in_line number r >>= λ after. from_line (number + 1) after others) (ap (line before) (sym first) ∙ is) ∙ w.reached others rest ∙ ap (λ n. from_line n w.session (drop w.count others)) next_line

    by : (r : Result (Option Session) LineFault) → line before l ≡ r → (in_line number r >>= λ after. from_line (number + 1) after ls) ≡ Err fault → ((after : Option Session) → from_line (number + 1) after ls ≡ Err fault → FirstWrong (number + 1) after ls fault)
        → FirstWrong number before (l ∷ ls) fault
    by (Err g) is h rec = here g is h
    by (Ok after) is h rec = there after is (rec after h)

-- Lines without a ring hold no token.
no_token : (before : Option Session) (bytes : List ℕ) → line before bytes ≡ Ok None → (before ≡ None) × (tokens_of bytes ≡ [])
unfolding next
no_token before bytes e = by (tokens_from zero zero bytes) (sym (line_is before bytes) ∙ e)
  where
    made : (r : Result Session LineFault) → (r >>= λ S. Ok (Some S)) ≡ Ok None → ⊥
    made (Ok S) h = cc
    made (Err g) h = cc

    by : (ts : List Placed) → line_from before (record { left = ts; start = 0; end = 0 }) ≡ Ok None → (before ≡ None) × (map (λ (t : Placed). t.token) ts ≡ [])
    by [] h = (let same_session : before ≡ None = cc in same_session, refl)
    by (t ∷ ts) h = absurd (made _ h)

pub no_tokens : (number : ℕ) (before : Option Session) (ls : List (List ℕ)) → from_line number before ls ≡ Ok None → (before ≡ None) × ((n : ℕ) → tokens_of (get_or ls n []) ≡ [])
unfolding from_line tokens_from
no_tokens number before [] e = ((let same_session : before ≡ None = cc in same_session), λ n. refl)
no_tokens number before (l ∷ ls) e = by (line before l) refl e (λ after h. no_tokens (number + 1) after ls h)
  where
    by : (r : Result (Option Session) LineFault) → line before l ≡ r → (in_line number r >>= λ after. from_line (number + 1) after ls) ≡ Ok None
        → ((after : Option Session) → from_line (number + 1) after ls ≡ Ok None → (after ≡ None) × ((n : ℕ) → tokens_of (get_or ls n []) ≡ [])) → (before ≡ None) × ((n : ℕ) → tokens_of (get_or (l ∷ ls) n []) ≡ [])
    by (Err g) is h rec = absurd cc
    by (Ok after) is h rec =
        let rest = rec after h in
        let here = no_token before l (is ∙ ap (λ o. Ok o) rest.0) in
        (here.0, λ n. elim n as (λ k. tokens_of (get_or (l ∷ ls) k []) ≡ []) [ zero ↦ here.1 | suc k ↦ rest.1 k ])

-- The fault of a session with statements is one of its lines.
pub lines_wrong : (bytes : List ℕ) (fault : Fault) → HasStatements bytes → script bytes ≡ Err fault → from_line 1 None (lines bytes) ≡ Err fault
lines_wrong bytes fault H e = by (from_line 1 None (lines bytes)) refl (sym (script_of_lines bytes H.short) ∙ e)
  where
    by : (r : Result (Option Session) Fault) → from_line 1 None (lines bytes) ≡ r → (r >>= with_ring) ≡ Err fault → r ≡ Err fault
    by (Err g) is h = let same_fault : g ≡ fault = cc in ap (λ f. Err f) same_fault
    by (Ok (Some S)) is h = absurd cc
    by (Ok None) is h = absurd (H.some ((no_tokens 1 None (lines bytes) is).1 (H.number - 1)))

-- ---- the other sessions

empty_lines : (number : ℕ) (ls : List (List ℕ)) → ((n : ℕ) → tokens_of (get_or ls n []) ≡ []) → from_line number None ls ≡ Ok None
unfolding from_line
empty_lines number [] h = refl
empty_lines number (l ∷ ls) h = ap (λ r. in_line number r >>= λ after. from_line (number + 1) after ls) (line_skipped None l (h 0)) ∙ empty_lines (number + 1) ls (λ n. h (suc n))

pub others_fail : OthersFailAtFirst
others_fail bytes = (long_script bytes, λ short none. script_of bytes short (Ok None) (empty_lines 1 (lines bytes) (λ n. let same : n + 1 - 1 ≡ n = omega arith in ap (λ k. tokens_of (get_or (lines bytes) k [])) (sym same) ∙ none (n + 1))))

later_fault : (number : ℕ) (before : Option Session) (ls : List (List ℕ)) (fault : Fault) → from_line number before ls ≡ Err fault → number ≤ fault.line
later_fault number before ls fault e = let w = first_wrong number before ls fault e in let at : fault.line ≡ number + w.count = ap (λ f. f.line) w.is in omega (arith, at)

-- What stands at a place of a list.
at_place : (xs : List (List ℕ)) (n : ℕ) → ((drop n xs ≡ []) × (get_or xs n [] ≡ [])) ⊎ ((l : List ℕ) × (ls : List (List ℕ)) × (drop n xs ≡ l ∷ ls) × (get_or xs n [] ≡ l))
at_place [] zero = inl (refl, refl)
at_place [] (suc n) = inl (refl, refl)
at_place (x ∷ xs) zero = inr (x, xs, refl, refl)
at_place (x ∷ xs) (suc n) = at_place xs n

module _ (bytes other : List ℕ) (place : Fault) (H : HasStatements bytes) (K : HasStatements other) (e : script bytes ≡ Err place) where
  pub first_place : FirstWrong 1 None (lines bytes) place
  first_place = first_wrong 1 None (lines bytes) place (lines_wrong bytes place H e)

  count_is : place.line - 1 ≡ first_place.count
  count_is = let at : place.line ≡ 1 + first_place.count = ap (λ f. f.line) first_place.is in omega (arith, at)

  column_is : place.column ≡ first_place.found.column + 1
  column_is = ap (λ f. f.column) first_place.is

  -- an equation between the lines of the place
  of_lines : (f : ℕ → List ℕ → List Placed) → f place.column (line_at place.line bytes) ≡ f place.column (line_at place.line other)
      → f (first_place.found.column + 1) (get_or (lines bytes) first_place.count []) ≡ f (first_place.found.column + 1) (get_or (lines other) first_place.count [])
  of_lines f h =
      sym (ap (λ n. f place.column (get_or (lines bytes) n [])) count_is ∙ ap (λ n. f n (get_or (lines bytes) first_place.count [])) column_is) ∙ h
      ∙ ap (λ n. f place.column (get_or (lines other) n [])) count_is ∙ ap (λ n. f n (get_or (lines other) first_place.count [])) column_is

  reached_other : take (place.line - 1) (lines bytes) ≡ take (place.line - 1) (lines other) → from_line 1 None (lines other) ≡ from_line (1 + first_place.count) first_place.session (drop first_place.count (lines other))
  reached_other h = first_place.reached (lines other) (ap (λ n. take n (lines bytes)) (sym count_is) ∙ h ∙ ap (λ n. take n (lines other)) count_is)

  -- the fault of the line, where it has this one
  same_fault_there : (l : List ℕ) (ls : List (List ℕ)) → line first_place.session l ≡ Err first_place.found → from_line (1 + first_place.count) first_place.session (l ∷ ls) ≡ Err place
  unfolding from_line
  same_fault_there l ls h = ap (λ r. in_line (1 + first_place.count) r >>= λ after. from_line (1 + first_place.count + 1) after ls) h ∙ ap (λ f. Err f) (sym first_place.is)

  pub known : AreSameThrough place bytes other → script other ≡ Err place
  known A =
      let there = same_through first_place.session (get_or (lines bytes) first_place.count []) (get_or (lines other) first_place.count []) first_place.found first_place.wrong (of_lines tokens_through A.tokens) in
      let rest : from_line (1 + first_place.count) first_place.session (drop first_place.count (lines other)) ≡ Err place = elim (at_place (lines other) first_place.count) [
        | inl none ↦ absurd (let skipped = line_skipped first_place.session [] empty_line in let wrong = ap (line first_place.session) (sym none.1) ∙ there in cc)
        | inr some ↦ ap (from_line (1 + first_place.count) first_place.session) some.2 ∙ same_fault_there some.0 some.1 (ap (line first_place.session) (sym some.3) ∙ there)
      ] in
      script_of_lines other K.short ∙ ap (λ r. r >>= with_ring) (reached_other A.lines_before ∙ rest)

  behind_it : (fault : Fault) → from_line 1 None (lines other) ≡ Err fault → AreSameBefore place bytes other → StandsBehind place bytes fault
  unfolding from_line
  behind_it fault h A =
      let agrees = of_lines tokens_before A.tokens in
      let reached = sym (reached_other A.lines_before) ∙ h in
      elim (at_place (lines other) first_place.count) [
        | inl none ↦ absurd (let ended = ap (from_line (1 + first_place.count) first_place.session) (sym none.0) ∙ reached in not_ended ended)
        | inr some ↦ there some.0 some.1 (ap (from_line (1 + first_place.count) first_place.session) (sym some.2) ∙ reached)
            (let two = same_before first_place.session (get_or (lines bytes) first_place.count []) (get_or (lines other) first_place.count []) first_place.found first_place.wrong agrees in subst Outcome some.3 two)
      ]
    where
      ts : List Placed
      ts = tokens_before (first_place.found.column + 1) (get_or (lines bytes) first_place.count [])

      Outcome : List ℕ → Type 0
      Outcome l = (line first_place.session l ≡ Err first_place.found) ⊎ Stands (λ (e : LineFault). e.column) (λ n. end_of ts 0 ≤ n) Any (line first_place.session l)

      not_ended : Ok first_place.session ≡ Err fault → ⊥
      not_ended h = cc

      -- the tokens before the place, as the law names them
      named : ts ≡ tokens_before place.column (line_at place.line bytes)
      named = ap (λ n. tokens_before n (get_or (lines bytes) first_place.count [])) (sym column_is) ∙ ap (λ n. tokens_before place.column (get_or (lines bytes) n [])) (sym count_is)

      in_this_line : (g : LineFault) → fault ≡ record { kind = g.kind; line = 1 + first_place.count; column = g.column + 1 } → All (λ t. t.start < g.column) ts → StandsBehind place bytes fault
      in_this_line g is all =
          let line_of : fault.line ≡ place.line = ap (λ f. f.line) is ∙ sym (ap (λ f. f.line) first_place.is) in
          let column_of : fault.column ≡ g.column + 1 = ap (λ f. f.column) is in
          inr (line_of, subst (All (λ t. t.start + 1 < fault.column)) named (λ i d inside. let at = all i d inside in omega (arith, at, column_of)))

      there : (l : List ℕ) (ls : List (List ℕ)) → from_line (1 + first_place.count) first_place.session (l ∷ ls) ≡ Err fault → Outcome l → StandsBehind place bytes fault
      there l ls h o = by (line first_place.session l) refl h o
        where
          by : (r : Result (Option Session) LineFault) → line first_place.session l ≡ r → (in_line (1 + first_place.count) r >>= λ after. from_line (1 + first_place.count + 1) after ls) ≡ Err fault
              → (r ≡ Err first_place.found) ⊎ Stands (λ (e : LineFault). e.column) (λ n. end_of ts 0 ≤ n) Any r → StandsBehind place bytes fault
          by (Ok after) is k o =
              let later = later_fault (1 + first_place.count + 1) after ls fault k in
              let at : place.line ≡ 1 + first_place.count = ap (λ f. f.line) first_place.is in
              inl (omega (arith, later, at))
          by (Err g) is k (inl here) =
              let same_found : g ≡ first_place.found = cc in
              let fault_is : fault ≡ record { kind = g.kind; line = 1 + first_place.count; column = g.column + 1 } = cc in
              let P = parted (first_place.found.column + 1) 0 (tokens_from zero zero (get_or (lines bytes) first_place.count [])) (line_rises _) in
              let column_same : g.column ≡ first_place.found.column = ap (λ f. f.column) same_found in
              in_this_line g fault_is (λ i d inside. let at = P.before i d inside in omega (arith, at, column_same))
          by (Err g) is k (inr (faulty far)) =
              let fault_is : fault ≡ record { kind = g.kind; line = 1 + first_place.count; column = g.column + 1 } = cc in
              let P = parted (first_place.found.column + 1) 0 (tokens_from zero zero (get_or (lines bytes) first_place.count [])) (line_rises _) in
              let below = starts_below 0 ts P.rest (subst (AreRising 0) P.all (line_rises (get_or (lines bytes) first_place.count []))) in
              in_this_line g fault_is (λ i d inside. let at = below i d inside in omega (arith, at, far))

  pub nothing_before : (fault : Fault) → AreSameBefore place bytes other → script other ≡ Err fault → StandsBehind place bytes fault
  nothing_before fault A h = behind_it fault (lines_wrong other fault K h) A
