-- The kind of a fault is the highest at its place.
use Rattle.std.proofs.Common.{◌≡◌, ◌≢◌, ℕ, zero, ◌+◌, ◌-◌, ◌^◌, ◌<◌, ◌≤◌, List, [], ◌∷◌, ◌++◌, length, drop, get_or, All, Contains, Option, Some, None, Ok, Err, codes, refl, sym, ap, ◌∙◌, subst, arith, append_assoc, inl, inr, ◌⊎◌}
use Rattle.std.specs.Option.{is_some}
use Rattle.std.proofs.lemmas.List.{append-nil, length-map}
use Rattle.std.proofs.lemmas.List.Elements.{Contains-append_left, Contains-append_right}
use Rattle.fj_text.specs.State.{State, after, end_of, next}
use Rattle.fj_text.specs.Token.{Token, Word, Number, Sign, BadByte, Placed, opening, tokens_from}
use Rattle.fj_script.specs.declared.fault.FaultKind.{FaultKind}
use Rattle.fj_script.specs.declared.fault.FaultKind.TheVariants as kinds
use Rattle.fj_script.specs.declared.fault.LineFault.{LineFault}
use Rattle.fj_script.specs.Items.{comma, equals, slash, word_of}
use Rattle.fj_script.specs.LineFault.{◌>>=◌}
use Rattle.fj_script.specs.Script.{lines}
use Rattle.fj_script.specs.Session.{Session, Terms}
use Rattle.fj_script.specs.Statement as statements
use Rattle.fj_grammar.specs.Beginning as beginning
use Rattle.fj_grammar.specs.Beginning.{CanGoOnWith, IsAlikeFor, IsDoomed, MakeSession}
use Rattle.fj_grammar.specs.FirstFault.{line_at, tokens_before}
use Rattle.fj_grammar.specs.Grammar as grammar
use Rattle.fj_grammar.specs.Grammar.{AreListed, HasTerms, IsRing, IsSession, IsStatement, tokens_of}
use Rattle.fj_grammar.specs.Large.{HasLarge}
use Rattle.fj_grammar.specs.Many as rank
use Rattle.fj_grammar.specs.Many.{AreTooMany, HaveWrongArity}
use Rattle.fj_grammar.specs.Owed.{IsLineEnd, IsMisplaced, IsUnfinished}
use Rattle.fj_grammar.specs.Rank.{HasCause, IsOfNumber, IsOfWord, KindIsHighest, StandsAt, lines_to, tokens_to}
use Rattle.fj_grammar.specs.Wrong as wrongs
use Rattle.fj_grammar.specs.Wrong.{BeginsLater, IsWrong}
use Rattle.fj_grammar.proofs.BeginningLines.{Causes, MayFollow, MayStand, behind_lines}
use Rattle.fj_grammar.proofs.BeginningSessions.{before_is, made_before, stuck_at}
use Rattle.fj_grammar.proofs.Beginnings as Said
use Rattle.fj_grammar.proofs.Beginnings.{last_same, toks}
use Rattle.fj_grammar.proofs.ExpressionEnds.{EndsNarrow, IsNarrow, expression_narrow, narrow_behind}
use Rattle.fj_grammar.proofs.FirstFault.{FirstWrong, first_wrong, line_is, lines_wrong}
use Rattle.fj_grammar.proofs.Rising.{AreRising, line_rises, starts_below, token_is}
use Rattle.fj_grammar.proofs.TwoReadings.{line_from}
use Rattle.fj_grammar.proofs.Misplaced.{misplaced, unfinished}
use Rattle.fj_grammar.proofs.Wanted.{Beginning}
use Rattle.fj_grammar.proofs.WantedReadings.{Blamed, Owed, at_token, ended, line_owed}

-- ---- a later line of the ring

ring_again : (S : Session) (t : Placed) (ts : List Placed) (f : LineFault) → t.token ≡ Word (codes "ring") → line_from (Some S) (record { left = t ∷ ts; start = 0; end = 0 }) ≡ Err f → f.kind ≡ kinds.Syntax
unfolding statements.statement statements.later statements.keyword_of word_of next
ring_again S t ts f e = by t.token e
  where
    by : (tok : Token) → tok ≡ Word (codes "ring") → (statements.statement (Some S) tok (after t ts) >>= λ T. Ok (Some T)) ≡ Err f → f.kind ≡ kinds.Syntax
    by tok e = subst (λ tok. (statements.statement (Some S) tok (after t ts) >>= λ T. Ok (Some T)) ≡ Err f → f.kind ≡ kinds.Syntax) (sym e) (λ h. let same : record { kind = kinds.Syntax; column = t.start } ≡ f = cc in sym (ap (λ g. g.kind) same))

-- A line that begins with `ring`, where another kind than Syntax is reported, is the ring's.
ring_first : (before : Option Session) (l : List ℕ) (f : LineFault) (us : List Token) → tokens_of l ≡ Word (codes "ring") ∷ us → statements.line before l ≡ Err f → (f.kind ≡ kinds.Syntax → ⊥) → (behind_lines before).HasRing → ⊥
ring_first None l f us begins wrong other ring = ring
ring_first (Some S) l f us begins wrong other ring = by (tokens_from zero zero l) begins (sym (line_is (Some S) l) ∙ wrong)
  where
    by : (ts : List Placed) → toks ts ≡ Word (codes "ring") ∷ us → line_from (Some S) (record { left = ts; start = 0; end = 0 }) ≡ Err f → ⊥
    by [] e h = absurd cc
    by (t ∷ ts) e h = other (ring_again S t ts f (let first : t.token ≡ Word (codes "ring") = cc in first) h)

-- ---- what stands before the place, and may stand at it

-- The beginnings that can't go on end with a sign.
doomed_sign : {us : List Token} → IsDoomed us → (ts : List Token) (t : Token) → us ≡ ts ++ t ∷ [] → (b : ℕ) × (t ≡ Sign b)
doomed_sign (beginning.ring {p} {vs} {ts = names} l full) ts t e = (comma, last_same ts (Word (codes "ring") ∷ Number p ∷ names) t (Sign comma) (sym e))
doomed_sign (beginning.left {F}) ts t e = (slash, last_same ts (Word (codes "ask") ∷ Word (codes "left") ∷ Word F ∷ Number 0 ∷ []) t (Sign slash) (sym e))
doomed_sign (beginning.named_left {N} {F}) ts t e = (slash, last_same ts (Word (codes "let") ∷ Word N ∷ Sign equals ∷ Word (codes "left") ∷ Word F ∷ Number 0 ∷ []) t (Sign slash) (sym e))
doomed_sign (beginning.isjump {F}) ts t e = (slash, last_same ts (Word (codes "ask") ∷ Word (codes "isjump") ∷ Word F ∷ Number 0 ∷ []) t (Sign slash) (sym e))

fewer_words : (ts : List Token) (t : Token) {S other : Session} → IsAlikeFor (drop 1 (ts ++ t ∷ [])) S other → IsAlikeFor (drop 1 ts) S other
fewer_words [] t h = record { prime = h.prime; variables = h.variables; names = λ w v there. absurd (let short : there.0 < 0 = there.1 in omega arith) }
fewer_words (u ∷ ts) t h = record { prime = h.prime; variables = h.variables; names = λ w v there. h.names w v (Contains-append_left ts (t ∷ []) (Word w) there) }

-- Tokens that can go on can do so with their last one.
follows : (before : Option Session) (ts : List Token) (t : Token) → ((b : ℕ) → t ≢ Sign b) → MayStand before (ts ++ t ∷ []) → MayFollow before ts t
follows before ts t other (inr d) = let sign = doomed_sign d ts t refl in absurd (other sign.0 sign.1)
follows None ts t other (inl (more, T, h)) = inl (more, T, subst (λ us. IsRing us T) (append_assoc ts (t ∷ []) more) h)
follows (Some S) ts t other (inl (with, alike, more, T, h)) = inl (with, fewer_words ts t alike, more, T, subst (λ us. IsStatement with us T) (append_assoc ts (t ∷ []) more) h)

either_follows : (before : Option Session) (ts : List Token) (t : Token) → ((b : ℕ) → t ≢ Sign b) → MayStand before (ts ++ t ∷ []) ⊎ MayFollow before ts t → MayFollow before ts t
either_follows before ts t other (inl h) = follows before ts t other h
either_follows before ts t other (inr h) = h

module _ (s0 : State) (before : Option Session) (ts us : List Token) (k : FaultKind) (h : Said.Fits s0 (behind_lines before) k ts us) where
  abbrev As : FaultKind → Type 0
  As k = Said.Fits s0 (behind_lines before) k ts us

  number_follows : IsOfNumber k → ((n : ℕ) × MayFollow before ts (Number n)) × Said.WrongNumber s0 (behind_lines before) k ts us
  number_follows is = by is
    where
      told : Said.Numbers s0 (behind_lines before) ts → (n : ℕ) × MayFollow before ts (Number n)
      told (ring, n, x) = (n, either_follows before ts (Number n) (λ b e. absurd cc) x)

      is_so : {j : FaultKind} → k ≡ j → Said.WrongNumber s0 (behind_lines before) j ts us → Said.WrongNumber s0 (behind_lines before) k ts us
      is_so e x = subst (λ k. Said.WrongNumber s0 (behind_lines before) k ts us) (sym e) x

      by : IsOfNumber k → ((n : ℕ) × MayFollow before ts (Number n)) × Said.WrongNumber s0 (behind_lines before) k ts us
      by (inl e) = let x = subst As e h in (x.0, is_so e x.1)
      by (inr (inl e)) = let x = subst As e h in (told x.0, is_so e x.1)
      by (inr (inr e)) = let x = subst As e h in (told x.0.0, is_so e x.0.1)

  word_follows : IsOfWord k → ((w : List ℕ) × MayFollow before ts (Word w)) × Said.WrongWord s0 (behind_lines before) k ts us
  word_follows is = let x = by is in ((x.0.0, either_follows before ts (Word x.0.0) (λ b e. absurd cc) x.0.1), x.1)
    where
      is_so : {j : FaultKind} → k ≡ j → Said.Words s0 (behind_lines before) ts × Said.WrongWord s0 (behind_lines before) j ts us → Said.Words s0 (behind_lines before) ts × Said.WrongWord s0 (behind_lines before) k ts us
      is_so e x = subst (λ k. Said.Words s0 (behind_lines before) ts × Said.WrongWord s0 (behind_lines before) k ts us) (sym e) x

      by : IsOfWord k → Said.Words s0 (behind_lines before) ts × Said.WrongWord s0 (behind_lines before) k ts us
      by (inl e) = is_so e (subst As e h)
      by (inr (inl e)) = let x = subst As e h in is_so e x.0
      by (inr (inr (inl e))) = is_so e (subst As e h)
      by (inr (inr (inr (inl e)))) = is_so e (subst As e h)
      by (inr (inr (inr (inr e)))) = is_so e (subst As e h)

cause_of : (Is : Session → List Token → Type 0) (k : FaultKind) → ((S : Session) (ts : List Token) → Causes (Some S) k ts → Is S ts)
    → (ls : List (List Token)) (before : Option Session) (ts : List Token) → MakeSession ls before → Causes before k ts → (S : Session) × IsSession ls S × Is S ts
cause_of Is k is ls None ts made cause = absurd cause
cause_of Is k is ls (Some S) ts made cause = (S, made, is S ts cause)

terms_narrow : {S : Session} {ts : List Token} {f : Terms} → HasTerms S ts f → EndsNarrow ts
terms_narrow (grammar.terms d) = expression_narrow d

listed_narrow : {S : Session} {ts : List Token} {fs : List Terms} → AreListed (HasTerms S) ts fs → EndsNarrow ts
listed_narrow (grammar.last h) = terms_narrow h
listed_narrow (grammar.more {ts = ts} {us = us} h l) = narrow_behind ts (Sign comma ∷ us) (narrow_behind (Sign comma ∷ []) us (listed_narrow l))

narrow_end : (front : List Token) {us : List Token} → EndsNarrow us → (n : ℕ) (ts : List Token) → front ++ us ≡ ts ++ Number n ∷ [] → n < 2 ^ 32
narrow_end front {us} h n ts e = subst IsNarrow (last_same (front ++ h.front) ts h.last (Number n) (append_assoc front h.front (h.last ∷ []) ∙ ap (λ vs. front ++ vs) (sym h.whole) ∙ e)) h.narrow

-- A number at which there are too many terms ends an expression.
many_narrow : {S : Session} {us : List Token} → AreTooMany S us → (n : ℕ) (ts : List Token) → us ≡ ts ++ Number n ∷ [] → n < 2 ^ 32
many_narrow (rank.questions few) n ts e = absurd (let same = last_same [] ts (Word (codes "ask")) (Number n) e in cc)
many_narrow (rank.names {keyword} {name} d v x few) n ts e = absurd (let same = last_same (Word keyword ∷ []) ts (Word name) (Number n) e in cc)
many_narrow (rank.generators {name} {ts = us} new l full) n ts e = absurd (let same = last_same (Word (codes "ideal") ∷ Word name ∷ Sign equals ∷ Sign opening ∷ us) ts (Sign comma) (Number n) e in cc)
many_narrow (rank.terms {name} {ts = us} new h many) n ts e = narrow_end (Word (codes "poly") ∷ Word name ∷ Sign equals ∷ []) (terms_narrow h) n ts e
many_narrow (rank.generator_terms {name} {ts = us} new l few many) n ts e = narrow_end (Word (codes "ideal") ∷ Word name ∷ Sign equals ∷ Sign opening ∷ []) (listed_narrow l) n ts e

-- ---- the end of a line

last_token : (ts : List Placed) → (ts ≡ []) ⊎ ((us : List Placed) × (u : Placed) × (ts ≡ us ++ u ∷ []))
last_token [] = inl refl
last_token (t ∷ ts) = by (last_token ts)
  where
    by : (ts ≡ []) ⊎ ((us : List Placed) × (u : Placed) × (ts ≡ us ++ u ∷ [])) → (t ∷ ts ≡ []) ⊎ ((us : List Placed) × (u : Placed) × (t ∷ ts ≡ us ++ u ∷ []))
    by (inl e) = inr ([], t, ap (λ us. t ∷ us) e)
    by (inr (us, u, e)) = inr (t ∷ us, u, ap (λ us. t ∷ us) e)

nothing_wrong : (before : Option Session) (f : LineFault) → line_from before (record { left = []; start = 0; end = 0 }) ≡ Err f → ⊥
unfolding next
nothing_wrong before f e = cc

-- ---- a session

pub kind_highest : KindIsHighest
kind_highest bytes place H e = record {
  byte_over_others = λ stands. bad_there stands K.rest K.all K.at K.blames;
  byte_at_bad_byte = λ is. let x = fit kinds.Byte is in first_stands BadByte x.0 x.1 K.rest K.all K.at refl;
  not_long = λ is. fit kinds.Long is;
  no_ring_at_first = λ is. let x = fit kinds.NoRing is in without_ring x.0 x.1 x.2 w.session (toks K.before) x.3 made before_it;
  syntax_is_owed = λ is. (w.session, made, owed (subst (λ k. Blamed s0 (Beginning (is_some w.session) ∷ []) k w.found.column) (kind_same ∙ is) (line_owed w.session all w.found (sym (line_is w.session l) ∙ w.wrong))));
  syntax_over_number = λ is. let x = number_follows s0 w.session (toks K.before) (toks K.rest) place.kind fits is in let at = x.1 in (at.0, x.0.0, (first_stands (Number at.0) at.1 at.2 K.rest K.all K.at refl, w.session, made, subst (λ ts. IsWrong w.session ts place.kind (Number at.0)) (sym before_it) at.3, subst (λ ts. MayFollow w.session ts (Number x.0.0)) (sym before_it) x.0.1));
  syntax_over_word = λ is. let x = word_follows s0 w.session (toks K.before) (toks K.rest) place.kind fits is in let at = x.1 in (at.0, x.0.0, (first_stands (Word at.0) at.1 at.2 K.rest K.all K.at refl, w.session, made, subst (λ ts. IsWrong w.session ts place.kind (Word at.0)) (sym before_it) at.3, subst (λ ts. MayFollow w.session ts (Word x.0.0)) (sym before_it) x.0.1));
  syntax_over_large = λ is. let x = fit kinds.Large is in cause_there HasLarge kinds.Large (λ S ts h. h) x.1;
  syntax_over_arity = λ is. cause_there HaveWrongArity kinds.Arity (λ S ts h. h) (fit kinds.Arity is);
  prime_over_wide = λ is ring. let x = fit kinds.Wide is in ring_first w.session l w.found ring.0 (ap tokens_of (sym line_same) ∙ ring.1) w.wrong (λ syntax. absurd (let same = sym is ∙ sym kind_same ∙ syntax in cc)) x.0.0;
  vars_over_taken = λ is ring. let x = fit kinds.Taken is in early (ring_first w.session l w.found ring.0 (ap tokens_of (sym line_same) ∙ ring.1) w.wrong (λ syntax. absurd (let same = sym is ∙ sym kind_same ∙ syntax in cc))) x.1;
  taken_and_large_over_many = λ is. cause_there AreTooMany kinds.Many (λ S ts h. h) (fit kinds.Many is);
  wide_over_large = λ is n stands. let x = fit kinds.Large is in narrow_there n (there (Number n) stands) x.0;
  wide_over_range = λ is n stands. let x = fit kinds.Range is in narrow_there n (there (Number n) stands) x.1;
  wide_over_many = λ is n stands. let x = fit kinds.Many is in let at = there (Number n) stands in let c = cause_of AreTooMany kinds.Many (λ S ts h. h) (lines_to place bytes) w.session (toks K.before ++ x.0 ∷ []) made x.3 in many_narrow c.2 n (toks K.before) (ap (λ t. toks K.before ++ t ∷ []) (let firsts = sym x.2 ∙ at.1 in let same : x.0 ≡ Number n = cc in same));
}
  where
    w : FirstWrong 1 None (lines bytes) place
    w = first_wrong 1 None (lines bytes) place (lines_wrong bytes place H e)

    l : List ℕ
    l = get_or (lines bytes) w.count []

    all : List Placed
    all = tokens_from zero zero l

    rises : AreRising 0 all
    rises = line_rises l

    line_same : line_at place.line bytes ≡ l
    line_same = let at : place.line ≡ 1 + w.count = ap (λ f. f.line) w.is in let count_is : place.line - 1 ≡ w.count = omega (arith, at) in ap (λ n. get_or (lines bytes) n []) count_is

    kind_same : w.found.kind ≡ place.kind
    kind_same = sym (ap (λ f. f.kind) w.is)

    s0 : State
    s0 = record { left = all; start = 0; end = 0 }

    K : Said.Stuck s0 (behind_lines w.session) w.found
    K = stuck_at bytes place w

    made : MakeSession (lines_to place bytes) w.session
    made = made_before bytes place w

    column_is : place.column ≡ w.found.column + 1
    column_is = ap (λ f. f.column) w.is

    before_it : tokens_to place bytes ≡ toks K.before
    before_it = ap toks (ap (λ n. tokens_before n (line_at place.line bytes)) column_is ∙ ap (tokens_before (w.found.column + 1)) line_same ∙ before_is l w.found.column K.before K.rest K.all K.at)

    fits : Said.Fits s0 (behind_lines w.session) place.kind (toks K.before) (toks K.rest)
    fits = subst (λ k. Said.Fits s0 (behind_lines w.session) k (toks K.before) (toks K.rest)) kind_same K.fits

    fit : (k : FaultKind) → place.kind ≡ k → Said.Fits s0 (behind_lines w.session) k (toks K.before) (toks K.rest)
    fit k is = subst (λ k. Said.Fits s0 (behind_lines w.session) k (toks K.before) (toks K.rest)) is fits

    early : ((behind_lines w.session).HasRing → ⊥) → (behind_lines w.session).HasRing ⊎ (length (toks K.before) ≤ 14) → length (tokens_before place.column (line_at place.line bytes)) ≤ 14
    early none (inl ring) = absurd (none ring)
    early none (inr few) = let same = ap length before_it in let long = length-map (tokens_before place.column (line_at place.line bytes)) (λ (t : Placed). t.token) in omega (arith, few, same, long)

    -- Where no token starts at the place none stands there, and else it is the first of the rest.
    stands_first : (t : Token) → StandsAt place bytes t → (rest : List Placed) → all ≡ K.before ++ rest → Said.StandsAt w.found.column rest (end_of K.before 0) → (p : Placed) × (ps : List Placed) × (rest ≡ p ∷ ps) × (p.token ≡ t)
    stands_first t (u, inside, start, is) rest whole at = by rest whole at
      where
        within : Contains all u
        within = subst (λ l. Contains (tokens_from zero zero l) u) line_same inside

        column : u.start ≡ w.found.column
        column = omega (arith, start, column_is)

        by : (rest : List Placed) → all ≡ K.before ++ rest → Said.StandsAt w.found.column rest (end_of K.before 0) → (p : Placed) × (ps : List Placed) × (rest ≡ p ∷ ps) × (p.token ≡ t)
        by [] whole at =
            let below : All (λ t. t.start < end_of K.before 0) all = subst (All (λ (t : Placed). t.start < end_of K.before 0)) (sym (whole ∙ append-nil K.before)) (starts_below 0 K.before [] (subst (AreRising 0) whole rises)) in
            let early : u.start < end_of K.before 0 = subst (λ (t : Placed). t.start < end_of K.before 0) within.2 (below within.0 u within.1) in
            absurd (omega (arith, early, column, at))
        by (p ∷ ps) whole at = (p, ps, refl, sym (token_is rises K.before ps p whole u within (column ∙ at)) ∙ is)

    -- the token at the place
    there : (t : Token) → StandsAt place bytes t → (us : List Token) × (toks K.rest ≡ t ∷ us)
    there t stands = let x = stands_first t stands K.rest K.all K.at in (toks x.1, ap toks x.2 ∙ ap (λ u. u ∷ toks x.1) x.3)

    bad_there : StandsAt place bytes BadByte → (rest : List Placed) → all ≡ K.before ++ rest → Said.StandsAt w.found.column rest (end_of K.before 0) → Said.Blames w.found.kind rest → place.kind ≡ kinds.Byte
    bad_there stands rest whole at blames =
        let x = stands_first BadByte stands rest whole at in
        let first : Said.Blames w.found.kind (x.0 ∷ x.1) = subst (Said.Blames w.found.kind) x.2 blames in
        sym kind_same ∙ first x.3

    narrow_there : (n : ℕ) → (us : List Token) × (toks K.rest ≡ Number n ∷ us) → Said.BeginsNarrow (toks K.rest) → n < 2 ^ 32
    narrow_there n (us, is) narrow = subst Said.BeginsNarrow is narrow

    -- and such a token stands at the place
    first_stands : (t : Token) (us : List Token) → toks K.rest ≡ t ∷ us → (rest : List Placed) → all ≡ K.before ++ rest → Said.StandsAt w.found.column rest (end_of K.before 0) → toks rest ≡ toks K.rest → StandsAt place bytes t
    first_stands t us e [] whole at same = absurd (let none = same ∙ e in cc)
    first_stands t us e (p ∷ ps) whole at same =
        let first : p.token ≡ t = (let firsts = same ∙ e in cc) in
        let inside : Contains all p = subst (λ ts. Contains ts p) (sym whole) (Contains-append_right K.before (p ∷ ps) p (0, omega arith, refl)) in
        (p, subst (λ l. Contains (tokens_from zero zero l) p) (sym line_same) inside, omega (arith, at, column_is), first)

    cause_there : (Is : Session → List Token → Type 0) (k : FaultKind) → ((S : Session) (ts : List Token) → Causes (Some S) k ts → Is S ts) → Said.Caused s0 (behind_lines w.session) k (toks K.before) (toks K.rest) → HasCause Is place bytes
    cause_there Is k is (u, us, e, cause) =
        let x = cause_of Is k is (lines_to place bytes) w.session (toks K.before ++ u ∷ []) made cause in
        (u, first_stands u us e K.rest K.all K.at refl, x.0, x.1, subst (λ ts. Is x.0 (ts ++ u ∷ [])) (sym before_it) x.2)

    without_ring : (v : List ℕ) (us : List Token) → toks K.rest ≡ Word v ∷ us → (before : Option Session) (ts : List Token) → IsWrong before ts kinds.NoRing (Word v) → MakeSession (lines_to place bytes) before → tokens_to place bytes ≡ ts
        → (v : List ℕ) × StandsAt place bytes (Word v) × BeginsLater v × (tokens_to place bytes ≡ []) × MakeSession (lines_to place bytes) None
    without_ring v us e None [] (wrongs.no_ring other) nothing same = (v, first_stands (Word v) us e K.rest K.all K.at refl, other, same, nothing)
    without_ring v us e None (t ∷ ts) is nothing same = elim is [ ]
    without_ring v us e (Some S) ts is nothing same = elim is [ ]

    line_tokens : tokens_from zero zero (line_at place.line bytes) ≡ all
    line_tokens = ap (tokens_from zero zero) line_same

    Misfit : Type 0
    Misfit = (IsLineEnd place bytes × IsUnfinished w.session (tokens_to place bytes)) ⊎ ((t : Token) × StandsAt place bytes t × IsMisplaced w.session (tokens_to place bytes) t)

    tokens_read : (read rest : List Placed) → all ≡ read ++ rest → Said.StandsAt w.found.column rest (end_of read 0) → tokens_to place bytes ≡ toks read
    tokens_read read rest whole at = ap toks (ap (λ n. tokens_before n (line_at place.line bytes)) column_is ∙ ap (tokens_before (w.found.column + 1)) line_same ∙ before_is l w.found.column read rest whole at)

    at_end : (ts : List Placed) (u : Placed) → all ≡ ts ++ u ∷ [] → w.found.column ≡ end_of all 0 → IsLineEnd place bytes
    at_end ts u is at = let column = at ∙ ap (λ us. end_of us 0) is ∙ Said.end_last ts u 0 in (ts, u, line_tokens ∙ is, omega (arith, column, column_is))

    owed : Owed s0 (Beginning (is_some w.session) ∷ []) w.found.column → Misfit
    owed (ended wants at reached more_wanted) = by (last_token all)
      where
        by : (all ≡ []) ⊎ ((ts : List Placed) × (u : Placed) × (all ≡ ts ++ u ∷ [])) → Misfit
        by (inl nothing) = absurd (nothing_wrong w.session w.found (sym (ap (λ ts. line_from w.session (record { left = ts; start = 0; end = 0 })) nothing) ∙ sym (line_is w.session l) ∙ w.wrong))
        by (inr (ts, u, is)) = inl (at_end ts u is at, subst (IsUnfinished w.session) (sym (tokens_read all [] (sym (append-nil all)) at)) (unfinished w.session (toks all) wants reached more_wanted))
    owed (at_token read p rest wants whole at reached refused) =
        let inside : Contains all p = subst (λ ts. Contains ts p) (sym whole) (Contains-append_right read (p ∷ rest) p (0, omega arith, refl)) in
        inr (p.token, (p, subst (λ ts. Contains ts p) (sym line_tokens) inside, omega (arith, at, column_is), refl), subst (λ ts. IsMisplaced w.session ts p.token) (sym (tokens_read read (p ∷ rest) whole at)) (misplaced w.session (toks read) p.token wants reached refused))
