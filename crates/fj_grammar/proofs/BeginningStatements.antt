-- What was read of a statement before a fault can go on.
use Rattle.std.proofs.Common.{◌≡◌, ℕ, zero, suc, ◌+◌, ◌-◌, ◌*◌, ◌%◌, ◌^◌, ◌<◌, ◌≤◌, Bool, true, false, cond, ◌||◌, leb, ltb, List, [], ◌∷◌, ◌++◌, length, get_or, map, sum, codes, Contains, Option, Some, None, Result, Ok, Err, refl, sym, ap, ◌∙◌, subst, arith, append_assoc, inl, inr}
use Rattle.std.specs.Option.{is_some, option_map_or}
use Rattle.std.proofs.lemmas.Bool.{leb-false, leb-true, ltb-false, ltb-true}
use Rattle.std.proofs.lemmas.List.{append-nil, length-append, map-append}
use Rattle.std.proofs.lemmas.List.Elements.{All-nil, Contains-append_left}
use Rattle.std.proofs.lemmas.List.Sums.{sum_by-append}
use Rattle.fj_coeff.specs.Field.{primes}
use Rattle.fj_coeff.specs.PrimeField.{prime_field}
use Rattle.fj_coeff.specs.PrimeFieldLaws.{IsField-prime_field}
use Rattle.fj_theory.specs.MonomialOrder.{grevlex_key}
use Rattle.fj_theory.specs.Polynomial.{Polynomial, terms_falling}
use Rattle.fj_theory.proofs.Keys.{grevlex_key-IsMonomialOrder}
use Rattle.fj_theory.proofs.Terms.{length-terms_falling}
use Rattle.fj_text.specs.declared.scope.Meaning.TheVariants as meanings
use Rattle.fj_text.specs.Expression as text
use Rattle.fj_text.specs.Grammar as expressions
use Rattle.fj_text.specs.Grammar.{tokens_left}
use Rattle.fj_text.specs.Reading.{meaning_at}
use Rattle.fj_text.specs.State.{State, after_sign, next}
use Rattle.fj_text.specs.Token.{Token, Word, Number, Sign, Placed, closing, minus, opening}
use Rattle.fj_text.specs.Word.{place_of}
use Rattle.fj_grammar.specs.Beginning.{CanGoOn, CanGoOnWith, IsAlikeFor}
use Rattle.fj_script.specs.declared.fault.FaultKind.TheVariants as kinds
use Rattle.fj_script.specs.declared.fault.LineFault.{LineFault}
use Rattle.fj_script.specs.Declaration as declaration
use Rattle.fj_grammar.specs.Grammar as grammar
use Rattle.fj_grammar.specs.Grammar.{AreListed, HasTerms, IsCoordinate, IsNew, IsQuestion, IsRing, IsStatement, IsVariable}
use Rattle.fj_script.specs.Items.{at_end, comma, enclosed, equals, listed, more, narrow, sign}
use Rattle.fj_script.specs.LineFault.{Answer, ◌>>=◌, fault_at, fault_of, not_here}
use Rattle.fj_script.specs.Names as names
use Rattle.fj_grammar.specs.Large as large
use Rattle.fj_grammar.specs.Large.{HasLarge, IsLargeIn}
use Rattle.fj_grammar.specs.Many as rank
use Rattle.fj_grammar.specs.Many.{AreTooMany}
use Rattle.fj_grammar.specs.Wrong as wrong
use Rattle.fj_grammar.proofs.NamesOf.{name_of, other_meaning, unknown_meaning}
use Rattle.fj_script.specs.Session.{Session, Terms, Ideal, Point, declare, terms_in}
use Rattle.fj_script.proofs.AcceptedYields.{Yields}
use Rattle.fj_grammar.proofs.BeginningExpressions.{Whole, expression_reading}
use Rattle.fj_grammar.proofs.Beginnings.{Numbers, Reading, Sayings, SoFar, Stuck, Words, behind, caused, late, read, reading_if, reading_sign, sign_taken, stuck, then_reading, words_at, wrong_next}
use Rattle.fj_grammar.proofs.BeginningLines.{MayStand, behind_lines, narrow_reading, word_reading}
use Rattle.fj_grammar.proofs.Continuations.{other_word, other_word-is}
use Rattle.fj_grammar.proofs.FineValues.{IsFine, fine_constant}
use Rattle.fj_grammar.proofs.GrammarPieces.{new_name_takes, new_word}
use Rattle.fj_grammar.proofs.Meanings.{among_variables, expression_along, in_session, large_along}
use Rattle.fj_script.proofs.NewNames.{unlike}

-- one item more
pub listed_more : {A : Type 0} {Is : List Token → A → Type 0} {us vs : List Token} {xs : List A} {x : A} → AreListed Is us xs → Is vs x → AreListed Is (us ++ Sign comma ∷ vs) (xs ++ x ∷ [])
listed_more (grammar.last h) k = grammar.more h (grammar.last k)
listed_more {A} {Is} {us} {vs} {xs} {x} (grammar.more {ts = ts} {us = rest} {x = y} {xs = ys} h l) k =
    subst (λ ws. AreListed Is ws (y ∷ (ys ++ x ∷ []))) (sym (append_assoc ts (Sign comma ∷ rest) (Sign comma ∷ vs))) (grammar.more h (listed_more l k))

module _ (s0 : State) (V : Sayings) where
  -- A statement is read, or its fault stands after tokens that can go on.
  abbrev pub IsStopped : {B : Type 0} → Result B LineFault → Type 0
  IsStopped (Ok x) = Unit {0}
  IsStopped (Err f) = Stuck s0 V f

  pub stop_then : {A B : Type 0} {Q : A → List Token → Type 0} {ts : List Token} {r : Answer A} (f : A × State → Result B LineFault) → Reading s0 V (λ e. e) Q ts r
      → ((x : A) (us : List Token) (u : State) → Q x us → SoFar s0 V (ts ++ us) u → IsStopped (f (x, u))) → IsStopped (r >>= f)
  stop_then f (read {x = x} {u = u} us h H) k = k x us u h H
  stop_then f (stuck H) k = H

  pub stop_if : {B : Type 0} (b : Bool) (x y : Result B LineFault) → (b ≡ true → IsStopped x) → (b ≡ false → IsStopped y) → IsStopped (cond b x y)
  stop_if true x y p q = p refl
  stop_if false x y p q = q refl

  pub stop_end : {B : Type 0} (x : B) (ws : List Token) (t : State) → SoFar s0 V ws t → V.Goes ws → IsStopped (at_end (x, t))
  unfolding at_end next
  stop_end x ws t H v = by t.left refl
    where
      by : (us : List Placed) → t.left ≡ us → IsStopped (option_map_or (λ _. Err (not_here t)) (next (record { left = us; start = t.start; end = t.end })) (Ok x))
      by [] e = tt
      by (p ∷ rest) e = wrong_next s0 V H.reached v

  pub reading_with : {A : Type 0} {Q R : A → List Token → Type 0} (P : A × State → Type 0) {ts : List Token} (r : Answer A) → Reading s0 V (λ e. e) Q ts r → Yields P r → ((x : A) (u : State) (us : List Token) → Q x us → P (x, u) → R x us)
      → Reading s0 V (λ e. e) R ts r
  reading_with P r (read {x = x} {u = u} us h H) p k = read us (k x u us h p) H
  reading_with P r (stuck H) p k = stuck H

  -- a sign that has to be next
  sign_reading : {A : Type 0} {Q : A → List Token → Type 0} {ts ws : List Token} {t : State} (b : ℕ) (f : State → Answer A) → SoFar s0 V ws t → V.Goes ws
      → ((u : State) → SoFar s0 V (ws ++ Sign b ∷ []) u → Reading s0 V (λ e. e) Q ts (f u)) → Reading s0 V (λ e. e) Q ts (sign b t >>= f)
  unfolding sign
  sign_reading {A} {Q} {ts} {ws} {t} b f H v each = by (after_sign b t) refl
    where
      by : (o : Option State) → after_sign b t ≡ o → Reading s0 V (λ e. e) Q ts (option_map_or (λ u. Ok u) o (Err (not_here t)) >>= f)
      by None e = stuck (wrong_next s0 V H.reached v)
      by (Some u) e = each u (sign_taken s0 V b t u H.reached v e)

  -- ---- lists with commas

  module _ {A : Type 0} (L : List A → List Token → Type 0) (item : List A → State → Answer A) (ts : List Token) (v : (xs : List A) (us : List Token) → L xs us → V.Goes (ts ++ us))
      (each : (xs : List A) (us : List Token) (t : State) → L xs us → SoFar s0 V (ts ++ (us ++ Sign comma ∷ [])) t → Reading s0 V (λ e. e) (λ x ws. L (xs ++ x ∷ []) ws) ts (item xs t)) where
    more_reading : (n : ℕ) (xs : List A) (us : List Token) (t : State) → L xs us → SoFar s0 V (ts ++ us) t → Reading s0 V (λ e. e) L ts (more item n xs t)
    unfolding more
    more_reading zero xs us t l H = read us l H
    more_reading (suc n) xs us t l H =
        reading_sign s0 V (λ e. e) comma _ _ H.reached (v xs us l)
        (λ u Hu. then_reading s0 V (λ e. e) _ (each xs us u l (subst (λ ws. SoFar s0 V ws u) (append_assoc ts us (Sign comma ∷ [])) Hu)) (λ x ws w k Hw. more_reading n (xs ++ x ∷ []) ws w k Hw))
        (read us l H)

    pub listed_reading : (t : State) → Reading s0 V (λ e. e) (λ x ws. L (x ∷ []) ws) ts (item [] t) → Reading s0 V (λ e. e) L ts (listed item t)
    unfolding listed
    listed_reading t first = then_reading s0 V (λ e. e) _ first (λ x us u l Hu. more_reading (length u.left) (x ∷ []) us u l Hu)

-- ---- declarations

-- The session with no terms that count, and the one without a name.
abbrev pub bare : Session → Session
bare S = record S { terms = 0 }

abbrev pub unnamed : Session → Session
unnamed S = record S { values = []; terms = 0 }

pub bare_alike : (S : Session) (ts : List Token) → IsAlikeFor ts S (bare S)
bare_alike S ts = record { prime = refl; variables = refl; names = λ w v there. (λ h. h, λ h. h) }

pub unnamed_alike : (S : Session) → IsAlikeFor [] S (unnamed S)
unnamed_alike S = record { prime = refl; variables = refl; names = λ w v there. absurd (let short : there.0 < 0 = there.1 in omega arith) }

-- A beginning of a beginning.
pub shorter : (S : Session) (tok : Token) (ts us : List Token) → CanGoOn (Some S) (tok ∷ ts ++ us) → CanGoOn (Some S) (tok ∷ ts)
shorter S tok ts us (other, alike, rest, T, h) = (
  other,
  record { prime = alike.prime; variables = alike.variables; names = λ w v there. alike.names w v (Contains-append_left ts us (Word w) there) },
  us ++ rest,
  T,
  subst (λ ws. IsStatement other (tok ∷ ws) T) (append_assoc ts us rest) h,
)

module _ (s0 : State) (S : Session) (known : Contains primes S.prime) (some_variable : 1 ≤ length S.variables) where
  -- the first variable of the ring
  variable_known : (w : List ℕ) × (i : ℕ) × (names.meaning S w ≡ meanings.Variable i)
  variable_known = by (place_of S.variables v) refl
    where
      v : List ℕ
      v = get_or S.variables 0 []

      by : (o : Option ℕ) → place_of S.variables v ≡ o → (w : List ℕ) × (i : ℕ) × (names.meaning S w ≡ meanings.Variable i)
      by None e = absurd (unlike v S.variables (sym e) 0 [] (omega (arith, some_variable)) refl)
      by (Some i) e = (v, i, in_session S v i (ap meaning_at e))

  few_terms : (f : Polynomial) → IsFine (prime_field S.prime) f → length (terms_falling grevlex_key f) ≤ 1000
  few_terms f h = omega (arith, length-terms_falling grevlex_key-IsMonomialOrder h.polynomial, h.within.few)

  -- An expression that was read, and its terms.
  abbrev IsRead : Terms → List Token → Type 0
  IsRead f us = HasTerms (bare S) us f × (length f ≤ 1000)

  read_whole : (f : Polynomial) (us : List Token) → Whole (IsField-prime_field S.prime known) (names.meaning S) 64 f us → IsRead (terms_falling grevlex_key f) us
  read_whole f us h = (grammar.terms (expression_along (among_variables S) h.0), few_terms f h.1)

  abbrev GoesOnTerms : List Token → Type 0
  GoesOnTerms us = (rest : List Token) × (f : Terms) × IsRead f (us ++ rest)

  zero_terms : GoesOnTerms []
  zero_terms = (Number 0 ∷ [], _, (grammar.terms (expressions.first (expressions.factor (expressions.atom (expressions.number (omega arith))))), few_terms _ (fine_constant (IsField-prime_field S.prime known) 0)))

  terms_reading : (ws : List Token) (t : State) → SoFar s0 (behind_lines (Some S)) ws t → ((us : List Token) → GoesOnTerms us → MayStand (Some S) (ws ++ us)) → ((us : List Token) → IsLargeIn S us → HasLarge S (ws ++ us)) → Reading s0 (behind_lines (Some S)) (λ e. e) IsRead ws (declaration.expression S t)
  unfolding declaration.expression
  terms_reading ws t H K C =
      by (text.expression (prime_field S.prime) (names.meaning S) t)
      (expression_reading (IsField-prime_field S.prime known) (names.meaning S) s0 (behind_lines (Some S)) tt variable_known.0 variable_known.1 variable_known.2 (λ ts w e. wrong.unknown (unknown_meaning S w e)) (λ ts w e. wrong.other (other_meaning S w e)) ws t H (λ us g. K us (g.0, terms_falling grevlex_key g.1, read_whole g.1 (us ++ g.0) g.2)) (λ us g. C us (large_along (among_variables S) g)))
    where
      by : (r : text.Answer Polynomial) → Reading s0 (behind_lines (Some S)) fault_of (Whole (IsField-prime_field S.prime known) (names.meaning S) 64) ws r → Reading s0 (behind_lines (Some S)) (λ e. e) IsRead ws (declaration.of_text r)
      by r (read {x = f} us h Hu) = read us (read_whole f us h) Hu
      by r (stuck Hu) = stuck Hu

  counted_reading : (terms : ℕ) (ws : List Token) (t : State) → SoFar s0 (behind_lines (Some S)) ws t → ((us : List Token) → GoesOnTerms us → MayStand (Some S) (ws ++ us)) → ((us : List Token) → IsLargeIn S us → HasLarge S (ws ++ us)) → ((us : List Token) (f : Terms) → IsRead f us → 1000000 < terms + length f → AreTooMany S (ws ++ us)) → Reading s0 (behind_lines (Some S)) (λ e. e) IsRead ws (declaration.counted S terms t)
  unfolding declaration.counted
  counted_reading terms ws t H K C many =
      then_reading s0 (behind_lines (Some S)) (λ e. e) _ (terms_reading ws t H K C)
      (λ f us u h Hu. reading_if s0 (behind_lines (Some S)) (λ e. e) (ltb 1000000 (terms + length f)) _ _ (λ e. stuck (late s0 (behind_lines (Some S)) Hu (caused s0 (behind_lines (Some S)) kinds.Many Hu (many us f h (ltb-true 1000000 (terms + length f) e))))) (λ _. read us h Hu))

  new_in_bare : (name : List ℕ) → IsNew S name → IsNew (bare S) name
  new_in_bare name h = record { no_variable = h.no_variable; not_declared = h.not_declared; few = h.few }

  new_unnamed : IsNew (unnamed S) (other_word S.variables)
  new_unnamed = record { no_variable = other_word-is S.variables; not_declared = All-nil _; few = omega arith }

  new_name_reading : (kw : List ℕ) → rank.Declares kw → (t : State) → SoFar s0 (behind_lines (Some S)) (Word kw ∷ []) t → MayStand (Some S) (Word kw ∷ []) → Words s0 (behind_lines (Some S)) (Word kw ∷ []) → Reading s0 (behind_lines (Some S)) (λ e. e) (λ name us. (us ≡ Word name ∷ []) × IsNew S name) (Word kw ∷ []) (names.new_name S t)
  unfolding names.new_name
  new_name_reading kw declares t H v k = reading_with s0 (behind_lines (Some S)) (λ w. (tokens_left t ≡ Word w.0 ∷ tokens_left w.1) × IsNew S w.0) (names.new_name S t) plain (new_name_takes S t) (λ name u us e p. (e, p.1))
    where
      plain : Reading s0 (behind_lines (Some S)) (λ e. e) (λ name us. us ≡ Word name ∷ []) (Word kw ∷ []) (names.new_name S t)
      plain =
          then_reading s0 (behind_lines (Some S)) (λ e. e) _ (word_reading s0 (behind_lines (Some S)) (Word kw ∷ []) t H.reached v)
          (λ w us u e Hu. reading_if s0 (behind_lines (Some S)) (λ e. e) (names.is_variable S w || is_some (place_of (names.declared_names S.values) w)) _ _ (λ yes. stuck (late s0 (behind_lines (Some S)) Hu (words_at s0 (behind_lines (Some S)) kinds.Taken Hu e k (wrong.taken (name_of S w yes)), inl tt)))
          (λ new. reading_if s0 (behind_lines (Some S)) (λ e. e) (leb 4096 (length S.values)) _ _
          (λ full. let none = new_word S w new in stuck (late s0 (behind_lines (Some S)) Hu (caused s0 (behind_lines (Some S)) kinds.Many Hu (subst (λ vs. AreTooMany S (Word kw ∷ vs)) (sym e) (rank.names declares none.0 none.1 (leb-true 4096 (length S.values) full))))))
          (λ _. read us e Hu)))

  -- A word of a declaration goes on with a name.
  abbrev pub Begins : List ℕ → Type 0
  Begins kw = (w : List ℕ) × CanGoOnWith (Some S) (Word kw ∷ []) (Word w)

  starts : (kw : List ℕ) → Begins kw → MayStand (Some S) (Word kw ∷ [])
  starts kw (w, (other, alike, more, T, h)) = inl (other, alike, Word w ∷ more, T, h)

  -- A word of a declaration, a new name and `=`.
  pub name_equals_reading : (kw : List ℕ) → rank.Declares kw → (t : State) → SoFar s0 (behind_lines (Some S)) (Word kw ∷ []) t → Begins kw → ((name : List ℕ) → IsNew S name → CanGoOn (Some S) (Word kw ∷ Word name ∷ Sign equals ∷ []))
      → Reading s0 (behind_lines (Some S)) (λ e. e) (λ name us. (us ≡ Word name ∷ Sign equals ∷ []) × IsNew S name) (Word kw ∷ []) (declaration.name_equals S t)
  unfolding declaration.name_equals
  name_equals_reading kw declares t H v goes =
      then_reading s0 (behind_lines (Some S)) (λ e. e) _ (new_name_reading kw declares t H (starts kw v) (v.0, inr (inl v.1)))
      (λ name us u h Hu. sign_reading s0 (behind_lines (Some S)) equals _ (subst (λ ws. SoFar s0 (behind_lines (Some S)) (Word kw ∷ ws) u) h.0 Hu) (inl (shorter S (Word kw) (Word name ∷ []) (Sign equals ∷ []) (goes name h.1)))
      (λ w Hw. read (Word name ∷ Sign equals ∷ []) (refl, h.1) Hw))

  of_bare : {ts : List Token} {f : Terms} → HasTerms (bare S) ts f → HasTerms S ts f
  of_bare (grammar.terms d) = grammar.terms d

  all_of_bare : {ts : List Token} {fs : List Terms} → AreListed (HasTerms (bare S)) ts fs → AreListed (HasTerms S) ts fs
  all_of_bare (grammar.last h) = grammar.last (of_bare h)
  all_of_bare (grammar.more h l) = grammar.more (of_bare h) (all_of_bare l)

  -- `poly`

  poly_goes : (name : List ℕ) (us : List Token) → IsNew S name → GoesOnTerms us → CanGoOn (Some S) (Word (codes "poly") ∷ Word name ∷ Sign equals ∷ us)
  poly_goes name us new g = (bare S, bare_alike S _, g.0, _, grammar.poly (new_in_bare name new) g.2.0 (omega (arith, g.2.1)))

  poly_begins : Begins (codes "poly")
  poly_begins = (other_word S.variables, (unnamed S, unnamed_alike S, Sign equals ∷ zero_terms.0, _, grammar.poly new_unnamed (unnamed_terms zero_terms.2.0) (omega (arith, zero_terms.2.1))))
    where
      unnamed_terms : {ts : List Token} {f : Terms} → HasTerms (bare S) ts f → HasTerms (unnamed S) ts f
      unnamed_terms (grammar.terms d) = grammar.terms d

  pub poly_stopped : (t : State) → SoFar s0 (behind_lines (Some S)) (Word (codes "poly") ∷ []) t → IsStopped s0 (behind_lines (Some S)) (declaration.poly S t)
  unfolding declaration.poly
  poly_stopped t H =
      stop_then s0 (behind_lines (Some S)) _ (name_equals_reading (codes "poly") (inl refl) t H poly_begins (λ name new. poly_goes name [] new zero_terms))
      (λ name us u h Hu. let Hn = subst (λ ws. SoFar s0 (behind_lines (Some S)) (Word (codes "poly") ∷ ws) u) h.0 Hu in
      stop_then s0 (behind_lines (Some S)) _ (counted_reading S.terms (Word (codes "poly") ∷ Word name ∷ Sign equals ∷ []) u Hn (λ vs g. inl (poly_goes name vs h.1 g)) (λ vs g. large.poly h.1 g) (λ vs f k many. rank.terms h.1 (of_bare k.0) many))
      (λ f vs w k Hw. stop_end s0 (behind_lines (Some S)) _ _ w Hw (inl (poly_goes name vs h.1 ([], f, subst (IsRead f) (sym (append-nil vs)) k)))))

  -- `ideal`

  abbrev Generators : List Terms → List Token → Type 0
  Generators fs us = AreListed (HasTerms (bare S)) us fs × (length fs ≤ 256) × (terms_in fs ≤ 1000 * length fs)

  terms_more : (fs : List Terms) (f : Terms) → terms_in (fs ++ f ∷ []) ≡ terms_in fs + length f
  terms_more fs f = ap sum (map-append length fs (f ∷ [])) ∙ sum_by-append (λ n. n) (map length fs) (length f ∷ []) ∙ ap (λ n. terms_in fs + n) (let one : 0 + length f ≡ length f = omega arith in one)

  generators_more : (fs : List Terms) (us vs : List Token) (f : Terms) → Generators fs us → length fs < 256 → IsRead f vs → Generators (fs ++ f ∷ []) (us ++ Sign comma ∷ vs)
  generators_more fs us vs f l few h = (
    listed_more l.0 h.0,
    omega (arith, few, length-append fs (f ∷ [])),
    (let many = length-append fs (f ∷ []) in let terms = terms_more fs f in let all : 1000 * length (fs ++ f ∷ []) ≡ 1000 * length fs + 1000 = omega (arith, many) in omega (arith, terms, all, l.2, h.1)),
  )

  generators_one : (vs : List Token) (f : Terms) → IsRead f vs → Generators (f ∷ []) vs
  generators_one vs f h = (grammar.last h.0, omega arith, let one : terms_in (f ∷ []) ≡ 0 + length f = terms_more [] f in omega (arith, one, h.1))

  -- generators that go on to a list
  ideal_goes : (name : List ℕ) (us rest : List Token) (fs : List Terms) → IsNew S name → Generators fs (us ++ rest) → CanGoOn (Some S) (Word (codes "ideal") ∷ Word name ∷ Sign equals ∷ Sign opening ∷ us)
  ideal_goes name us rest fs new l = (
    bare S,
    bare_alike S _,
    rest ++ Sign closing ∷ [],
    _,
    subst (λ ws. IsStatement (bare S) (Word (codes "ideal") ∷ Word name ∷ Sign equals ∷ Sign opening ∷ ws) (declare (bare S) name (Ideal fs) (terms_in fs))) (append_assoc us rest (Sign closing ∷ []))
        (grammar.ideal (new_in_bare name new) l.0 l.1 (omega (arith, l.1, l.2))),
  )

  ideal_begins : Begins (codes "ideal")
  ideal_begins =
      (other_word S.variables, (unnamed S, unnamed_alike S, Sign equals ∷ Sign opening ∷ zero_terms.0 ++ Sign closing ∷ [], _, grammar.ideal new_unnamed (grammar.last (unnamed_terms zero_terms.2.0)) (omega arith) (let one = terms_more [] zero_terms.1 in omega (arith, one, zero_terms.2.1))))
    where
      unnamed_terms : {ts : List Token} {f : Terms} → HasTerms (bare S) ts f → HasTerms (unnamed S) ts f
      unnamed_terms (grammar.terms d) = grammar.terms d

  regroup : (us vs : List Token) (tok : Token) → (us ++ tok ∷ []) ++ vs ≡ us ++ tok ∷ vs
  regroup us vs tok = append_assoc us (tok ∷ []) vs

  module _ (name : List ℕ) (new : IsNew S name) where
    too_many_more : (fs : List Terms) (us : List Token) → Generators fs us → length fs < 256 → (vs : List Token) (f : Terms) → IsRead f vs → 1000000 < S.terms + terms_in fs + length f
        → AreTooMany S (Word (codes "ideal") ∷ Word name ∷ Sign equals ∷ Sign opening ∷ ((us ++ Sign comma ∷ []) ++ vs))
    too_many_more fs us l room vs f h many =
        let all = generators_more fs us vs f l room h in
        let terms = terms_more fs f in
        subst (λ ws. AreTooMany S (Word (codes "ideal") ∷ Word name ∷ Sign equals ∷ Sign opening ∷ ws)) (sym (regroup us vs (Sign comma))) (rank.generator_terms new (all_of_bare all.0) all.1 (omega (arith, many, terms)))

    generator_more : (fs : List Terms) (us : List Token) (t : State) → Generators fs us → SoFar s0 (behind_lines (Some S)) ((Word (codes "ideal") ∷ Word name ∷ Sign equals ∷ Sign opening ∷ []) ++ (us ++ Sign comma ∷ [])) t
        → Reading s0 (behind_lines (Some S)) (λ e. e) (λ f ws. Generators (fs ++ f ∷ []) ws) (Word (codes "ideal") ∷ Word name ∷ Sign equals ∷ Sign opening ∷ []) (declaration.generator S fs t)
    unfolding declaration.generator
    generator_more fs us t l H =
        reading_if s0 (behind_lines (Some S)) (λ e. e) (leb 256 (length fs)) _ _ (λ e. let full = leb-true 256 (length fs) e in stuck (late s0 (behind_lines (Some S)) H (caused s0 (behind_lines (Some S)) kinds.Many H (rank.generators new (all_of_bare l.0) (omega (arith, full, l.1))))))
        (λ few. let room = leb-false 256 (length fs) few in
        behind s0 (behind_lines (Some S)) (λ e. e) {Q = IsRead} (Word (codes "ideal") ∷ Word name ∷ Sign equals ∷ Sign opening ∷ []) (us ++ Sign comma ∷ []) _
        (counted_reading (S.terms + terms_in fs) (Word (codes "ideal") ∷ Word name ∷ Sign equals ∷ Sign opening ∷ (us ++ Sign comma ∷ [])) t H
        (λ vs g. inl (subst (λ ws. CanGoOn (Some S) (Word (codes "ideal") ∷ Word name ∷ Sign equals ∷ Sign opening ∷ ws)) (sym (regroup us vs (Sign comma)))
        (ideal_goes name (us ++ Sign comma ∷ vs) g.0 (fs ++ g.1 ∷ []) new (subst (Generators (fs ++ g.1 ∷ [])) (sym (append_assoc us (Sign comma ∷ vs) g.0)) (generators_more fs us (vs ++ g.0) g.1 l room g.2)))))
        (λ vs g. subst (λ ws. HasLarge S (Word (codes "ideal") ∷ Word name ∷ Sign equals ∷ Sign opening ∷ ws)) (sym (regroup us vs (Sign comma))) (large.generator new (all_of_bare l.0) room g)) (too_many_more fs us l room))
        (λ f vs h. subst (Generators (fs ++ f ∷ [])) (sym (regroup us vs (Sign comma))) (generators_more fs us vs f l room h)))

    generator_first : (t : State) → SoFar s0 (behind_lines (Some S)) (Word (codes "ideal") ∷ Word name ∷ Sign equals ∷ Sign opening ∷ []) t
        → Reading s0 (behind_lines (Some S)) (λ e. e) (λ f ws. Generators (f ∷ []) ws) (Word (codes "ideal") ∷ Word name ∷ Sign equals ∷ Sign opening ∷ []) (declaration.generator S [] t)
    unfolding declaration.generator
    generator_first t H =
        then_reading_value (counted_reading (S.terms + terms_in []) (Word (codes "ideal") ∷ Word name ∷ Sign equals ∷ Sign opening ∷ []) t H (λ vs g. inl (ideal_goes name vs g.0 (g.1 ∷ []) new (generators_one (vs ++ g.0) g.1 g.2))) (λ vs g. large.first_generator new g)
        (λ vs f h many. let one = terms_more [] f in rank.generator_terms new (grammar.last (of_bare h.0)) (omega arith) (omega (arith, many, one))))
      where
        then_reading_value : {r : Answer Terms} → Reading s0 (behind_lines (Some S)) (λ e. e) IsRead (Word (codes "ideal") ∷ Word name ∷ Sign equals ∷ Sign opening ∷ []) r
            → Reading s0 (behind_lines (Some S)) (λ e. e) (λ f ws. Generators (f ∷ []) ws) (Word (codes "ideal") ∷ Word name ∷ Sign equals ∷ Sign opening ∷ []) r
        then_reading_value (read {x = f} us h K) = read us (generators_one us f h) K
        then_reading_value (stuck K) = stuck K

    -- a list that is closed
    ideal_closed : (us : List Token) (fs : List Terms) → Generators fs us → CanGoOn (Some S) (Word (codes "ideal") ∷ Word name ∷ Sign equals ∷ Sign opening ∷ (us ++ Sign closing ∷ []))
    ideal_closed us fs l = (bare S, bare_alike S _, [], _, subst (λ ws. IsStatement (bare S) (Word (codes "ideal") ∷ Word name ∷ Sign equals ∷ Sign opening ∷ ws) (declare (bare S) name (Ideal fs) (terms_in fs))) (sym (append-nil (us ++ Sign closing ∷ []))) (grammar.ideal (new_in_bare name new) l.0 l.1 (omega (arith, l.1, l.2))))

    ideal_goes_here : (fs : List Terms) (us : List Token) → Generators fs us → MayStand (Some S) ((Word (codes "ideal") ∷ Word name ∷ Sign equals ∷ Sign opening ∷ []) ++ us)
    ideal_goes_here fs us l = inl (ideal_goes name us [] fs new (subst (Generators fs) (sym (append-nil us)) l))

    ideal_list : (u : State) → SoFar s0 (behind_lines (Some S)) (Word (codes "ideal") ∷ Word name ∷ Sign equals ∷ []) u
        → Reading s0 (behind_lines (Some S)) (λ e. e) (λ fs ws. (us : List Token) × (ws ≡ Sign opening ∷ us ++ Sign closing ∷ []) × Generators fs us) (Word (codes "ideal") ∷ Word name ∷ Sign equals ∷ []) (enclosed (listed (declaration.generator S)) u)
    unfolding enclosed
    ideal_list u H =
        sign_reading s0 (behind_lines (Some S)) opening _ H (inl (shorter S (Word (codes "ideal")) (Word name ∷ Sign equals ∷ []) (Sign opening ∷ []) (ideal_goes name [] zero_terms.0 (zero_terms.1 ∷ []) new (generators_one zero_terms.0 zero_terms.1 zero_terms.2))))
        (λ o Ho. then_reading s0 (behind_lines (Some S)) (λ e. e) _
        (behind s0 (behind_lines (Some S)) (λ e. e) {Q = Generators} {R = λ fs ws. (us : List Token) × (ws ≡ Sign opening ∷ us) × Generators fs us} (Word (codes "ideal") ∷ Word name ∷ Sign equals ∷ []) (Sign opening ∷ []) _
        (listed_reading s0 (behind_lines (Some S)) Generators (declaration.generator S) (Word (codes "ideal") ∷ Word name ∷ Sign equals ∷ Sign opening ∷ []) ideal_goes_here generator_more o (generator_first o Ho)) (λ fs us l. (us, refl, l)))
        (λ fs ws w l Hw. let Hl = subst (λ vs. SoFar s0 (behind_lines (Some S)) ((Word (codes "ideal") ∷ Word name ∷ Sign equals ∷ []) ++ vs) w) l.1 Hw in
        sign_reading s0 (behind_lines (Some S)) closing _ Hl (ideal_goes_here fs l.0 l.2) (λ x Hx. read (Sign opening ∷ l.0 ++ Sign closing ∷ []) (l.0, refl, l.2) Hx)))

  pub ideal_stopped : (t : State) → SoFar s0 (behind_lines (Some S)) (Word (codes "ideal") ∷ []) t → IsStopped s0 (behind_lines (Some S)) (declaration.ideal S t)
  unfolding declaration.ideal
  ideal_stopped t H =
      stop_then s0 (behind_lines (Some S)) _
      (name_equals_reading (codes "ideal") (inr (inl refl)) t H ideal_begins (λ name new. shorter S (Word (codes "ideal")) (Word name ∷ Sign equals ∷ []) (Sign opening ∷ []) (ideal_goes name [] zero_terms.0 (zero_terms.1 ∷ []) new (generators_one zero_terms.0 zero_terms.1 zero_terms.2))))
      (λ name us u h Hu. stop_then s0 (behind_lines (Some S)) _ (ideal_list name h.1 u (subst (λ ws. SoFar s0 (behind_lines (Some S)) (Word (codes "ideal") ∷ ws) u) h.0 Hu))
      (λ fs ws w l Hw. stop_end s0 (behind_lines (Some S)) _ _ w (subst (λ vs. SoFar s0 (behind_lines (Some S)) ((Word (codes "ideal") ∷ Word name ∷ Sign equals ∷ []) ++ vs) w) l.1 Hw) (inl (ideal_closed name h.1 l.0 fs l.2))))

  -- `point`

  abbrev Coordinates : List ℕ → List Token → Type 0
  Coordinates cs us = AreListed (IsCoordinate S.prime) us cs × (length cs ≤ length S.variables)

  abbrev GoesOnCoordinate : List Token → Type 0
  GoesOnCoordinate us = (rest : List Token) × (c : ℕ) × IsCoordinate S.prime (us ++ rest) c

  coordinate_default : GoesOnCoordinate []
  coordinate_default = (Number 0 ∷ [], 0 % S.prime, grammar.number (omega arith))

  constant_reading : (ws : List Token) (t : State) → SoFar s0 (behind_lines (Some S)) ws t → ((us : List Token) → GoesOnCoordinate us → MayStand (Some S) (ws ++ us))
      → Reading s0 (behind_lines (Some S)) (λ e. e) (λ c us. IsCoordinate S.prime us c) ws (declaration.constant S.prime t)
  unfolding declaration.constant
  constant_reading ws t H K =
      let here : MayStand (Some S) ws = subst (MayStand (Some S)) (append-nil ws) (K [] coordinate_default) in
      let number : Numbers s0 (behind_lines (Some S)) ws = (tt, 0, inl (K (Number 0 ∷ []) ([], 0 % S.prime, grammar.number (omega arith)))) in
      let negative : Numbers s0 (behind_lines (Some S)) (ws ++ Sign minus ∷ []) = (tt, 0, inl (subst (MayStand (Some S)) (sym (append_assoc ws (Sign minus ∷ []) (Number 0 ∷ []))) (K (Sign minus ∷ Number 0 ∷ []) ([], _, grammar.negative (omega arith))))) in
      reading_sign s0 (behind_lines (Some S)) (λ e. e) minus _ _ H.reached here
      (λ u Hu. then_reading s0 (behind_lines (Some S)) (λ e. e) _
      (behind s0 (behind_lines (Some S)) (λ e. e) {R = λ n us. (us ≡ Sign minus ∷ Number n ∷ []) × (n < 2 ^ 32)} ws (Sign minus ∷ []) (narrow u)
      (narrow_reading s0 (behind_lines (Some S)) (ws ++ Sign minus ∷ []) u Hu.reached (K (Sign minus ∷ []) (Number 0 ∷ [], _, grammar.negative (omega arith))) negative) (λ n vs k. (ap (λ xs. Sign minus ∷ xs) k.0, k.1)))
      (λ n us w h Hw. read us (subst (λ vs. IsCoordinate S.prime vs ((S.prime - n % S.prime) % S.prime)) (sym h.0) (grammar.negative h.1)) Hw))
      (then_reading s0 (behind_lines (Some S)) (λ e. e) _ (narrow_reading s0 (behind_lines (Some S)) ws t H.reached here number) (λ n us w h Hw. read us (subst (λ vs. IsCoordinate S.prime vs (n % S.prime)) (sym h.0) (grammar.number h.1)) Hw))

  -- with zeros after them there is a coordinate for each variable
  fill : (k : ℕ) (cs : List ℕ) (us : List Token) → AreListed (IsCoordinate S.prime) us cs → length cs + k ≡ length S.variables → (rest : List Token) × (ds : List ℕ) × AreListed (IsCoordinate S.prime) (us ++ rest) ds × (length ds ≡ length S.variables)
  fill zero cs us l e = ([], cs, subst (λ ws. AreListed (IsCoordinate S.prime) ws cs) (sym (append-nil us)) l, omega arith)
  fill (suc k) cs us l e =
      let x = fill k (cs ++ 0 % S.prime ∷ []) (us ++ Sign comma ∷ Number 0 ∷ []) (listed_more l (grammar.number (omega arith))) (omega (arith, e, length-append cs (0 % S.prime ∷ []))) in
      (Sign comma ∷ Number 0 ∷ x.0, x.1, subst (λ ws. AreListed (IsCoordinate S.prime) ws x.1) (append_assoc us (Sign comma ∷ Number 0 ∷ []) x.0) x.2, x.3)

  point_goes : (name : List ℕ) (us rest : List Token) (cs : List ℕ) → IsNew S name → Coordinates cs (us ++ rest) → CanGoOn (Some S) (Word (codes "point") ∷ Word name ∷ Sign equals ∷ Sign opening ∷ us)
  point_goes name us rest cs new l =
      let x = fill (length S.variables - length cs) cs (us ++ rest) l.0 (omega (arith, l.1)) in (
        bare S,
        bare_alike S _,
        (rest ++ x.0) ++ Sign closing ∷ [],
        _,
        subst (λ ws. IsStatement (bare S) (Word (codes "point") ∷ Word name ∷ Sign equals ∷ Sign opening ∷ ws) (declare (bare S) name (Point x.1) 0))
            (ap (λ ws. ws ++ Sign closing ∷ []) (append_assoc us rest x.0) ∙ append_assoc us (rest ++ x.0) (Sign closing ∷ [])) (grammar.point (new_in_bare name new) x.2 x.3),
      )

  point_begins : Begins (codes "point")
  point_begins =
      let x = fill (length S.variables - 1) (0 % S.prime ∷ []) (Number 0 ∷ []) (grammar.last (grammar.number (omega arith))) (omega (arith, some_variable)) in
      (other_word S.variables, (unnamed S, unnamed_alike S, Sign equals ∷ Sign opening ∷ (Number 0 ∷ [] ++ x.0) ++ Sign closing ∷ [], _, grammar.point new_unnamed x.2 x.3))

  point_opens : (name : List ℕ) → IsNew S name → CanGoOn (Some S) (Word (codes "point") ∷ Word name ∷ Sign equals ∷ Sign opening ∷ [])
  point_opens name new = point_goes name [] (Number 0 ∷ []) (0 % S.prime ∷ []) new (grammar.last (grammar.number (omega arith)), some_variable)

  module _ (name : List ℕ) (new : IsNew S name) where
    coordinate_more : (cs : List ℕ) (us : List Token) (t : State) → Coordinates cs us → SoFar s0 (behind_lines (Some S)) ((Word (codes "point") ∷ Word name ∷ Sign equals ∷ Sign opening ∷ []) ++ (us ++ Sign comma ∷ [])) t
        → Reading s0 (behind_lines (Some S)) (λ e. e) (λ c ws. Coordinates (cs ++ c ∷ []) ws) (Word (codes "point") ∷ Word name ∷ Sign equals ∷ Sign opening ∷ []) (declaration.coordinate S cs t)
    unfolding declaration.coordinate
    coordinate_more cs us t l H =
        reading_if s0 (behind_lines (Some S)) (λ e. e) (leb (length S.variables) (length cs)) _ _ (λ e. let full = leb-true (length S.variables) (length cs) e in stuck (late s0 (behind_lines (Some S)) H (caused s0 (behind_lines (Some S)) kinds.Arity H (rank.too_many new l.0 (omega (arith, full, l.1))))))
        (λ few. let room = leb-false (length S.variables) (length cs) few in
        behind s0 (behind_lines (Some S)) (λ e. e) {Q = λ c us. IsCoordinate S.prime us c} (Word (codes "point") ∷ Word name ∷ Sign equals ∷ Sign opening ∷ []) (us ++ Sign comma ∷ []) _
        (constant_reading (Word (codes "point") ∷ Word name ∷ Sign equals ∷ Sign opening ∷ (us ++ Sign comma ∷ [])) t H
        (λ vs g. inl (subst (λ ws. CanGoOn (Some S) (Word (codes "point") ∷ Word name ∷ Sign equals ∷ Sign opening ∷ ws)) (sym (regroup us vs (Sign comma)))
        (point_goes name (us ++ Sign comma ∷ vs) g.0 (cs ++ g.1 ∷ []) new (subst (Coordinates (cs ++ g.1 ∷ [])) (sym (append_assoc us (Sign comma ∷ vs) g.0)) (listed_more l.0 g.2, omega (arith, room, length-append cs (g.1 ∷ []))))))))
        (λ c vs h. subst (Coordinates (cs ++ c ∷ [])) (sym (regroup us vs (Sign comma))) (listed_more l.0 h, omega (arith, room, length-append cs (c ∷ [])))))

    coordinate_first : (t : State) → SoFar s0 (behind_lines (Some S)) (Word (codes "point") ∷ Word name ∷ Sign equals ∷ Sign opening ∷ []) t
        → Reading s0 (behind_lines (Some S)) (λ e. e) (λ c ws. Coordinates (c ∷ []) ws) (Word (codes "point") ∷ Word name ∷ Sign equals ∷ Sign opening ∷ []) (declaration.coordinate S [] t)
    unfolding declaration.coordinate
    coordinate_first t H =
        reading_if s0 (behind_lines (Some S)) (λ e. e) (leb (length S.variables) 0) (Err (fault_at kinds.Arity t)) (declaration.constant S.prime t) (λ e. absurd (let none = leb-true (length S.variables) 0 e in omega (arith, none, some_variable)))
        (λ _. one (constant_reading (Word (codes "point") ∷ Word name ∷ Sign equals ∷ Sign opening ∷ []) t H (λ vs g. inl (point_goes name vs g.0 (g.1 ∷ []) new (grammar.last g.2, some_variable)))))
      where
        one : {r : Answer ℕ} → Reading s0 (behind_lines (Some S)) (λ e. e) (λ c us. IsCoordinate S.prime us c) (Word (codes "point") ∷ Word name ∷ Sign equals ∷ Sign opening ∷ []) r
            → Reading s0 (behind_lines (Some S)) (λ e. e) (λ c ws. Coordinates (c ∷ []) ws) (Word (codes "point") ∷ Word name ∷ Sign equals ∷ Sign opening ∷ []) r
        one (read {x = c} us h K) = read us (grammar.last h, some_variable) K
        one (stuck K) = stuck K

    point_goes_here : (cs : List ℕ) (us : List Token) → Coordinates cs us → MayStand (Some S) ((Word (codes "point") ∷ Word name ∷ Sign equals ∷ Sign opening ∷ []) ++ us)
    point_goes_here cs us l = inl (point_goes name us [] cs new (subst (Coordinates cs) (sym (append-nil us)) l))

    point_closed : (us : List Token) (cs : List ℕ) → AreListed (IsCoordinate S.prime) us cs → length cs ≡ length S.variables → CanGoOn (Some S) (Word (codes "point") ∷ Word name ∷ Sign equals ∷ Sign opening ∷ (us ++ Sign closing ∷ []))
    point_closed us cs l each = (bare S, bare_alike S _, [], _, subst (λ ws. IsStatement (bare S) (Word (codes "point") ∷ Word name ∷ Sign equals ∷ Sign opening ∷ ws) (declare (bare S) name (Point cs) 0)) (sym (append-nil (us ++ Sign closing ∷ []))) (grammar.point (new_in_bare name new) l each))

    point_list : (u : State) → SoFar s0 (behind_lines (Some S)) (Word (codes "point") ∷ Word name ∷ Sign equals ∷ []) u
        → Reading s0 (behind_lines (Some S)) (λ e. e) (λ cs ws. (us : List Token) × (ws ≡ Sign opening ∷ us ++ Sign closing ∷ []) × Coordinates cs us) (Word (codes "point") ∷ Word name ∷ Sign equals ∷ []) (enclosed (listed (declaration.coordinate S)) u)
    unfolding enclosed
    point_list u H =
        sign_reading s0 (behind_lines (Some S)) opening _ H (inl (shorter S (Word (codes "point")) (Word name ∷ Sign equals ∷ []) (Sign opening ∷ []) (point_opens name new)))
        (λ o Ho. then_reading s0 (behind_lines (Some S)) (λ e. e) _
        (behind s0 (behind_lines (Some S)) (λ e. e) {Q = Coordinates} {R = λ cs ws. (us : List Token) × (ws ≡ Sign opening ∷ us) × Coordinates cs us} (Word (codes "point") ∷ Word name ∷ Sign equals ∷ []) (Sign opening ∷ []) _
        (listed_reading s0 (behind_lines (Some S)) Coordinates (declaration.coordinate S) (Word (codes "point") ∷ Word name ∷ Sign equals ∷ Sign opening ∷ []) point_goes_here coordinate_more o (coordinate_first o Ho)) (λ cs us l. (us, refl, l)))
        (λ cs ws w l Hw. let Hl = subst (λ vs. SoFar s0 (behind_lines (Some S)) ((Word (codes "point") ∷ Word name ∷ Sign equals ∷ []) ++ vs) w) l.1 Hw in
        sign_reading s0 (behind_lines (Some S)) closing _ Hl (point_goes_here cs l.0 l.2) (λ x Hx. read (Sign opening ∷ l.0 ++ Sign closing ∷ []) (l.0, refl, l.2) Hx)))

  pub point_stopped : (t : State) → SoFar s0 (behind_lines (Some S)) (Word (codes "point") ∷ []) t → IsStopped s0 (behind_lines (Some S)) (declaration.point S t)
  unfolding declaration.point
  point_stopped t H =
      stop_then s0 (behind_lines (Some S)) _
      (name_equals_reading (codes "point") (inr (inr (inl refl))) t H point_begins (λ name new. shorter S (Word (codes "point")) (Word name ∷ Sign equals ∷ []) (Sign opening ∷ []) (point_opens name new)))
      (λ name us u h Hu. stop_then s0 (behind_lines (Some S)) _ (point_list name h.1 u (subst (λ ws. SoFar s0 (behind_lines (Some S)) (Word (codes "point") ∷ ws) u) h.0 Hu))
      (λ cs ws w l Hw. let Hl = subst (λ vs. SoFar s0 (behind_lines (Some S)) ((Word (codes "point") ∷ Word name ∷ Sign equals ∷ []) ++ vs) w) l.1 Hw in
      stop_if s0 (behind_lines (Some S)) (ltb (length cs) (length S.variables)) _ _ (λ few. late s0 (behind_lines (Some S)) Hl (caused s0 (behind_lines (Some S)) kinds.Arity Hl (rank.too_few h.1 l.2.0 (ltb-true (length cs) (length S.variables) few))))
      (λ all. let each : length cs ≡ length S.variables = omega (arith, l.2.1, ltb-false _ _ all) in stop_end s0 (behind_lines (Some S)) _ _ w Hl (inl (point_closed name h.1 l.0 cs l.2.0 each)))))
