-- What was read of a named result before a fault can go on.
use Rattle.std.proofs.Common.{◌≡◌, ◌≢◌, ℕ, zero, suc, ◌+◌, ◌^◌, ◌<◌, ◌≤◌, Bool, true, false, List, [], ◌∷◌, ◌++◌, length, get_or, codes, All, AllPairs, Contains, Option, Some, None, Ok, Err, refl, sym, ap, ◌∙◌, subst, arith, inl, inr, ⊎_elim}
use Rattle.std.specs.List.{slice_get}
use Rattle.std.specs.Option.{option_map_or}
use Rattle.std.proofs.lemmas.Bool.{cases_lt}
use Rattle.std.proofs.lemmas.List.{append-nil, get_or-map, length-append, length-map}
use Rattle.std.proofs.lemmas.List.Elements.{Contains-append_cases, Contains-append_left}
use Rattle.std.proofs.lemmas.Option.{get_or_from_slice_get, slice_get-get_or, slice_get_within}
use Rattle.fj_coeff.specs.Field.{primes}
use Rattle.fj_theory.specs.Fraction.{Fraction}
use Rattle.fj_text.specs.State.{State}
use Rattle.fj_text.specs.Token.{Token, Word, Number, Sign}
use Rattle.fj_text.specs.Word.{place_of}
use Rattle.fj_grammar.specs.Beginning as beginning
use Rattle.fj_grammar.specs.Beginning.{CanGoOn, CanGoOnWith, IsAlikeFor}
use Rattle.fj_script.specs.declared.ask.Ask.{Ask}
use Rattle.fj_script.specs.declared.ask.Ask.TheVariants as asks
use Rattle.fj_script.specs.declared.ask.OneIdeal.{OneIdeal}
use Rattle.fj_script.specs.declared.ask.OneIdeal.TheVariants as ones
use Rattle.fj_script.specs.declared.ask.TwoIdeals.{TwoIdeals}
use Rattle.fj_script.specs.declared.ask.TwoIdeals.TheVariants as twos
use Rattle.fj_script.specs.declared.ask.Frobenius.{Frobenius}
use Rattle.fj_script.specs.declared.ask.Frobenius.TheVariants as frobenius
use Rattle.fj_script.specs.declared.ask.TestIdeal.{TestIdeal}
use Rattle.fj_script.specs.declared.ask.TestIdeal.TheVariants as tests
use Rattle.fj_script.specs.declared.fault.FaultKind.TheVariants as kinds
use Rattle.fj_script.specs.declared.question.Question.{Question}
use Rattle.fj_script.specs.declared.question.Question.TheVariants as questions
use Rattle.fj_script.specs.Declaration as declaration
use Rattle.fj_grammar.specs.Grammar as grammar
use Rattle.fj_grammar.specs.Grammar.{IsNew, IsQuestion, IsRatio, NamesIdeal, NamesNonconstant}
use Rattle.fj_script.specs.Items.{equals, slash}
use Rattle.fj_script.specs.LineFault.{◌>>=◌, fault_at}
use Rattle.fj_script.specs.Names as names
use Rattle.fj_script.specs.Numbers as numbers
use Rattle.fj_script.specs.Question as question
use Rattle.fj_script.specs.Session.{Session, Value, Let, declare}
use Rattle.fj_script.proofs.AcceptedQuestions.{ideal_ask}
use Rattle.fj_script.proofs.NewNames.{unlike}
use Rattle.fj_grammar.proofs.Beginnings.{Numbers, Reading, Sayings, SoFar, Words, behind, late, read, stuck, then_reading}
use Rattle.fj_grammar.proofs.BeginningLines.{IsName, IsNumber, MayStand, behind_lines, exponent_reading, ideal_reading, nonconstant_reading, two_arguments, word_reading, words_behind}
use Rattle.fj_grammar.proofs.BeginningQuestions.{ratio_reading}
use Rattle.fj_grammar.proofs.BeginningStatements.{Begins, IsStopped, name_equals_reading, shorter, stop_end, stop_then}
use Rattle.fj_grammar.proofs.Continuations.{extra, first_short, fresh, longest, not_extra, nothing_ratio, one_above, one_ratio, other_word, other_word-is, some_ideal, some_nonconstant, whole_ratio, wide, wide_alike, zero_ratio}
use Rattle.fj_grammar.proofs.GrammarSound.{ask_is, ask_word}
use Rattle.fj_grammar.proofs.NamesOf.{contains_at, declared_found}

-- ---- sessions with few names

-- The session with these values alone.
abbrev only : Session → List (List ℕ × Value) → Session
only S vs = record S { values = vs; terms = 0 }

-- A word that is neither a variable nor one of at most one name, and no longer than n, is new where three longer names are
-- declared behind it.
new_among : (S : Session) (name : List ℕ) (vs : List (List ℕ × Value)) (n : ℕ) → All (λ v. v ≢ name) S.variables → length vs ≤ 1 → length name ≤ n → ((v : Value) → Contains vs (name, v) → ⊥) → IsNew (wide (only S vs) n) name
new_among S name vs n apart few short none = record {
  no_variable = apart;
  not_declared = λ i d inside same. undeclared (get_or (vs ++ extra n) i d) (contains_at (vs ++ extra n) i _ (slice_get-get_or (vs ++ extra n) i d inside)) same;
  few = omega (arith, few, length-append vs (extra n));
}
  where
    undeclared : (x : List ℕ × Value) → Contains (vs ++ extra n) x → x.0 ≡ name → ⊥
    undeclared (w, v) found same =
        ⊎_elim (λ here. none v here) (λ more. not_extra n name v short more) (Contains-append_cases vs (extra n) (name, v) (subst (λ w. Contains (vs ++ extra n) (w, v)) same found))

-- The value of a word, where it is declared.
record Declared (S : Session) (w : List ℕ) : Type 0 where
  values : List (List ℕ × Value)
  few : length values ≤ 1
  there : (v : Value) → Contains S.values (w, v) → Contains values (w, v)
  back : (u : List ℕ) (v : Value) → Contains values (u, v) → Contains S.values (u, v)

module _ (S : Session) (distinct : AllPairs (λ v w. v ≢ w) (names.declared_names S.values)) where
  declared_of : (w : List ℕ) → Declared S w
  declared_of w = by (place_of (names.declared_names S.values) w) refl
    where
      short : (k : ℕ) → k < length S.values → k < length (names.declared_names S.values)
      short k inside = omega (arith, inside, length-map S.values (λ (v : List ℕ × Value). v.0))

      called : (k : ℕ) (v : Value) → k < length S.values → get_or S.values k (w, v) ≡ (w, v) → get_or (names.declared_names S.values) k [] ≡ w
      called k v inside is = get_or-map (λ v. v.0) S.values k (w, v) [] inside ∙ ap (λ x. x.0) is

      same_place : (i k : ℕ) → i < length S.values → k < length S.values → get_or (names.declared_names S.values) i [] ≡ w → get_or (names.declared_names S.values) k [] ≡ w → i ≡ k
      same_place i k inside other one two =
          ⊎_elim (λ (less : i < k). absurd (distinct i k [] less (short k other) (one ∙ sym two)))
          (λ (above : k ≤ i). ⊎_elim (λ (less : k < i). absurd (distinct k i [] less (short i inside) (two ∙ sym one))) (λ (below : i ≤ k). let same : i ≡ k = omega (arith, above, below) in same) (cases_lt k i)) (cases_lt i k)

      one_value : (i : ℕ) (x : Value) → slice_get S.values i ≡ Some (w, x) → (v : Value) → Contains S.values (w, v) → Contains {X = List ℕ × Value} ((w, x) ∷ []) (w, v)
      one_value i x at v (k, inside, is) =
          let there = slice_get_within S.values i (w, x) at in
          let place = same_place i k there inside (called i x there (get_or_from_slice_get S.values i (w, x) (w, x) at)) (called k v inside is) in
          let here : slice_get S.values i ≡ Some (w, v) = ap (slice_get S.values) place ∙ slice_get-get_or S.values k (w, v) inside ∙ ap Some is in
          let same : ◌≡◌ {A = List ℕ × Value} (w, x) (w, v) = (let both = sym at ∙ here in cc) in
          (0, omega arith, same)

      back_there : (i : ℕ) (x : Value) → slice_get S.values i ≡ Some (w, x) → (u : List ℕ) (v : Value) → Contains {X = List ℕ × Value} ((w, x) ∷ []) (u, v) → Contains S.values (u, v)
      back_there i x at u v (zero, inside, is) = subst (Contains S.values) is (contains_at S.values i (w, x) at)
      back_there i x at u v (suc k, inside, is) = absurd (omega (arith, inside))

      by : (o : Option ℕ) → place_of (names.declared_names S.values) w ≡ o → Declared S w
      by None e = record {
        values = [];
        few = omega arith;
        there = λ v found. absurd (unlike w (names.declared_names S.values) (sym e) found.0 [] (short found.0 found.1) (called found.0 v found.1 found.2));
        back = λ u v found. absurd (let inside : found.0 < 0 = found.1 in omega (arith, inside));
      }
      by (Some i) e = let x = declared_found S w i e in record { values = (w, x.0) ∷ []; few = omega arith; there = one_value i x.0 x.1; back = back_there i x.0 x.1 }

-- ---- the question behind `let N =`

itself : (S : Session) (ts : List Token) → IsAlikeFor ts S S
itself S ts = record { prime = refl; variables = refl; names = λ w v there. (λ h. h, λ h. h) }

with_token : (S : Session) (ts : List Token) (tok : Token) → CanGoOnWith (Some S) ts tok → CanGoOn (Some S) ts
with_token S ts tok (other, alike, more, T, h) = (other, alike, tok ∷ more, T, h)

-- The questions that have an ideal as their answer, in any session.
abbrev Results : Session → Ask → Question → List Token → Type 0
Results S a q us = IsQuestion S (Word (ask_word a) ∷ us) q × (question.answers_ideal q ≡ true)

one_ideal : (S : Session) (which : OneIdeal) (w : List ℕ) (j : ℕ) → NamesIdeal S w j → Results S (asks.OneIdeal which) (question.about_ideal which j) (Word w ∷ [])
unfolding ask_word
one_ideal S ones.Basis w j h = (grammar.basis h, refl)
one_ideal S ones.Split w j h = (grammar.split h, refl)

two_ideals : (S : Session) (which : TwoIdeals) → question.asks_ideal (asks.TwoIdeals which) ≡ true → (v w : List ℕ) (j k : ℕ) → NamesIdeal S v j → NamesIdeal S w k → Results S (asks.TwoIdeals which) (question.about_two_ideals which j k) (Word v ∷ Word w ∷ [])
unfolding ask_word
two_ideals S twos.Same is v w j k g h = absurd cc
two_ideals S twos.Sum is v w j k g h = (grammar.sum g h, refl)
two_ideals S twos.Product is v w j k g h = (grammar.product g h, refl)
two_ideals S twos.Meet is v w j k g h = (grammar.meet g h, refl)
two_ideals S twos.Colon is v w j k g h = (grammar.colon g h, refl)

of_frobenius : (S : Session) (which : Frobenius) (w : List ℕ) (e j : ℕ) → e ≤ 12 → NamesIdeal S w j → Results S (asks.Frobenius which) (question.about_frobenius which e j) (Number e ∷ Word w ∷ [])
unfolding ask_word
of_frobenius S frobenius.Power w e j small h = (grammar.power small h, refl)
of_frobenius S frobenius.Root w e j small h = (grammar.root small h, refl)

of_test : (S : Session) (which : TestIdeal) → question.asks_ideal (asks.TestIdeal which) ≡ true → (w : List ℕ) (f : ℕ) → NamesNonconstant S w f → (ts : List Token) (t : Fraction) → IsRatio ts t → (question.is_above_zero which ≡ true → 0 < t.numerator)
    → Results S (asks.TestIdeal which) (question.about_test_ideal which f t) (Word w ∷ ts)
unfolding ask_word
of_test S tests.Test is w f h ts t k above = (grammar.test h k, refl)
of_test S tests.Left is w f h ts t k above = (grammar.left h k (above refl), refl)
of_test S tests.IsJump is w f h ts t k above = absurd cc
of_test S tests.Regular is w f h ts t k above = absurd cc

module _ (s0 : State) (S : Session) (distinct : AllPairs (λ v w. v ≢ w) (names.declared_names S.values)) where
  abbrev V : Sayings
  V = behind_lines (Some S)

  module _ (name : List ℕ) (new : IsNew S name) where
    abbrev front : List Token → List Token
    front ts = Word (codes "let") ∷ Word name ∷ Sign equals ∷ ts

    not_there : (v : Value) → Contains S.values (name, v) → ⊥
    not_there v (i, inside, is) = new.not_declared i (name, v) inside (ap (λ x. x.0) is)

    -- Tokens of which no other one is a word.
    abbrev Only : List ℕ → List Token → Type 0
    Only w ts = (u : List ℕ) → Contains ts (Word u) → u ≡ w

    only_word : (w : List ℕ) → Only w (Word w ∷ [])
    only_word w u (zero, inside, is) = let same : u ≡ w = cc in same
    only_word w u (suc k, inside, is) = absurd (omega (arith, inside))

    only_before_number : (w : List ℕ) (n : ℕ) → Only w (Word w ∷ Number n ∷ [])
    only_before_number w n u (zero, inside, is) = let same : u ≡ w = cc in same
    only_before_number w n u (suc zero, inside, is) = absurd cc
    only_before_number w n u (suc (suc k), inside, is) = absurd (omega (arith, inside))

    -- In this session the tokens before the first name mean what they mean in the session, and others are declared.
    abbrev few : List ℕ → List Token → Session
    few w ts = wide (only S (declared_of S distinct w).values) (longest (Word name ∷ Sign equals ∷ ts))

    few_ideal : (w : List ℕ) (ts : List Token) → NamesIdeal (few w ts) (fresh (longest (Word name ∷ Sign equals ∷ ts) + 2)) (length (declared_of S distinct w).values + 1)
    few_ideal w ts = some_ideal (only S (declared_of S distinct w).values) (longest (Word name ∷ Sign equals ∷ ts))

    few_nonconstant : (w : List ℕ) (ts : List Token) → NamesNonconstant (few w ts) (fresh (longest (Word name ∷ Sign equals ∷ ts) + 1)) (length (declared_of S distinct w).values + 0)
    few_nonconstant w ts = some_nonconstant (only S (declared_of S distinct w).values) (longest (Word name ∷ Sign equals ∷ ts))

    few_alike : (w : List ℕ) (ts : List Token) → Only w ts → IsAlikeFor (Word name ∷ Sign equals ∷ ts) S (few w ts)
    few_alike w ts one = record { prime = refl; variables = refl; names = λ u v there. (λ found. (W.names u v there).0 (kept u v there found), λ found. K.back u v ((W.names u v there).1 found)) }
      where
        K : Declared S w
        K = declared_of S distinct w

        W : IsAlikeFor (Word name ∷ Sign equals ∷ ts) (only S K.values) (few w ts)
        W = wide_alike (Word name ∷ Sign equals ∷ ts) (only S K.values)

        kept : (u : List ℕ) (v : Value) → Contains (Word name ∷ Sign equals ∷ ts) (Word u) → Contains S.values (u, v) → Contains K.values (u, v)
        kept u v (zero, inside, is) found = let same : u ≡ name = cc in absurd (not_there v (subst (λ u. Contains S.values (u, v)) same found))
        kept u v (suc zero, inside, is) found = absurd cc
        kept u v (suc (suc k), inside, is) found =
            let same : u ≡ w = one u (k, omega (arith, inside), is) in
            subst (λ u. Contains K.values (u, v)) (sym same) (K.there v (subst (λ u. Contains S.values (u, v)) same found))

    few_new : (w : List ℕ) (ts : List Token) → IsNew (few w ts) name
    few_new w ts = let K = declared_of S distinct w in new_among S name K.values (longest (Word name ∷ Sign equals ∷ ts)) new.no_variable K.few (first_short name (Sign equals ∷ ts)) (λ v found. not_there v (K.back name v found))

    goes_with : (w : List ℕ) (ts : List Token) (tok : Token) (more : List Token) (q : Question) → Only w ts → IsQuestion (few w ts) (ts ++ tok ∷ more) q → question.answers_ideal q ≡ true → CanGoOnWith (Some S) (front ts) tok
    goes_with w ts tok more q one h answers = (few w ts, few_alike w ts one, more, declare (few w ts) name (Let S.budget q) 0, grammar.named_result (few_new w ts) h answers)

    -- After the first name they mean what they mean in the session itself.
    stays_with : (ts : List Token) (tok : Token) (more : List Token) (q : Question) → IsQuestion S (ts ++ tok ∷ more) q → question.answers_ideal q ≡ true → CanGoOnWith (Some S) (front ts) tok
    stays_with ts tok more q h answers = (S, itself S _, more, declare S name (Let S.budget q) 0, grammar.named_result new h answers)

    whole : (ts : List Token) (q : Question) → IsQuestion S ts q → question.answers_ideal q ≡ true → MayStand (Some S) (front ts)
    whole ts q h answers = inl (S, itself S _, [], declare S name (Let S.budget q) 0, subst (λ us. grammar.IsStatement S (front us) (declare S name (Let S.budget q) 0)) (sym (append-nil ts)) (grammar.named_result new h answers))

    -- A word, or a number, may come next.
    abbrev WordNext : List Token → Type 0
    WordNext ts = MayStand (Some S) ts × Words s0 V ts

    abbrev NumberNext : List Token → Type 0
    NumberNext ts = MayStand (Some S) ts × Numbers s0 V ts

    word_next : (ts : List Token) (w : List ℕ) → CanGoOnWith (Some S) ts (Word w) → WordNext ts
    word_next ts w g = (inl (with_token S ts (Word w) g), (w, inr (inl g)))

    number_next : (ts : List Token) (n : ℕ) → CanGoOnWith (Some S) ts (Number n) → NumberNext ts
    number_next ts n g = (inl (with_token S ts (Number n) g), (tt, n, inr (inl g)))

    -- the word of the question
    abbrev word_of : Ask → List Token
    word_of a = Word (ask_word a) ∷ []

    one_reading : (which : OneIdeal) (t : State) → SoFar s0 V (front (word_of (asks.OneIdeal which))) t → Reading s0 V (λ e. e) (Results S (asks.OneIdeal which)) (front (word_of (asks.OneIdeal which))) (question.of_ideal which S t)
    unfolding question.of_ideal
    one_reading which t H =
        let a : Ask = asks.OneIdeal which in
        let x = one_ideal (few (ask_word a) (word_of a)) which _ _ (few_ideal (ask_word a) (word_of a)) in
        let may = word_next _ _ (goes_with (ask_word a) (word_of a) _ [] _ (only_word (ask_word a)) x.0 x.1) in
        then_reading s0 V (λ e. e) _ (ideal_reading s0 V S (words_behind s0 S) (front (word_of a)) t H.reached may.0 may.1)
        (λ j us u h Hu. read us (subst (Results S a (question.about_ideal which j)) (sym (h.1 ∙ ap (λ tok. tok ∷ []) h.2.1)) (one_ideal S which h.2.0 j h.2.2)) Hu)

    two_reading : (which : TwoIdeals) → question.asks_ideal (asks.TwoIdeals which) ≡ true → (t : State) → SoFar s0 V (front (word_of (asks.TwoIdeals which))) t → Reading s0 V (λ e. e) (Results S (asks.TwoIdeals which)) (front (word_of (asks.TwoIdeals which))) (question.of_two_ideals which S t)
    unfolding question.of_two_ideals
    two_reading which is t H =
        let a : Ask = asks.TwoIdeals which in
        let R = ideal_reading s0 V S (words_behind s0 S) in
        let J = few_ideal (ask_word a) (word_of a) in
        let x = two_ideals (few (ask_word a) (word_of a)) which is _ _ _ _ J J in
        let may = word_next _ _ (goes_with (ask_word a) (word_of a) _ _ _ (only_word (ask_word a)) x.0 x.1) in
        two_arguments s0 V (IsName s0 V (NamesIdeal S)) (IsName s0 V (NamesIdeal S)) (IsName s0 V (NamesIdeal S)) (names.ideal S) (names.ideal S) (names.ideal S) (Words s0 V) (Words s0 V) (Words s0 V) R R R (Results S a) (question.about_two_ideals which)
        (λ j k b c h l. subst (λ d. Results S a (question.about_two_ideals which j k) (d ∷ c ∷ [])) (sym h.1) (subst (λ d. Results S a (question.about_two_ideals which j k) (Word h.0 ∷ d ∷ [])) (sym l.1) (two_ideals S which is h.0 l.0 j k h.2 l.2)))
        (front (word_of a)) t H may
        (λ j b h. let y = two_ideals S which is h.0 h.0 j j h.2 h.2 in subst (λ c. WordNext (front (Word (ask_word a) ∷ c ∷ []))) (sym h.1) (word_next _ _ (stays_with (Word (ask_word a) ∷ Word h.0 ∷ []) (Word h.0) [] _ y.0 y.1)))

    frobenius_reading : (which : Frobenius) (t : State) → SoFar s0 V (front (word_of (asks.Frobenius which))) t → Reading s0 V (λ e. e) (Results S (asks.Frobenius which)) (front (word_of (asks.Frobenius which))) (question.of_frobenius which S t)
    unfolding question.of_frobenius
    frobenius_reading which t H =
        let a : Ask = asks.Frobenius which in
        let R = ideal_reading s0 V S (words_behind s0 S) in
        let x = of_frobenius (few (ask_word a) (word_of a)) which _ 0 _ (omega arith) (few_ideal (ask_word a) (word_of a)) in
        let may = number_next _ _ (goes_with (ask_word a) (word_of a) (Number 0) _ _ (only_word (ask_word a)) x.0 x.1) in
        two_arguments s0 V (IsNumber s0 V (λ e. e ≤ 12)) (IsName s0 V (NamesIdeal S)) (IsName s0 V (NamesIdeal S)) numbers.exponent (names.ideal S) (names.ideal S) (Numbers s0 V) (Words s0 V) (Words s0 V) (exponent_reading s0 V) R R (Results S a) (question.about_frobenius which)
        (λ e j b c h l. subst (λ d. Results S a (question.about_frobenius which e j) (d ∷ c ∷ [])) (sym h.1) (subst (λ d. Results S a (question.about_frobenius which e j) (Number e ∷ d ∷ [])) (sym l.1) (of_frobenius S which l.0 e j h.2 l.2)))
        (front (word_of a)) t H may
        (λ e b h. let ts : List Token = Word (ask_word a) ∷ Number e ∷ [] in
        let y = of_frobenius (few (ask_word a) ts) which _ e _ h.2 (few_ideal (ask_word a) ts) in
        subst (λ c. WordNext (front (Word (ask_word a) ∷ c ∷ []))) (sym h.1) (word_next _ _ (goes_with (ask_word a) ts _ [] _ (only_before_number (ask_word a) e) y.0 y.1)))

    -- a fraction as far as its `/`
    abbrev over : TestIdeal → List ℕ → ℕ → List Token
    over which w m = Word (ask_word (asks.TestIdeal which)) ∷ Word w ∷ Number m ∷ Sign slash ∷ []

    one_over : (which : TestIdeal) → question.asks_ideal (asks.TestIdeal which) ≡ true → (w : List ℕ) (f : ℕ) → NamesNonconstant S w f → (m : ℕ) → m < 2 ^ 32 → 0 < m → NumberNext (front (over which w m))
    one_over which is w f h m fits above =
        let x = of_test S which is w f h (Number m ∷ Sign slash ∷ Number m ∷ []) one_ratio (grammar.quotient (whole_ratio m fits above)) (λ _. one_above) in
        number_next _ _ (stays_with (over which w m) (Number m) [] _ x.0 x.1)

    slashed : (which : TestIdeal) → question.asks_ideal (asks.TestIdeal which) ≡ true → (w : List ℕ) (f : ℕ) → NamesNonconstant S w f → (m : ℕ) → m < 2 ^ 32 → NumberNext (front (over which w m))
    unfolding ask_word
    slashed tests.Test is w f h zero fits =
        let x = of_test S tests.Test refl w f h (Number 0 ∷ Sign slash ∷ Number 1 ∷ []) zero_ratio (grammar.quotient nothing_ratio) (λ k. absurd cc) in
        number_next _ _ (stays_with (over tests.Test w 0) (Number 1) [] _ x.0 x.1)
    slashed tests.Left is w f h zero fits = (inr beginning.named_left, (tt, 1, inr (inr beginning.named_left_over)))
    slashed tests.IsJump is w f h zero fits = absurd cc
    slashed tests.Regular is w f h zero fits = absurd cc
    slashed which is w f h (suc m) fits = one_over which is w f h (suc m) fits (omega arith)

    test_reading : (which : TestIdeal) → question.asks_ideal (asks.TestIdeal which) ≡ true → (t : State) → SoFar s0 V (front (word_of (asks.TestIdeal which))) t → Reading s0 V (λ e. e) (Results S (asks.TestIdeal which)) (front (word_of (asks.TestIdeal which))) (question.of_test_ideal which S t)
    unfolding question.of_test_ideal
    test_reading which is t H =
        let a : Ask = asks.TestIdeal which in
        let x = of_test (few (ask_word a) (word_of a)) which is _ _ (few_nonconstant (ask_word a) (word_of a)) (Number 1 ∷ []) one_ratio (grammar.whole (whole_ratio 1 (omega arith) (omega arith))) (λ _. one_above) in
        let may = word_next _ _ (goes_with (ask_word a) (word_of a) _ _ _ (only_word (ask_word a)) x.0 x.1) in
        then_reading s0 V (λ e. e) _ (nonconstant_reading s0 V S (words_behind s0 S) (front (word_of a)) t H.reached may.0 may.1)
        (λ f us u h Hu. let w = h.2.0 in
        let named : us ≡ Word w ∷ [] = h.1 ∙ ap (λ tok. tok ∷ []) h.2.1 in
        let Hw = subst (λ ws. SoFar s0 V (front (Word (ask_word a) ∷ ws)) u) named Hu in
        let y = of_test S which is w f h.2.2 (Number 1 ∷ []) one_ratio (grammar.whole (whole_ratio 1 (omega arith) (omega arith))) (λ _. one_above) in
        let one = number_next _ _ (stays_with (Word (ask_word a) ∷ Word w ∷ []) (Number 1) [] _ y.0 y.1) in
        let ratio = ratio_reading s0 V (question.is_above_zero which) (front (Word (ask_word a) ∷ Word w ∷ [])) u Hw.reached one.0 one.1 (slashed which is w f h.2.2) in
        then_reading s0 V (λ e. e) _
        (behind s0 V (λ e. e) {R = λ x ws. (vs : List Token) × (ws ≡ Word w ∷ vs) × (IsRatio vs x × (question.is_above_zero which ≡ true → 0 < x.numerator))} (front (word_of a)) (Word w ∷ []) _ ratio (λ x vs k. (vs, refl, k)))
        (λ x ws y k Hy. read ws (subst (Results S a (question.about_test_ideal which f x)) (sym k.1) (of_test S which is w f h.2.2 k.0 x k.2.0 k.2.1)) Hy))

    arguments_reading : (a : Ask) → question.asks_ideal a ≡ true → (t : State) → SoFar s0 V (front (word_of a)) t → Reading s0 V (λ e. e) (Results S a) (front (word_of a)) (question.arguments a S t)
    unfolding question.arguments
    arguments_reading (asks.OneIdeal which) is t H = one_reading which t H
    arguments_reading (asks.TwoIdeals which) is t H = two_reading which is t H
    arguments_reading (asks.Frobenius which) is t H = frobenius_reading which t H
    arguments_reading (asks.TestIdeal which) is t H = test_reading which is t H
    arguments_reading asks.Parts is t H = absurd cc
    arguments_reading asks.Member is t H = absurd cc
    arguments_reading asks.Jumps is t H = absurd cc
    arguments_reading asks.Nu is t H = absurd cc
    arguments_reading asks.Threshold is t H = absurd cc
    arguments_reading asks.Pure is t H = absurd cc
    arguments_reading asks.Compatible is t H = absurd cc

    -- some question may come next
    basis_next : CanGoOn (Some S) (front [])
    unfolding ask_word
    basis_next =
        let w : List ℕ = codes "basis" in
        let x = one_ideal (few w (Word w ∷ [])) ones.Basis _ _ (few_ideal w (Word w ∷ [])) in
        shorter S (Word (codes "let")) (Word name ∷ Sign equals ∷ []) (Word w ∷ []) (with_token S (front (Word w ∷ [])) (Word (fresh (longest (Word name ∷ Sign equals ∷ Word w ∷ []) + 2))) (goes_with w (Word w ∷ []) _ [] _ (only_word w) x.0 x.1))

    result_reading : (t : State) → SoFar s0 V (front []) t → Reading s0 V (λ e. e) (λ q us. IsQuestion S us q × (question.answers_ideal q ≡ true)) (front []) (question.ideal_question_at S t)
    unfolding question.ideal_question_at question.question_by
    result_reading t H = then_reading s0 V (λ e. e) _ (word_reading s0 V (front []) t H.reached (inl basis_next)) (λ w us u e Hu. by w us e u Hu (question.ideal_ask_of w) refl)
      where
        by : (w : List ℕ) (us : List Token) → us ≡ Word w ∷ [] → (u : State) → SoFar s0 V (front us) u → (o : Option Ask) → question.ideal_ask_of w ≡ o
            → Reading s0 V (λ e. e) (λ q us. IsQuestion S us q × (question.answers_ideal q ≡ true)) (front []) (option_map_or (λ a. question.arguments a S u) o (Err (fault_at kinds.Syntax u)))
        by w us e u Hu None is = stuck (late s0 V Hu tt)
        by w us e u Hu (Some a) is =
            let named = ideal_ask w a is in
            behind s0 V (λ e. e) {Q = Results S a} (front []) (word_of a) _ (arguments_reading a named.1 u (subst (λ vs. SoFar s0 V (front vs) u) (e ∙ ap (λ v. Word v ∷ []) (ask_is w a named.0)) Hu)) (λ q vs h. h)

module _ (s0 : State) (S : Session) (known : Contains primes S.prime) (some_variable : 1 ≤ length S.variables) (distinct : AllPairs (λ v w. v ≢ w) (names.declared_names S.values)) where
  -- some name may come first
  let_begins : Begins s0 S known some_variable (codes "let")
  let_begins =
      let w = other_word S.variables in
      let n = length w in
      let new = new_among S w [] n (other_word-is S.variables) (omega arith) (omega arith) (λ v found. absurd (let inside : found.0 < 0 = found.1 in omega (arith, inside))) in
      (w, (wide (only S []) n, nothing_named n, Sign equals ∷ Word (codes "basis") ∷ Word (fresh (n + 2)) ∷ [], declare (wide (only S []) n) w (Let S.budget (questions.Basis 1)) 0, grammar.named_result new (grammar.basis (some_ideal (only S []) n)) refl))
    where
      nothing_named : (n : ℕ) → IsAlikeFor [] S (wide (only S []) n)
      nothing_named n = record { prime = refl; variables = refl; names = λ w v there. absurd (let short : there.0 < 0 = there.1 in omega arith) }

  pub named_result_stopped : (t : State) → SoFar s0 (behind_lines (Some S)) (Word (codes "let") ∷ []) t → IsStopped s0 (behind_lines (Some S)) (declaration.named_result S t)
  unfolding declaration.named_result
  named_result_stopped t H =
      stop_then s0 (behind_lines (Some S)) _ (name_equals_reading s0 S known some_variable (codes "let") (inr (inr (inr refl))) t H let_begins (λ name new. basis_next s0 S distinct name new))
      (λ name us u h Hu. let Hn = subst (λ ws. SoFar s0 (behind_lines (Some S)) (Word (codes "let") ∷ ws) u) h.0 Hu in
      stop_then s0 (behind_lines (Some S)) _ (result_reading s0 S distinct name h.1 u Hn)
      (λ q vs w k Hw. stop_end s0 (behind_lines (Some S)) _ _ w Hw (whole s0 S distinct name h.1 vs q k.0 k.1)))
