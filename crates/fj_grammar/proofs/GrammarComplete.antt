-- A session of the grammar is accepted.
use Rattle.std.proofs.Common.{◌≡◌, ◌≢◌, ℕ, suc, ◌+◌, ◌-◌, ◌%◌, ◌^◌, ◌<◌, ◌≤◌, Bool, true, false, cond, ◌||◌, ◌&&◌, eqb, leb, ltb, List, [], ◌∷◌, ◌++◌, length, map, get_or, sum, codes, All, AllPairs, Contains, Option, Some, None, Ok, Err, refl, sym, ap, ◌∙◌, subst, arith, add-zero, inl, inr}
use Rattle.std.specs.List.{slice_get}
use Rattle.std.specs.Option.{is_some, option_and_then, option_map, option_map_or}
use Rattle.std.specs.Str.{bytes_eq}
use Rattle.std.proofs.lemmas.Bool.{cases_lt, false_from_ne_true, le-ltb, lt-leb, ne_eqb}
use Rattle.std.proofs.lemmas.List.{append-nil, get_or-append-add, get_or-map, get_or_append_left, length-append, map-append}
use Rattle.std.proofs.lemmas.List.Sums.{sum_by-append, sum_by-cons}
use Rattle.std.proofs.lemmas.Option.{get_or_from_slice_get, slice_get-map, slice_get_within}
use Rattle.std.proofs.lemmas.Slice.Eq.{bytes_eq-Decides}
use Rattle.std.proofs.Math.Nat.{pow-le-pow_left}
use Rattle.std.proofs.Math.Pow.{pow-lt}
use Rattle.fj_coeff.specs.Field.{primes}
use Rattle.fj_coeff.specs.PrimeFieldLaws.{IsField-prime_field, prime_bounds}
use Rattle.fj_coeff.specs.PrimeTest.{prime_tested}
use Rattle.fj_theory.specs.Fraction.{Fraction}
use Rattle.fj_plain.specs.declared.order_name.OrderName.TheVariants as orders
use Rattle.fj_text.specs.Grammar.{AreBehind, tokens_left}
use Rattle.fj_text.specs.State.{State, state_at}
use Rattle.fj_text.specs.Token.{Token, Word, Number, Sign, closing, minus, opening}
use Rattle.fj_text.specs.Word.{place_of}
use Rattle.fj_text.proofs.Completeness.{NotFirst, expression-complete, next-tokens, sign-not, sign-read}
use Rattle.fj_text.proofs.Places.{place_found, place_missing}
use Rattle.fj_script.specs.declared.ask.Ask.{Ask}
use Rattle.fj_script.specs.declared.ask.Ask.TheVariants as asks
use Rattle.fj_script.specs.declared.ask.OneIdeal.TheVariants as ones
use Rattle.fj_script.specs.declared.ask.TwoIdeals.TheVariants as twos
use Rattle.fj_script.specs.declared.ask.Frobenius.TheVariants as frobenius
use Rattle.fj_script.specs.declared.ask.TestIdeal.TheVariants as tests
use Rattle.fj_script.specs.declared.fault.FaultKind.{FaultKind}
use Rattle.fj_script.specs.declared.fault.FaultKind.TheVariants as faults
use Rattle.fj_script.specs.declared.question.Question.{Question}
use Rattle.fj_script.specs.declared.question.Question.TheVariants as questions
use Rattle.fj_script.specs.declared.statement.Keyword.{Keyword}
use Rattle.fj_script.specs.declared.statement.Keyword.TheVariants as keywords
use Rattle.fj_script.specs.declared.value.Kind.{Kind}
use Rattle.fj_script.specs.declared.value.Kind.TheVariants as kinds
use Rattle.fj_script.specs.Declaration as declaration
use Rattle.fj_grammar.specs.Grammar as grammar
use Rattle.fj_grammar.specs.Grammar.{AreListed, AreSession, AreStatements, HasTerms, IsCoordinate, IsExponent, IsIdeal, IsLevel, IsNew, IsQuestion, IsRatio, IsRing, IsSession, IsStatement, IsVariable, NamesIdeal, NamesNonconstant, NamesPoint, NamesPolynomial, tokens_of}
use Rattle.fj_script.specs.Items.{at_end, comma, equals, listed, narrow, slash, word_of}
use Rattle.fj_script.specs.LineFault.{◌>>=◌, fault_at}
use Rattle.fj_script.specs.Names as names
use Rattle.fj_script.specs.Numbers as numbers
use Rattle.fj_script.specs.Question as question
use Rattle.fj_script.specs.Ring as rings
use Rattle.fj_script.specs.Script as script
use Rattle.fj_script.specs.Session.{Session, Terms, Value, Poly, Ideal, Point, Let, ask, declare, is_nonconstant, kind, new_session, terms_in}
use Rattle.fj_script.specs.Statement as statements
use Rattle.fj_grammar.proofs.GrammarSound.{ask_word, keyword_word, line_tokens}
use Rattle.fj_grammar.proofs.GrammarTokens.{IsRead, behind_closing, done, enclosed_read, end_is, listed_read, narrow_read, next_read, no_next, number_read, otherwise_read, sign_is, then_is, then_read, word_read}
use Rattle.fj_grammar.proofs.Meanings.{expression_along, in_session}
use Rattle.fj_script.proofs.NewNames.{pairs_more}
use Rattle.fj_script.proofs.Ratios.{of_taken}

-- ---- numbers

both_false : (a b : Bool) → a ≡ false → b ≡ false → (a || b) ≡ false
both_false a b e h = ap (λ c. c || b) e ∙ h

within_read : (low high : ℕ) (s : State) (n : ℕ) (rest : List Token) → low ≤ n → n ≤ high → high < 2 ^ 32 → tokens_left s ≡ Number n ∷ rest → IsRead (numbers.within low high s) n rest
unfolding numbers.within
within_read low high s n rest above below small e =
    then_read _ (narrow_read s n rest (omega arith) e) (λ t k. otherwise_read (ltb n low || ltb high n) _ _ (both_false (ltb n low) (ltb high n) (le-ltb n low above) (le-ltb high n below)) (done k))

pub exponent_read : (s : State) (n : ℕ) (rest : List Token) → n ≤ 12 → tokens_left s ≡ Number n ∷ rest → IsRead (numbers.exponent s) n rest
unfolding numbers.exponent
exponent_read s n rest small e = within_read 0 12 s n rest (omega arith) small (omega arith) e

short_level : (p e : ℕ) → 1 < p → p ^ e ≤ 65536 → e ≤ 16
short_level p e prime low =
    elim (cases_lt 16 e) [
      | inl long ↦ let big : 2 ^ 16 < 2 ^ e = pow-lt long in let more : 2 ^ e ≤ p ^ e = pow-le-pow_left prime e in absurd (omega (arith, big, more))
      | inr short ↦ short
    ]

above_zero : (n : ℕ) → 1 ≤ n → eqb n 0 ≡ false
above_zero n h = ne_eqb n 0 (λ e. absurd (omega arith))

level_read : (p : ℕ) (s : State) (e : ℕ) (rest : List Token) → Contains primes p → IsLevel p e → tokens_left s ≡ Number e ∷ rest → IsRead (numbers.level p s) e rest
unfolding numbers.level
level_read p s e rest known h is =
    let short = short_level p e (prime_bounds p known).0 h.low in
    then_read _ (narrow_read s e rest (omega (arith, short)) is) (λ t k. otherwise_read (eqb e 0 || ltb 65536 (p ^ e)) _ _ (both_false (eqb e 0) (ltb 65536 (p ^ e)) (above_zero e h.above_zero) (le-ltb 65536 (p ^ e) h.low)) (done k))

ratio_of_read : (positive : Bool) (m n : ℕ) (t : Fraction) (u : State) (rest : List Token) → IsExponent m n t → (positive && eqb t.numerator 0) ≡ false → tokens_left u ≡ rest → IsRead (numbers.ratio_of positive m n u) t rest
ratio_of_read positive m n t u rest h above e = record { state = u; is = of_taken positive m n u t h.divides h.form (let short = h.short in omega (arith, short)) h.low above; left = e }

ratio_read : (positive : Bool) (s : State) (ts : List Token) (t : Fraction) → IsRatio ts t → (positive && eqb t.numerator 0) ≡ false → tokens_left s ≡ ts → IsRead (numbers.ratio positive s) t []
unfolding numbers.ratio
ratio_read positive s ts t (grammar.whole {m} h) above e =
    then_read _ (narrow_read s m [] h.numerator_fits e)
    (λ u k. let r = ratio_of_read positive m 1 t u [] h above k in
    record { state = r.state; is = ap (λ o. option_map_or (λ v. narrow v >>= λ n. numbers.ratio_of positive m n.0 n.1) o (numbers.ratio_of positive m 1 u)) (sign-not slash u [] k tt) ∙ r.is; left = r.left })
ratio_read positive s ts t (grammar.quotient {m} {n} h) above e =
    then_read _ (narrow_read s m (Sign slash ∷ Number n ∷ []) h.numerator_fits e)
    (λ u k. let v = sign-read slash u (Number n ∷ []) k in
    let r : IsRead (narrow v.0 >>= λ n. numbers.ratio_of positive m n.0 n.1) t [] = then_read _ (narrow_read v.0 n [] h.denominator_fits v.2) (λ w l. ratio_of_read positive m n t w [] h above l) in
    record { state = r.state; is = ap (λ o. option_map_or (λ v. narrow v >>= λ n. numbers.ratio_of positive m n.0 n.1) o (numbers.ratio_of positive m 1 u)) v.1 ∙ r.is; left = r.left })

-- ---- names

other_word : (v w : List ℕ) → v ≢ w → bytes_eq v w ≡ false
other_word v w apart = false_from_ne_true (bytes_eq v w) (λ e. apart ((bytes_eq-Decides v w).0 e))

-- a word that is unlike all names isn't found
not_found : (vs : List (List ℕ)) (w : List ℕ) → All (λ v. v ≢ w) vs → is_some (place_of vs w) ≡ false
not_found vs w apart = ap is_some (sym (place_missing vs w (λ k inside. other_word _ w (apart k [] inside))))

names_of : (vs : List (List ℕ × Value)) → length (names.declared_names vs) ≡ length vs
names_of [] = refl
names_of (v ∷ vs) = ap suc (names_of vs)

undeclared : (vs : List (List ℕ × Value)) (w : List ℕ) → All (λ v. v.0 ≢ w) vs → All (λ v. v ≢ w) (names.declared_names vs)
undeclared vs w apart i d inside same =
    let x : List ℕ × Value = (d, Point []) in
    let short : i < length vs = omega (arith, names_of vs, inside) in
    apart i x short (sym (get_or-map (λ v. v.0) vs i x d short) ∙ same)

new_name_read : (S : Session) (s : State) (name : List ℕ) (rest : List Token) → IsNew S name → tokens_left s ≡ Word name ∷ rest → IsRead (names.new_name S s) name rest
unfolding names.new_name
new_name_read S s name rest new e =
    then_read _ (word_read s name rest e)
    (λ t k. otherwise_read (names.is_variable S name || is_some (place_of (names.declared_names S.values) name)) _ _
    (both_false _ _ (not_found S.variables name new.no_variable) (not_found (names.declared_names S.values) name (undeclared S.values name new.not_declared)))
    (otherwise_read (leb 4096 (length S.values)) _ _ (lt-leb 4096 (length S.values) new.few) (done k)))

-- What is known of each session of the grammar.
pub record IsSane (S : Session) : Type 0 where
  pub prime : Contains primes S.prime
  pub distinct : AllPairs (λ v w. v ≢ w) (names.declared_names S.values)

ideal_kind : {v : Value} → IsIdeal v → kind v ≡ kinds.Ideal
ideal_kind grammar.generated = refl
ideal_kind grammar.answered = refl

module _ (S : Session) (H : IsSane S) where
  found_at : (w : List ℕ) (i : ℕ) (v : Value) → slice_get S.values i ≡ Some (w, v) → names.declared_as S w ≡ Some (i, kind v)
  unfolding names.declared_as
  found_at w i v e =
      let inside : i < length (names.declared_names S.values) = omega (arith, names_of S.values, slice_get_within S.values i (w, v) e) in
      let here : (d : List ℕ) → get_or (names.declared_names S.values) i d ≡ w = λ d. get_or_from_slice_get (names.declared_names S.values) i w d (slice_get-map (λ v. v.0) S.values i ∙ ap (option_map (λ v. v.0)) e) in
      let place = place_found (names.declared_names S.values) w i inside (λ k less. other_word _ w (λ same. H.distinct k i [] less inside (same ∙ sym (here [])))) ((bytes_eq-Decides _ _).1 (here [])) in
      ap (option_and_then {U = ℕ × Kind} (λ i. option_map {U = ℕ × Kind} (λ v. (i, kind v.1)) (slice_get S.values i))) (sym place) ∙ ap (option_map {U = ℕ × Kind} (λ v. (i, kind v.1))) e

  declared_by_read : (w : List ℕ) (i : ℕ) (v : Value) (u : State) (rest : List Token) → slice_get S.values i ≡ Some (w, v) → tokens_left u ≡ rest → IsRead (names.declared_by S (Word w) u) (i, kind v) rest
  unfolding names.declared_by word_of
  declared_by_read w i v u rest found e = record { state = u; is = ap (λ o. option_map_or (λ v. Ok (v, u)) o (Err (fault_at (cond (names.is_variable S w) faults.Kind faults.Unknown) u))) (found_at w i v found); left = e }

  declared_read : (w : List ℕ) (i : ℕ) (v : Value) (s : State) (rest : List Token) → slice_get S.values i ≡ Some (w, v) → tokens_left s ≡ Word w ∷ rest → IsRead (names.declared S s) (i, kind v) rest
  unfolding names.declared
  declared_read w i v s rest found e = next_read s (Word w) rest (λ t. names.declared_by S t.0 t.1) _ e (λ u k. declared_by_read w i v u rest found k)

  of_kind_read : (taken : Kind → Option FaultKind) (i : ℕ) (k : Kind) (u : State) (rest : List Token) → taken k ≡ None → tokens_left u ≡ rest → IsRead (names.of_kind taken ((i, k), u)) i rest
  of_kind_read taken i k u rest none e = record { state = u; is = ap (λ o. option_map_or (λ fault. Err (fault_at fault u)) o (Ok (i, u))) none; left = e }

  polynomial_read : (w : List ℕ) (i : ℕ) (s : State) (rest : List Token) → NamesPolynomial S w i → tokens_left s ≡ Word w ∷ rest → IsRead (names.polynomial S s) i rest
  unfolding names.polynomial
  polynomial_read w i s rest h e = then_read _ (declared_read w i (Poly h.terms) s rest h.is e) (λ u k. of_kind_read names.as_polynomial i _ u rest (by (is_nonconstant h.terms)) k)
    where
      by : (b : Bool) → names.as_polynomial (cond b kinds.Nonconstant kinds.Constant) ≡ None
      by true = refl
      by false = refl

  nonconstant_read : (w : List ℕ) (i : ℕ) (s : State) (rest : List Token) → NamesNonconstant S w i → tokens_left s ≡ Word w ∷ rest → IsRead (names.nonconstant S s) i rest
  unfolding names.nonconstant
  nonconstant_read w i s rest h e =
      then_read _ (declared_read w i (Poly h.terms) s rest h.is e) (λ u k. of_kind_read names.as_nonconstant i _ u rest (ap (λ b. names.as_nonconstant (cond b kinds.Nonconstant kinds.Constant)) h.nonconstant) k)

  ideal_read : (w : List ℕ) (i : ℕ) (s : State) (rest : List Token) → NamesIdeal S w i → tokens_left s ≡ Word w ∷ rest → IsRead (names.ideal S s) i rest
  unfolding names.ideal
  ideal_read w i s rest h e = then_read _ (declared_read w i h.value s rest h.is e) (λ u k. of_kind_read names.as_ideal i (kind h.value) u rest (ap names.as_ideal (ideal_kind h.ideal)) k)

  point_by_read : (w : List ℕ) (i : ℕ) (u : State) (rest : List Token) → NamesPoint S w i → tokens_left u ≡ rest → IsRead (names.point_by S (Word w) u) i rest
  unfolding names.point_by
  point_by_read w i u rest h e = then_read _ (declared_by_read w i (Point h.coordinates) u rest h.is e) (λ v k. of_kind_read names.as_point i kinds.Point v rest refl k)

  -- ---- questions

  -- Tokens after the word of a question are its arguments.
  abbrev IsAsked : Ask → List Token → Question → Type 0
  IsAsked a ts q = (s : State) → tokens_left s ≡ ts → IsRead (question.arguments a S s) q []

  target_ideal_read : (w : List ℕ) (j : ℕ) (s : State) (rest : List Token) → NamesIdeal S w j → tokens_left s ≡ Word w ∷ rest → IsRead (question.target_at S s) (question.Ideal j) rest
  unfolding question.target_at
  target_ideal_read w j s rest h e = then_read _ (declared_read w j h.value s rest h.is e) (λ u k. by (kind h.value) (ideal_kind h.ideal) u k)
    where
      by : (k : Kind) → k ≡ kinds.Ideal → (u : State) → tokens_left u ≡ rest → IsRead (question.target_of ((j, k), u)) (question.Ideal j) rest
      by kinds.Ideal is u k = done k
      by kinds.Point is u k = absurd cc
      by kinds.Nonconstant is u k = absurd cc
      by kinds.Constant is u k = absurd cc

  target_point_read : (w : List ℕ) (j : ℕ) (s : State) (rest : List Token) → NamesPoint S w j → tokens_left s ≡ Word w ∷ rest → IsRead (question.target_at S s) (question.Point j) rest
  unfolding question.target_at
  target_point_read w j s rest h e = then_read _ (declared_read w j (Point h.coordinates) s rest h.is e) (λ u k. done k)

  ideal_last : (which : _) (w : List ℕ) (j : ℕ) → NamesIdeal S w j → IsAsked (asks.OneIdeal which) (Word w ∷ []) (question.about_ideal which j)
  unfolding question.arguments question.of_ideal
  ideal_last which w j h s e = then_read _ (ideal_read w j s [] h e) (λ t k. done k)

  two_ideals_last : (which : _) (v w : List ℕ) (j k : ℕ) → NamesIdeal S v j → NamesIdeal S w k → IsAsked (asks.TwoIdeals which) (Word v ∷ Word w ∷ []) (question.about_two_ideals which j k)
  unfolding question.arguments question.of_two_ideals
  two_ideals_last which v w j k g h s e = then_read _ (ideal_read v j s (Word w ∷ []) g e) (λ t l. then_read _ (ideal_read w k t [] h l) (λ u m. done m))

  frobenius_last : (which : _) (w : List ℕ) (e j : ℕ) → e ≤ 12 → NamesIdeal S w j → IsAsked (asks.Frobenius which) (Number e ∷ Word w ∷ []) (question.about_frobenius which e j)
  unfolding question.arguments question.of_frobenius
  frobenius_last which w e j small h s is = then_read _ (exponent_read s e (Word w ∷ []) small is) (λ t l. then_read _ (ideal_read w j t [] h l) (λ u m. done m))

  test_last : (which : _) (w : List ℕ) (ts : List Token) (f : ℕ) (t : Fraction) → NamesNonconstant S w f → IsRatio ts t → (question.is_above_zero which && eqb t.numerator 0) ≡ false → IsAsked (asks.TestIdeal which) (Word w ∷ ts) (question.about_test_ideal which f t)
  unfolding question.arguments question.of_test_ideal
  test_last which w ts f t h r above s is = then_read _ (nonconstant_read w f s ts h is) (λ u l. then_read _ (ratio_read (question.is_above_zero which) u ts t r above l) (λ v m. done m))

  threshold_last : (v w : List ℕ) (f : ℕ) (x : question.Target) (e : ℕ) → NamesNonconstant S v f → ((t : State) (rest : List Token) → tokens_left t ≡ Word w ∷ rest → IsRead (question.target_at S t) x rest) → IsLevel S.prime e
      → IsAsked asks.Threshold (Word v ∷ Word w ∷ Number e ∷ []) (question.threshold_of f x e)
  unfolding question.arguments question.threshold
  threshold_last v w f x e h target l s is =
      then_read _ (nonconstant_read v f s (Word w ∷ Number e ∷ []) h is) (λ t k. then_read _ (target t (Number e ∷ []) k) (λ u m. then_read _ (level_read S.prime u e [] H.prime l m) (λ o n. done n)))

  question_begins : {ts : List Token} {q : Question} → IsQuestion S ts q → (a : Ask) × (us : List Token) × (ts ≡ Word (ask_word a) ∷ us) × IsAsked a us q
  unfolding question.arguments question.parts question.member question.jumps question.nu question.pure question.compatible ask_word
  question_begins (grammar.parts {e} {f} {F} small h) =
      (asks.Parts, Number e ∷ Word F ∷ [], refl, λ s is. then_read _ (exponent_read s e (Word F ∷ []) small is) (λ t k. then_read _ (polynomial_read F f t [] h k) (λ u l. done l)))
  question_begins (grammar.basis {j} {J} h) = (asks.OneIdeal ones.Basis, _, refl, ideal_last ones.Basis J j h)
  question_begins (grammar.member {f} {j} {F} {J} g h) =
      (asks.Member, Word F ∷ Word J ∷ [], refl, λ s is. then_read _ (polynomial_read F f s (Word J ∷ []) g is) (λ t k. then_read _ (ideal_read J j t [] h k) (λ u l. done l)))
  question_begins (grammar.same {j} {k} {J} {K} g h) = (asks.TwoIdeals twos.Same, _, refl, two_ideals_last twos.Same J K j k g h)
  question_begins (grammar.sum {j} {k} {J} {K} g h) = (asks.TwoIdeals twos.Sum, _, refl, two_ideals_last twos.Sum J K j k g h)
  question_begins (grammar.product {j} {k} {J} {K} g h) = (asks.TwoIdeals twos.Product, _, refl, two_ideals_last twos.Product J K j k g h)
  question_begins (grammar.meet {j} {k} {J} {K} g h) = (asks.TwoIdeals twos.Meet, _, refl, two_ideals_last twos.Meet J K j k g h)
  question_begins (grammar.colon {j} {k} {J} {K} g h) = (asks.TwoIdeals twos.Colon, _, refl, two_ideals_last twos.Colon J K j k g h)
  question_begins (grammar.power {e} {j} {J} small h) = (asks.Frobenius frobenius.Power, _, refl, frobenius_last frobenius.Power J e j small h)
  question_begins (grammar.root {e} {j} {J} small h) = (asks.Frobenius frobenius.Root, _, refl, frobenius_last frobenius.Root J e j small h)
  question_begins (grammar.test {f} {F} {ts} {t} h r) = (asks.TestIdeal tests.Test, _, refl, test_last tests.Test F ts f t h r refl)
  question_begins (grammar.left {f} {F} {ts} {t} h r above) = (asks.TestIdeal tests.Left, _, refl, test_last tests.Left F ts f t h r (above_zero t.numerator above))
  question_begins (grammar.isjump {f} {F} {ts} {t} h r above) = (asks.TestIdeal tests.IsJump, _, refl, test_last tests.IsJump F ts f t h r (above_zero t.numerator above))
  question_begins (grammar.regular {f} {F} {ts} {t} h r) = (asks.TestIdeal tests.Regular, _, refl, test_last tests.Regular F ts f t h r refl)
  question_begins (grammar.jumps {f} {e} {F} h l) =
      (asks.Jumps, Word F ∷ Number e ∷ [], refl, λ s is. then_read _ (nonconstant_read F f s (Number e ∷ []) h is) (λ t k. then_read _ (level_read S.prime t e [] H.prime l k) (λ u m. done m)))
  question_begins (grammar.nu {e} {f} {j} {F} {J} small g h) =
      (asks.Nu, Number e ∷ Word F ∷ Word J ∷ [], refl, λ s is. then_read _ (exponent_read s e (Word F ∷ Word J ∷ []) small is) (λ t k. then_read _ (nonconstant_read F f t (Word J ∷ []) g k) (λ u l. then_read _ (ideal_read J j u [] h l) (λ v m. done m))))
  question_begins (grammar.threshold {f} {j} {e} {F} {J} g h l) = (asks.Threshold, _, refl, threshold_last F J f (question.Ideal j) e g (λ t rest k. target_ideal_read J j t rest h k) l)
  question_begins (grammar.threshold_at {f} {at} {e} {F} {P} g h l) = (asks.Threshold, _, refl, threshold_last F P f (question.Point at) e g (λ t rest k. target_point_read P at t rest h k) l)
  question_begins (grammar.fpure {j} {J} h) =
      (asks.Pure, Word J ∷ [], refl, λ s is. then_read _ (ideal_read J j s [] h is) (λ t k. record { state = t; is = ap (λ o. option_map_or (λ t. names.point_by S t.0 t.1 >>= λ at. Ok (questions.PureAt j at.0, at.1)) o (Ok (questions.Pure j, t))) (no_next t k); left = k }))
  question_begins (grammar.fpure_at {j} {at} {J} {P} g h) =
      (asks.Pure, Word J ∷ Word P ∷ [], refl, λ s is. then_read _ (ideal_read J j s (Word P ∷ []) g is) (λ t k. next_read t (Word P) [] (λ t. names.point_by S t.0 t.1 >>= λ at. Ok (questions.PureAt j at.0, at.1)) _ k (λ u l. then_read _ (point_by_read P at u [] h l) (λ v m. done m))))
  question_begins (grammar.split {j} {J} h) = (asks.OneIdeal ones.Split, _, refl, ideal_last ones.Split J j h)
  question_begins (grammar.compatible {e} {u} {j} {U} {J} small g h) =
      (asks.Compatible, Number e ∷ Word U ∷ Word J ∷ [], refl, λ s is. then_read _ (exponent_read s e (Word U ∷ Word J ∷ []) small is) (λ t k. then_read _ (polynomial_read U u t (Word J ∷ []) g k) (λ v l. then_read _ (ideal_read J j v [] h l) (λ o m. done m))))

  ask_for : (a : Ask) → question.ask_of (ask_word a) ≡ Some a
  unfolding question.ask_of ask_word
  ask_for asks.Parts = refl
  ask_for asks.Member = refl
  ask_for (asks.OneIdeal ones.Basis) = refl
  ask_for (asks.OneIdeal ones.Split) = refl
  ask_for (asks.TwoIdeals twos.Same) = refl
  ask_for (asks.TwoIdeals twos.Sum) = refl
  ask_for (asks.TwoIdeals twos.Product) = refl
  ask_for (asks.TwoIdeals twos.Meet) = refl
  ask_for (asks.TwoIdeals twos.Colon) = refl
  ask_for (asks.Frobenius frobenius.Power) = refl
  ask_for (asks.Frobenius frobenius.Root) = refl
  ask_for (asks.TestIdeal tests.Test) = refl
  ask_for (asks.TestIdeal tests.Left) = refl
  ask_for (asks.TestIdeal tests.IsJump) = refl
  ask_for (asks.TestIdeal tests.Regular) = refl
  ask_for asks.Jumps = refl
  ask_for asks.Nu = refl
  ask_for asks.Threshold = refl
  ask_for asks.Pure = refl
  ask_for asks.Compatible = refl

  question_read : (s : State) (ts : List Token) (q : Question) → IsQuestion S ts q → tokens_left s ≡ ts → IsRead (question.question_at S s) q []
  unfolding question.question_at question.question_by
  question_read s ts q h e =
      let b = question_begins h in
      then_read _ (word_read s (ask_word b.0) b.1 (e ∙ b.2))
      (λ t k. let r = b.3 t k in record { state = r.state; is = ap (λ o. option_map_or (λ a. question.arguments a S t) o (Err (fault_at faults.Syntax t))) (ask_for b.0) ∙ r.is; left = r.left })

  -- a question that has an ideal as its answer
  ideal_ask_for : (a : Ask) → question.asks_ideal a ≡ true → question.ideal_ask_of (ask_word a) ≡ Some a
  unfolding question.ideal_ask_of
  ideal_ask_for a is = ap (option_and_then (λ b. cond (question.asks_ideal b) (Some b) None)) (ask_for a) ∙ ap (λ c. cond c (Some a) None) is

  ideal_question_begins : {ts : List Token} {q : Question} → IsQuestion S ts q → question.answers_ideal q ≡ true → (a : Ask) × (us : List Token) × (ts ≡ Word (ask_word a) ∷ us) × IsAsked a us q × (question.asks_ideal a ≡ true)
  unfolding ask_word
  ideal_question_begins (grammar.basis {j} {J} h) is = (asks.OneIdeal ones.Basis, _, refl, ideal_last ones.Basis J j h, refl)
  ideal_question_begins (grammar.split {j} {J} h) is = (asks.OneIdeal ones.Split, _, refl, ideal_last ones.Split J j h, refl)
  ideal_question_begins (grammar.sum {j} {k} {J} {K} g h) is = (asks.TwoIdeals twos.Sum, _, refl, two_ideals_last twos.Sum J K j k g h, refl)
  ideal_question_begins (grammar.product {j} {k} {J} {K} g h) is = (asks.TwoIdeals twos.Product, _, refl, two_ideals_last twos.Product J K j k g h, refl)
  ideal_question_begins (grammar.meet {j} {k} {J} {K} g h) is = (asks.TwoIdeals twos.Meet, _, refl, two_ideals_last twos.Meet J K j k g h, refl)
  ideal_question_begins (grammar.colon {j} {k} {J} {K} g h) is = (asks.TwoIdeals twos.Colon, _, refl, two_ideals_last twos.Colon J K j k g h, refl)
  ideal_question_begins (grammar.power {e} {j} {J} small h) is = (asks.Frobenius frobenius.Power, _, refl, frobenius_last frobenius.Power J e j small h, refl)
  ideal_question_begins (grammar.root {e} {j} {J} small h) is = (asks.Frobenius frobenius.Root, _, refl, frobenius_last frobenius.Root J e j small h, refl)
  ideal_question_begins (grammar.test {f} {F} {ts} {t} h r) is = (asks.TestIdeal tests.Test, _, refl, test_last tests.Test F ts f t h r refl, refl)
  ideal_question_begins (grammar.left {f} {F} {ts} {t} h r above) is = (asks.TestIdeal tests.Left, _, refl, test_last tests.Left F ts f t h r (above_zero t.numerator above), refl)
  ideal_question_begins (grammar.parts small h) is = absurd cc
  ideal_question_begins (grammar.member g h) is = absurd cc
  ideal_question_begins (grammar.same g h) is = absurd cc
  ideal_question_begins (grammar.isjump h r above) is = absurd cc
  ideal_question_begins (grammar.regular h r) is = absurd cc
  ideal_question_begins (grammar.jumps h l) is = absurd cc
  ideal_question_begins (grammar.nu small g h) is = absurd cc
  ideal_question_begins (grammar.threshold g h l) is = absurd cc
  ideal_question_begins (grammar.threshold_at g h l) is = absurd cc
  ideal_question_begins (grammar.fpure h) is = absurd cc
  ideal_question_begins (grammar.fpure_at g h) is = absurd cc
  ideal_question_begins (grammar.compatible small g h) is = absurd cc

  ideal_question_read : (s : State) (ts : List Token) (q : Question) → IsQuestion S ts q → question.answers_ideal q ≡ true → tokens_left s ≡ ts → IsRead (question.ideal_question_at S s) q []
  unfolding question.ideal_question_at question.question_by
  ideal_question_read s ts q h answers e =
      let b = ideal_question_begins h answers in
      then_read _ (word_read s (ask_word b.0) b.1 (e ∙ b.2))
      (λ t k. let r = b.3 t k in record { state = r.state; is = ap (λ o. option_map_or (λ a. question.arguments a S t) o (Err (fault_at faults.Syntax t))) (ideal_ask_for b.0 b.4) ∙ r.is; left = r.left })

  -- ---- declarations

  expression_read : (s : State) (ts rest : List Token) (f : Terms) → HasTerms S ts f → AreBehind rest → tokens_left s ≡ ts ++ rest → IsRead (declaration.expression S s) f rest
  unfolding declaration.expression
  expression_read s ts rest f (grammar.terms {ts = us} {f = g} d) behind e =
      let x = expression-complete (IsField-prime_field S.prime H.prime) (names.meaning S) s us rest g (expression_along (in_session S) d) e behind in
      record { state = x.0; is = ap declaration.of_text x.1; left = x.2 }

  counted_read : (terms : ℕ) (s : State) (ts rest : List Token) (f : Terms) → HasTerms S ts f → terms + length f ≤ 1000000 → AreBehind rest → tokens_left s ≡ ts ++ rest → IsRead (declaration.counted S terms s) f rest
  unfolding declaration.counted
  counted_read terms s ts rest f h few behind e =
      then_read _ (expression_read s ts rest f h behind e) (λ t k. otherwise_read (ltb 1000000 (terms + length f)) _ _ (le-ltb 1000000 (terms + length f) few) (done k))

  name_equals_read : (s : State) (name : List ℕ) (rest : List Token) → IsNew S name → tokens_left s ≡ Word name ∷ Sign equals ∷ rest → IsRead (declaration.name_equals S s) name rest
  unfolding declaration.name_equals
  name_equals_read s name rest new e =
      then_read _ (new_name_read S s name (Sign equals ∷ rest) new e)
      (λ t k. let x = sign_is equals t rest k in record { state = x.0; is = ap (λ o. o >>= λ u. Ok (name, u)) x.1; left = x.2 })

  poly_is : (name : List ℕ) (ts : List Token) (f : Terms) → IsNew S name → HasTerms S ts f → S.terms + length f ≤ 1000000 → (s : State) → tokens_left s ≡ Word name ∷ Sign equals ∷ ts
      → declaration.poly S s ≡ Ok (declare S name (Poly f) (length f))
  unfolding declaration.poly
  poly_is name ts f new h few s e =
      then_is _ (name_equals_read s name ts new e) (λ t k. then_is _ (counted_read S.terms t ts [] f h few tt (k ∙ sym (append-nil ts))) (λ u l. end_is (declare S name (Poly f) (length f)) u l))

  terms_among : (fs : List Terms) (f : Terms) (gs : List Terms) → terms_in (fs ++ f ∷ gs) ≡ terms_in fs + (length f + terms_in gs)
  terms_among fs f gs = ap sum (map-append length fs (f ∷ gs)) ∙ sum_by-append (λ n. n) (map length fs) (length f ∷ map length gs) ∙ ap (λ n. terms_in fs + n) (sum_by-cons (λ n. n) (length f) (map length gs))

  generator_read : (fs : List Terms) → length fs ≤ 256 → S.terms + terms_in fs ≤ 1000000 → (ys : List Terms) (x : Terms) (zs : List Terms) → fs ≡ ys ++ x ∷ zs
      → (ts rest : List Token) (s : State) → HasTerms S ts x → AreBehind rest → tokens_left s ≡ ts ++ rest → IsRead (declaration.generator S ys s) x rest
  unfolding declaration.generator
  generator_read fs few small ys x zs all ts rest s h behind e =
      let count : length fs ≡ length ys + length (x ∷ zs) = ap length all ∙ length-append ys (x ∷ zs) in
      let terms : terms_in fs ≡ terms_in ys + (length x + terms_in zs) = ap terms_in all ∙ terms_among ys x zs in
      otherwise_read (leb 256 (length ys)) _ _ (lt-leb 256 (length ys) (omega (arith, count))) (counted_read (S.terms + terms_in ys) s ts rest x h (omega (arith, terms, small)) behind e)

  closing_no_comma : NotFirst comma (Sign closing ∷ [])
  closing_no_comma e = absurd (omega arith)

  ideal_is : (name : List ℕ) (ts : List Token) (fs : List Terms) → IsNew S name → AreListed (HasTerms S) ts fs → length fs ≤ 256 → S.terms + terms_in fs ≤ 1000000
      → (s : State) → tokens_left s ≡ Word name ∷ Sign equals ∷ Sign opening ∷ ts ++ Sign closing ∷ [] → declaration.ideal S s ≡ Ok (declare S name (Ideal fs) (terms_in fs))
  unfolding declaration.ideal
  ideal_is name ts fs new l few small s e =
      then_is _ (name_equals_read s name (Sign opening ∷ ts ++ Sign closing ∷ []) new e)
      (λ t k. then_is _ (enclosed_read (listed (declaration.generator S)) t ts [] fs k (λ u m. listed_read (HasTerms S) (declaration.generator S) fs (generator_read fs few small) (Sign closing ∷ []) (behind_closing []) closing_no_comma l u m))
      (λ u m. end_is (declare S name (Ideal fs) (terms_in fs)) u m))

  constant_read : (s : State) (ts rest : List Token) (c : ℕ) → IsCoordinate S.prime ts c → tokens_left s ≡ ts ++ rest → IsRead (declaration.constant S.prime s) c rest
  unfolding declaration.constant
  constant_read s ts rest c (grammar.number {n} h) e =
      let r : IsRead (narrow s >>= λ n. Ok (n.0 % S.prime, n.1)) (n % S.prime) rest = then_read _ (narrow_read s n rest h e) (λ t k. done k) in
      record { state = r.state; is = ap (λ o. option_map_or (λ t. narrow t >>= λ n. Ok ((S.prime - n.0 % S.prime) % S.prime, n.1)) o (narrow s >>= λ n. Ok (n.0 % S.prime, n.1))) (sign-not minus s (Number n ∷ rest) e tt) ∙ r.is; left = r.left }
  constant_read s ts rest c (grammar.negative {n} h) e =
      let x = sign-read minus s (Number n ∷ rest) e in
      let r : IsRead (narrow x.0 >>= λ n. Ok ((S.prime - n.0 % S.prime) % S.prime, n.1)) ((S.prime - n % S.prime) % S.prime) rest = then_read _ (narrow_read x.0 n rest h x.2) (λ t k. done k) in
      record { state = r.state; is = ap (λ o. option_map_or (λ t. narrow t >>= λ n. Ok ((S.prime - n.0 % S.prime) % S.prime, n.1)) o (narrow s >>= λ n. Ok (n.0 % S.prime, n.1))) x.1 ∙ r.is; left = r.left }

  coordinate_read : (cs : List ℕ) → length cs ≡ length S.variables → (ys : List ℕ) (x : ℕ) (zs : List ℕ) → cs ≡ ys ++ x ∷ zs
      → (ts rest : List Token) (s : State) → IsCoordinate S.prime ts x → AreBehind rest → tokens_left s ≡ ts ++ rest → IsRead (declaration.coordinate S ys s) x rest
  unfolding declaration.coordinate
  coordinate_read cs each ys x zs all ts rest s h behind e =
      let count : length cs ≡ length ys + length (x ∷ zs) = ap length all ∙ length-append ys (x ∷ zs) in
      otherwise_read (leb (length S.variables) (length ys)) _ _ (lt-leb (length S.variables) (length ys) (omega (arith, count, each))) (constant_read s ts rest x h e)

  point_is : (name : List ℕ) (ts : List Token) (cs : List ℕ) → IsNew S name → AreListed (IsCoordinate S.prime) ts cs → length cs ≡ length S.variables
      → (s : State) → tokens_left s ≡ Word name ∷ Sign equals ∷ Sign opening ∷ ts ++ Sign closing ∷ [] → declaration.point S s ≡ Ok (declare S name (Point cs) 0)
  unfolding declaration.point
  point_is name ts cs new l each s e =
      then_is _ (name_equals_read s name (Sign opening ∷ ts ++ Sign closing ∷ []) new e)
      (λ t k. then_is _ (enclosed_read (listed (declaration.coordinate S)) t ts [] cs k (λ u m. listed_read (IsCoordinate S.prime) (declaration.coordinate S) cs (coordinate_read cs each) (Sign closing ∷ []) (behind_closing []) closing_no_comma l u m))
      (λ u m. ap (λ b. cond b (Err (fault_at faults.Arity u)) (at_end (declare S name (Point cs) 0, u))) (le-ltb (length cs) (length S.variables) (omega (arith, each))) ∙ end_is (declare S name (Point cs) 0) u m))

  named_result_is : (name : List ℕ) (ts : List Token) (q : Question) → IsNew S name → IsQuestion S ts q → question.answers_ideal q ≡ true → (s : State) → tokens_left s ≡ Word name ∷ Sign equals ∷ ts
      → declaration.named_result S s ≡ Ok (declare S name (Let S.budget q) 0)
  unfolding declaration.named_result
  named_result_is name ts q new h answers s e =
      then_is _ (name_equals_read s name ts new e) (λ t k. then_is _ (ideal_question_read t ts q h answers k) (λ u l. end_is (declare S name (Let S.budget q) 0) u l))

  -- ---- statements

  order_is : (w : List ℕ) (name : _) → statements.order_of w ≡ Some name → (s : State) → tokens_left s ≡ Word w ∷ [] → statements.order S s ≡ Ok (record S { order = name })
  unfolding statements.order
  order_is w name found s e =
      then_is _ (word_read s w [] e) (λ t k. ap (λ o. option_map_or (λ name. at_end (record S { order = name }, t)) o (Err (fault_at faults.Syntax t))) found ∙ end_is (record S { order = name }) t k)

  budget_is : (b : ℕ) → 1 ≤ b → b ≤ 10000000 → (s : State) → tokens_left s ≡ Number b ∷ [] → statements.budget S s ≡ Ok (record S { budget = b })
  unfolding statements.budget
  budget_is b some few s e = then_is _ (within_read 1 10000000 s b [] some few (omega arith) e) (λ t k. end_is (record S { budget = b }) t k)

  asking_is : (ts : List Token) (q : Question) → length S.asked < 4096 → IsQuestion S ts q → (s : State) → tokens_left s ≡ ts → statements.asking S s ≡ Ok (ask S q)
  unfolding statements.asking
  asking_is ts q few h s e =
      ap (λ b. cond b (Err (fault_at faults.Many s)) (question.question_at S s >>= λ q. at_end (ask S q.0, q.1))) (lt-leb 4096 (length S.asked) few) ∙ then_is _ (question_read s ts q h e) (λ t k. end_is (ask S q) t k)

-- ---- the ring

prime_read : (s : State) (p : ℕ) (rest : List Token) → Contains primes p → tokens_left s ≡ Number p ∷ rest → IsRead (rings.prime s) p rest
unfolding rings.prime
prime_read s p rest known e = then_read _ (number_read s p rest e) (λ t k. record { state = t; is = ap (λ b. cond b (Ok (p, t)) (Err (fault_at faults.Prime t))) (prime_tested p known); left = k })

variable_read : (vs : List (List ℕ)) → length vs ≤ 7 → AllPairs (λ v w. v ≢ w) vs → (ys : List (List ℕ)) (x : List ℕ) (zs : List (List ℕ)) → vs ≡ ys ++ x ∷ zs
    → (ts rest : List Token) (s : State) → IsVariable ts x → AreBehind rest → tokens_left s ≡ ts ++ rest → IsRead (rings.variable ys s) x rest
unfolding rings.variable
variable_read vs few apart ys x zs all ts rest s grammar.variable behind e =
    let count : length vs ≡ length ys + length (x ∷ zs) = ap length all ∙ length-append ys (x ∷ zs) in
    let at : (d : List ℕ) → get_or vs (length ys) d ≡ x = λ d. ap (λ us. get_or us (length ys) d) all ∙ ap (λ n. get_or (ys ++ x ∷ zs) n d) (sym (add-zero (length ys))) ∙ get_or-append-add ys (x ∷ zs) 0 d in
    let unlike : All (λ v. v ≢ x) ys = λ i d inside same. apart i (length ys) d inside (omega (arith, count)) (ap (λ us. get_or us i d) all ∙ get_or_append_left ys (x ∷ zs) d i inside ∙ same ∙ sym (at d)) in
    then_read _ (word_read s x rest e) (λ t k. otherwise_read (leb 7 (length ys)) _ _ (lt-leb 7 (length ys) (omega (arith, count))) (otherwise_read (is_some (place_of ys x)) _ _ (not_found ys x unlike) (done k)))

ring_is : (p : ℕ) (vs : List (List ℕ)) (ts : List Token) → Contains primes p → AreListed IsVariable ts vs → length vs ≤ 7 → AllPairs (λ v w. v ≢ w) vs → (s : State) → tokens_left s ≡ Number p ∷ ts
    → rings.ring s ≡ Ok (new_session p vs)
unfolding rings.ring
ring_is p vs ts known l few apart s e =
    then_is _ (prime_read s p ts known e)
    (λ t k. then_is _ (listed_read IsVariable rings.variable vs (variable_read vs few apart) [] tt tt l t (k ∙ sym (append-nil ts))) (λ u m. end_is (new_session p vs) u m))

-- ---- lines

-- A line that begins with a word that begins statements, and the session that it makes.
record BeginsLine (before : Option Session) (ts : List Token) (T : Session) : Type 0 where
  keyword : Keyword
  behind : List Token
  begins : ts ≡ Word (keyword_word keyword) ∷ behind
  makes : (s : State) → tokens_left s ≡ behind → statements.statement_of before (Some keyword) s ≡ Ok T

statement_begins : (S : Session) → IsSane S → {ts : List Token} {T : Session} → IsStatement S ts T → BeginsLine (Some S) ts T
unfolding statements.later keyword_word
statement_begins S H grammar.lex = record { keyword = keywords.Order; behind = Word (codes "lex") ∷ []; begins = refl; makes = order_is S H (codes "lex") orders.Lex refl }
statement_begins S H grammar.grlex = record { keyword = keywords.Order; behind = Word (codes "grlex") ∷ []; begins = refl; makes = order_is S H (codes "grlex") orders.Grlex refl }
statement_begins S H grammar.grevlex = record { keyword = keywords.Order; behind = Word (codes "grevlex") ∷ []; begins = refl; makes = order_is S H (codes "grevlex") orders.Grevlex refl }
statement_begins S H (grammar.budget {b} some few) = record { keyword = keywords.Budget; behind = Number b ∷ []; begins = refl; makes = budget_is S H b some few }
statement_begins S H (grammar.poly {name} {ts} {f} new h few) = record { keyword = keywords.Poly; behind = Word name ∷ Sign equals ∷ ts; begins = refl; makes = poly_is S H name ts f new h few }
statement_begins S H (grammar.ideal {name} {ts} {fs} new l few small) =
    record { keyword = keywords.Ideal; behind = Word name ∷ Sign equals ∷ Sign opening ∷ ts ++ Sign closing ∷ []; begins = refl; makes = ideal_is S H name ts fs new l few small }
statement_begins S H (grammar.point {name} {ts} {cs} new l each) =
    record { keyword = keywords.Point; behind = Word name ∷ Sign equals ∷ Sign opening ∷ ts ++ Sign closing ∷ []; begins = refl; makes = point_is S H name ts cs new l each }
statement_begins S H (grammar.named_result {name} {ts} {q} new h answers) =
    record { keyword = keywords.Let; behind = Word name ∷ Sign equals ∷ ts; begins = refl; makes = named_result_is S H name ts q new h answers }
statement_begins S H (grammar.asked {ts} {q} few h) = record { keyword = keywords.Ask; behind = ts; begins = refl; makes = asking_is S H ts q few h }

ring_begins : {ts : List Token} {T : Session} → IsRing ts T → BeginsLine None ts T
unfolding statements.first keyword_word
ring_begins (grammar.ring {p} {vs} {ts} known l few apart) = record { keyword = keywords.Ring; behind = Number p ∷ ts; begins = refl; makes = ring_is p vs ts known l few apart }

keyword_for : (k : Keyword) → statements.keyword_of (keyword_word k) ≡ Some k
unfolding statements.keyword_of keyword_word
keyword_for keywords.Ring = refl
keyword_for keywords.Order = refl
keyword_for keywords.Budget = refl
keyword_for keywords.Poly = refl
keyword_for keywords.Ideal = refl
keyword_for keywords.Point = refl
keyword_for keywords.Let = refl
keyword_for keywords.Ask = refl

line_is : (before : Option Session) (bytes : List ℕ) (T : Session) → BeginsLine before (tokens_of bytes) T → statements.line before bytes ≡ Ok (Some T)
unfolding statements.line statements.statement word_of
line_is before bytes T h =
    let x = next-tokens (state_at bytes 0) (Word (keyword_word h.keyword)) h.behind (line_tokens bytes ∙ h.begins) in
    ap (λ o. option_map_or (λ t. statements.statement before t.0 t.1 >>= λ S. Ok (Some S)) o (Ok before)) x.1
    ∙ ap (λ k. statements.statement_of before k x.0 >>= λ S. Ok (Some S)) (keyword_for h.keyword) ∙ ap (λ r. r >>= λ S. Ok (Some S)) (h.makes x.0 x.2)

pub line_skipped : (before : Option Session) (bytes : List ℕ) → tokens_of bytes ≡ [] → statements.line before bytes ≡ Ok before
unfolding statements.line
line_skipped before bytes e = ap (λ o. option_map_or (λ t. statements.statement before t.0 t.1 >>= λ S. Ok (Some S)) o (Ok before)) (no_next (state_at bytes 0) (line_tokens bytes ∙ e))

-- A session more is sane.
declared_sane : (S : Session) → IsSane S → (name : List ℕ) (v : Value) (n : ℕ) → IsNew S name → IsSane (declare S name v n)
declared_sane S H name v n new = record {
  prime = H.prime;
  distinct = subst (AllPairs (λ v w. v ≢ w)) (sym (map-append (λ v. v.0) S.values ((name, v) ∷ []))) (pairs_more (λ v w. v ≢ w) (names.declared_names S.values) name H.distinct (λ i d inside. undeclared S.values name new.not_declared i d inside));
}

pub sane_next : (S : Session) → IsSane S → {ts : List Token} {T : Session} → IsStatement S ts T → IsSane T
sane_next S H grammar.lex = record { prime = H.prime; distinct = H.distinct }
sane_next S H grammar.grlex = record { prime = H.prime; distinct = H.distinct }
sane_next S H grammar.grevlex = record { prime = H.prime; distinct = H.distinct }
sane_next S H (grammar.budget some few) = record { prime = H.prime; distinct = H.distinct }
sane_next S H (grammar.poly {name} {ts} {f} new h few) = declared_sane S H name (Poly f) (length f) new
sane_next S H (grammar.ideal {name} {ts} {fs} new l few small) = declared_sane S H name (Ideal fs) (terms_in fs) new
sane_next S H (grammar.point {name} {ts} {cs} new l each) = declared_sane S H name (Point cs) 0 new
sane_next S H (grammar.named_result {name} {ts} {q} new h answers) = declared_sane S H name (Let S.budget q) 0 new
sane_next S H (grammar.asked few h) = record { prime = H.prime; distinct = H.distinct }

pub sane_begin : {ts : List Token} {T : Session} → IsRing ts T → IsSane T
sane_begin (grammar.ring known l few apart) = record { prime = known; distinct = λ i j d less inside. absurd (omega arith) }

module _ (number : ℕ) (before : Option Session) (l : List ℕ) (ls : List (List ℕ)) where
  from_next : (after : Option Session) → statements.line before l ≡ Ok after → script.from_line number before (l ∷ ls) ≡ script.from_line (number + 1) after ls
  unfolding script.from_line
  from_next after e = ap (λ r. script.in_line number r >>= λ after. script.from_line (number + 1) after ls) e

statements_are : (number : ℕ) (S T : Session) → IsSane S → (ls : List (List ℕ)) (tss : List (List Token)) → tss ≡ map tokens_of ls → AreStatements S tss T → script.from_line number (Some S) ls ≡ Ok (Some T)
unfolding script.from_line
statements_are number S T H [] tss e grammar.none = refl
statements_are number S T H [] tss e (grammar.nothing d) = absurd cc
statements_are number S T H [] tss e (grammar.statement h d) = absurd cc
statements_are number S T H (l ∷ ls) tss e grammar.none = absurd cc
statements_are number S T H (l ∷ ls) tss e (grammar.nothing {ls = rest} d) =
    let here : tokens_of l ≡ [] = cc in
    let later : rest ≡ map tokens_of ls = cc in
    from_next number (Some S) l ls (Some S) (line_skipped (Some S) l here) ∙ statements_are (number + 1) S T H ls rest later d
statements_are number S T H (l ∷ ls) tss e (grammar.statement {T = U} {ts = ts} {ls = rest} h d) =
    let here : ts ≡ tokens_of l = cc in
    let later : rest ≡ map tokens_of ls = cc in
    let begins = subst (λ us. BeginsLine (Some S) us U) here (statement_begins S H h) in
    from_next number (Some S) l ls (Some U) (line_is (Some S) l U begins) ∙ statements_are (number + 1) U T (sane_next S H h) ls rest later d

session_is : (number : ℕ) (T : Session) (ls : List (List ℕ)) (tss : List (List Token)) → tss ≡ map tokens_of ls → IsSession tss T → script.from_line number None ls ≡ Ok (Some T)
session_is number T [] tss e (grammar.blank d) = absurd cc
session_is number T [] tss e (grammar.begins h d) = absurd cc
session_is number T (l ∷ ls) tss e (grammar.blank {ls = rest} d) =
    let here : tokens_of l ≡ [] = cc in
    let later : rest ≡ map tokens_of ls = cc in
    from_next number None l ls None (line_skipped None l here) ∙ session_is (number + 1) T ls rest later d
session_is number T (l ∷ ls) tss e (grammar.begins {S = S} {ts = ts} {ls = rest} h d) =
    let here : ts ≡ tokens_of l = cc in
    let later : rest ≡ map tokens_of ls = cc in
    let begins = subst (λ us. BeginsLine None us S) here (ring_begins h) in
    from_next number None l ls (Some S) (line_is None l S begins) ∙ statements_are (number + 1) S T (sane_begin h) ls rest later d

pub session_complete : (bytes : List ℕ) (S : Session) → AreSession bytes S → script.script bytes ≡ Ok S
unfolding script.script
session_complete bytes S h =
    ap (λ b. cond b (Err (record { kind = faults.Long; line = 1; column = 1 })) (script.from_line 1 None (script.lines bytes) >>= script.with_ring)) (le-ltb 1048576 (length bytes) h.few)
    ∙ ap (λ r. r >>= script.with_ring) (session_is 1 S (script.lines bytes) (map tokens_of (script.lines bytes)) refl h.is)
