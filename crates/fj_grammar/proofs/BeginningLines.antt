-- What was read before the fault of a line can go on.
use Rattle.std.proofs.Common.{◌≡◌, ℕ, ◌+◌, ◌^◌, ◌<◌, ◌≤◌, cond, ◌||◌, eqb, leb, ltb, List, [], ◌∷◌, ◌++◌, length, codes, Contains, Option, Some, None, IfSome, Ok, Err, true, false, Bool, refl, sym, ap, ◌∙◌, subst, arith, inl, inr, ◌⊎◌}
use Rattle.std.specs.List.{slice_get}
use Rattle.std.specs.Option.{option_map_or}
use Rattle.std.proofs.lemmas.Bool.{leb-false, leb-true, ltb-false}
use Rattle.std.proofs.lemmas.List.{append-nil}
use Rattle.fj_coeff.specs.Field.{primes}
use Rattle.fj_text.specs.State.{State}
use Rattle.fj_text.specs.Token.{Token, Word, Number, Sign, BadByte}
use Rattle.fj_grammar.specs.Beginning.{CanGoOn, CanGoOnWith, IsDoomed, IsDoomedWith}
use Rattle.fj_script.specs.declared.fault.FaultKind.{FaultKind}
use Rattle.fj_script.specs.declared.fault.FaultKind.TheVariants as kinds
use Rattle.fj_script.specs.declared.question.Question.{Question}
use Rattle.fj_script.specs.declared.value.Kind.{Kind}
use Rattle.fj_script.specs.declared.value.Kind.TheVariants as values
use Rattle.fj_grammar.specs.Grammar as grammar
use Rattle.fj_grammar.specs.Grammar.{IsExponent, IsLevel, IsQuestion, IsRatio, NamesIdeal, NamesNonconstant, NamesPoint, NamesPolynomial}
use Rattle.fj_script.specs.Items.{narrow, number, number_of, word, word_of}
use Rattle.fj_script.specs.LineFault.{Answer, ◌>>=◌, fault_at, not_here}
use Rattle.fj_script.specs.Names as names
use Rattle.fj_script.specs.Numbers as numbers
use Rattle.fj_script.specs.Question as question
use Rattle.fj_script.specs.Question.{Target}
use Rattle.fj_grammar.specs.Large.{HasLarge}
use Rattle.fj_grammar.specs.Many.{AreTooMany, HaveWrongArity}
use Rattle.fj_grammar.specs.Wrong as wrong
use Rattle.fj_grammar.specs.Wrong.{IsNameIn, IsWrong}
use Rattle.fj_script.specs.Session.{Session, Terms, Value, Poly, ask, is_nonconstant, kind}
use Rattle.fj_grammar.proofs.Beginnings.{Fits, Numbers, Reached, Reading, Sayings, SoFar, Took, Words, behind, init_is, last_is, late, number_narrow, numbers_at, read, reading_if, reading_next, sound, stuck, then_reading, toks, words_at, wrong_token}
use Rattle.fj_grammar.proofs.Continuations.{fresh, longest, some_ideal, some_level, some_nonconstant, some_polynomial, wide, wide_alike, wide_ideal, wide_nonconstant, wide_point, wide_polynomial}
use Rattle.fj_grammar.proofs.NamesOf.{declared_constant, declared_name, unless_declared}
use Rattle.fj_grammar.proofs.GrammarPieces.{Declares, as_ideal, as_nonconstant, as_point, as_polynomial, declared_at, neither, not_zero}

-- What may stand before the place of a fault, and a token that may stand at it.
abbrev pub MayStand : Option Session → List Token → Type 0
MayStand before ts = CanGoOn before ts ⊎ IsDoomed ts

abbrev pub MayFollow : Option Session → List Token → Token → Type 0
MayFollow before ts t = CanGoOnWith before ts t ⊎ IsDoomedWith ts t

abbrev pub Causes : Option Session → FaultKind → List Token → Type 0
Causes None k ts = ⊥
Causes (Some S) kinds.Many ts = AreTooMany S ts
Causes (Some S) kinds.Arity ts = HaveWrongArity S ts
Causes (Some S) kinds.Large ts = HasLarge S ts
Causes (Some S) k ts = Unit {0}

abbrev Ringed : Option Session → Type 0
Ringed None = ⊥
Ringed (Some S) = Unit {0}

pub wide_behind : (before : Option Session) → Ringed before → (ts : List Token) (n : ℕ) → 2 ^ 32 ≤ n → IsWrong before ts kinds.Wide (Number n)
wide_behind None ring ts n h = absurd ring
wide_behind (Some S) ring ts n h = wrong.wide h

pub narrow_behind : (before : Option Session) → Ringed before → (ts : List Token) (n : ℕ) → n < 2 ^ 32 → IsWrong before ts kinds.Range (Number n)
narrow_behind None ring ts n h = absurd ring
narrow_behind (Some S) ring ts n h = wrong.out_of_range h

abbrev pub behind_lines : Option Session → Sayings
behind_lines before = record { HasRing = Ringed before; Goes = MayStand before; Next = MayFollow before; Cause = Causes before; Wrong = IsWrong before; wide = wide_behind before; narrow = narrow_behind before }

module _ (s0 : State) (V : Sayings) where
  -- A rule that takes a token first, where the tokens before it can go on.
  abbrev pub IsReader : {A : Type 0} → (A → List Token → Type 0) → (State → Answer A) → Type 0
  IsReader Q R = (ws : List Token) (t : State) → Reached s0 ws t → V.Goes ws → Reading s0 V (λ e. e) Q ws (R t)

  -- One that takes a number, or a word, where these tokens can go on with one.
  abbrev pub IsReaderOf : (List Token → Type 0) → {A : Type 0} → (A → List Token → Type 0) → (State → Answer A) → Type 0
  IsReaderOf Next Q R = (ws : List Token) (t : State) → Reached s0 ws t → V.Goes ws → Next ws → Reading s0 V (λ e. e) Q ws (R t)

  pub number_of_reading : (ws : List Token) (tok : Token) (u : State) → Took s0 V (ws ++ tok ∷ []) u → Reading s0 V (λ e. e) (λ n us. us ≡ Number n ∷ []) ws (number_of tok u)
  unfolding number_of
  number_of_reading ws (Number n) u H = read (Number n ∷ []) refl (sound s0 V ws (Number n) tt H)
  number_of_reading ws (Word w) u H = stuck (wrong_token s0 V ws (Word w) H)
  number_of_reading ws (Sign b) u H = stuck (wrong_token s0 V ws (Sign b) H)
  number_of_reading ws BadByte u H = stuck (wrong_token s0 V ws BadByte H)

  pub number_reading : IsReader (λ n us. us ≡ Number n ∷ []) number
  unfolding number
  number_reading ws t H v = reading_next s0 V (λ e. e) (λ t. number_of t.0 t.1) (not_here t) refl H v (number_of_reading ws)

  word_of_reading : (ws : List Token) (tok : Token) (u : State) → Took s0 V (ws ++ tok ∷ []) u → Reading s0 V (λ e. e) (λ w us. us ≡ Word w ∷ []) ws (word_of tok u)
  unfolding word_of
  word_of_reading ws (Word w) u H = read (Word w ∷ []) refl (sound s0 V ws (Word w) tt H)
  word_of_reading ws (Number n) u H = stuck (wrong_token s0 V ws (Number n) H)
  word_of_reading ws (Sign b) u H = stuck (wrong_token s0 V ws (Sign b) H)
  word_of_reading ws BadByte u H = stuck (wrong_token s0 V ws BadByte H)

  pub word_reading : IsReader (λ w us. us ≡ Word w ∷ []) word
  unfolding word
  word_reading ws t H v = reading_next s0 V (λ e. e) (λ t. word_of t.0 t.1) (not_here t) refl H v (word_of_reading ws)

  pub narrow_reading : IsReaderOf (Numbers s0 V) (λ n us. (us ≡ Number n ∷ []) × (n < 2 ^ 32)) narrow
  unfolding narrow
  narrow_reading ws t H v k =
      then_reading s0 V (λ e. e) _ (number_reading ws t H v)
      (λ n us u e Hu. reading_if s0 V (λ e. e) (leb (2 ^ 32) n) _ _ (λ wide. stuck (late s0 V Hu (numbers_at s0 V kinds.Wide Hu e k (V.wide k.0 ws n (leb-true (2 ^ 32) n wide))))) (λ few. read us (e, leb-false _ _ few) Hu))

  pub within_reading : (low high : ℕ) → IsReaderOf (Numbers s0 V) (λ n us. (us ≡ Number n ∷ []) × ((low ≤ n) × (n ≤ high))) (numbers.within low high)
  unfolding numbers.within
  within_reading low high ws t H v k =
      then_reading s0 V (λ e. e) _ (narrow_reading ws t H v k)
      (λ n us u e Hu. reading_if s0 V (λ e. e) (ltb n low || ltb high n) _ _ (λ _. stuck (late s0 V Hu (numbers_at s0 V kinds.Range Hu e.0 k (V.narrow k.0 ws n e.1), number_narrow s0 V ws Hu e.0 e.1)))
      (λ f. let both = neither (ltb n low) (ltb high n) f in read us (e.0, (ltb-false n low both.0, ltb-false high n both.1)) Hu))

  -- An argument that is one token, in each session.
  abbrev pub IsArgument : (List Token → Type 0) → {A : Type 0} → (A → Token → Type 0) → (State → Answer A) → Type 0
  IsArgument Next Is R = IsReaderOf Next (λ x us. (tok : Token) × (us ≡ tok ∷ []) × Is x tok) R

  abbrev pub IsNumber : (ℕ → Type 0) → ℕ → Token → Type 0
  IsNumber P n tok = (p : Unit {0}) × (tok ≡ Number n) × P n

  abbrev pub IsName : (List ℕ → ℕ → Type 0) → ℕ → Token → Type 0
  IsName Is i tok = (w : List ℕ) × (tok ≡ Word w) × Is w i

  pub exponent_reading : IsArgument (Numbers s0 V) (IsNumber (λ e. e ≤ 12)) numbers.exponent
  unfolding numbers.exponent
  exponent_reading ws t H v k = by (numbers.within 0 12 t) (within_reading 0 12 ws t H v k)
    where
      by : (r : Answer ℕ) → Reading s0 V (λ e. e) (λ n us. (us ≡ Number n ∷ []) × ((0 ≤ n) × (n ≤ 12))) ws r → Reading s0 V (λ e. e) (λ x us. (tok : Token) × (us ≡ tok ∷ []) × IsNumber (λ e. e ≤ 12) x tok) ws r
      by r (read {x = n} us h Hu) = read us (Number n, h.0, (tt, refl, h.1.1)) Hu
      by r (stuck Hu) = stuck Hu

  pub level_reading : (p : ℕ) → IsArgument (Numbers s0 V) (IsNumber (IsLevel p)) (numbers.level p)
  unfolding numbers.level
  level_reading p ws t H v k =
      then_reading s0 V (λ e. e) _ (narrow_reading ws t H v k)
      (λ n us u e Hu. reading_if s0 V (λ e. e) (eqb n 0 || ltb 65536 (p ^ n)) _ _ (λ _. stuck (late s0 V Hu (numbers_at s0 V kinds.Range Hu e.0 k (V.narrow k.0 ws n e.1), number_narrow s0 V ws Hu e.0 e.1)))
      (λ f. let both = neither (eqb n 0) (ltb 65536 (p ^ n)) f in read us (Number n, e.0, (tt, refl, record { above_zero = not_zero n both.0; low = ltb-false 65536 (p ^ n) both.1 })) Hu))

  -- the words that are wrong after a session
  pub record KnowsWords (S : Session) : Type 0 where
    pub unknown : (ts : List Token) (w : List ℕ) → (IsNameIn S w → ⊥) → V.Wrong ts kinds.Unknown (Word w)
    pub other : (ts : List Token) (w : List ℕ) → IsNameIn S w → V.Wrong ts kinds.Kind (Word w)
    pub constant : (ts : List Token) (w : List ℕ) (f : Terms) → Contains S.values (w, Poly f) → is_nonconstant f ≡ false → V.Wrong ts kinds.Constant (Word w)

  module _ (S : Session) (N : KnowsWords S) where
    declared_by_reading : (ws : List Token) (tok : Token) (u : State) → Took s0 V (ws ++ tok ∷ []) u → Words s0 V ws
        → Reading s0 V (λ e. e) (λ x us. (w : List ℕ) × (us ≡ Word w ∷ []) × Declares S w x.0 x.1) ws (names.declared_by S tok u)
    unfolding names.declared_by word_of
    declared_by_reading ws (Number n) u H k = stuck (wrong_token s0 V ws (Number n) H)
    declared_by_reading ws (Sign b) u H k = stuck (wrong_token s0 V ws (Sign b) H)
    declared_by_reading ws BadByte u H k = stuck (wrong_token s0 V ws BadByte H)
    declared_by_reading ws (Word w) u Hw k = by (names.declared_as S w) refl
      where
        H : SoFar s0 V (ws ++ Word w ∷ []) u
        H = sound s0 V ws (Word w) tt Hw

        either : (b : Bool) → cond b (IsNameIn S w) (IsNameIn S w → ⊥) → Fits s0 V (cond b kinds.Kind kinds.Unknown) (toks H.reached.init) (H.reached.last.token ∷ toks u.left)
        either true is = words_at s0 V kinds.Kind H refl k (N.other ws w is)
        either false is = words_at s0 V kinds.Unknown H refl k (N.unknown ws w is)

        by : (o : Option (ℕ × Kind)) → names.declared_as S w ≡ o
            → Reading s0 V (λ e. e) (λ x us. (w : List ℕ) × (us ≡ Word w ∷ []) × Declares S w x.0 x.1) ws (option_map_or (λ v. Ok (v, u)) o (Err (fault_at (cond (names.is_variable S w) kinds.Kind kinds.Unknown) u)))
        by None e = stuck (late s0 V H (either (names.is_variable S w) (unless_declared S w e (names.is_variable S w) refl)))
        by (Some x) e = read (Word w ∷ []) (w, refl, declared_at S w x.0 x.1 e) H

    declared_reading : IsReaderOf (Words s0 V) (λ x us. (w : List ℕ) × (us ≡ Word w ∷ []) × Declares S w x.0 x.1) (names.declared S)
    unfolding names.declared
    declared_reading ws t H v k = reading_next s0 V (λ e. e) (λ t. names.declared_by S t.0 t.1) (not_here t) refl H v (λ tok u Hu. declared_by_reading ws tok u Hu k)

    -- A name of this kind is refused so.
    abbrev Refused : Kind → FaultKind → Type 0
    Refused k fault = (ts us vs : List Token) (w : List ℕ) (i : ℕ) → Declares S w i k → us ≡ Word w ∷ vs → Words s0 V ts → Fits s0 V fault ts us

    -- a kind that isn't taken
    abbrev Refuses : (Kind → Option FaultKind) → Type 0
    Refuses kept = (k : Kind) → IfSome (kept k) (Refused k)

    of_kind_reading : (Is : List ℕ → ℕ → Type 0) (kept : Kind → Option FaultKind) → Refuses kept → ((w : List ℕ) (i : ℕ) (v : Value) → slice_get S.values i ≡ Some (w, v) → kept (kind v) ≡ None → Is w i)
        → (ws : List Token) (r : Answer (ℕ × Kind)) → Words s0 V ws → Reading s0 V (λ e. e) (λ x us. (w : List ℕ) × (us ≡ Word w ∷ []) × Declares S w x.0 x.1) ws r
        → Reading s0 V (λ e. e) (λ x us. (tok : Token) × (us ≡ tok ∷ []) × IsName Is x tok) ws (r >>= names.of_kind kept)
    of_kind_reading Is kept refuses each ws r k h = then_reading s0 V (λ e. e) (names.of_kind kept) h (λ x us u d Hu. by x us u d Hu (kept x.1) refl (refuses x.1))
      where
        by : (x : ℕ × Kind) (us : List Token) (u : State) → (w : List ℕ) × (us ≡ Word w ∷ []) × Declares S w x.0 x.1 → SoFar s0 V (ws ++ us) u → (o : Option FaultKind) → kept x.1 ≡ o → IfSome o (Refused x.1)
            → Reading s0 V (λ e. e) (λ x us. (tok : Token) × (us ≡ tok ∷ []) × IsName Is x tok) ws (option_map_or (λ fault. Err (fault_at fault u)) o (Ok (x.0, u)))
        by x us u d Hu (Some fault) e fits = stuck (late s0 V Hu (fits (toks Hu.reached.init) (Hu.reached.last.token ∷ toks u.left) (toks u.left) d.0 x.0 d.2 (ap (λ t. t ∷ toks u.left) (sym (last_is s0 V ws us [] (Word d.0) Hu d.1))) (subst (Words s0 V) (sym (append-nil ws) ∙ init_is s0 V ws us [] (Word d.0) Hu d.1) k)))
        by x us u d Hu None e fits = read us (Word d.0, d.1, (d.0, refl, each d.0 x.0 d.2.0 d.2.1 (ap kept d.2.2 ∙ e))) Hu

    polynomial_refused : Refuses names.as_polynomial
    polynomial_refused values.Nonconstant = tt
    polynomial_refused values.Constant = tt
    polynomial_refused values.Ideal = λ ts us vs w i d e k. (k, (w, vs, e, N.other ts w (declared_name S w i values.Ideal d)))
    polynomial_refused values.Point = λ ts us vs w i d e k. (k, (w, vs, e, N.other ts w (declared_name S w i values.Point d)))

    nonconstant_refused : Refuses names.as_nonconstant
    nonconstant_refused values.Nonconstant = tt
    nonconstant_refused values.Constant = λ ts us vs w i d e k. let x = declared_constant S w i d in (k, (w, vs, e, N.constant ts w x.0 x.1 x.2))
    nonconstant_refused values.Ideal = λ ts us vs w i d e k. (k, (w, vs, e, N.other ts w (declared_name S w i values.Ideal d)))
    nonconstant_refused values.Point = λ ts us vs w i d e k. (k, (w, vs, e, N.other ts w (declared_name S w i values.Point d)))

    ideal_refused : Refuses names.as_ideal
    ideal_refused values.Nonconstant = λ ts us vs w i d e k. (k, (w, vs, e, N.other ts w (declared_name S w i values.Nonconstant d)))
    ideal_refused values.Constant = λ ts us vs w i d e k. (k, (w, vs, e, N.other ts w (declared_name S w i values.Constant d)))
    ideal_refused values.Ideal = tt
    ideal_refused values.Point = λ ts us vs w i d e k. (k, (w, vs, e, N.other ts w (declared_name S w i values.Point d)))

    point_refused : Refuses names.as_point
    point_refused values.Nonconstant = λ ts us vs w i d e k. (k, (w, vs, e, N.other ts w (declared_name S w i values.Nonconstant d)))
    point_refused values.Constant = λ ts us vs w i d e k. (k, (w, vs, e, N.other ts w (declared_name S w i values.Constant d)))
    point_refused values.Ideal = λ ts us vs w i d e k. (k, (w, vs, e, N.other ts w (declared_name S w i values.Ideal d)))
    point_refused values.Point = tt

    pub polynomial_reading : IsArgument (Words s0 V) (IsName (NamesPolynomial S)) (names.polynomial S)
    unfolding names.polynomial
    polynomial_reading ws t H v k = of_kind_reading (NamesPolynomial S) names.as_polynomial polynomial_refused (as_polynomial S) ws (names.declared S t) k (declared_reading ws t H v k)

    pub nonconstant_reading : IsArgument (Words s0 V) (IsName (NamesNonconstant S)) (names.nonconstant S)
    unfolding names.nonconstant
    nonconstant_reading ws t H v k = of_kind_reading (NamesNonconstant S) names.as_nonconstant nonconstant_refused (as_nonconstant S) ws (names.declared S t) k (declared_reading ws t H v k)

    pub ideal_reading : IsArgument (Words s0 V) (IsName (NamesIdeal S)) (names.ideal S)
    unfolding names.ideal
    ideal_reading ws t H v k = of_kind_reading (NamesIdeal S) names.as_ideal ideal_refused (as_ideal S) ws (names.declared S t) k (declared_reading ws t H v k)

    pub point_by_reading : (ws : List Token) (tok : Token) (u : State) → Took s0 V (ws ++ tok ∷ []) u → Words s0 V ws
        → Reading s0 V (λ e. e) (λ x us. (tok : Token) × (us ≡ tok ∷ []) × IsName (NamesPoint S) x tok) ws (names.point_by S tok u)
    unfolding names.point_by
    point_by_reading ws tok u H k = of_kind_reading (NamesPoint S) names.as_point point_refused (as_point S) ws (names.declared_by S tok u) k (declared_by_reading ws tok u H k)

    abbrev pub IsTarget : Target → Token → Type 0
    IsTarget (question.Ideal j) tok = IsName (NamesIdeal S) j tok
    IsTarget (question.Point at) tok = IsName (NamesPoint S) at tok

    pub target_reading : IsArgument (Words s0 V) IsTarget (question.target_at S)
    unfolding question.target_at
    target_reading ws t H v k = then_reading s0 V (λ e. e) question.target_of (declared_reading ws t H v k) (λ x us u d Hu. by x.0 x.1 us u d Hu)
      where
        by : (i : ℕ) (k : Kind) (us : List Token) (u : State) → (w : List ℕ) × (us ≡ Word w ∷ []) × Declares S w i k → SoFar s0 V (ws ++ us) u
            → Reading s0 V (λ e. e) (λ x us. (tok : Token) × (us ≡ tok ∷ []) × IsTarget x tok) ws (question.target_of ((i, k), u))
        by i values.Ideal us u d Hu = read us (Word d.0, d.1, (d.0, refl, as_ideal S d.0 i d.2.0 d.2.1 (ap names.as_ideal d.2.2))) Hu
        by i values.Point us u d Hu = read us (Word d.0, d.1, (d.0, refl, as_point S d.0 i d.2.0 d.2.1 (ap names.as_point d.2.2))) Hu
        by i values.Nonconstant us u d Hu = stuck (late s0 V Hu (words_at s0 V kinds.Kind Hu d.1 k (N.other ws d.0 (declared_name S d.0 i values.Nonconstant d.2))))
        by i values.Constant us u d Hu = stuck (late s0 V Hu (words_at s0 V kinds.Kind Hu d.1 k (N.other ws d.0 (declared_name S d.0 i values.Constant d.2))))

  -- ---- questions of one, two and three such arguments

  module _ {A B C : Type 0} (HereA : A → Token → Type 0) (HereB : B → Token → Type 0) (HereC : C → Token → Type 0) (RA : State → Answer A) (RB : State → Answer B) (RC : State → Answer C)
      (NextA NextB NextC : List Token → Type 0) (readA : IsArgument NextA HereA RA) (readB : IsArgument NextB HereB RB) (readC : IsArgument NextC HereC RC) where
    -- tokens that can go on, and with what
    abbrev Here : (List Token → Type 0) → List Token → Type 0
    Here Next ts = V.Goes ts × Next ts

    pub two_arguments : (Q : Question → List Token → Type 0) (q : A → B → Question) → ((x : A) (y : B) (a b : Token) → HereA x a → HereB y b → Q (q x y) (a ∷ b ∷ []))
        → (ts : List Token) (t : State) → SoFar s0 V ts t → Here NextA ts → ((x : A) (a : Token) → HereA x a → Here NextB (ts ++ a ∷ []))
        → Reading s0 V (λ e. e) Q ts (RA t >>= λ x. RB x.1 >>= λ y. Ok (q x.0 y.0, y.1))
    two_arguments Q q is ts t H v v1 =
        then_reading s0 V (λ e. e) _ (readA ts t H.reached v.0 v.1)
        (λ x us u h Hu. let Ha = subst (λ ws. SoFar s0 V (ts ++ ws) u) h.1 Hu in
        then_reading s0 V (λ e. e) _ (behind s0 V (λ e. e) {R = λ y ws. (b : Token) × (ws ≡ h.0 ∷ b ∷ []) × HereB y b} ts (h.0 ∷ []) (RB u) (readB (ts ++ h.0 ∷ []) u Ha.reached (v1 x h.0 h.2).0 (v1 x h.0 h.2).1) (λ y vs k. (k.0, ap (λ ws. h.0 ∷ ws) k.1, k.2)))
        (λ y ws w k Hw. read ws (subst (Q (q x y)) (sym k.1) (is x y h.0 k.0 h.2 k.2)) Hw))

    pub three_arguments : (Q : Question → List Token → Type 0) (q : A → B → C → Question) → ((x : A) (y : B) (z : C) (a b c : Token) → HereA x a → HereB y b → HereC z c → Q (q x y z) (a ∷ b ∷ c ∷ []))
        → (ts : List Token) (t : State) → SoFar s0 V ts t → Here NextA ts → ((x : A) (a : Token) → HereA x a → Here NextB (ts ++ a ∷ [])) → ((x : A) (y : B) (a b : Token) → HereA x a → HereB y b → Here NextC (ts ++ a ∷ b ∷ []))
        → Reading s0 V (λ e. e) Q ts (RA t >>= λ x. RB x.1 >>= λ y. RC y.1 >>= λ z. Ok (q x.0 y.0 z.0, z.1))
    three_arguments Q q is ts t H v v1 v2 =
        then_reading s0 V (λ e. e) _ (readA ts t H.reached v.0 v.1)
        (λ x us u h Hu. let Ha = subst (λ ws. SoFar s0 V (ts ++ ws) u) h.1 Hu in
        then_reading s0 V (λ e. e) _ (behind s0 V (λ e. e) {R = λ y ws. (b : Token) × (ws ≡ h.0 ∷ b ∷ []) × HereB y b} ts (h.0 ∷ []) (RB u) (readB (ts ++ h.0 ∷ []) u Ha.reached (v1 x h.0 h.2).0 (v1 x h.0 h.2).1) (λ y vs k. (k.0, ap (λ ws. h.0 ∷ ws) k.1, k.2)))
        (λ y vs w k Hw. let Hb = subst (λ ws. SoFar s0 V (ts ++ ws) w) k.1 Hw in
        then_reading s0 V (λ e. e) _ (behind s0 V (λ e. e) {R = λ z ws. (c : Token) × (ws ≡ h.0 ∷ k.0 ∷ c ∷ []) × HereC z c} ts (h.0 ∷ k.0 ∷ []) (RC w) (readC (ts ++ h.0 ∷ k.0 ∷ []) w Hb.reached (v2 x y h.0 k.0 h.2 k.2).0 (v2 x y h.0 k.0 h.2 k.2).1) (λ z vs l. (l.0, ap (λ ws. h.0 ∷ k.0 ∷ ws) l.1, l.2)))
        (λ z ws o l Ho. read ws (subst (Q (q x y z)) (sym l.1) (is x y z h.0 k.0 l.0 h.2 k.2 l.2)) Ho)))

-- ---- the questions of a session

-- what words of a line are wrong
pub words_behind : (s0 : State) (S : Session) → KnowsWords s0 (behind_lines (Some S)) S
words_behind s0 S = record { unknown = λ ts w h. wrong.unknown h; other = λ ts w h. wrong.other h; constant = λ ts w f h c. wrong.constant h c }

module _ (s0 : State) (S : Session) (known : Contains primes S.prime) where
  -- A question of a session with more names begins so, and with this token.
  pub ask_with : (ts : List Token) (tok : Token) (more : List Token) (q : Question) → IsQuestion (wide S (longest ts)) (ts ++ tok ∷ more) q → MayFollow (Some S) (Word (codes "ask") ∷ ts) tok
  ask_with ts tok more q h = inl (wide S (longest ts), wide_alike ts S, more, ask (wide S (longest ts)) q, grammar.asked (omega arith) h)

  pub ask_goes : (ts : List Token) → ((n : ℕ) → (more : List Token) × (q : Question) × IsQuestion (wide S n) (ts ++ more) q) → MayStand (Some S) (Word (codes "ask") ∷ ts)
  ask_goes ts f = let n = longest ts in let x = f n in inl (wide S n, wide_alike ts S, x.0, ask (wide S n) x.1, grammar.asked (omega arith) x.2)

  -- An argument of one token: what it is in this session, and in one with more names.
  pub record Argument (A : Type 0) : Type 1 where
    pub Pay : Type 0
    pub former : A → Pay → Token
    pub rule : State → Answer A
    pub Here : A → Pay → Type 0
    pub Wide : ℕ → A → Pay → Type 0
    pub Next : List Token → Type 0
    pub follows : (ts : List Token) (x : A) (p : Pay) → MayFollow (Some S) ts (former x p) → Next ts
    pub lift : (n : ℕ) (x : A) (p : Pay) → Here x p → Wide n x p
    pub default : (n : ℕ) → (x : A) × (p : Pay) × Wide n x p
    pub reads : IsArgument s0 (behind_lines (Some S)) Next (λ x tok. (p : Pay) × (tok ≡ former x p) × Here x p) rule

  unfoldable pub exponent_argument : Argument ℕ
  exponent_argument = record {
    Pay = Unit {0};
    former = λ e p. Number e;
    rule = numbers.exponent;
    Here = λ e p. e ≤ 12;
    Wide = λ n e p. e ≤ 12;
    Next = Numbers s0 (behind_lines (Some S));
    follows = λ ts e p h. (tt, e, inr h);
    lift = λ n e p h. h;
    default = λ n. (0, tt, omega arith);
    reads = exponent_reading s0 (behind_lines (Some S));
  }

  unfoldable pub level_argument : Argument ℕ
  level_argument = record {
    Pay = Unit {0};
    former = λ e p. Number e;
    rule = numbers.level S.prime;
    Here = λ e p. IsLevel S.prime e;
    Wide = λ n e p. IsLevel S.prime e;
    Next = Numbers s0 (behind_lines (Some S));
    follows = λ ts e p h. (tt, e, inr h);
    lift = λ n e p h. h;
    default = λ n. (1, tt, some_level S.prime known);
    reads = level_reading s0 (behind_lines (Some S)) S.prime;
  }

  unfoldable pub polynomial_argument : Argument ℕ
  polynomial_argument = record {
    Pay = List ℕ;
    former = λ i w. Word w;
    rule = names.polynomial S;
    Here = λ i w. NamesPolynomial S w i;
    Wide = λ n i w. NamesPolynomial (wide S n) w i;
    Next = Words s0 (behind_lines (Some S));
    follows = λ ts i w h. (w, inr h);
    lift = λ n i w h. wide_polynomial S n w i h;
    default = λ n. (length S.values + 0, fresh (n + 1), some_polynomial S n);
    reads = polynomial_reading s0 (behind_lines (Some S)) S (words_behind s0 S);
  }

  unfoldable pub nonconstant_argument : Argument ℕ
  nonconstant_argument = record {
    Pay = List ℕ;
    former = λ i w. Word w;
    rule = names.nonconstant S;
    Here = λ i w. NamesNonconstant S w i;
    Wide = λ n i w. NamesNonconstant (wide S n) w i;
    Next = Words s0 (behind_lines (Some S));
    follows = λ ts i w h. (w, inr h);
    lift = λ n i w h. wide_nonconstant S n w i h;
    default = λ n. (length S.values + 0, fresh (n + 1), some_nonconstant S n);
    reads = nonconstant_reading s0 (behind_lines (Some S)) S (words_behind s0 S);
  }

  unfoldable pub ideal_argument : Argument ℕ
  ideal_argument = record {
    Pay = List ℕ;
    former = λ i w. Word w;
    rule = names.ideal S;
    Here = λ i w. NamesIdeal S w i;
    Wide = λ n i w. NamesIdeal (wide S n) w i;
    Next = Words s0 (behind_lines (Some S));
    follows = λ ts i w h. (w, inr h);
    lift = λ n i w h. wide_ideal S n w i h;
    default = λ n. (length S.values + 1, fresh (n + 2), some_ideal S n);
    reads = ideal_reading s0 (behind_lines (Some S)) S (words_behind s0 S);
  }

  abbrev pub TargetIn : Session → Target → List ℕ → Type 0
  TargetIn T (question.Ideal j) w = NamesIdeal T w j
  TargetIn T (question.Point at) w = NamesPoint T w at

  unfoldable pub target_argument : Argument Target
  target_argument = record {
    Pay = List ℕ;
    former = λ x w. Word w;
    rule = question.target_at S;
    Here = TargetIn S;
    Wide = λ n. TargetIn (wide S n);
    Next = Words s0 (behind_lines (Some S));
    follows = λ ts x w h. (w, inr h);
    lift = lifted;
    default = λ n. (question.Ideal (length S.values + 1), fresh (n + 2), some_ideal S n);
    reads = λ ws t H v k. seen ws (question.target_at S t) (target_reading s0 (behind_lines (Some S)) S (words_behind s0 S) ws t H v k);
  }
    where
      lifted : (n : ℕ) (x : Target) (w : List ℕ) → TargetIn S x w → TargetIn (wide S n) x w
      lifted n (question.Ideal j) w h = wide_ideal S n w j h
      lifted n (question.Point at) w h = wide_point S n w at h

      here : (x : Target) (tok : Token) → IsTarget s0 (behind_lines (Some S)) S (words_behind s0 S) x tok → (w : List ℕ) × (tok ≡ Word w) × TargetIn S x w
      here (question.Ideal j) tok h = h
      here (question.Point at) tok h = h

      seen : (ws : List Token) (r : Answer Target) → Reading s0 (behind_lines (Some S)) (λ e. e) (λ x us. (tok : Token) × (us ≡ tok ∷ []) × IsTarget s0 (behind_lines (Some S)) S (words_behind s0 S) x tok) ws r
          → Reading s0 (behind_lines (Some S)) (λ e. e) (λ x us. (tok : Token) × (us ≡ tok ∷ []) × ((w : List ℕ) × (tok ≡ Word w) × TargetIn S x w)) ws r
      seen ws r (read {x = x} us h H) = read us (h.0, h.1, here x h.0 h.2) H
      seen ws r (stuck H) = stuck H

  -- A question goes on with this argument.
  pub argument_next : {A : Type 0} (X : Argument A) (ts : List Token) → ((n : ℕ) → (more : List Token) × (q : Question) × IsQuestion (wide S n) (ts ++ X.former (X.default n).0 (X.default n).1 ∷ more) q)
      → MayStand (Some S) (Word (codes "ask") ∷ ts) × X.Next (Word (codes "ask") ∷ ts)
  argument_next X ts f =
      let d = X.default (longest ts) in let x = f (longest ts) in
      (ask_goes ts (λ n. (X.former (X.default n).0 (X.default n).1 ∷ (f n).0, (f n).1, (f n).2)), X.follows (Word (codes "ask") ∷ ts) d.0 d.1 (ask_with ts (X.former d.0 d.1) x.0 x.1 x.2))

  abbrev pub Asks : List ℕ → Question → List Token → Type 0
  Asks kw q us = IsQuestion S (Word kw ∷ us) q

  module _ (kw : List ℕ) (t : State) (H : SoFar s0 (behind_lines (Some S)) (Word (codes "ask") ∷ Word kw ∷ []) t) where
    pub asks_one : {A : Type 0} (X : Argument A) (q : A → Question) → ((x : A) (p : X.Pay) → X.Here x p → IsQuestion S (Word kw ∷ X.former x p ∷ []) (q x)) → ((n : ℕ) (x : A) (p : X.Pay) → X.Wide n x p → IsQuestion (wide S n) (Word kw ∷ X.former x p ∷ []) (q x))
        → Reading s0 (behind_lines (Some S)) (λ e. e) (Asks kw) (Word (codes "ask") ∷ Word kw ∷ []) (X.rule t >>= λ x. Ok (q x.0, x.1))
    asks_one {A} X q is goes =
        let v = argument_next X (Word kw ∷ []) (λ n. let d = X.default n in ([], q d.0, goes n d.0 d.1 d.2)) in
        then_reading s0 (behind_lines (Some S)) (λ e. e) _ (X.reads (Word (codes "ask") ∷ Word kw ∷ []) t H.reached v.0 v.1)
        (λ x us u h Hu. read us (subst (λ ws. Asks kw (q x) ws) (sym (h.1 ∙ ap (λ tok. tok ∷ []) h.2.1)) (is x h.2.0 h.2.2)) Hu)

    pub asks_two : {A B : Type 0} (X : Argument A) (Y : Argument B) (q : A → B → Question)
        → ((x : A) (y : B) (p : X.Pay) (r : Y.Pay) → X.Here x p → Y.Here y r → IsQuestion S (Word kw ∷ X.former x p ∷ Y.former y r ∷ []) (q x y))
        → ((n : ℕ) (x : A) (y : B) (p : X.Pay) (r : Y.Pay) → X.Wide n x p → Y.Wide n y r → IsQuestion (wide S n) (Word kw ∷ X.former x p ∷ Y.former y r ∷ []) (q x y))
        → Reading s0 (behind_lines (Some S)) (λ e. e) (Asks kw) (Word (codes "ask") ∷ Word kw ∷ []) (X.rule t >>= λ x. Y.rule x.1 >>= λ y. Ok (q x.0 y.0, y.1))
    asks_two {A} {B} X Y q is goes =
        two_arguments s0 (behind_lines (Some S)) (λ x tok. (p : X.Pay) × (tok ≡ X.former x p) × X.Here x p) (λ y tok. (r : Y.Pay) × (tok ≡ Y.former y r) × Y.Here y r) (λ y tok. (r : Y.Pay) × (tok ≡ Y.former y r) × Y.Here y r) X.rule Y.rule Y.rule X.Next Y.Next Y.Next X.reads Y.reads Y.reads (Asks kw) q
        (λ x y a b h k. subst (λ c. Asks kw (q x y) (c ∷ b ∷ [])) (sym h.1) (subst (λ c. Asks kw (q x y) (X.former x h.0 ∷ c ∷ [])) (sym k.1) (is x y h.0 k.0 h.2 k.2)))
        (Word (codes "ask") ∷ Word kw ∷ []) t H
        (argument_next X (Word kw ∷ []) (λ n. let d = X.default n in let e = Y.default n in (Y.former e.0 e.1 ∷ [], q d.0 e.0, goes n d.0 e.0 d.1 e.1 d.2 e.2)))
        (λ x a h. argument_next Y (Word kw ∷ a ∷ []) (λ n. let e = Y.default n in ([], q x e.0, subst (λ c. IsQuestion (wide S n) (Word kw ∷ c ∷ Y.former e.0 e.1 ∷ []) (q x e.0)) (sym h.1) (goes n x e.0 h.0 e.1 (X.lift n x h.0 h.2) e.2))))

    pub asks_three : {A B C : Type 0} (X : Argument A) (Y : Argument B) (Z : Argument C) (q : A → B → C → Question)
        → ((x : A) (y : B) (z : C) (p : X.Pay) (r : Y.Pay) (o : Z.Pay) → X.Here x p → Y.Here y r → Z.Here z o → IsQuestion S (Word kw ∷ X.former x p ∷ Y.former y r ∷ Z.former z o ∷ []) (q x y z))
        → ((n : ℕ) (x : A) (y : B) (z : C) (p : X.Pay) (r : Y.Pay) (o : Z.Pay) → X.Wide n x p → Y.Wide n y r → Z.Wide n z o → IsQuestion (wide S n) (Word kw ∷ X.former x p ∷ Y.former y r ∷ Z.former z o ∷ []) (q x y z))
        → Reading s0 (behind_lines (Some S)) (λ e. e) (Asks kw) (Word (codes "ask") ∷ Word kw ∷ []) (X.rule t >>= λ x. Y.rule x.1 >>= λ y. Z.rule y.1 >>= λ z. Ok (q x.0 y.0 z.0, z.1))
    asks_three {A} {B} {C} X Y Z q is goes =
        three_arguments s0 (behind_lines (Some S)) (λ x tok. (p : X.Pay) × (tok ≡ X.former x p) × X.Here x p) (λ y tok. (r : Y.Pay) × (tok ≡ Y.former y r) × Y.Here y r) (λ z tok. (o : Z.Pay) × (tok ≡ Z.former z o) × Z.Here z o) X.rule Y.rule Z.rule X.Next Y.Next Z.Next X.reads Y.reads Z.reads (Asks kw) q
        (λ x y z a b c h k l. subst (λ d. Asks kw (q x y z) (d ∷ b ∷ c ∷ [])) (sym h.1) (subst (λ d. Asks kw (q x y z) (X.former x h.0 ∷ d ∷ c ∷ [])) (sym k.1) (subst (λ d. Asks kw (q x y z) (X.former x h.0 ∷ Y.former y k.0 ∷ d ∷ [])) (sym l.1) (is x y z h.0 k.0 l.0 h.2 k.2 l.2))))
        (Word (codes "ask") ∷ Word kw ∷ []) t H
        (argument_next X (Word kw ∷ []) (λ n. let d = X.default n in let e = Y.default n in let f = Z.default n in (Y.former e.0 e.1 ∷ Z.former f.0 f.1 ∷ [], q d.0 e.0 f.0, goes n d.0 e.0 f.0 d.1 e.1 f.1 d.2 e.2 f.2)))
        (λ x a h. argument_next Y (Word kw ∷ a ∷ []) (λ n. let e = Y.default n in let f = Z.default n in (Z.former f.0 f.1 ∷ [], q x e.0 f.0, subst (λ c. IsQuestion (wide S n) (Word kw ∷ c ∷ Y.former e.0 e.1 ∷ Z.former f.0 f.1 ∷ []) (q x e.0 f.0)) (sym h.1) (goes n x e.0 f.0 h.0 e.1 f.1 (X.lift n x h.0 h.2) e.2 f.2))))
        (λ x y a b h k. argument_next Z (Word kw ∷ a ∷ b ∷ [])
        (λ n. let f = Z.default n in ([], q x y f.0, subst (λ c. IsQuestion (wide S n) (Word kw ∷ c ∷ b ∷ Z.former f.0 f.1 ∷ []) (q x y f.0)) (sym h.1) (subst (λ c. IsQuestion (wide S n) (Word kw ∷ X.former x h.0 ∷ c ∷ Z.former f.0 f.1 ∷ []) (q x y f.0)) (sym k.1) (goes n x y f.0 h.0 k.0 f.1 (X.lift n x h.0 h.2) (Y.lift n y k.0 k.2) f.2)))))
