-- What was read of an expression before a fault can go on.
use Rattle.std.proofs.Common.{◌≡◌, ℕ, zero, suc, ◌%◌, ◌^◌, ◌≤◌, eqb, ltb, List, [], ◌∷◌, ◌++◌, length, Option, Some, None, Ok, Err, refl, sym, ap, ◌∙◌, subst, arith, append_assoc, inl, inr, ◌⊎◌}
use Rattle.std.specs.FinMap.{empty}
use Rattle.std.specs.Option.{option_map, option_map_or}
use Rattle.std.proofs.lemmas.Bool.{eqb-true, leb-false, leb-true, ltb-false, ltb-true}
use Rattle.std.proofs.lemmas.List.{append-nil}
use Rattle.std.proofs.lemmas.Option.{none-some, same_Some}
use Rattle.fj_coeff.specs.Field.{Field, IsField}
use Rattle.fj_theory.specs.Exponents.{origin}
use Rattle.fj_theory.specs.PointIdeal.{variable_exponents}
use Rattle.fj_theory.specs.Polynomial.{Polynomial, IsPolynomial, negation, power, product, sum, term}
use Rattle.fj_theory.proofs.Polynomial.{IsPolynomial-sum}
use Rattle.fj_theory.proofs.Product.{IsPolynomial-product}
use Rattle.fj_theory.proofs.PolynomialRing.{IsPolynomial-negation, IsPolynomial-power, power_first, power_zero, product_empty, product_one, sum_empty}
use Rattle.fj_text.specs.declared.scope.Meaning.{Meaning}
use Rattle.fj_text.specs.declared.scope.Meaning.TheVariants as meanings
use Rattle.fj_text.specs.Expression as text
use Rattle.fj_text.specs.Grammar as grammar
use Rattle.fj_text.specs.Grammar.{IsAtom, IsExpression, IsFactor, IsTerm, IsWithinLimits}
use Rattle.fj_text.specs.State.{State, after_sign, next, unexpected}
use Rattle.fj_text.specs.Token.{Token, Word, Number, Sign, BadByte, caret, closing, minus, opening, plus, star}
use Rattle.fj_text.proofs.Grammars.{IsPolynomial-factor, power-small, small-power, small-within, within-small}
use Rattle.fj_script.specs.declared.fault.FaultKind.TheVariants as kinds
use Rattle.fj_script.specs.LineFault.{◌>>=◌, fault_of}
use Rattle.fj_grammar.specs.Large as large
use Rattle.fj_grammar.specs.Large.{IsLargeAtom, IsLargeExpression, IsLargeFactor, IsLargeTerm}
use Rattle.fj_grammar.proofs.Beginnings.{Numbers, Reading, Sayings, SoFar, Took, Words, behind, caused, formed_reading, late, narrow_at, number_narrow, numbers_at, read, reading_if, reading_next, reading_sign, regrouped, repeat_reading, sign_taken, sound, stuck, then_reading, words_at, wrong_next, wrong_token}
use Rattle.fj_grammar.proofs.ExpressionEnds.{EndsNarrow, IsNarrow, exponent_narrow, factor_narrow, narrow_behind, term_narrow}
use Rattle.fj_grammar.proofs.FineValues.{IsFine, fine_constant, fine_empty, fine_negation, fine_one, fine_variable, negation_empty, zero_is_empty}

module _ {F : Field} (L : IsField F) (meaning : List ℕ → Meaning) where
  abbrev pub Atom : ℕ → Polynomial → List Token → Type 0
  Atom d f us = IsAtom F meaning d us f × IsFine F f

  abbrev pub Factor : ℕ → Polynomial → List Token → Type 0
  Factor d f us = IsFactor F meaning d us f × IsFine F f

  abbrev pub Term : ℕ → Polynomial → List Token → Type 0
  Term d f us = IsTerm F meaning d us f × IsFine F f

  abbrev pub Whole : ℕ → Polynomial → List Token → Type 0
  Whole d f us = IsExpression F meaning d us f × IsFine F f

  -- Tokens that go on to a factor zero or one, to a term zero, and to an expression.
  abbrev GoesOnFactor : ℕ → List Token → Type 0
  GoesOnFactor d us = (more : List Token) × (g : Polynomial) × IsFactor F meaning d (us ++ more) g × ((g ≡ empty) ⊎ (g ≡ term 1 origin))

  abbrev GoesOnTerm : ℕ → List Token → Type 0
  GoesOnTerm d us = (more : List Token) × IsTerm F meaning d (us ++ more) empty

  abbrev pub GoesOn : ℕ → List Token → Type 0
  GoesOn d us = (more : List Token) × (f : Polynomial) × Whole d f (us ++ more)

  zero_factor : (d : ℕ) → IsFactor F meaning d (Number 0 ∷ []) empty
  zero_factor d = subst (IsFactor F meaning d (Number 0 ∷ [])) (zero_is_empty L) (grammar.atom (grammar.number (omega arith)))

  times_zero : {d : ℕ} {us : List Token} {f : Polynomial} → IsTerm F meaning d us f → IsPolynomial F f → IsTerm F meaning d (us ++ Sign star ∷ Number 0 ∷ []) empty
  times_zero {d} {us} {f} t P =
      let is_empty = product_empty L P in
      subst (IsTerm F meaning d (us ++ Sign star ∷ Number 0 ∷ [])) is_empty (grammar.times t (zero_factor d) (subst IsWithinLimits (sym is_empty) (fine_empty L).within))

  factor_default : (d : ℕ) → GoesOnFactor d []
  factor_default d = (Number 0 ∷ [], empty, zero_factor d, inl refl)

  term_of_factor : (d : ℕ) (us : List Token) → GoesOnFactor d us → GoesOnTerm d us
  term_of_factor d us (more, g, h, small) =
      (more ++ Sign star ∷ Number 0 ∷ [], subst (λ ts. IsTerm F meaning d ts empty) (append_assoc us more (Sign star ∷ Number 0 ∷ [])) (times_zero (grammar.factor h) (IsPolynomial-factor L meaning h)))

  term_ends : (d : ℕ) (us : List Token) (f : Polynomial) → Term d f us → GoesOnTerm d us
  term_ends d us f h = (Sign star ∷ Number 0 ∷ [], times_zero h.0 h.1.polynomial)

  term_goes : (d : ℕ) (us vs : List Token) (f : Polynomial) → Term d f us → GoesOnFactor d vs → GoesOnTerm d (us ++ Sign star ∷ vs)
  term_goes d us vs f h (more, g, k, small) =
      let value : IsFine F (product F f g) = by small in
      let whole = times_zero (grammar.times h.0 k value.within) value.polynomial in
      (more ++ Sign star ∷ Number 0 ∷ [], subst (λ ts. IsTerm F meaning d ts empty) tokens whole)
    where
      by : (g ≡ empty) ⊎ (g ≡ term 1 origin) → IsFine F (product F f g)
      by (inl e) = subst (IsFine F) (sym (ap (product F f) e ∙ product_empty L h.1.polynomial)) (fine_empty L)
      by (inr e) = subst (IsFine F) (sym (ap (product F f) e ∙ product_one L h.1.polynomial)) h.1

      tokens : (us ++ Sign star ∷ (vs ++ more)) ++ Sign star ∷ Number 0 ∷ [] ≡ (us ++ Sign star ∷ vs) ++ (more ++ Sign star ∷ Number 0 ∷ [])
      tokens = ap (λ ws. ws ++ Sign star ∷ Number 0 ∷ []) (sym (append_assoc us (Sign star ∷ vs) more)) ∙ append_assoc (us ++ Sign star ∷ vs) more (Sign star ∷ Number 0 ∷ [])

  expression_of_term : (d : ℕ) (us : List Token) → GoesOnTerm d us → GoesOn d us
  expression_of_term d us (more, h) = (more, empty, (grammar.first h, fine_empty L))

  expression_of_minus : (d : ℕ) (us : List Token) → GoesOnTerm d us → GoesOn d (Sign minus ∷ us)
  expression_of_minus d us (more, h) = (more, empty, (subst (IsExpression F meaning d (Sign minus ∷ us ++ more)) (negation_empty L) (grammar.negative h), fine_empty L))

  expression_ends : (d : ℕ) (us : List Token) (f : Polynomial) → Whole d f us → GoesOn d us
  expression_ends d us f h = ([], f, subst (Whole d f) (sym (append-nil us)) h)

  expression_plus : (d : ℕ) (us vs : List Token) (f : Polynomial) → Whole d f us → GoesOnTerm d vs → GoesOn d (us ++ Sign plus ∷ vs)
  expression_plus d us vs f h (more, k) =
      let same = sum_empty L h.1.polynomial in
      let whole = grammar.add h.0 k (subst IsWithinLimits (sym same) h.1.within) in
      (more, f, (subst (λ ts. IsExpression F meaning d ts f) (sym (append_assoc us (Sign plus ∷ vs) more)) (subst (IsExpression F meaning d (us ++ Sign plus ∷ (vs ++ more))) same whole), h.1))

  expression_minus : (d : ℕ) (us vs : List Token) (f : Polynomial) → Whole d f us → GoesOnTerm d vs → GoesOn d (us ++ Sign minus ∷ vs)
  expression_minus d us vs f h (more, k) =
      let same = ap (sum F f) (negation_empty L) ∙ sum_empty L h.1.polynomial in
      let whole = grammar.less h.0 k (subst IsWithinLimits (sym same) h.1.within) in
      (more, f, (subst (λ ts. IsExpression F meaning d ts f) (sym (append_assoc us (Sign minus ∷ vs) more)) (subst (IsExpression F meaning d (us ++ Sign minus ∷ (vs ++ more))) same whole), h.1))

  power_goes : (d : ℕ) (us : List Token) (f : Polynomial) → Atom d f us → IsFactor F meaning d (us ++ Sign caret ∷ Number 0 ∷ []) (term 1 origin)
  power_goes d us f h = subst (IsFactor F meaning d (us ++ Sign caret ∷ Number 0 ∷ [])) (power_zero L h.1.polynomial) (grammar.raised h.0 (omega arith) (λ i two up. absurd (omega arith)))

  atom_ends : (d : ℕ) (us : List Token) (f : Polynomial) → Atom d f us → GoesOnFactor d us
  atom_ends d us f h = (Sign caret ∷ Number 0 ∷ [], term 1 origin, power_goes d us f h, inr refl)

  atom_raised : (d : ℕ) (us : List Token) (f : Polynomial) → Atom d f us → GoesOnFactor d (us ++ Sign caret ∷ [])
  atom_raised d us f h = (Number 0 ∷ [], term 1 origin, subst (λ ts. IsFactor F meaning d ts (term 1 origin)) (sym (append_assoc us (Sign caret ∷ []) (Number 0 ∷ []))) (power_goes d us f h), inr refl)

  inside_goes : (d : ℕ) (us : List Token) → GoesOn d us → GoesOnFactor (suc d) (Sign opening ∷ us)
  inside_goes d us (more, f, h) =
      let all = power_goes (suc d) (Sign opening ∷ (us ++ more) ++ Sign closing ∷ []) f (grammar.parentheses h.0, h.1) in
      (more ++ Sign closing ∷ Sign caret ∷ Number 0 ∷ [], term 1 origin, subst (λ ts. IsFactor F meaning (suc d) ts (term 1 origin)) tokens all, inr refl)
    where
      tokens : (Sign opening ∷ (us ++ more) ++ Sign closing ∷ []) ++ Sign caret ∷ Number 0 ∷ [] ≡ (Sign opening ∷ us) ++ (more ++ Sign closing ∷ Sign caret ∷ Number 0 ∷ [])
      tokens = ap (λ ws. Sign opening ∷ ws) (append_assoc (us ++ more) (Sign closing ∷ []) (Sign caret ∷ Number 0 ∷ []) ∙ append_assoc us more (Sign closing ∷ Sign caret ∷ Number 0 ∷ []))

  fine_power : (f : Polynomial) → IsFine F f → (k : ℕ) → ((i : ℕ) → 2 ≤ i → i ≤ k → IsWithinLimits (power F f i)) → IsFine F (power F f k)
  fine_power f h zero limits = subst (IsFine F) (sym (power_zero L h.polynomial)) (fine_one L)
  fine_power f h (suc zero) limits = subst (IsFine F) (sym (power_first L h.polynomial)) h
  fine_power f h (suc (suc k)) limits = record { polynomial = IsPolynomial-power L h.polynomial (suc (suc k)); within = limits (suc (suc k)) (omega arith) (omega arith) }

  none_within : {f : Polynomial} → text.within f ≡ None → IsWithinLimits f → ⊥
  none_within {f} none small = none-some _ (sym none ∙ small-within f small)

  -- ---- what is read of an expression, where its beginnings can go on

  module _ (s0 : State) (V : Sayings) (ring : V.HasRing) (name : List ℕ) (place : ℕ) (named : meaning name ≡ meanings.Variable place)
      (unknown : (ts : List Token) (w : List ℕ) → meaning w ≡ meanings.Unknown → V.Wrong ts kinds.Unknown (Word w)) (other : (ts : List Token) (w : List ℕ) → meaning w ≡ meanings.OtherKind → V.Wrong ts kinds.Kind (Word w)) where
    abbrev TooLarge : List Token → Type 0
    TooLarge us = V.Cause kinds.Large us

    -- What is read after an opening parenthesis.
    abbrev Inside : ℕ → Type 0
    Inside d = (ts : List Token) (u : State) (H : SoFar s0 V ts u) → IsNarrow H.reached.last.token → ((us : List Token) → GoesOnFactor d (Sign opening ∷ us) → V.Goes (ts ++ us))
        → ((us : List Token) → IsLargeAtom F meaning d (Sign opening ∷ us) → TooLarge (ts ++ us)) → Reading s0 V fault_of (λ f us. Atom d f (Sign opening ∷ us)) ts (text.parenthesised F meaning d u)

    at_once : (ts : List Token) → V.Goes (ts ++ []) → V.Goes ts
    at_once ts v = subst V.Goes (append-nil ts) v

    behind_one : (Is : List Token → Type 0) (ts us : List Token) (tok : Token) → Is (ts ++ tok ∷ us) → Is ((ts ++ tok ∷ []) ++ us)
    behind_one Is ts us tok v = subst Is (sym (append_assoc ts (tok ∷ []) us)) v

    behind_more : (Is : List Token → Type 0) (ts us vs : List Token) (tok : Token) → Is (ts ++ (us ++ tok ∷ vs)) → Is ((ts ++ (us ++ tok ∷ [])) ++ vs)
    behind_more Is ts us vs tok v = subst Is (sym (append_assoc ts (us ++ tok ∷ []) vs ∙ ap (λ ws. ts ++ ws) (append_assoc us (tok ∷ []) vs))) v

    module _ (d : ℕ) (I : Inside d) where
      atom_reading : (ts : List Token) (t : State) → SoFar s0 V ts t → ((us : List Token) → GoesOnFactor d us → V.Goes (ts ++ us)) → ((us : List Token) → IsLargeAtom F meaning d us → TooLarge (ts ++ us))
          → Reading s0 V fault_of (Atom d) ts (text.atom F meaning (text.parenthesised F meaning d) t)
      unfolding text.atom text.atom_of text.constant text.variable
      atom_reading ts t H K C = reading_next s0 V fault_of (λ t. text.atom_of F meaning (text.parenthesised F meaning d) t.0 t.1) (unexpected t) refl H.reached (at_once ts (K [] (factor_default d))) each
        where
          a_number : Numbers s0 V ts
          a_number = (ring, 0, inl (K (Number 0 ∷ []) (atom_ends d (Number 0 ∷ []) (term (0 % F.characteristic) origin) (grammar.number (omega arith), fine_constant L 0))))

          a_word : Words s0 V ts
          a_word = (name, inl (K (Word name ∷ []) (atom_ends d (Word name ∷ []) (term 1 (variable_exponents place)) (grammar.word named, fine_variable L place))))

          known : (w : List ℕ) (u : State) → SoFar s0 V (ts ++ Word w ∷ []) u → (m : Meaning) → meaning w ≡ m → Reading s0 V fault_of (Atom d) ts (text.variable m u)
          known w u Hu (meanings.Variable i) e = read (Word w ∷ []) (grammar.word e, fine_variable L i) Hu
          known w u Hu meanings.Unknown e = stuck (late s0 V Hu (words_at s0 V kinds.Unknown Hu refl a_word (unknown ts w e)))
          known w u Hu meanings.OtherKind e = stuck (late s0 V Hu (words_at s0 V kinds.Kind Hu refl a_word (other ts w e)))

          each : (tok : Token) (u : State) → Took s0 V (ts ++ tok ∷ []) u → Reading s0 V fault_of (Atom d) ts (text.atom_of F meaning (text.parenthesised F meaning d) tok u)
          each (Number n) u Hu =
              let Hn = sound s0 V ts (Number n) tt Hu in
              reading_if s0 V fault_of (text.is_wide n) _ _ (λ wide. stuck (late s0 V Hn (numbers_at s0 V kinds.Wide Hn refl a_number (V.wide ring ts n (leb-true (2 ^ 32) n wide))))) (λ e. read (Number n ∷ []) (grammar.number (leb-false _ _ e), fine_constant L n) Hn)
          each (Word w) u Hu = known w u (sound s0 V ts (Word w) tt Hu) (meaning w) refl
          each BadByte u Hu = stuck (wrong_token s0 V ts BadByte Hu)
          each (Sign s) u Hu =
              reading_if s0 V fault_of (eqb s opening) _ _
              (λ e. let Ho = subst (λ n. SoFar s0 V (ts ++ Sign n ∷ []) u) (eqb-true s opening e) (sound s0 V ts (Sign s) tt Hu) in
              behind s0 V fault_of ts (Sign opening ∷ []) _ (I (ts ++ Sign opening ∷ []) u Ho (narrow_at s0 V ts (Sign opening ∷ []) Ho (record { front = []; last = Sign opening; whole = refl; narrow = tt })) (λ us g. behind_one V.Goes ts us (Sign opening) (K (Sign opening ∷ us) g)) (λ us g. behind_one TooLarge ts us (Sign opening) (C (Sign opening ∷ us) g))) (λ f us h. h))
              (λ e. stuck (wrong_token s0 V ts (Sign s) Hu))

      factor_reading : (ts : List Token) (t : State) → SoFar s0 V ts t → ((us : List Token) → GoesOnFactor d us → V.Goes (ts ++ us)) → ((us : List Token) → IsLargeFactor F meaning d us → TooLarge (ts ++ us))
          → Reading s0 V fault_of (Factor d) ts (text.factor F meaning (text.parenthesised F meaning d) t)
      unfolding text.factor text.exponent_of
      factor_reading ts t H K C =
          then_reading s0 V fault_of _ (atom_reading ts t H K (λ us g. C us (large.atom g)))
          (λ f us u h Hu. reading_sign s0 V fault_of caret _ _ Hu.reached (K us (atom_ends d us f h)) (λ v Hv. raised f us h v (regrouped s0 V ts us (Sign caret ∷ []) Hv)) (read us (grammar.atom h.0, h.1) Hu))
        where
          Exponent : List Token → ℕ → List Token → Type 0
          Exponent us k vs = (vs ≡ us ++ Sign caret ∷ Number k ∷ []) × (k ≤ 1000)

          a_number : (f : Polynomial) (us : List Token) → Atom d f us → Numbers s0 V (ts ++ (us ++ Sign caret ∷ []))
          a_number f us h =
              let goes = K (us ++ Sign caret ∷ Number 0 ∷ []) ([], term 1 origin, subst (λ ws. IsFactor F meaning d ws (term 1 origin)) (sym (append-nil (us ++ Sign caret ∷ Number 0 ∷ []))) (power_goes d us f h), inr refl) in
              (ring, 0, inl (subst V.Goes (ap (λ ws. ts ++ ws) (sym (append_assoc us (Sign caret ∷ []) (Number 0 ∷ []))) ∙ sym (append_assoc ts (us ++ Sign caret ∷ []) (Number 0 ∷ []))) goes))

          exponent : (f : Polynomial) (us : List Token) → Atom d f us → (tok : Token) (w : State) → Took s0 V ((ts ++ (us ++ Sign caret ∷ [])) ++ tok ∷ []) w → Reading s0 V fault_of (Exponent us) ts (text.exponent_of tok w)
          exponent f us h (Word x) w Hw = stuck (wrong_token s0 V (ts ++ (us ++ Sign caret ∷ [])) (Word x) Hw)
          exponent f us h (Sign x) w Hw = stuck (wrong_token s0 V (ts ++ (us ++ Sign caret ∷ [])) (Sign x) Hw)
          exponent f us h BadByte w Hw = stuck (wrong_token s0 V (ts ++ (us ++ Sign caret ∷ [])) BadByte Hw)
          exponent f us h (Number k) w Ho =
              let Hw = sound s0 V (ts ++ (us ++ Sign caret ∷ [])) (Number k) tt Ho in
              reading_if s0 V fault_of (text.is_wide k) _ _ (λ wide. stuck (late s0 V Hw (numbers_at s0 V kinds.Wide Hw refl (a_number f us h) (V.wide ring (ts ++ (us ++ Sign caret ∷ [])) k (leb-true (2 ^ 32) k wide)))))
              (λ fits. reading_if s0 V fault_of (ltb 1000 k) _ _ (λ much. let few = leb-false (2 ^ 32) k fits in
              stuck (late s0 V Hw (number_narrow s0 V (ts ++ (us ++ Sign caret ∷ [])) Hw refl few, caused s0 V kinds.Large Hw (behind_more TooLarge ts us (Number k ∷ []) (Sign caret) (C (us ++ Sign caret ∷ Number k ∷ []) (large.exponent h.0 (ltb-true 1000 k much) few))))))
              (λ e. read (us ++ Sign caret ∷ Number k ∷ []) (refl, ltb-false _ _ e)
              (subst (λ ws. SoFar s0 V ws w) (append_assoc ts (us ++ Sign caret ∷ []) (Number k ∷ []) ∙ ap (λ ws. ts ++ ws) (append_assoc us (Sign caret ∷ []) (Number k ∷ []))) Hw)))

          raised : (f : Polynomial) (us : List Token) → Atom d f us → (v : State) → SoFar s0 V (ts ++ (us ++ Sign caret ∷ [])) v
              → Reading s0 V fault_of (Factor d) ts (option_map_or (λ t. text.exponent_of t.0 t.1) (next v) (Err (unexpected v)) >>= λ k. text.formed (text.power_within F f k.0) k.1)
          raised f us h v Hv =
              then_reading s0 V fault_of (λ k. text.formed (text.power_within F f k.0) k.1)
              (reading_next s0 V fault_of {Q = Exponent us} {ts = ts} (λ t. text.exponent_of t.0 t.1) (unexpected v) refl Hv.reached (K (us ++ Sign caret ∷ []) (atom_raised d us f h)) (exponent f us h))
              (λ k vs w q Hw. formed_reading s0 V ts vs (text.power_within F f k) w Hw (subst EndsNarrow (sym q.0) (exponent_narrow us k q.1)) (λ none. C vs (subst (IsLargeFactor F meaning d) (sym q.0) (large.raised h.0 q.1 (λ small. absurd (none-some _ (sym none ∙ small-power L h.1.polynomial k small))))))
              (λ g e. let p = power-small L h.1.polynomial k g e in
              subst (λ ws. Factor d g ws) (sym q.0) (subst (λ y. Factor d y (us ++ Sign caret ∷ Number k ∷ [])) (sym p.0) (grammar.raised h.0 q.1 p.1, fine_power f h.1 k p.1))))

      times_reading : (ts : List Token) → ((us : List Token) → GoesOnTerm d us → V.Goes (ts ++ us)) → ((us : List Token) → IsLargeTerm F meaning d us → TooLarge (ts ++ us)) → (x : Polynomial) (us : List Token) (t : State) (r : text.Answer Polynomial) → Term d x us → SoFar s0 V (ts ++ us) t
          → text.times_factor F meaning (text.parenthesised F meaning d) x t ≡ Some r → Reading s0 V fault_of (Term d) ts r
      unfolding text.times_factor
      times_reading ts K C x us t r w H e = by (after_sign star t) refl e
        where
          turn : State → text.Answer Polynomial
          turn v = text.factor F meaning (text.parenthesised F meaning d) v >>= λ g. text.formed (text.within (product F x g.0)) g.1

          Behind : Polynomial → List Token → Type 0
          Behind g ws = (vs : List Token) × (ws ≡ us ++ Sign star ∷ vs) × Factor d g vs

          by : (o : Option State) → after_sign star t ≡ o → option_map turn o ≡ Some r → Reading s0 V fault_of (Term d) ts r
          by None is h = absurd cc
          by (Some v) is h =
              let Hv = regrouped s0 V ts us (Sign star ∷ []) (sign_taken s0 V star t v H.reached (K us (term_ends d us x w)) is) in
              let factor = factor_reading (ts ++ (us ++ Sign star ∷ [])) v Hv (λ vs g. behind_more V.Goes ts us vs (Sign star) (K (us ++ Sign star ∷ vs) (term_goes d us vs x w g))) (λ vs g. behind_more TooLarge ts us vs (Sign star) (C (us ++ Sign star ∷ vs) (large.later w.0 g))) in
              let whole = behind s0 V fault_of {Q = Factor d} {R = Behind} ts (us ++ Sign star ∷ []) _ factor (λ g vs k. (vs, append_assoc us (Sign star ∷ []) vs, k)) in
              subst (Reading s0 V fault_of (Term d) ts) (same_Some _ _ h)
              (then_reading s0 V fault_of (λ g. text.formed (text.within (product F x g.0)) g.1) whole
              (λ g ws z k Hz. formed_reading s0 V ts ws (text.within (product F x g)) z Hz (subst EndsNarrow (sym k.1) (narrow_behind us (Sign star ∷ k.0) (narrow_behind (Sign star ∷ []) k.0 (factor_narrow k.2.0)))) (λ none. C ws (subst (IsLargeTerm F meaning d) (sym k.1) (large.times w.0 k.2.0 (none_within none))))
              (λ y ok. let p = within-small (product F x g) y ok in
              subst (Term d y) (sym k.1) (subst (λ a. Term d a (us ++ Sign star ∷ k.0)) p.0 (grammar.times w.0 k.2.0 p.1, record { polynomial = IsPolynomial-product L w.1.polynomial k.2.1.polynomial; within = p.1 })))))

      term_reading : (ts : List Token) (t : State) → SoFar s0 V ts t → ((us : List Token) → GoesOnTerm d us → V.Goes (ts ++ us)) → ((us : List Token) → IsLargeTerm F meaning d us → TooLarge (ts ++ us))
          → Reading s0 V fault_of (Term d) ts (text.term_at F meaning (text.parenthesised F meaning d) t)
      unfolding text.term_at
      term_reading ts t H K C =
          then_reading s0 V fault_of _ (factor_reading ts t H (λ us g. K us (term_of_factor d us g)) (λ us g. C us (large.factor g)))
          (λ f us u h Hu. repeat_reading s0 V (text.times_factor F meaning (text.parenthesised F meaning d)) (Term d) ts (times_reading ts K C) (length u.left) f us u (grammar.factor h.0, h.1) Hu)

      first_reading : (ts : List Token) (t : State) → SoFar s0 V ts t → ((us : List Token) → GoesOn d us → V.Goes (ts ++ us)) → ((us : List Token) → IsLargeExpression F meaning d us → TooLarge (ts ++ us))
          → Reading s0 V fault_of (Whole d) ts (text.first_term F meaning (text.parenthesised F meaning d) t)
      unfolding text.first_term
      first_reading ts t H K C =
          reading_sign s0 V fault_of minus _ _ H.reached (at_once ts (K [] (expression_of_term d [] (term_of_factor d [] (factor_default d)))))
          (λ u Hu. then_reading s0 V fault_of (λ f. Ok (negation F f.0, f.1))
          (behind s0 V fault_of {Q = Term d} {R = Negative} ts (Sign minus ∷ []) _ (term_reading (ts ++ Sign minus ∷ []) u Hu (λ us g. behind_one V.Goes ts us (Sign minus) (K (Sign minus ∷ us) (expression_of_minus d us g))) (λ us g. behind_one TooLarge ts us (Sign minus) (C (Sign minus ∷ us) (large.negative g)))) (λ f vs h. (vs, refl, h)))
          (λ f ws v k Hv. read ws (subst (Whole d (negation F f)) (sym k.1) (grammar.negative k.2.0, fine_negation L k.2.1)) Hv))
          (plain (text.term_at F meaning (text.parenthesised F meaning d) t) (term_reading ts t H (λ us g. K us (expression_of_term d us g)) (λ us g. C us (large.first g))))
        where
          Negative : Polynomial → List Token → Type 0
          Negative f ws = (vs : List Token) × (ws ≡ Sign minus ∷ vs) × Term d f vs

          plain : (r : text.Answer Polynomial) → Reading s0 V fault_of (Term d) ts r → Reading s0 V fault_of (Whole d) ts r
          plain r (read us h Hu) = read us (grammar.first h.0, h.1) Hu
          plain r (stuck Hu) = stuck Hu

      plus_reading : (ts : List Token) → ((us : List Token) → GoesOn d us → V.Goes (ts ++ us)) → ((us : List Token) → IsLargeExpression F meaning d us → TooLarge (ts ++ us)) → (x : Polynomial) (us : List Token) (t : State) (r : text.Answer Polynomial) → Whole d x us → SoFar s0 V (ts ++ us) t
          → text.plus_term F meaning (text.parenthesised F meaning d) x t ≡ Some r → Reading s0 V fault_of (Whole d) ts r
      unfolding text.plus_term
      plus_reading ts K C x us t r w H e = by (after_sign plus t) (after_sign minus t) refl refl e
        where
          added : State → text.Answer Polynomial
          added v = text.term_at F meaning (text.parenthesised F meaning d) v >>= λ g. text.formed (text.within (sum F x g.0)) g.1

          less : State → text.Answer Polynomial
          less v = text.term_at F meaning (text.parenthesised F meaning d) v >>= λ g. text.formed (text.within (sum F x (negation F g.0))) g.1

          Behind : ℕ → Polynomial → List Token → Type 0
          Behind sgn g ws = (vs : List Token) × (ws ≡ us ++ Sign sgn ∷ vs) × Term d g vs

          behind_ends : (sgn : ℕ) (g : Polynomial) {ws : List Token} → Behind sgn g ws → EndsNarrow ws
          behind_ends sgn g k = subst EndsNarrow (sym k.1) (narrow_behind us (Sign sgn ∷ k.0) (narrow_behind (Sign sgn ∷ []) k.0 (term_narrow k.2.0)))

          -- the term after a sign
          behind_sign : (sgn : ℕ) (v : State) → after_sign sgn t ≡ Some v → ((vs : List Token) → GoesOnTerm d vs → V.Goes (ts ++ (us ++ Sign sgn ∷ vs)))
              → ((vs : List Token) → IsLargeTerm F meaning d vs → IsLargeExpression F meaning d (us ++ Sign sgn ∷ vs)) → Reading s0 V fault_of (Behind sgn) ts (text.term_at F meaning (text.parenthesised F meaning d) v)
          behind_sign sgn v is goes larger =
              let Hv = regrouped s0 V ts us (Sign sgn ∷ []) (sign_taken s0 V sgn t v H.reached (K us (expression_ends d us x w)) is) in
              behind s0 V fault_of {Q = Term d} {R = Behind sgn} ts (us ++ Sign sgn ∷ []) _ (term_reading (ts ++ (us ++ Sign sgn ∷ [])) v Hv (λ vs g. behind_more V.Goes ts us vs (Sign sgn) (goes vs g)) (λ vs g. behind_more TooLarge ts us vs (Sign sgn) (C (us ++ Sign sgn ∷ vs) (larger vs g))))
              (λ g vs k. (vs, append_assoc us (Sign sgn ∷ []) vs, k))

          by : (o q : Option State) → after_sign plus t ≡ o → after_sign minus t ≡ q → option_map_or (λ v. Some (added v)) o (option_map less q) ≡ Some r → Reading s0 V fault_of (Whole d) ts r
          by None None is not h = absurd cc
          by (Some v) q is not h =
              subst (Reading s0 V fault_of (Whole d) ts) (same_Some _ _ h)
              (then_reading s0 V fault_of (λ g. text.formed (text.within (sum F x g.0)) g.1) (behind_sign plus v is (λ vs g. K (us ++ Sign plus ∷ vs) (expression_plus d us vs x w g)) (λ vs g. large.behind_plus w.0 g))
              (λ g ws z k Hz. formed_reading s0 V ts ws (text.within (sum F x g)) z Hz (behind_ends plus g k) (λ none. C ws (subst (IsLargeExpression F meaning d) (sym k.1) (large.add w.0 k.2.0 (none_within none))))
              (λ y ok. let p = within-small (sum F x g) y ok in
              subst (Whole d y) (sym k.1) (subst (λ a. Whole d a (us ++ Sign plus ∷ k.0)) p.0 (grammar.add w.0 k.2.0 p.1, record { polynomial = IsPolynomial-sum L w.1.polynomial k.2.1.polynomial; within = p.1 })))))
          by None (Some v) not is h =
              subst (Reading s0 V fault_of (Whole d) ts) (same_Some _ _ h)
              (then_reading s0 V fault_of (λ g. text.formed (text.within (sum F x (negation F g.0))) g.1) (behind_sign minus v is (λ vs g. K (us ++ Sign minus ∷ vs) (expression_minus d us vs x w g)) (λ vs g. large.behind_minus w.0 g))
              (λ g ws z k Hz. formed_reading s0 V ts ws (text.within (sum F x (negation F g))) z Hz (behind_ends minus g k) (λ none. C ws (subst (IsLargeExpression F meaning d) (sym k.1) (large.less w.0 k.2.0 (none_within none))))
              (λ y ok. let p = within-small (sum F x (negation F g)) y ok in
              subst (Whole d y) (sym k.1) (subst (λ a. Whole d a (us ++ Sign minus ∷ k.0)) p.0 (grammar.less w.0 k.2.0 p.1, record { polynomial = IsPolynomial-sum L w.1.polynomial (IsPolynomial-negation L k.2.1.polynomial); within = p.1 })))))

      sum_reading : (ts : List Token) (t : State) → SoFar s0 V ts t → ((us : List Token) → GoesOn d us → V.Goes (ts ++ us)) → ((us : List Token) → IsLargeExpression F meaning d us → TooLarge (ts ++ us))
          → Reading s0 V fault_of (Whole d) ts (text.sum_at F meaning (text.parenthesised F meaning d) t)
      unfolding text.sum_at
      sum_reading ts t H K C =
          then_reading s0 V fault_of _ (first_reading ts t H K C)
          (λ f us u h Hu. repeat_reading s0 V (text.plus_term F meaning (text.parenthesised F meaning d)) (Whole d) ts (plus_reading ts K C) (length u.left) f us u h Hu)

    inside_reading : (d : ℕ) → Inside d
    unfolding text.parenthesised
    inside_reading zero ts u H narrow K C = stuck (late s0 V H (narrow, caused s0 V kinds.Large H (subst TooLarge (append-nil ts) (C [] large.nested))))
    inside_reading (suc d) ts u H narrow K C =
        then_reading s0 V fault_of _ (sum_reading d (inside_reading d) ts u H (λ us g. K us (inside_goes d us g)) (λ us g. C us (large.inside g)))
        (λ f us v h Hv. let here = K us (inside_goes d us (expression_ends d us f h)) in
        reading_sign s0 V fault_of closing _ _ Hv.reached here
        (λ x Hx. read (us ++ Sign closing ∷ []) (grammar.parentheses h.0, h.1) (regrouped s0 V ts us (Sign closing ∷ []) Hx)) (stuck (wrong_next s0 V Hv.reached here)))

    pub expression_reading : (ts : List Token) (t : State) → SoFar s0 V ts t → ((us : List Token) → GoesOn 64 us → V.Goes (ts ++ us)) → ((us : List Token) → IsLargeExpression F meaning 64 us → TooLarge (ts ++ us)) → Reading s0 V fault_of (Whole 64) ts (text.expression F meaning t)
    unfolding text.expression
    expression_reading ts t H K C = sum_reading 64 (inside_reading 64) ts t H K C
