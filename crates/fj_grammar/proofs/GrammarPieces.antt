-- Numbers, fractions and names that were read are those of the grammar.
use Rattle.std.proofs.Common.{◌≡◌, ℕ, zero, suc, ◌*◌, ◌^◌, ◌<◌, ◌≤◌, Bool, true, false, cond, ◌||◌, ◌&&◌, not, leb, ltb, eqb, List, [], ◌∷◌, ◌++◌, length, get_or, Option, Some, None, Ok, Err, refl, sym, ap, ◌∙◌, subst, arith, ◌≢◌, All}
use Rattle.std.specs.List.{slice_get}
use Rattle.std.specs.Option.{is_some, option_and_then, option_map, option_map_or}
use Rattle.std.specs.Str.{bytes_eq}
use Rattle.std.proofs.lemmas.Bool.{leb-false, ltb-false}
use Rattle.std.proofs.lemmas.List.{get_or-map}
use Rattle.std.proofs.lemmas.List.Quantifiers.{position-Some}
use Rattle.std.proofs.lemmas.Option.{get_or_from_slice_get, none-some, same_Some, slice_get-map}
use Rattle.std.proofs.lemmas.Slice.Eq.{bytes_eq-Decides}
use Rattle.fj_theory.specs.Fraction.{Fraction}
use Rattle.fj_text.specs.Grammar.{tokens_left}
use Rattle.fj_text.specs.State.{State}
use Rattle.fj_text.specs.Token.{Token, Word, Number, Sign}
use Rattle.fj_text.specs.Word.{place_of}
use Rattle.fj_script.specs.declared.fault.FaultKind.{FaultKind}
use Rattle.fj_script.specs.declared.fault.FaultKind.TheVariants as faults
use Rattle.fj_script.specs.declared.fault.LineFault.{LineFault}
use Rattle.fj_script.specs.declared.value.Kind.{Kind}
use Rattle.fj_script.specs.declared.value.Kind.TheVariants as kinds
use Rattle.fj_grammar.specs.Grammar as grammar
use Rattle.fj_grammar.specs.Grammar.{AreListed, HasTerms, IsCoordinate, IsExponent, IsLevel, IsNew, IsQuestion, IsRatio, IsRing, IsVariable, NamesIdeal, NamesNonconstant, NamesPoint, NamesPolynomial}
use Rattle.fj_script.specs.Items.{narrow, slash, word, word_of}
use Rattle.fj_script.specs.LineFault.{Answer, fault_at}
use Rattle.fj_script.specs.Names as names
use Rattle.fj_script.specs.Numbers as numbers
use Rattle.fj_script.specs.Session.{Session, Value, Poly, Ideal, Point, Let, is_nonconstant, kind}
use Rattle.fj_script.proofs.AcceptedYields.{Yields, yields_if, yields_option, yields_then}
use Rattle.fj_grammar.proofs.GrammarTokens.{Takes, narrow_takes, on_next, on_sign, word_of_takes, word_takes}
use Rattle.fj_script.proofs.NewNames.{unlike}
use Rattle.fj_script.proofs.Ratios.{Reduced, of_form, over_zero, reduced}

pub neither : (a b : Bool) → (a || b) ≡ false → (a ≡ false) × (b ≡ false)
neither true b e = absurd cc
neither false b e = (refl, e)

-- ---- numbers

abbrev pub Numbered : (ℕ → Type 0) → State → ℕ × State → Type 0
Numbered P s n = (tokens_left s ≡ Number n.0 ∷ tokens_left n.1) × P n.0

pub within_takes : (low high : ℕ) (s : State) → Yields (Numbered (λ n. (low ≤ n) × (n ≤ high)) s) (numbers.within low high s)
unfolding numbers.within
within_takes low high s =
    yields_then (λ n. (tokens_left s ≡ Number n.0 ∷ tokens_left n.1) × (n.0 < 2 ^ 32)) (Numbered (λ n. (low ≤ n) × (n ≤ high)) s) (narrow s) _ (narrow_takes s)
    (λ n h. yields_if (Numbered (λ n. (low ≤ n) × (n ≤ high)) s) (ltb n.0 low || ltb high n.0) _ _ (λ _. tt)
    (λ e. let both = neither (ltb n.0 low) (ltb high n.0) e in (h.0, (ltb-false n.0 low both.0, ltb-false high n.0 both.1))))

pub exponent_takes : (s : State) → Yields (Numbered (λ e. (0 ≤ e) × (e ≤ 12)) s) (numbers.exponent s)
unfolding numbers.exponent
exponent_takes s = within_takes 0 12 s

pub not_zero : (n : ℕ) → eqb n 0 ≡ false → 1 ≤ n
not_zero zero e = absurd cc
not_zero (suc n) e = omega arith

pub level_takes : (p : ℕ) (s : State) → Yields (Numbered (IsLevel p) s) (numbers.level p s)
unfolding numbers.level
level_takes p s =
    yields_then (λ n. (tokens_left s ≡ Number n.0 ∷ tokens_left n.1) × (n.0 < 2 ^ 32)) (Numbered (IsLevel p) s) (narrow s) _ (narrow_takes s)
    (λ n h. yields_if (Numbered (IsLevel p) s) (eqb n.0 0 || ltb 65536 (p ^ n.0)) _ _ (λ _. tt)
    (λ e. let both = neither (eqb n.0 0) (ltb 65536 (p ^ n.0)) e in (h.0, record { above_zero = not_zero n.0 both.0; low = ltb-false 65536 (p ^ n.0) both.1 })))

-- ---- fractions

not_true : (b : Bool) → not b ≡ true → b ≡ false
not_true true e = absurd cc
not_true false e = refl

above : (n : ℕ) → (true && eqb n 0) ≡ false → 0 < n
above zero e = absurd cc
above (suc n) e = omega arith

-- A fraction that a question takes: above 0 where that is wanted.
abbrev pub Taken : Bool → ℕ → ℕ → Fraction → Type 0
Taken positive m n t = IsExponent m n t × (positive ≡ true → 0 < t.numerator)

pub ratio_of_takes : (positive : Bool) (m n : ℕ) (s : State) → m < 2 ^ 32 → n < 2 ^ 32 → Yields (λ t. Taken positive m n t.0 × (t.1 ≡ s)) (numbers.ratio_of positive m n s)
unfolding numbers.is_exponent
ratio_of_takes positive m zero s fits other = subst (Yields (λ t. Taken positive m zero t.0 × (t.1 ≡ s))) (sym (over_zero positive m zero s refl)) tt
ratio_of_takes positive m (suc k) s fits other =
    let found = reduced m (suc k) (omega arith) in
    subst (Yields Q) (sym (of_form positive m (suc k) s found.0 (omega arith) found.1.form)) (by found.0 found.1)
  where
    Q : Fraction × State → Type 0
    Q t = Taken positive m (suc k) t.0 × (t.1 ≡ s)

    positively : (b : Bool) (t : Fraction) → (b && eqb t.numerator 0) ≡ false → b ≡ true → 0 < t.numerator
    positively true t e h = above t.numerator e
    positively false t e h = absurd cc

    by : (t : Fraction) → Reduced m (suc k) t → Yields Q (cond (numbers.is_exponent positive t) (Ok (t, s)) (Err (fault_at faults.Range s)))
    by t r =
        yields_if Q (numbers.is_exponent positive t) (Ok (t, s)) _
        (λ e.
        let all = not_true _ e in
        let two = neither (ltb 65535 t.denominator || ltb (8 * t.denominator) t.numerator) (positive && eqb t.numerator 0) all in
        let one = neither (ltb 65535 t.denominator) (ltb (8 * t.denominator) t.numerator) two.0 in
        ((record { numerator_fits = fits; denominator_fits = other; divides = omega arith; form = r.form; low = ltb-false _ _ one.1; short = ltb-false _ _ one.0 }, positively positive t two.1), refl))
        (λ _. tt)

pub ratio_takes : (positive : Bool) (s : State) → Yields (Takes (λ ts t. IsRatio ts t × (positive ≡ true → 0 < t.numerator)) s) (numbers.ratio positive s)
unfolding numbers.ratio
ratio_takes positive s =
    yields_then (λ n. (tokens_left s ≡ Number n.0 ∷ tokens_left n.1) × (n.0 < 2 ^ 32)) Goal (narrow s) _ (narrow_takes s)
    (λ m h. on_sign Goal slash m.1 _ _
    (λ t e. yields_then (λ n. (tokens_left t ≡ Number n.0 ∷ tokens_left n.1) × (n.0 < 2 ^ 32)) Goal (narrow t) _ (narrow_takes t)
    (λ n k. given (Number m.0 ∷ Sign slash ∷ Number n.0 ∷ []) m.0 n.0 n.1 (h.0 ∙ ap (λ us. Number m.0 ∷ us) (e ∙ ap (λ us. Sign slash ∷ us) k.0)) (λ t u. grammar.quotient u) (ratio_of_takes positive m.0 n.0 n.1 h.1 k.1)))
    (given (Number m.0 ∷ []) m.0 1 m.1 h.0 (λ t u. grammar.whole u) (ratio_of_takes positive m.0 1 m.1 h.1 (omega arith))))
  where
    Goal : Fraction × State → Type 0
    Goal = Takes (λ ts t. IsRatio ts t × (positive ≡ true → 0 < t.numerator)) s

    given : (ts : List Token) (m n : ℕ) (u : State) → tokens_left s ≡ ts ++ tokens_left u → ((t : Fraction) → IsExponent m n t → IsRatio ts t)
        → Yields (λ t. Taken positive m n t.0 × (t.1 ≡ u)) (numbers.ratio_of positive m n u) → Yields Goal (numbers.ratio_of positive m n u)
    given ts m n u e is = by (numbers.ratio_of positive m n u)
      where
        by : (r : Answer Fraction) → Yields (λ t. Taken positive m n t.0 × (t.1 ≡ u)) r → Yields Goal r
        by (Ok t) h = (ts, e ∙ ap (λ v. ts ++ tokens_left v) (sym h.1), (is t.0 h.0.0, h.0.1))
        by (Err fault) h = tt

-- ---- names

pub nothing_found : (o : Option ℕ) → is_some o ≡ false → None ≡ o
nothing_found None e = refl
nothing_found (Some i) e = absurd cc

-- A word that isn't a name.
pub new_word : (S : Session) (w : List ℕ) → (names.is_variable S w || is_some (place_of (names.declared_names S.values) w)) ≡ false → All (λ v. v ≢ w) S.variables × All (λ v. v.0 ≢ w) S.values
new_word S w e =
    let both = neither (names.is_variable S w) (is_some (place_of (names.declared_names S.values) w)) e in (
      λ i d inside. unlike w S.variables (nothing_found _ both.0) i d inside,
      λ i d inside same. unlike w (names.declared_names S.values) (nothing_found _ both.1) i [] (omega (arith, names_of S.values, inside)) (get_or-map (λ v. v.0) S.values i d [] inside ∙ same),
    )
  where
    names_of : (vs : List (List ℕ × Value)) → length (names.declared_names vs) ≡ length vs
    names_of [] = refl
    names_of (v ∷ vs) = ap suc (names_of vs)

pub new_name_takes : (S : Session) (s : State) → Yields (λ w. (tokens_left s ≡ Word w.0 ∷ tokens_left w.1) × IsNew S w.0) (names.new_name S s)
unfolding names.new_name
new_name_takes S s =
    yields_then (λ w. tokens_left s ≡ Word w.0 ∷ tokens_left w.1) Goal (word s) _ (word_takes s)
    (λ w h. yields_if Goal (names.is_variable S w.0 || is_some (place_of (names.declared_names S.values) w.0)) _ _ (λ _. tt)
    (λ e. yields_if Goal (leb 4096 (length S.values)) _ _ (λ _. tt)
    (λ few.
    let both = new_word S w.0 e in (
      h,
      record {
        no_variable = both.0;
        not_declared = both.1;
        few = leb-false _ _ few;
      },
    ))))
  where
    Goal : List ℕ × State → Type 0
    Goal w = (tokens_left s ≡ Word w.0 ∷ tokens_left w.1) × IsNew S w.0

-- A value that was declared by this name at this place.
abbrev pub Declares : Session → List ℕ → ℕ → Kind → Type 0
Declares S w i k = (v : Value) × (slice_get S.values i ≡ Some (w, v)) × (kind v ≡ k)

pub declared_at : (S : Session) (w : List ℕ) (i : ℕ) (k : Kind) → names.declared_as S w ≡ Some (i, k) → Declares S w i k
unfolding names.declared_as
declared_at S w i k h = by (place_of (names.declared_names S.values) w) refl h
  where
    at : (j : ℕ) → place_of (names.declared_names S.values) w ≡ Some j → (o : Option (List ℕ × Value)) → slice_get S.values j ≡ o → option_map {U = ℕ × Kind} (λ x. (j, kind x.1)) o ≡ Some (i, k) → Declares S w i k
    at j e None found h = absurd (none-some _ h)
    at j e (Some x) found h =
        let same = same_Some _ _ h in
        let called : get_or (names.declared_names S.values) j [] ≡ x.0 = get_or_from_slice_get (names.declared_names S.values) j x.0 [] (slice_get-map (λ v. v.0) S.values j ∙ ap (option_map (λ v. v.0)) found) in
        let word_is : get_or (names.declared_names S.values) j [] ≡ w = (bytes_eq-Decides _ _).0 (position-Some (λ name. bytes_eq name w) (names.declared_names S.values) j [] e).1 in
        (x.1, ap (λ u. slice_get S.values u.0) (sym same) ∙ found ∙ ap (λ v. Some (v, x.1)) (sym called ∙ word_is), ap (λ u. u.1) same)

    by : (o : Option ℕ) → place_of (names.declared_names S.values) w ≡ o → option_and_then {U = ℕ × Kind} (λ i. option_map {U = ℕ × Kind} (λ x. (i, kind x.1)) (slice_get S.values i)) o ≡ Some (i, k) → Declares S w i k
    by None e h = absurd (none-some _ h)
    by (Some j) e h = at j e (slice_get S.values j) refl h

module _ (S : Session) where
  abbrev pub IsDeclared : State → (ℕ × Kind) × State → Type 0
  IsDeclared s v = (w : List ℕ) × (tokens_left s ≡ Word w ∷ tokens_left v.1) × Declares S w v.0.0 v.0.1

  declared_by_takes : (s : State) (tok : Token) (u : State) → tokens_left s ≡ tok ∷ tokens_left u → Yields (IsDeclared s) (names.declared_by S tok u)
  unfolding names.declared_by
  declared_by_takes s tok u e =
      yields_then (λ w. tokens_left s ≡ Word w.0 ∷ tokens_left w.1) (IsDeclared s) (word_of tok u) _ (word_of_takes s tok u e)
      (λ w h. yields_option (IsDeclared s) (names.declared_as S w.0) _ _ (λ v found. (w.0, h, declared_at S w.0 v.0 v.1 found)) tt)

  pub declared_takes : (s : State) → Yields (IsDeclared s) (names.declared S s)
  unfolding names.declared
  declared_takes s = on_next (IsDeclared s) s (λ t. names.declared_by S t.0 t.1) _ (declared_by_takes s) (λ _. tt)

  abbrev pub Named : (List ℕ → ℕ → Type 0) → State → ℕ × State → Type 0
  Named Is s r = (w : List ℕ) × (tokens_left s ≡ Word w ∷ tokens_left r.1) × Is w r.0

  of_kind_takes : (Is : List ℕ → ℕ → Type 0) (taken : Kind → Option FaultKind) (s : State) → ((w : List ℕ) (i : ℕ) (v : Value) → slice_get S.values i ≡ Some (w, v) → taken (kind v) ≡ None → Is w i)
      → (v : (ℕ × Kind) × State) → IsDeclared s v → Yields (Named Is s) (names.of_kind taken v)
  of_kind_takes Is taken s each v h = by (taken v.0.1) refl
    where
      by : (o : Option FaultKind) → taken v.0.1 ≡ o → Yields {E = LineFault} (Named Is s) (option_map_or (λ fault. Err (fault_at fault v.1)) o (Ok (v.0.0, v.1)))
      by (Some fault) e = tt
      by None e = (h.0, h.1, each h.0 v.0.0 h.2.0 h.2.1 (ap taken h.2.2 ∙ e))

  pub as_polynomial : (w : List ℕ) (i : ℕ) (v : Value) → slice_get S.values i ≡ Some (w, v) → names.as_polynomial (kind v) ≡ None → NamesPolynomial S w i
  as_polynomial w i (Poly f) found e = record { terms = f; is = found }
  as_polynomial w i (Ideal fs) found e = absurd cc
  as_polynomial w i (Point cs) found e = absurd cc
  as_polynomial w i (Let b q) found e = absurd cc

  pub as_nonconstant : (w : List ℕ) (i : ℕ) (v : Value) → slice_get S.values i ≡ Some (w, v) → names.as_nonconstant (kind v) ≡ None → NamesNonconstant S w i
  as_nonconstant w i (Poly f) found e = by (is_nonconstant f) refl e
    where
      by : (b : Bool) → is_nonconstant f ≡ b → names.as_nonconstant (cond b kinds.Nonconstant kinds.Constant) ≡ None → NamesNonconstant S w i
      by true is e = record { terms = f; is = found; nonconstant = is }
      by false is e = absurd cc
  as_nonconstant w i (Ideal fs) found e = absurd cc
  as_nonconstant w i (Point cs) found e = absurd cc
  as_nonconstant w i (Let b q) found e = absurd cc

  pub as_ideal : (w : List ℕ) (i : ℕ) (v : Value) → slice_get S.values i ≡ Some (w, v) → names.as_ideal (kind v) ≡ None → NamesIdeal S w i
  as_ideal w i (Poly f) found e = by (is_nonconstant f) e
    where
      by : (b : Bool) → names.as_ideal (cond b kinds.Nonconstant kinds.Constant) ≡ None → NamesIdeal S w i
      by true e = absurd cc
      by false e = absurd cc
  as_ideal w i (Ideal fs) found e = record { value = Ideal fs; is = found; ideal = grammar.generated }
  as_ideal w i (Point cs) found e = absurd cc
  as_ideal w i (Let b q) found e = record { value = Let b q; is = found; ideal = grammar.answered }

  pub as_point : (w : List ℕ) (i : ℕ) (v : Value) → slice_get S.values i ≡ Some (w, v) → names.as_point (kind v) ≡ None → NamesPoint S w i
  as_point w i (Poly f) found e = by (is_nonconstant f) e
    where
      by : (b : Bool) → names.as_point (cond b kinds.Nonconstant kinds.Constant) ≡ None → NamesPoint S w i
      by true e = absurd cc
      by false e = absurd cc
  as_point w i (Ideal fs) found e = absurd cc
  as_point w i (Point cs) found e = record { coordinates = cs; is = found }
  as_point w i (Let b q) found e = absurd cc

  pub polynomial_takes : (s : State) → Yields (Named (NamesPolynomial S) s) (names.polynomial S s)
  unfolding names.polynomial
  polynomial_takes s = yields_then (IsDeclared s) (Named (NamesPolynomial S) s) (names.declared S s) _ (declared_takes s) (of_kind_takes (NamesPolynomial S) names.as_polynomial s as_polynomial)

  pub nonconstant_takes : (s : State) → Yields (Named (NamesNonconstant S) s) (names.nonconstant S s)
  unfolding names.nonconstant
  nonconstant_takes s = yields_then (IsDeclared s) (Named (NamesNonconstant S) s) (names.declared S s) _ (declared_takes s) (of_kind_takes (NamesNonconstant S) names.as_nonconstant s as_nonconstant)

  pub ideal_takes : (s : State) → Yields (Named (NamesIdeal S) s) (names.ideal S s)
  unfolding names.ideal
  ideal_takes s = yields_then (IsDeclared s) (Named (NamesIdeal S) s) (names.declared S s) _ (declared_takes s) (of_kind_takes (NamesIdeal S) names.as_ideal s as_ideal)

  pub point_by_takes : (s : State) (tok : Token) (u : State) → tokens_left s ≡ tok ∷ tokens_left u → Yields (Named (NamesPoint S) s) (names.point_by S tok u)
  unfolding names.point_by
  point_by_takes s tok u e = yields_then (IsDeclared s) (Named (NamesPoint S) s) (names.declared_by S tok u) _ (declared_by_takes s tok u e) (of_kind_takes (NamesPoint S) names.as_point s as_point)
