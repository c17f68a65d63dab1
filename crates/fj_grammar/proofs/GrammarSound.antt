-- An accepted session is one of the grammar.
use Rattle.std.proofs.Common.{◌≡◌, ◌≢◌, ℕ, zero, ◌+◌, ◌^◌, ◌<◌, ◌≤◌, Bool, true, false, cond, leb, ltb, List, [], ◌∷◌, ◌++◌, length, map, sum, codes, AllPairs, Contains, Option, Some, None, Result, Ok, Err, refl, sym, ap, ◌∙◌, subst, arith, zero-add, inl, inr, ◌⊎◌}
use Rattle.std.specs.Option.{is_some}
use Rattle.std.specs.Str.{bytes_eq}
use Rattle.std.proofs.lemmas.Bool.{leb-false, ltb-false}
use Rattle.std.proofs.lemmas.List.{append-nil, length-append, map-append}
use Rattle.std.proofs.lemmas.List.Sums.{sum_by-append}
use Rattle.std.proofs.lemmas.Option.{none-some, same_Some}
use Rattle.std.proofs.lemmas.Slice.Eq.{bytes_eq-Decides}
use Rattle.fj_coeff.specs.Field.{is_prime, primes}
use Rattle.fj_coeff.specs.PrimeField.{prime_field}
use Rattle.fj_coeff.specs.PrimeFieldLaws.{IsField-prime_field}
use Rattle.fj_coeff.specs.PrimeTest.{prime_listed}
use Rattle.fj_theory.specs.Fraction.{Fraction}
use Rattle.fj_theory.specs.Polynomial.{Polynomial}
use Rattle.fj_plain.specs.declared.order_name.OrderName.{OrderName}
use Rattle.fj_plain.specs.declared.order_name.OrderName.TheVariants as orders
use Rattle.fj_text.specs.Expression as text
use Rattle.fj_text.specs.Grammar.{tokens_left}
use Rattle.fj_text.specs.State.{State, state_at, state_from}
use Rattle.fj_text.specs.Token.{Token, Word, Number, Sign, Placed, closing, minus, opening, tokens_from}
use Rattle.fj_text.specs.Word.{place_of}
use Rattle.fj_text.proofs.Soundness.{expression-sound}
use Rattle.fj_script.specs.declared.ask.Ask.{Ask}
use Rattle.fj_script.specs.declared.ask.Ask.TheVariants as asks
use Rattle.fj_script.specs.declared.ask.OneIdeal.{OneIdeal}
use Rattle.fj_script.specs.declared.ask.OneIdeal.TheVariants as ones
use Rattle.fj_script.specs.declared.ask.TwoIdeals.{TwoIdeals}
use Rattle.fj_script.specs.declared.ask.TwoIdeals.TheVariants as twos
use Rattle.fj_script.specs.declared.ask.Frobenius.{Frobenius}
use Rattle.fj_script.specs.declared.ask.Frobenius.TheVariants as frobenius
use Rattle.fj_script.specs.declared.ask.TestIdeal.{TestIdeal}
use Rattle.fj_script.specs.declared.ask.TestIdeal.TheVariants as tests
use Rattle.fj_script.specs.declared.fault.Fault.{Fault}
use Rattle.fj_script.specs.declared.fault.LineFault.{LineFault}
use Rattle.fj_script.specs.declared.question.Question.{Question}
use Rattle.fj_script.specs.declared.question.Question.TheVariants as questions
use Rattle.fj_script.specs.declared.statement.Keyword.{Keyword}
use Rattle.fj_script.specs.declared.statement.Keyword.TheVariants as keywords
use Rattle.fj_script.specs.declared.value.Kind.{Kind}
use Rattle.fj_script.specs.declared.value.Kind.TheVariants as kinds
use Rattle.fj_script.specs.Declaration as declaration
use Rattle.fj_grammar.specs.Grammar as grammar
use Rattle.fj_grammar.specs.Grammar.{AreListed, AreSession, AreStatements, HasTerms, IsCoordinate, IsLevel, IsNew, IsQuestion, IsRatio, IsRing, IsSession, IsStatement, IsVariable, NamesIdeal, NamesNonconstant, NamesPoint, NamesPolynomial, tokens_of}
use Rattle.fj_script.specs.Items.{enclosed, equals, listed, narrow, sign, word, word_of}
use Rattle.fj_script.specs.LineFault.{Answer, ◌>>=◌}
use Rattle.fj_script.specs.Names as names
use Rattle.fj_script.specs.Numbers as numbers
use Rattle.fj_script.specs.Question as question
use Rattle.fj_script.specs.Question.{Target}
use Rattle.fj_script.specs.Ring as rings
use Rattle.fj_script.specs.Script as script
use Rattle.fj_script.specs.Session.{Session, Terms, Poly, Ideal, Point, Let, ask, declare, new_session, terms_in}
use Rattle.fj_script.specs.Statement as statements
use Rattle.fj_script.proofs.AcceptedQuestions.{arguments_answer, ideal_ask}
use Rattle.fj_script.proofs.AcceptedYields.{Yields, yielded, yields_anything, yields_both, yields_if, yields_option, yields_then}
use Rattle.fj_grammar.proofs.GrammarPieces.{IsDeclared, Named, Numbered, as_ideal, as_point, declared_takes, exponent_takes, ideal_takes, level_takes, new_name_takes, nonconstant_takes, nothing_found, point_by_takes, polynomial_takes, ratio_takes, within_takes}
use Rattle.fj_grammar.proofs.GrammarTokens.{Takes, end_takes, enclosed_takes, listed_takes, narrow_takes, number_takes, on_next, on_sign, sign_takes, word_of_takes, word_takes}
use Rattle.fj_grammar.proofs.Meanings.{among_variables, expression_along}
use Rattle.fj_script.proofs.NewNames.{pairs_more, unlike}

-- ---- words

-- A word that is this one, or one of the others.
chosen : {A : Type 0} (w c : List ℕ) (a : A) (rest : Option A) (Q : A → Type 0) → (w ≡ c → Q a) → ((x : A) → rest ≡ Some x → Q x) → (x : A) → cond (bytes_eq w c) (Some a) rest ≡ Some x → Q x
chosen {A} w c a rest Q here others x = by (bytes_eq w c) refl
  where
    by : (b : Bool) → bytes_eq w c ≡ b → cond b (Some a) rest ≡ Some x → Q x
    by true is e = subst Q (same_Some _ _ e) (here ((bytes_eq-Decides w c).0 is))
    by false is e = others x e

unfoldable pub keyword_word : Keyword → List ℕ
keyword_word keywords.Ring = codes "ring"
keyword_word keywords.Order = codes "order"
keyword_word keywords.Budget = codes "budget"
keyword_word keywords.Poly = codes "poly"
keyword_word keywords.Ideal = codes "ideal"
keyword_word keywords.Point = codes "point"
keyword_word keywords.Let = codes "let"
keyword_word keywords.Ask = codes "ask"

pub keyword_is : (w : List ℕ) (k : Keyword) → statements.keyword_of w ≡ Some k → w ≡ keyword_word k
unfolding statements.keyword_of keyword_word
keyword_is w =
    let Q : Keyword → Type 0 = λ k. w ≡ keyword_word k in
    chosen w (codes "ring") keywords.Ring _ Q (λ e. e) (chosen w (codes "order") keywords.Order _ Q (λ e. e) (chosen w (codes "budget") keywords.Budget _ Q (λ e. e) (chosen w (codes "poly") keywords.Poly _ Q (λ e. e)
    (chosen w (codes "ideal") keywords.Ideal _ Q (λ e. e) (chosen w (codes "point") keywords.Point _ Q (λ e. e) (chosen w (codes "let") keywords.Let _ Q (λ e. e) (chosen w (codes "ask") keywords.Ask _ Q (λ e. e)
    (λ x e. absurd (none-some _ e)))))))))

unfoldable pub ask_word : Ask → List ℕ
ask_word asks.Parts = codes "parts"
ask_word asks.Member = codes "member"
ask_word (asks.OneIdeal ones.Basis) = codes "basis"
ask_word (asks.OneIdeal ones.Split) = codes "split"
ask_word (asks.TwoIdeals twos.Same) = codes "same"
ask_word (asks.TwoIdeals twos.Sum) = codes "sum"
ask_word (asks.TwoIdeals twos.Product) = codes "product"
ask_word (asks.TwoIdeals twos.Meet) = codes "meet"
ask_word (asks.TwoIdeals twos.Colon) = codes "colon"
ask_word (asks.Frobenius frobenius.Power) = codes "power"
ask_word (asks.Frobenius frobenius.Root) = codes "root"
ask_word (asks.TestIdeal tests.Test) = codes "test"
ask_word (asks.TestIdeal tests.Left) = codes "left"
ask_word (asks.TestIdeal tests.IsJump) = codes "isjump"
ask_word (asks.TestIdeal tests.Regular) = codes "regular"
ask_word asks.Jumps = codes "jumps"
ask_word asks.Nu = codes "nu"
ask_word asks.Threshold = codes "threshold"
ask_word asks.Pure = codes "fpure"
ask_word asks.Compatible = codes "compatible"

pub ask_is : (w : List ℕ) (a : Ask) → question.ask_of w ≡ Some a → w ≡ ask_word a
unfolding question.ask_of ask_word
ask_is w =
    let Q : Ask → Type 0 = λ a. w ≡ ask_word a in
    chosen w (codes "parts") asks.Parts _ Q (λ e. e) (chosen w (codes "basis") (asks.OneIdeal ones.Basis) _ Q (λ e. e) (chosen w (codes "member") asks.Member _ Q (λ e. e) (chosen w (codes "same") (asks.TwoIdeals twos.Same) _ Q (λ e. e)
    (chosen w (codes "sum") (asks.TwoIdeals twos.Sum) _ Q (λ e. e) (chosen w (codes "product") (asks.TwoIdeals twos.Product) _ Q (λ e. e) (chosen w (codes "meet") (asks.TwoIdeals twos.Meet) _ Q (λ e. e) (chosen w (codes "colon") (asks.TwoIdeals twos.Colon) _ Q (λ e. e)
    (chosen w (codes "power") (asks.Frobenius frobenius.Power) _ Q (λ e. e) (chosen w (codes "root") (asks.Frobenius frobenius.Root) _ Q (λ e. e) (chosen w (codes "test") (asks.TestIdeal tests.Test) _ Q (λ e. e) (chosen w (codes "left") (asks.TestIdeal tests.Left) _ Q (λ e. e)
    (chosen w (codes "isjump") (asks.TestIdeal tests.IsJump) _ Q (λ e. e) (chosen w (codes "regular") (asks.TestIdeal tests.Regular) _ Q (λ e. e) (chosen w (codes "jumps") asks.Jumps _ Q (λ e. e) (chosen w (codes "nu") asks.Nu _ Q (λ e. e)
    (chosen w (codes "threshold") asks.Threshold _ Q (λ e. e) (chosen w (codes "fpure") asks.Pure _ Q (λ e. e) (chosen w (codes "split") (asks.OneIdeal ones.Split) _ Q (λ e. e) (chosen w (codes "compatible") asks.Compatible _ Q (λ e. e)
    (λ x e. absurd (none-some _ e)))))))))))))))))))))

-- ---- questions

module _ (S : Session) where
  abbrev Asks : Ask → State → Question × State → Type 0
  Asks a s q = Takes (λ ts q. IsQuestion S (Word (ask_word a) ∷ ts) q) s q

  -- a number and a name
  numbered_name : (a : Ask) (s : State) (P : ℕ → Type 0) (Is : List ℕ → ℕ → Type 0) (number : Answer ℕ) (name : State → Answer ℕ) (q : ℕ → ℕ → Question)
      → Yields (Numbered P s) number → ((t : State) → Yields (Named S Is t) (name t)) → ((w : List ℕ) (e i : ℕ) → P e → Is w i → IsQuestion S (Word (ask_word a) ∷ Number e ∷ Word w ∷ []) (q e i))
      → Yields (Asks a s) (number >>= λ e. name e.1 >>= λ f. Ok (q e.0 f.0, f.1))
  numbered_name a s P Is number name q h k is =
      yields_then (Numbered P s) (Asks a s) number _ h
      (λ e m. yields_then (Named S Is e.1) (Asks a s) (name e.1) _ (k e.1)
      (λ f n. (Number e.0 ∷ Word n.0 ∷ [], m.0 ∙ ap (λ us. Number e.0 ∷ us) n.1, is n.0 e.0 f.0 m.1 n.2)))

  -- two names
  two_names : (a : Ask) (s : State) (Is Are : List ℕ → ℕ → Type 0) (one : State → Answer ℕ) (other : State → Answer ℕ) (q : ℕ → ℕ → Question)
      → ((t : State) → Yields (Named S Is t) (one t)) → ((t : State) → Yields (Named S Are t) (other t)) → ((v w : List ℕ) (i j : ℕ) → Is v i → Are w j → IsQuestion S (Word (ask_word a) ∷ Word v ∷ Word w ∷ []) (q i j))
      → Yields (Asks a s) (one s >>= λ i. other i.1 >>= λ j. Ok (q i.0 j.0, j.1))
  two_names a s Is Are one other q h k is =
      yields_then (Named S Is s) (Asks a s) (one s) _ (h s)
      (λ i m. yields_then (Named S Are i.1) (Asks a s) (other i.1) _ (k i.1)
      (λ j n. (Word m.0 ∷ Word n.0 ∷ [], m.1 ∙ ap (λ us. Word m.0 ∷ us) n.1, is m.0 n.0 i.0 j.0 m.2 n.2)))

  -- a number and two names
  numbered_names : (a : Ask) (s : State) (P : ℕ → Type 0) (Is Are : List ℕ → ℕ → Type 0) (number : Answer ℕ) (one : State → Answer ℕ) (other : State → Answer ℕ) (q : ℕ → ℕ → ℕ → Question)
      → Yields (Numbered P s) number → ((t : State) → Yields (Named S Is t) (one t)) → ((t : State) → Yields (Named S Are t) (other t))
      → ((v w : List ℕ) (e i j : ℕ) → P e → Is v i → Are w j → IsQuestion S (Word (ask_word a) ∷ Number e ∷ Word v ∷ Word w ∷ []) (q e i j))
      → Yields (Asks a s) (number >>= λ e. one e.1 >>= λ i. other i.1 >>= λ j. Ok (q e.0 i.0 j.0, j.1))
  numbered_names a s P Is Are number one other q g h k is =
      yields_then (Numbered P s) (Asks a s) number _ g
      (λ e l. yields_then (Named S Is e.1) (Asks a s) (one e.1) _ (h e.1)
      (λ i m. yields_then (Named S Are i.1) (Asks a s) (other i.1) _ (k i.1)
      (λ j n. (Number e.0 ∷ Word m.0 ∷ Word n.0 ∷ [], l.0 ∙ ap (λ us. Number e.0 ∷ us) (m.1 ∙ ap (λ us. Word m.0 ∷ us) n.1), is m.0 n.0 e.0 i.0 j.0 l.1 m.2 n.2))))

  of_ideal_takes : (which : OneIdeal) (s : State) → Yields (Asks (asks.OneIdeal which) s) (question.of_ideal which S s)
  unfolding question.of_ideal ask_word
  of_ideal_takes which s =
      yields_then (Named S (NamesIdeal S) s) (Asks (asks.OneIdeal which) s) (names.ideal S s) _ (ideal_takes S s) (λ j h. (Word h.0 ∷ [], h.1, by which h.0 j.0 h.2))
    where
      by : (which : OneIdeal) (w : List ℕ) (j : ℕ) → NamesIdeal S w j → IsQuestion S (Word (ask_word (asks.OneIdeal which)) ∷ Word w ∷ []) (question.about_ideal which j)
      by ones.Basis w j h = grammar.basis h
      by ones.Split w j h = grammar.split h

  of_two_takes : (which : TwoIdeals) (s : State) → Yields (Asks (asks.TwoIdeals which) s) (question.of_two_ideals which S s)
  unfolding question.of_two_ideals ask_word
  of_two_takes which s = two_names (asks.TwoIdeals which) s (NamesIdeal S) (NamesIdeal S) (names.ideal S) (names.ideal S) (question.about_two_ideals which) (ideal_takes S) (ideal_takes S) (by which)
    where
      by : (which : TwoIdeals) (v w : List ℕ) (j k : ℕ) → NamesIdeal S v j → NamesIdeal S w k → IsQuestion S (Word (ask_word (asks.TwoIdeals which)) ∷ Word v ∷ Word w ∷ []) (question.about_two_ideals which j k)
      by twos.Same v w j k m n = grammar.same m n
      by twos.Sum v w j k m n = grammar.sum m n
      by twos.Product v w j k m n = grammar.product m n
      by twos.Meet v w j k m n = grammar.meet m n
      by twos.Colon v w j k m n = grammar.colon m n

  of_frobenius_takes : (which : Frobenius) (s : State) → Yields (Asks (asks.Frobenius which) s) (question.of_frobenius which S s)
  unfolding question.of_frobenius ask_word
  of_frobenius_takes which s = numbered_name (asks.Frobenius which) s (λ e. (0 ≤ e) × (e ≤ 12)) (NamesIdeal S) (numbers.exponent s) (names.ideal S) (question.about_frobenius which) (exponent_takes s) (ideal_takes S) (by which)
    where
      by : (which : Frobenius) (w : List ℕ) (e j : ℕ) → (0 ≤ e) × (e ≤ 12) → NamesIdeal S w j → IsQuestion S (Word (ask_word (asks.Frobenius which)) ∷ Number e ∷ Word w ∷ []) (question.about_frobenius which e j)
      by frobenius.Power w e j small h = grammar.power small.1 h
      by frobenius.Root w e j small h = grammar.root small.1 h

  of_test_takes : (which : TestIdeal) (s : State) → Yields (Asks (asks.TestIdeal which) s) (question.of_test_ideal which S s)
  unfolding question.of_test_ideal ask_word
  of_test_takes which s =
      yields_then (Named S (NamesNonconstant S) s) (Asks (asks.TestIdeal which) s) (names.nonconstant S s) _ (nonconstant_takes S s)
      (λ f h. yields_then (Takes (λ ts t. IsRatio ts t × (question.is_above_zero which ≡ true → 0 < t.numerator)) f.1) (Asks (asks.TestIdeal which) s) (numbers.ratio (question.is_above_zero which) f.1) _ (ratio_takes (question.is_above_zero which) f.1)
      (λ t k. (Word h.0 ∷ k.0, h.1 ∙ ap (λ us. Word h.0 ∷ us) k.1, by which h.0 k.0 f.0 t.0 h.2 k.2.0 k.2.1)))
    where
      by : (which : TestIdeal) (w : List ℕ) (ts : List Token) (f : ℕ) (t : Fraction) → NamesNonconstant S w f → IsRatio ts t → (question.is_above_zero which ≡ true → 0 < t.numerator)
          → IsQuestion S (Word (ask_word (asks.TestIdeal which)) ∷ Word w ∷ ts) (question.about_test_ideal which f t)
      by tests.Test w ts f t h k above = grammar.test h k
      by tests.Left w ts f t h k above = grammar.left h k (above refl)
      by tests.IsJump w ts f t h k above = grammar.isjump h k (above refl)
      by tests.Regular w ts f t h k above = grammar.regular h k

  abbrev IsTarget : List ℕ → Target → Type 0
  IsTarget w (question.Ideal j) = NamesIdeal S w j
  IsTarget w (question.Point at) = NamesPoint S w at

  target_takes : (s : State) → Yields (λ x. (w : List ℕ) × (tokens_left s ≡ Word w ∷ tokens_left x.1) × IsTarget w x.0) (question.target_at S s)
  unfolding question.target_at
  target_takes s = yields_then (IsDeclared S s) Q (names.declared S s) _ (declared_takes S s) (λ v h. by v.0.0 v.0.1 v.1 h)
    where
      Q : Target × State → Type 0
      Q x = (w : List ℕ) × (tokens_left s ≡ Word w ∷ tokens_left x.1) × IsTarget w x.0

      by : (i : ℕ) (k : Kind) (u : State) → IsDeclared S s ((i, k), u) → Yields Q (question.target_of ((i, k), u))
      by i kinds.Ideal u h = (h.0, h.1, as_ideal S h.0 i h.2.0 h.2.1 (ap names.as_ideal h.2.2))
      by i kinds.Point u h = (h.0, h.1, as_point S h.0 i h.2.0 h.2.1 (ap names.as_point h.2.2))
      by i kinds.Nonconstant u h = tt
      by i kinds.Constant u h = tt

  threshold_takes : (s : State) → Yields (Asks asks.Threshold s) (question.threshold S s)
  unfolding question.threshold ask_word
  threshold_takes s =
      yields_then (Named S (NamesNonconstant S) s) (Asks asks.Threshold s) (names.nonconstant S s) _ (nonconstant_takes S s)
      (λ f h. yields_then (λ x. (w : List ℕ) × (tokens_left f.1 ≡ Word w ∷ tokens_left x.1) × IsTarget w x.0) (Asks asks.Threshold s) (question.target_at S f.1) _ (target_takes f.1)
      (λ x k. yields_then (Numbered (IsLevel S.prime) x.1) (Asks asks.Threshold s) (numbers.level S.prime x.1) _ (level_takes S.prime x.1)
      (λ e l. (Word h.0 ∷ Word k.0 ∷ Number e.0 ∷ [], h.1 ∙ ap (λ us. Word h.0 ∷ us) (k.1 ∙ ap (λ us. Word k.0 ∷ us) l.0), by h.0 k.0 f.0 x.0 e.0 h.2 k.2 l.1))))
    where
      by : (v w : List ℕ) (f : ℕ) (x : Target) (e : ℕ) → NamesNonconstant S v f → IsTarget w x → IsLevel S.prime e → IsQuestion S (Word (codes "threshold") ∷ Word v ∷ Word w ∷ Number e ∷ []) (question.threshold_of f x e)
      by v w f (question.Ideal j) e h k l = grammar.threshold h k l
      by v w f (question.Point at) e h k l = grammar.threshold_at h k l

  pure_takes : (s : State) → Yields (Asks asks.Pure s) (question.pure S s)
  unfolding question.pure ask_word
  pure_takes s =
      yields_then (Named S (NamesIdeal S) s) (Asks asks.Pure s) (names.ideal S s) _ (ideal_takes S s)
      (λ j h. on_next (Asks asks.Pure s) j.1 _ _
      (λ tok u e. yields_then (Named S (NamesPoint S) j.1) (Asks asks.Pure s) (names.point_by S tok u) _ (point_by_takes S j.1 tok u e)
      (λ at k. (Word h.0 ∷ Word k.0 ∷ [], h.1 ∙ ap (λ us. Word h.0 ∷ us) k.1, grammar.fpure_at h.2 k.2)))
      (λ none. (Word h.0 ∷ [], h.1, grammar.fpure h.2)))

  jumps_takes : (s : State) → Yields (Asks asks.Jumps s) (question.jumps S s)
  unfolding question.jumps ask_word
  jumps_takes s =
      yields_then (Named S (NamesNonconstant S) s) (Asks asks.Jumps s) (names.nonconstant S s) _ (nonconstant_takes S s)
      (λ f h. yields_then (Numbered (IsLevel S.prime) f.1) (Asks asks.Jumps s) (numbers.level S.prime f.1) _ (level_takes S.prime f.1)
      (λ e l. (Word h.0 ∷ Number e.0 ∷ [], h.1 ∙ ap (λ us. Word h.0 ∷ us) l.0, grammar.jumps h.2 l.1)))

  arguments_takes : (a : Ask) (s : State) → Yields (Asks a s) (question.arguments a S s)
  unfolding question.arguments question.parts question.member question.nu question.compatible ask_word
  arguments_takes asks.Parts s = numbered_name asks.Parts s (λ e. (0 ≤ e) × (e ≤ 12)) (NamesPolynomial S) (numbers.exponent s) (names.polynomial S) (λ e f. questions.Parts e f) (exponent_takes s) (polynomial_takes S) (λ w e i small h. grammar.parts small.1 h)
  arguments_takes asks.Member s = two_names asks.Member s (NamesPolynomial S) (NamesIdeal S) (names.polynomial S) (names.ideal S) (λ f j. questions.Member f j) (polynomial_takes S) (ideal_takes S) (λ v w i j m n. grammar.member m n)
  arguments_takes (asks.OneIdeal which) s = of_ideal_takes which s
  arguments_takes (asks.TwoIdeals which) s = of_two_takes which s
  arguments_takes (asks.Frobenius which) s = of_frobenius_takes which s
  arguments_takes (asks.TestIdeal which) s = of_test_takes which s
  arguments_takes asks.Jumps s = jumps_takes s
  arguments_takes asks.Nu s =
      numbered_names asks.Nu s (λ e. (0 ≤ e) × (e ≤ 12)) (NamesNonconstant S) (NamesIdeal S) (numbers.exponent s) (names.nonconstant S) (names.ideal S) (λ e f j. questions.Nu e f j) (exponent_takes s) (nonconstant_takes S) (ideal_takes S)
      (λ v w e i j small m n. grammar.nu small.1 m n)
  arguments_takes asks.Threshold s = threshold_takes s
  arguments_takes asks.Pure s = pure_takes s
  arguments_takes asks.Compatible s =
      numbered_names asks.Compatible s (λ e. (0 ≤ e) × (e ≤ 12)) (NamesPolynomial S) (NamesIdeal S) (numbers.exponent s) (names.polynomial S) (names.ideal S) (λ e u j. questions.Compatible e u j) (exponent_takes s) (polynomial_takes S) (ideal_takes S)
      (λ v w e i j small m n. grammar.compatible small.1 m n)

  -- the words of some questions
  abbrev AreAsked : (List ℕ → Option Ask) → Type 0
  AreAsked named = (w : List ℕ) (a : Ask) → named w ≡ Some a → question.ask_of w ≡ Some a

  question_by_takes : (P : Question → Type 0) (named : List ℕ → Option Ask) → AreAsked named → ((w : List ℕ) (a : Ask) → named w ≡ Some a → (s : State) → Yields (λ q. P q.0) (question.arguments a S s)) → (s : State)
      → Yields (Takes (λ ts q. IsQuestion S ts q × P q) s) (question.question_by named S s)
  unfolding question.question_by
  question_by_takes P named asked also s =
      yields_then (λ w. tokens_left s ≡ Word w.0 ∷ tokens_left w.1) (Takes (λ ts q. IsQuestion S ts q × P q) s) (word s) _ (word_takes s)
      (λ w h. yields_option (Takes (λ ts q. IsQuestion S ts q × P q) s) (named w.0) _ _
      (λ a e. yields_on (question.arguments a S w.1) (yields_both (Asks a w.1) (λ q. P q.0) (question.arguments a S w.1) (arguments_takes a w.1) (also w.0 a e w.1))
      (λ q k. (Word (ask_word a) ∷ k.0.0, h ∙ ap (λ v. Word v ∷ tokens_left w.1) (ask_is w.0 a (asked w.0 a e)) ∙ ap (λ us. Word (ask_word a) ∷ us) k.0.1, (k.0.2, k.1)))) tt)
    where
      yields_on : {P Q : Question × State → Type 0} (r : Answer Question) → Yields P r → ((x : Question × State) → P x → Q x) → Yields Q r
      yields_on (Ok x) h f = f x h
      yields_on (Err fault) h f = tt

  question_takes : (s : State) → Yields (Takes (λ ts q. IsQuestion S ts q × Unit {0}) s) (question.question_at S s)
  unfolding question.question_at
  question_takes s = question_by_takes (λ q. Unit {0}) question.ask_of (λ w a e. e) (λ w a e t. yields_anything (question.arguments a S t)) s

  ideal_question_takes : (s : State) → Yields (Takes (λ ts q. IsQuestion S ts q × (question.answers_ideal q ≡ true)) s) (question.ideal_question_at S s)
  unfolding question.ideal_question_at
  ideal_question_takes s = question_by_takes (λ q. question.answers_ideal q ≡ true) question.ideal_ask_of (λ w a e. (ideal_ask w a e).0) (λ w a e t. arguments_answer S a (ideal_ask w a e).1 t) s

-- ---- declarations

module _ (S : Session) (known : Contains primes S.prime) where
  expression_takes : (s : State) → Yields (Takes (HasTerms S) s) (declaration.expression S s)
  unfolding declaration.expression
  expression_takes s = by (text.expression (prime_field S.prime) (names.meaning S) s) refl
    where
      by : (r : text.Answer Polynomial) → text.expression (prime_field S.prime) (names.meaning S) s ≡ r → Yields (Takes (HasTerms S) s) (declaration.of_text r)
      by (Ok (f, t)) e = let x = expression-sound (IsField-prime_field S.prime known) (names.meaning S) s t f e in (x.0, x.1, grammar.terms (expression_along (among_variables S) x.2))
      by (Err fault) e = tt

  counted_takes : (terms : ℕ) (s : State) → Yields (λ f. Takes (HasTerms S) s f × (terms + length f.0 ≤ 1000000)) (declaration.counted S terms s)
  unfolding declaration.counted
  counted_takes terms s =
      yields_then (Takes (HasTerms S) s) (λ f. Takes (HasTerms S) s f × (terms + length f.0 ≤ 1000000)) (declaration.expression S s) _ (expression_takes s)
      (λ f h. yields_if (λ f. Takes (HasTerms S) s f × (terms + length f.0 ≤ 1000000)) (ltb 1000000 (terms + length f.0)) _ _ (λ _. tt) (λ few. (h, ltb-false _ _ few)))

  abbrev Begins : State → List ℕ × State → Type 0
  Begins s name = (tokens_left s ≡ Word name.0 ∷ Sign equals ∷ tokens_left name.1) × IsNew S name.0

  name_equals_takes : (s : State) → Yields (Begins s) (declaration.name_equals S s)
  unfolding declaration.name_equals
  name_equals_takes s =
      yields_then (λ w. (tokens_left s ≡ Word w.0 ∷ tokens_left w.1) × IsNew S w.0) (Begins s) (names.new_name S s) _ (new_name_takes S s)
      (λ name h. yields_then (λ t. tokens_left name.1 ≡ Sign equals ∷ tokens_left t) (Begins s) (sign equals name.1) _ (sign_takes equals name.1)
      (λ t e. (h.0 ∙ ap (λ us. Word name.0 ∷ us) e, h.1)))

  -- A line that begins with this word makes a session.
  abbrev Makes : List ℕ → State → Session → Type 0
  Makes w s T = IsStatement S (Word w ∷ tokens_left s) T

  made : (w : List ℕ) (s : State) (ts : List Token) (T : Session) → tokens_left s ≡ ts → IsStatement S (Word w ∷ ts) T → Makes w s T
  made w s ts T e h = subst (λ us. IsStatement S (Word w ∷ us) T) (sym e) h

  poly_takes : (s : State) → Yields (Makes (codes "poly") s) (declaration.poly S s)
  unfolding declaration.poly
  poly_takes s =
      yields_then (Begins s) (Makes (codes "poly") s) (declaration.name_equals S s) _ (name_equals_takes s)
      (λ name h. yields_then (λ f. Takes (HasTerms S) name.1 f × (S.terms + length f.0 ≤ 1000000)) (Makes (codes "poly") s) (declaration.counted S S.terms name.1) _ (counted_takes S.terms name.1)
      (λ f k. end_takes (Makes (codes "poly") s) (declare S name.0 (Poly f.0) (length f.0)) f.1
      (λ e. made (codes "poly") s (Word name.0 ∷ Sign equals ∷ k.0.0) _ (h.0 ∙ ap (λ us. Word name.0 ∷ Sign equals ∷ us) (k.0.1 ∙ ap (λ us. k.0.0 ++ us) e ∙ append-nil k.0.0)) (grammar.poly h.1 k.0.2 k.1))))

  -- The generators before it fit, and so do they with a generator more.
  abbrev FewTerms : List Terms → Type 0
  FewTerms fs = (length fs ≤ 256) × (1 ≤ length fs → S.terms + terms_in fs ≤ 1000000)

  terms_more : (fs : List Terms) (f : Terms) → terms_in (fs ++ f ∷ []) ≡ terms_in fs + length f
  terms_more fs f = ap sum (map-append length fs (f ∷ [])) ∙ sum_by-append (λ n. n) (map length fs) (length f ∷ []) ∙ ap (λ n. terms_in fs + n) (zero-add (length f))

  generator_takes : (fs : List Terms) (s : State) → FewTerms fs → Yields (λ r. Takes (HasTerms S) s r × FewTerms (fs ++ r.0 ∷ [])) (declaration.generator S fs s)
  unfolding declaration.generator
  generator_takes fs s fits =
      yields_if Q (leb 256 (length fs)) _ _ (λ _. tt)
      (λ few. yields_on (declaration.counted S (S.terms + terms_in fs) s) (counted_takes (S.terms + terms_in fs) s)
      (λ f h. (h.0, (omega (arith, length-append fs (f.0 ∷ []), leb-false _ _ few), λ some. omega (arith, terms_more fs f.0, h.1)))))
    where
      Q : Terms × State → Type 0
      Q r = Takes (HasTerms S) s r × FewTerms (fs ++ r.0 ∷ [])

      yields_on : {P Q : Terms × State → Type 0} (r : Answer Terms) → Yields P r → ((x : Terms × State) → P x → Q x) → Yields Q r
      yields_on (Ok x) h f = f x h
      yields_on (Err fault) h f = tt

  some_item : {A : Type 0} {Is : List Token → A → Type 0} {ts : List Token} (xs : List A) → AreListed Is ts xs → 1 ≤ length xs
  some_item xs (grammar.last h) = omega arith
  some_item xs (grammar.more h l) = omega arith

  -- a name, `=` and a list in parentheses, to the end of the line
  list_at_end : (w : List ℕ) (s t u : State) (name : List ℕ) (ts : List Token) (T : Session) → tokens_left s ≡ Word name ∷ Sign equals ∷ tokens_left t → tokens_left t ≡ Sign opening ∷ ts ++ Sign closing ∷ tokens_left u → tokens_left u ≡ []
      → IsStatement S (Word w ∷ Word name ∷ Sign equals ∷ Sign opening ∷ ts ++ Sign closing ∷ []) T → Makes w s T
  list_at_end w s t u name ts T begins encloses ends h =
      made w s (Word name ∷ Sign equals ∷ Sign opening ∷ ts ++ Sign closing ∷ []) T (begins ∙ ap (λ us. Word name ∷ Sign equals ∷ us) (encloses ∙ ap (λ us. Sign opening ∷ ts ++ Sign closing ∷ us) ends)) h

  ideal_takes_line : (s : State) → Yields (Makes (codes "ideal") s) (declaration.ideal S s)
  unfolding declaration.ideal
  ideal_takes_line s =
      yields_then (Begins s) (Makes (codes "ideal") s) (declaration.name_equals S s) _ (name_equals_takes s)
      (λ name h. yields_then _ (Makes (codes "ideal") s) (enclosed (listed (declaration.generator S)) name.1) _
      (enclosed_takes (λ ts fs. AreListed (HasTerms S) ts fs × FewTerms fs) (listed (declaration.generator S)) (listed_takes (HasTerms S) FewTerms (declaration.generator S) generator_takes (omega arith, λ none. absurd (omega arith))) name.1)
      (λ fs k. end_takes (Makes (codes "ideal") s) (declare S name.0 (Ideal fs.0) (terms_in fs.0)) fs.1
      (λ e. list_at_end (codes "ideal") s name.1 fs.1 name.0 k.0 _ h.0 k.1 e (grammar.ideal h.1 k.2.0 k.2.1.0 (k.2.1.1 (some_item fs.0 k.2.0))))))

  constant_takes : (s : State) → Yields (Takes (IsCoordinate S.prime) s) (declaration.constant S.prime s)
  unfolding declaration.constant
  constant_takes s =
      on_sign (Takes (IsCoordinate S.prime) s) minus s _ _
      (λ t e. yields_then (λ n. (tokens_left t ≡ Number n.0 ∷ tokens_left n.1) × (n.0 < 2 ^ 32)) (Takes (IsCoordinate S.prime) s) (narrow t) _ (narrow_takes t)
      (λ n h. (Sign minus ∷ Number n.0 ∷ [], e ∙ ap (λ us. Sign minus ∷ us) h.0, grammar.negative h.1)))
      (yields_then (λ n. (tokens_left s ≡ Number n.0 ∷ tokens_left n.1) × (n.0 < 2 ^ 32)) (Takes (IsCoordinate S.prime) s) (narrow s) _ (narrow_takes s)
      (λ n h. (Number n.0 ∷ [], h.0, grammar.number h.1)))

  abbrev FewCoordinates : List ℕ → Type 0
  FewCoordinates cs = length cs ≤ length S.variables

  coordinate_takes : (cs : List ℕ) (s : State) → FewCoordinates cs → Yields (λ r. Takes (IsCoordinate S.prime) s r × FewCoordinates (cs ++ r.0 ∷ [])) (declaration.coordinate S cs s)
  unfolding declaration.coordinate
  coordinate_takes cs s fits =
      yields_if Q (leb (length S.variables) (length cs)) _ _ (λ _. tt)
      (λ few. yields_on (declaration.constant S.prime s) (constant_takes s) (λ c h. (h, omega (arith, length-append cs (c.0 ∷ []), leb-false _ _ few))))
    where
      Q : ℕ × State → Type 0
      Q r = Takes (IsCoordinate S.prime) s r × FewCoordinates (cs ++ r.0 ∷ [])

      yields_on : {P Q : ℕ × State → Type 0} (r : Answer ℕ) → Yields P r → ((x : ℕ × State) → P x → Q x) → Yields Q r
      yields_on (Ok x) h f = f x h
      yields_on (Err fault) h f = tt

  point_takes_line : (s : State) → Yields (Makes (codes "point") s) (declaration.point S s)
  unfolding declaration.point
  point_takes_line s =
      yields_then (Begins s) (Makes (codes "point") s) (declaration.name_equals S s) _ (name_equals_takes s)
      (λ name h. yields_then _ (Makes (codes "point") s) (enclosed (listed (declaration.coordinate S)) name.1) _
      (enclosed_takes (λ ts cs. AreListed (IsCoordinate S.prime) ts cs × FewCoordinates cs) (listed (declaration.coordinate S)) (listed_takes (IsCoordinate S.prime) FewCoordinates (declaration.coordinate S) coordinate_takes (omega arith)) name.1)
      (λ cs k. yields_if (Makes (codes "point") s) (ltb (length cs.0) (length S.variables)) _ _ (λ _. tt)
      (λ all. end_takes (Makes (codes "point") s) (declare S name.0 (Point cs.0) 0) cs.1
      (λ e. list_at_end (codes "point") s name.1 cs.1 name.0 k.0 _ h.0 k.1 e (grammar.point h.1 k.2.0 (omega (arith, k.2.1, ltb-false _ _ all)))))))

  -- ---- statements

  pub order_named : (w : List ℕ) (name : OrderName) → statements.order_of w ≡ Some name → IsStatement S (Word (codes "order") ∷ Word w ∷ []) (record S { order = name })
  order_named w =
      let Q : OrderName → Type 0 = λ name. IsStatement S (Word (codes "order") ∷ Word w ∷ []) (record S { order = name }) in
      let at : (c : List ℕ) (name : OrderName) → IsStatement S (Word (codes "order") ∷ Word c ∷ []) (record S { order = name }) → w ≡ c → Q name = λ c name h e. subst (λ v. IsStatement S (Word (codes "order") ∷ Word v ∷ []) (record S { order = name })) (sym e) h in
      chosen w (codes "grevlex") orders.Grevlex _ Q (at (codes "grevlex") orders.Grevlex grammar.grevlex)
      (chosen w (codes "grlex") orders.Grlex _ Q (at (codes "grlex") orders.Grlex grammar.grlex) (chosen w (codes "lex") orders.Lex _ Q (at (codes "lex") orders.Lex grammar.lex) (λ x e. absurd (none-some _ e))))

  order_takes : (s : State) → Yields (Makes (codes "order") s) (statements.order S s)
  unfolding statements.order
  order_takes s =
      yields_then (λ w. tokens_left s ≡ Word w.0 ∷ tokens_left w.1) (Makes (codes "order") s) (word s) _ (word_takes s)
      (λ w h. yields_option (Makes (codes "order") s) (statements.order_of w.0) _ _
      (λ name found. end_takes (Makes (codes "order") s) (record S { order = name }) w.1 (λ e. made (codes "order") s (Word w.0 ∷ []) _ (h ∙ ap (λ us. Word w.0 ∷ us) e) (order_named w.0 name found))) tt)

  budget_takes : (s : State) → Yields (Makes (codes "budget") s) (statements.budget S s)
  unfolding statements.budget
  budget_takes s =
      yields_then (Numbered (λ n. (1 ≤ n) × (n ≤ 10000000)) s) (Makes (codes "budget") s) (numbers.within 1 10000000 s) _ (within_takes 1 10000000 s)
      (λ b h. end_takes (Makes (codes "budget") s) (record S { budget = b.0 }) b.1 (λ e. made (codes "budget") s (Number b.0 ∷ []) _ (h.0 ∙ ap (λ us. Number b.0 ∷ us) e) (grammar.budget h.1.0 h.1.1)))

  asking_takes : (s : State) → Yields (Makes (codes "ask") s) (statements.asking S s)
  unfolding statements.asking
  asking_takes s =
      yields_if (Makes (codes "ask") s) (leb 4096 (length S.asked)) _ _ (λ _. tt)
      (λ few. yields_then (Takes (λ ts q. IsQuestion S ts q × Unit {0}) s) (Makes (codes "ask") s) (question.question_at S s) _ (question_takes S s)
      (λ q h. end_takes (Makes (codes "ask") s) (ask S q.0) q.1 (λ e. made (codes "ask") s h.0 _ (h.1 ∙ ap (λ us. h.0 ++ us) e ∙ append-nil h.0) (grammar.asked (leb-false _ _ few) h.2.0))))

  named_result_takes : (s : State) → Yields (Makes (codes "let") s) (declaration.named_result S s)
  unfolding declaration.named_result
  named_result_takes s =
      yields_then (Begins s) (Makes (codes "let") s) (declaration.name_equals S s) _ (name_equals_takes s)
      (λ name h. yields_then (Takes (λ ts q. IsQuestion S ts q × (question.answers_ideal q ≡ true)) name.1) (Makes (codes "let") s) (question.ideal_question_at S name.1) _ (ideal_question_takes S name.1)
      (λ q k. end_takes (Makes (codes "let") s) (declare S name.0 (Let S.budget q.0) 0) q.1
      (λ e. made (codes "let") s (Word name.0 ∷ Sign equals ∷ k.0) _ (h.0 ∙ ap (λ us. Word name.0 ∷ Sign equals ∷ us) (k.1 ∙ ap (λ us. k.0 ++ us) e ∙ append-nil k.0)) (grammar.named_result h.1 k.2.0 k.2.1))))

  later_takes : (k : Keyword) (s : State) → Yields (Makes (keyword_word k) s) (statements.later (Some k) S s)
  unfolding statements.later keyword_word
  later_takes keywords.Ring s = tt
  later_takes keywords.Order s = order_takes s
  later_takes keywords.Budget s = budget_takes s
  later_takes keywords.Poly s = poly_takes s
  later_takes keywords.Ideal s = ideal_takes_line s
  later_takes keywords.Point s = point_takes_line s
  later_takes keywords.Let s = named_result_takes s
  later_takes keywords.Ask s = asking_takes s

-- ---- the ring

variable_takes : (vs : List (List ℕ)) (s : State) → (length vs ≤ 7) × AllPairs (λ v w. v ≢ w) vs
    → Yields (λ r. Takes IsVariable s r × ((length (vs ++ r.0 ∷ []) ≤ 7) × AllPairs (λ v w. v ≢ w) (vs ++ r.0 ∷ []))) (rings.variable vs s)
unfolding rings.variable
variable_takes vs s fits =
    yields_then (λ w. tokens_left s ≡ Word w.0 ∷ tokens_left w.1) Q (word s) _ (word_takes s)
    (λ w h. yields_if Q (leb 7 (length vs)) _ _ (λ _. tt)
    (λ few. yields_if Q (is_some (place_of vs w.0)) _ _ (λ _. tt)
    (λ new. ((Word w.0 ∷ [], h, grammar.variable), (omega (arith, length-append vs (w.0 ∷ []), leb-false _ _ few), pairs_more (λ v w. v ≢ w) vs w.0 fits.1 (unlike w.0 vs (nothing_found _ new)))))))
  where
    Q : List ℕ × State → Type 0
    Q r = Takes IsVariable s r × ((length (vs ++ r.0 ∷ []) ≤ 7) × AllPairs (λ v w. v ≢ w) (vs ++ r.0 ∷ []))

pub prime_takes : (s : State) → Yields (λ p. (tokens_left s ≡ Number p.0 ∷ tokens_left p.1) × Contains primes p.0) (rings.prime s)
unfolding rings.prime
prime_takes s =
    yields_then (λ n. tokens_left s ≡ Number n.0 ∷ tokens_left n.1) (λ p. (tokens_left s ≡ Number p.0 ∷ tokens_left p.1) × Contains primes p.0) _ _ (number_takes s)
    (λ n h. yields_if (λ p. (tokens_left s ≡ Number p.0 ∷ tokens_left p.1) × Contains primes p.0) (is_prime n.0) _ _ (λ e. (h, prime_listed n.0 e)) (λ _. tt))

ring_takes : (s : State) → Yields (IsRing (Word (codes "ring") ∷ tokens_left s)) (rings.ring s)
unfolding rings.ring
ring_takes s =
    yields_then (λ p. (tokens_left s ≡ Number p.0 ∷ tokens_left p.1) × Contains primes p.0) Q (rings.prime s) _ (prime_takes s)
    (λ p h. yields_then (Takes (λ ts vs. AreListed IsVariable ts vs × ((length vs ≤ 7) × AllPairs (λ v w. v ≢ w) vs)) p.1) Q (listed rings.variable p.1) _
    (listed_takes IsVariable (λ vs. (length vs ≤ 7) × AllPairs (λ v w. v ≢ w) vs) rings.variable variable_takes (omega arith, λ i j d less inside. absurd (omega arith)) p.1)
    (λ vs k. end_takes Q (new_session p.0 vs.0) vs.1
    (λ e. subst (λ us. IsRing (Word (codes "ring") ∷ us) (new_session p.0 vs.0)) (sym (h.0 ∙ ap (λ us. Number p.0 ∷ us) (k.1 ∙ ap (λ us. k.0 ++ us) e ∙ append-nil k.0))) (grammar.ring h.1 k.2.0 k.2.1.0 k.2.1.1))))
  where
    Q : Session → Type 0
    Q = IsRing (Word (codes "ring") ∷ tokens_left s)

-- ---- lines

-- The statement of a line: the ring's where there is no session yet.
abbrev pub IsNext : Option Session → List Token → Session → Type 0
IsNext None ts T = IsRing ts T
IsNext (Some S) ts T = IsStatement S ts T

abbrev pub IsKnown : Option Session → Type 0
IsKnown None = Unit {0}
IsKnown (Some S) = Contains primes S.prime

statement_of_takes : (before : Option Session) → IsKnown before → (k : Option Keyword) (w : List ℕ) → statements.keyword_of w ≡ k → (s : State) → Yields (IsNext before (Word w ∷ tokens_left s)) (statements.statement_of before k s)
unfolding statements.first keyword_word statements.later
statement_of_takes None h None w e s = tt
statement_of_takes None h (Some keywords.Ring) w e s = subst (λ v. Yields (IsRing (Word v ∷ tokens_left s)) (rings.ring s)) (sym (keyword_is w keywords.Ring e)) (ring_takes s)
statement_of_takes None h (Some keywords.Order) w e s = tt
statement_of_takes None h (Some keywords.Budget) w e s = tt
statement_of_takes None h (Some keywords.Poly) w e s = tt
statement_of_takes None h (Some keywords.Ideal) w e s = tt
statement_of_takes None h (Some keywords.Point) w e s = tt
statement_of_takes None h (Some keywords.Let) w e s = tt
statement_of_takes None h (Some keywords.Ask) w e s = tt
statement_of_takes (Some S) h None w e s = tt
statement_of_takes (Some S) h (Some k) w e s = subst (λ v. Yields (IsStatement S (Word v ∷ tokens_left s)) (statements.later (Some k) S s)) (sym (keyword_is w k e)) (later_takes S h k s)

statement_takes : (before : Option Session) → IsKnown before → (s : State) (tok : Token) (u : State) → tokens_left s ≡ tok ∷ tokens_left u → Yields (IsNext before (tokens_left s)) (statements.statement before tok u)
unfolding statements.statement
statement_takes before h s tok u e =
    yields_then (λ w. tokens_left s ≡ Word w.0 ∷ tokens_left w.1) (IsNext before (tokens_left s)) (word_of tok u) _ (word_of_takes s tok u e)
    (λ w k. subst (λ ts. Yields (IsNext before ts) (statements.statement_of before (statements.keyword_of w.0) w.1)) (sym k) (statement_of_takes before h (statements.keyword_of w.0) w.0 refl w.1))

pub line_tokens : (line : List ℕ) → tokens_left (state_at line 0) ≡ tokens_of line
unfolding state_at
line_tokens line = by (tokens_from zero zero line)
  where
    by : (ts : List Placed) → tokens_left (state_from ts 0 line) ≡ map (λ (v : Placed). v.token) ts
    by [] = refl
    by (t ∷ ts) = refl

-- What a line makes of the session before it.
abbrev IsAfter : Option Session → List Token → Option Session → Type 0
IsAfter before ts after = ((ts ≡ []) × (after ≡ before)) ⊎ ((T : Session) × (after ≡ Some T) × IsNext before ts T)

line_takes : (before : Option Session) → IsKnown before → (bytes : List ℕ) → Yields (IsAfter before (tokens_of bytes)) (statements.line before bytes)
unfolding statements.line
line_takes before h bytes =
    subst (λ ts. Yields (IsAfter before ts) (statements.line before bytes)) (line_tokens bytes)
    (on_next (IsAfter before (tokens_left (state_at bytes 0))) (state_at bytes 0) (λ t. statements.statement before t.0 t.1 >>= λ S. Ok (Some S)) (Ok before)
    (λ tok u e. yields_then (IsNext before (tokens_left (state_at bytes 0))) (IsAfter before (tokens_left (state_at bytes 0))) (statements.statement before tok u) _ (statement_takes before h (state_at bytes 0) tok u e)
    (λ T k. inr (T, refl, k)))
    (λ none. inl (none, refl)))

pub prime_of_ring : {ts : List Token} {T : Session} → IsRing ts T → Contains primes T.prime
prime_of_ring (grammar.ring h l few apart) = h

pub same_prime : {S T : Session} {ts : List Token} → IsStatement S ts T → Contains primes S.prime → Contains primes T.prime
same_prime grammar.lex h = h
same_prime grammar.grlex h = h
same_prime grammar.grevlex h = h
same_prime (grammar.budget l k) h = h
same_prime (grammar.poly n e f) h = h
same_prime (grammar.ideal n e f g) h = h
same_prime (grammar.point n e f) h = h
same_prime (grammar.named_result n q a) h = h
same_prime (grammar.asked f q) h = h

pub known_next : (before : Option Session) → IsKnown before → (ts : List Token) (T : Session) → IsNext before ts T → Contains primes T.prime
known_next None h ts T k = prime_of_ring k
known_next (Some S) h ts T k = same_prime k h

-- What lines make of the session before them.
abbrev pub Become : Option Session → List (List Token) → Option Session → Type 0
Become None ls after = (T : Session) → after ≡ Some T → IsSession ls T
Become (Some S) ls after = (T : Session) × (after ≡ Some T) × AreStatements S ls T

in_line_takes : (P : Option Session → Type 0) (number : ℕ) (r : Result (Option Session) LineFault) → Yields P r → Yields P (script.in_line number r)
in_line_takes P number (Ok o) h = h
in_line_takes P number (Err fault) h = tt

pub lines_take : (number : ℕ) (before : Option Session) → IsKnown before → (ls : List (List ℕ)) → Yields (Become before (map tokens_of ls)) (script.from_line number before ls)
unfolding script.from_line
lines_take number None h [] = λ T e. absurd (none-some _ e)
lines_take number (Some S) h [] = (S, refl, grammar.none)
lines_take number before h (l ∷ ls) =
    yields_then (IsAfter before (tokens_of l)) (Become before (tokens_of l ∷ map tokens_of ls)) (script.in_line number (statements.line before l)) _ (in_line_takes (IsAfter before (tokens_of l)) number (statements.line before l) (line_takes before h l))
    (λ after k. by before h after k (script.from_line (number + 1) after ls) (λ known. lines_take (number + 1) after known ls))
  where
    nothing : (before : Option Session) (r : Result (Option Session) Fault) → tokens_of l ≡ [] → Yields (Become before (map tokens_of ls)) r → Yields (Become before (tokens_of l ∷ map tokens_of ls)) r
    nothing before (Err fault) e made = tt
    nothing None (Ok o) e made = λ T is. subst (λ ts. IsSession (ts ∷ map tokens_of ls) T) (sym e) (grammar.blank (made T is))
    nothing (Some S) (Ok o) e made = (made.0, made.1, subst (λ ts. AreStatements S (ts ∷ map tokens_of ls) made.0) (sym e) (grammar.nothing made.2))

    something : (before : Option Session) (T : Session) (r : Result (Option Session) Fault) → IsNext before (tokens_of l) T → Yields (Become (Some T) (map tokens_of ls)) r → Yields (Become before (tokens_of l ∷ map tokens_of ls)) r
    something before T (Err fault) k made = tt
    something None T (Ok o) k made = λ U is. subst (IsSession (tokens_of l ∷ map tokens_of ls)) (same_Some _ _ (sym made.1 ∙ is)) (grammar.begins k made.2)
    something (Some S) T (Ok o) k made = (made.0, made.1, grammar.statement k made.2)

    by : (before : Option Session) → IsKnown before → (after : Option Session) → IsAfter before (tokens_of l) after → (r : Result (Option Session) Fault) → (IsKnown after → Yields (Become after (map tokens_of ls)) r)
        → Yields (Become before (tokens_of l ∷ map tokens_of ls)) r
    by before known after (inl h) r made = nothing before r h.0 (subst (λ o. Yields (Become o (map tokens_of ls)) r) h.1 (made (subst IsKnown (sym h.1) known)))
    by before known after (inr h) r made = something before h.0 r h.2 (subst (λ o. Yields (Become o (map tokens_of ls)) r) h.1 (made (subst IsKnown (sym h.1) (known_next before known (tokens_of l) h.0 h.2))))

with_ring_takes : (ls : List (List Token)) (o : Option Session) → Become None ls o → Yields (IsSession ls) (script.with_ring o)
with_ring_takes ls None h = tt
with_ring_takes ls (Some S) h = h S refl

session_takes : (bytes : List ℕ) → Yields (AreSession bytes) (script.script bytes)
unfolding script.script
session_takes bytes =
    yields_if (AreSession bytes) (ltb 1048576 (length bytes)) _ _ (λ _. tt)
    (λ few. yields_then (Become None (map tokens_of (script.lines bytes))) (AreSession bytes) (script.from_line 1 None (script.lines bytes)) script.with_ring (lines_take 1 None tt (script.lines bytes))
    (λ o h. yields_on (script.with_ring o) (with_ring_takes (map tokens_of (script.lines bytes)) o h) (λ S k. record { few = ltb-false _ _ few; is = k })))
  where
    yields_on : {P Q : Session → Type 0} (r : Result Session Fault) → Yields P r → ((x : Session) → P x → Q x) → Yields Q r
    yields_on (Ok x) h f = f x h
    yields_on (Err fault) h f = tt

pub session_sound : (bytes : List ℕ) (S : Session) → script.script bytes ≡ Ok S → AreSession bytes S
session_sound bytes S e = yielded (AreSession bytes) (script.script bytes) S e (session_takes bytes)
