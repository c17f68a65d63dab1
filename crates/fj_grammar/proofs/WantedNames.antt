-- Where one number may come any may, and where one name may come any word may.
use Rattle.std.proofs.Common.{◌≡◌, ℕ, ◌==◌, Bool, true, false, cond, List, [], ◌∷◌, codes, Option, Some, None, refl, sym, ap, ◌∙◌, subst, inl, inr, ◌⊎◌}
use Rattle.std.specs.Option.{is_some, option_and_then, option_map, option_map_or}
use Rattle.std.proofs.lemmas.Bool.{eqb-true}
use Rattle.fj_text.specs.Token.{Token, Word, Number, Sign, BadByte, caret, minus, opening, plus, star}
use Rattle.fj_script.specs.declared.ask.Ask.{Ask}
use Rattle.fj_script.specs.declared.ask.Ask.TheVariants as asks
use Rattle.fj_script.specs.declared.statement.Keyword.{Keyword}
use Rattle.fj_script.specs.declared.statement.Keyword.TheVariants as keywords
use Rattle.fj_script.specs.Items.{comma, equals, slash}
use Rattle.fj_script.specs.Question.{ask_of, ideal_ask_of}
use Rattle.fj_script.specs.Statement.{keyword_of, order_of}
use Rattle.fj_grammar.specs.Owed as owed
use Rattle.fj_grammar.specs.Owed.{NeedKeyword}
use Rattle.fj_grammar.proofs.GrammarSound.{keyword_is, keyword_word}
use Rattle.fj_grammar.proofs.Wanted.{Want, Beginning, Coordinates, Denominator, Factors, Generators, Mark, Name, Negative, Numeral, Operand, OrderWord, PerhapsName, Power, QuestionWord, IdealWord, Summands, Variables, at_number, at_sign, at_word, run, step, wants_of_ask, wants_of_keyword}

pub same_number : (n m : ℕ) (ws : List Want) → step (Number n) ws ≡ step (Number m) ws
same_number n m [] = refl
same_number n m (x ∷ ws) = ap (at_number x ws) (same_number n m ws)

-- A want that no word of a fixed list meets.
abbrev IsPlain : Want → Type 0
IsPlain (Beginning ring) = ⊥
IsPlain OrderWord = ⊥
IsPlain QuestionWord = ⊥
IsPlain IdealWord = ⊥
IsPlain Name = Unit {0}
IsPlain Numeral = Unit {0}
IsPlain (Mark b) = Unit {0}
IsPlain Operand = Unit {0}
IsPlain PerhapsName = Unit {0}
IsPlain Power = Unit {0}
IsPlain Factors = Unit {0}
IsPlain Summands = Unit {0}
IsPlain Negative = Unit {0}
IsPlain Denominator = Unit {0}
IsPlain Variables = Unit {0}
IsPlain Generators = Unit {0}
IsPlain Coordinates = Unit {0}

pub data ArePlain : List Want → Type 0 where
  none : ArePlain []
  more : {x : Want} {ws : List Want} → IsPlain x → ArePlain ws → ArePlain (x ∷ ws)

data PlainThere : Option (List Want) → Type 0 where
  nothing : PlainThere None
  there : {ws : List Want} → ArePlain ws → PlainThere (Some ws)

plain_if : (c : Bool) {a b : Option (List Want)} → PlainThere a → PlainThere b → PlainThere (cond c a b)
plain_if true h k = h
plain_if false h k = k

at_word_plain : (w : List ℕ) (x : Want) (ws : List Want) (o : Option (List Want)) → IsPlain x → ArePlain ws → PlainThere o → PlainThere (at_word w x ws o)
at_word_plain w (Beginning ring) ws o h k l = absurd h
at_word_plain w OrderWord ws o h k l = absurd h
at_word_plain w QuestionWord ws o h k l = absurd h
at_word_plain w IdealWord ws o h k l = absurd h
at_word_plain w Name ws o h k l = there k
at_word_plain w Numeral ws o h k l = nothing
at_word_plain w (Mark b) ws o h k l = nothing
at_word_plain w Operand ws o h k l = there k
at_word_plain w PerhapsName ws o h k l = there k
at_word_plain w Power ws o h k l = l
at_word_plain w Factors ws o h k l = l
at_word_plain w Summands ws o h k l = l
at_word_plain w Negative ws o h k l = l
at_word_plain w Denominator ws o h k l = l
at_word_plain w Variables ws o h k l = l
at_word_plain w Generators ws o h k l = l
at_word_plain w Coordinates ws o h k l = l

at_number_plain : (x : Want) (ws : List Want) (o : Option (List Want)) → IsPlain x → ArePlain ws → PlainThere o → PlainThere (at_number x ws o)
at_number_plain (Beginning ring) ws o h k l = absurd h
at_number_plain OrderWord ws o h k l = absurd h
at_number_plain QuestionWord ws o h k l = absurd h
at_number_plain IdealWord ws o h k l = absurd h
at_number_plain Name ws o h k l = nothing
at_number_plain Numeral ws o h k l = there k
at_number_plain (Mark b) ws o h k l = nothing
at_number_plain Operand ws o h k l = there k
at_number_plain PerhapsName ws o h k l = l
at_number_plain Power ws o h k l = l
at_number_plain Factors ws o h k l = l
at_number_plain Summands ws o h k l = l
at_number_plain Negative ws o h k l = l
at_number_plain Denominator ws o h k l = l
at_number_plain Variables ws o h k l = l
at_number_plain Generators ws o h k l = l
at_number_plain Coordinates ws o h k l = l

at_sign_plain : (b : ℕ) (x : Want) (ws : List Want) (o : Option (List Want)) → IsPlain x → ArePlain ws → PlainThere o → PlainThere (at_sign b x ws o)
at_sign_plain b (Beginning ring) ws o h k l = absurd h
at_sign_plain b OrderWord ws o h k l = absurd h
at_sign_plain b QuestionWord ws o h k l = absurd h
at_sign_plain b IdealWord ws o h k l = absurd h
at_sign_plain b Name ws o h k l = nothing
at_sign_plain b Numeral ws o h k l = nothing
at_sign_plain b (Mark c) ws o h k l = plain_if (b == c) (there k) nothing
at_sign_plain b Operand ws o h k l = plain_if (b == opening) (there (more tt (more tt (more tt (more tt (more tt (more tt k))))))) nothing
at_sign_plain b PerhapsName ws o h k l = l
at_sign_plain b Power ws o h k l = plain_if (b == caret) (there (more tt k)) l
at_sign_plain b Factors ws o h k l = plain_if (b == star) (there (more tt (more tt (more tt k)))) l
at_sign_plain b Summands ws o h k l = plain_if (b == plus) (there (more tt (more tt (more tt (more tt k))))) (plain_if (b == minus) (there (more tt (more tt (more tt (more tt k))))) l)
at_sign_plain b Negative ws o h k l = plain_if (b == minus) (there k) l
at_sign_plain b Denominator ws o h k l = plain_if (b == slash) (there (more tt k)) l
at_sign_plain b Variables ws o h k l = plain_if (b == comma) (there (more tt (more tt k))) l
at_sign_plain b Generators ws o h k l = plain_if (b == comma) (there (more tt (more tt (more tt (more tt (more tt (more tt k))))))) l
at_sign_plain b Coordinates ws o h k l = plain_if (b == comma) (there (more tt (more tt (more tt k)))) l

step_plain : (t : Token) (ws : List Want) → ArePlain ws → PlainThere (step t ws)
step_plain t [] none = nothing
step_plain (Word w) (x ∷ ws) (more h k) = at_word_plain w x ws (step (Word w) ws) h k (step_plain (Word w) ws k)
step_plain (Number n) (x ∷ ws) (more h k) = at_number_plain x ws (step (Number n) ws) h k (step_plain (Number n) ws k)
step_plain (Sign b) (x ∷ ws) (more h k) = at_sign_plain b x ws (step (Sign b) ws) h k (step_plain (Sign b) ws k)
step_plain BadByte (x ∷ ws) (more h k) = step_plain BadByte ws k

run_plain : (ts : List Token) (ws : List Want) → ArePlain ws → PlainThere (run ts ws)
run_plain [] ws h = there h
run_plain (t ∷ ts) ws h = by (step t ws) (step_plain t ws h) (λ vs k. run_plain ts vs k)
  where
    by : (o : Option (List Want)) → PlainThere o → ((vs : List Want) → ArePlain vs → PlainThere (run ts vs)) → PlainThere (option_and_then (run ts) o)
    by None k rec = nothing
    by (Some vs) (there k) rec = rec vs k

-- where it is known what is wanted
there_plain : (o : Option (List Want)) (ws : List Want) → o ≡ Some ws → PlainThere o → ArePlain ws
there_plain o ws e h = by (subst PlainThere e h)
  where
    by : PlainThere (Some ws) → ArePlain ws
    by (there k) = k

ask_plain : (a : Ask) → ArePlain (wants_of_ask a)
ask_plain asks.Parts = more tt (more tt none)
ask_plain asks.Member = more tt (more tt none)
ask_plain (asks.OneIdeal which) = more tt none
ask_plain (asks.TwoIdeals which) = more tt (more tt none)
ask_plain (asks.Frobenius which) = more tt (more tt none)
ask_plain (asks.TestIdeal which) = more tt (more tt (more tt none))
ask_plain asks.Jumps = more tt (more tt none)
ask_plain asks.Nu = more tt (more tt (more tt none))
ask_plain asks.Threshold = more tt (more tt (more tt none))
ask_plain asks.Pure = more tt (more tt none)
ask_plain asks.Compatible = more tt (more tt (more tt none))

-- after the word of an order or a question
keyword_next : (x : Want) → ((t : Token) → PlainThere (step t (x ∷ []))) → (ts : List Token) (ws : List Want) → run ts (x ∷ []) ≡ Some ws → (ts ≡ []) ⊎ ArePlain ws
keyword_next x each [] ws e = inl refl
keyword_next x each (t ∷ ts) ws e = inr (there_plain (run (t ∷ ts) (x ∷ [])) ws e (by (step t (x ∷ [])) (each t)))
  where
    by : (o : Option (List Want)) → PlainThere o → PlainThere (option_and_then (run ts) o)
    by None k = nothing
    by (Some vs) (there k) = run_plain ts vs k

order_next : (t : Token) → PlainThere (step t (OrderWord ∷ []))
order_next (Word w) = plain_if (is_some (order_of w)) (there none) nothing
order_next (Number n) = nothing
order_next (Sign b) = nothing
order_next BadByte = nothing

question_next : (t : Token) → PlainThere (step t (QuestionWord ∷ []))
question_next (Word w) = by (ask_of w)
  where
    by : (o : Option Ask) → PlainThere (option_map wants_of_ask o)
    by None = nothing
    by (Some a) = there (ask_plain a)
question_next (Number n) = nothing
question_next (Sign b) = nothing
question_next BadByte = nothing

ideal_next : (t : Token) → PlainThere (step t (IdealWord ∷ []))
ideal_next (Word w) = by (ideal_ask_of w)
  where
    by : (o : Option Ask) → PlainThere (option_map wants_of_ask o)
    by None = nothing
    by (Some a) = there (ask_plain a)
ideal_next (Number n) = nothing
ideal_next (Sign b) = nothing
ideal_next BadByte = nothing

named_order : {w : List ℕ} → w ≡ keyword_word keywords.Order → w ≡ codes "order"
unfolding keyword_word
named_order e = e

named_ask : {w : List ℕ} → w ≡ keyword_word keywords.Ask → w ≡ codes "ask"
unfolding keyword_word
named_ask e = e

named_let : {w : List ℕ} → w ≡ keyword_word keywords.Let → w ≡ codes "let"
unfolding keyword_word
named_let e = e

same_name : (v w : List ℕ) (ws : List Want) → ArePlain ws → step (Word v) ws ≡ step (Word w) ws
same_name v w [] none = refl
same_name v w (x ∷ ws) (more h k) = by x h (same_name v w ws k)
  where
    by : (x : Want) → IsPlain x → step (Word v) ws ≡ step (Word w) ws → at_word v x ws (step (Word v) ws) ≡ at_word w x ws (step (Word w) ws)
    by (Beginning ring) k e = absurd k
    by OrderWord k e = absurd k
    by QuestionWord k e = absurd k
    by IdealWord k e = absurd k
    by Name k e = refl
    by Numeral k e = refl
    by (Mark b) k e = refl
    by Operand k e = refl
    by PerhapsName k e = refl
    by Power k e = e
    by Factors k e = e
    by Summands k e = e
    by Negative k e = e
    by Denominator k e = e
    by Variables k e = e
    by Generators k e = e
    by Coordinates k e = e

-- Any two words are alike where so much is wanted.
abbrev pub TakesAnyName : List Want → Type 0
TakesAnyName ws = (v w : List ℕ) → step (Word v) ws ≡ step (Word w) ws

-- Where no word of a fixed list has to come, any two words are alike.
pub needs_keyword : (ring : Bool) (ts : List Token) (ws : List Want) → run ts (Beginning ring ∷ []) ≡ Some ws → NeedKeyword ts ⊎ TakesAnyName ws
needs_keyword ring [] ws e = inl owed.statement
needs_keyword ring (Number n ∷ ts) ws e = absurd cc
needs_keyword ring (Sign b ∷ ts) ws e = absurd cc
needs_keyword ring (BadByte ∷ ts) ws e = absurd cc
needs_keyword ring (Word w ∷ ts) ws e = by ring (keyword_of w) refl e
  where
    any_name : ArePlain ws → TakesAnyName ws
    any_name h v w = same_name v w ws h

    plain : (vs : List Want) → ArePlain vs → run ts vs ≡ Some ws → NeedKeyword (Word w ∷ ts) ⊎ TakesAnyName ws
    plain vs h k = inr (any_name (there_plain (run ts vs) ws k (run_plain ts vs h)))

    order_first : w ≡ codes "order" → (ts ≡ []) ⊎ ArePlain ws → NeedKeyword (Word w ∷ ts) ⊎ TakesAnyName ws
    order_first is (inl e) = inl (subst NeedKeyword (sym (ap (λ v. Word v ∷ ts) is ∙ ap (λ us. Word (codes "order") ∷ us) e)) owed.order)
    order_first is (inr h) = inr (any_name h)

    ask_first : w ≡ codes "ask" → (ts ≡ []) ⊎ ArePlain ws → NeedKeyword (Word w ∷ ts) ⊎ TakesAnyName ws
    ask_first is (inl e) = inl (subst NeedKeyword (sym (ap (λ v. Word v ∷ ts) is ∙ ap (λ us. Word (codes "ask") ∷ us) e)) owed.question)
    ask_first is (inr h) = inr (any_name h)

    -- behind `let` a name and `=` come first
    let_first : w ≡ codes "let" → (us : List Token) → us ≡ ts → run us (Name ∷ Mark equals ∷ IdealWord ∷ []) ≡ Some ws → NeedKeyword (Word w ∷ ts) ⊎ TakesAnyName ws
    let_first is [] e h = inr (let same : Name ∷ Mark equals ∷ IdealWord ∷ [] ≡ ws = cc in subst TakesAnyName same (λ v w. refl))
    let_first is (Number n ∷ us) e h = absurd cc
    let_first is (Sign b ∷ us) e h = absurd cc
    let_first is (BadByte ∷ us) e h = absurd cc
    let_first is (Word v ∷ us) e h = behind_name v us e h
      where
        behind_name : (v : List ℕ) (us : List Token) → Word v ∷ us ≡ ts → run us (Mark equals ∷ IdealWord ∷ []) ≡ Some ws → NeedKeyword (Word w ∷ ts) ⊎ TakesAnyName ws
        behind_name v [] e h = inr (let same : Mark equals ∷ IdealWord ∷ [] ≡ ws = cc in subst TakesAnyName same (λ v w. refl))
        behind_name v (Word u ∷ us) e h = absurd cc
        behind_name v (Number n ∷ us) e h = absurd cc
        behind_name v (BadByte ∷ us) e h = absurd cc
        behind_name v (Sign b ∷ us) e h = behind_sign (b == equals) refl h
          where
            next_word : b ≡ equals → (us ≡ []) ⊎ ArePlain ws → NeedKeyword (Word w ∷ ts) ⊎ TakesAnyName ws
            next_word same (inl ended) = inl (subst NeedKeyword (sym (ap (λ u. Word u ∷ ts) is ∙ ap (λ us. Word (codes "let") ∷ us) (sym e ∙ ap (λ b. Word v ∷ Sign b ∷ us) same ∙ ap (λ us. Word v ∷ Sign equals ∷ us) ended))) owed.named_result)
            next_word same (inr h) = inr (any_name h)

            behind_sign : (c : Bool) → (b == equals) ≡ c → option_and_then (run us) (cond c (Some (IdealWord ∷ [])) None) ≡ Some ws → NeedKeyword (Word w ∷ ts) ⊎ TakesAnyName ws
            behind_sign true same h = next_word (eqb-true b equals same) (keyword_next IdealWord ideal_next us ws h)
            behind_sign false same h = absurd cc

    word_is : (k : Keyword) → keyword_of w ≡ Some k → w ≡ keyword_word k
    word_is k is = keyword_is w k is

    by : (ring : Bool) (o : Option Keyword) → keyword_of w ≡ o → option_and_then (run ts) (option_map_or (wants_of_keyword ring) o None) ≡ Some ws → NeedKeyword (Word w ∷ ts) ⊎ TakesAnyName ws
    by ring None is h = absurd cc
    by false (Some keywords.Ring) is h = plain _ (more tt (more tt (more tt none))) h
    by false (Some keywords.Order) is h = plain _ none h
    by false (Some keywords.Budget) is h = plain _ none h
    by false (Some keywords.Poly) is h = plain _ none h
    by false (Some keywords.Ideal) is h = plain _ none h
    by false (Some keywords.Point) is h = plain _ none h
    by false (Some keywords.Let) is h = plain _ none h
    by false (Some keywords.Ask) is h = plain _ none h
    by true (Some keywords.Ring) is h = absurd cc
    by true (Some keywords.Order) is h = order_first (named_order (word_is keywords.Order is)) (keyword_next OrderWord order_next ts ws h)
    by true (Some keywords.Budget) is h = plain _ (more tt none) h
    by true (Some keywords.Poly) is h = plain _ (more tt (more tt (more tt (more tt (more tt (more tt (more tt none))))))) h
    by true (Some keywords.Ideal) is h = plain _ (more tt (more tt (more tt (more tt (more tt (more tt (more tt (more tt (more tt (more tt none)))))))))) h
    by true (Some keywords.Point) is h = plain _ (more tt (more tt (more tt (more tt (more tt (more tt (more tt none))))))) h
    by true (Some keywords.Let) is h = let_first (named_let (word_is keywords.Let is)) ts refl h
    by true (Some keywords.Ask) is h = ask_first (named_ask (word_is keywords.Ask is)) (keyword_next QuestionWord question_next ts ws h)
