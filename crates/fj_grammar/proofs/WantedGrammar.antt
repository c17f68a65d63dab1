-- What is in the grammar is what is wanted, and so are tokens up to something that is too large, too many or too few.
use Rattle.std.proofs.Common.{◌≡◌, ℕ, true, false, cond, List, [], ◌∷◌, ◌++◌, Option, Some, refl, sym, ap, ◌∙◌, subst, inl, inr, ◌⊎◌}
use Rattle.std.specs.Option.{option_and_then}
use Rattle.fj_coeff.specs.Field.{Field}
use Rattle.fj_theory.specs.Polynomial.{Polynomial}
use Rattle.fj_text.specs.declared.scope.Meaning.{Meaning}
use Rattle.fj_text.specs.Grammar as expressions
use Rattle.fj_text.specs.Grammar.{IsAtom, IsExpression, IsFactor, IsTerm}
use Rattle.fj_text.specs.State.{is_the_sign}
use Rattle.fj_text.specs.Token.{Token, Word, Number, Sign, BadByte, caret, closing, minus, plus, star}
use Rattle.fj_script.specs.declared.question.Question.{Question}
use Rattle.fj_script.specs.Items.{comma}
use Rattle.fj_script.specs.Question as question
use Rattle.fj_script.specs.Session.{Session, Terms}
use Rattle.fj_script.specs.Statement as statements
use Rattle.fj_grammar.specs.Grammar as grammar
use Rattle.fj_grammar.specs.Grammar.{AreListed, HasTerms, IsCoordinate, IsQuestion, IsRatio, IsRing, IsStatement, IsVariable}
use Rattle.fj_grammar.specs.Large as large
use Rattle.fj_grammar.specs.Large.{HasLarge, IsLargeAtom, IsLargeExpression, IsLargeFactor, IsLargeIn, IsLargeTerm}
use Rattle.fj_grammar.specs.Many as rank
use Rattle.fj_grammar.specs.Many.{AreTooMany, HaveWrongArity}
use Rattle.fj_grammar.proofs.Wanted.{MayEnd, Want, Beginning, Coordinates, Denominator, Factors, Generators, Mark, Name, Negative, Numeral, Operand, Power, QuestionWord, IdealWord, Summands, Variables, a_coordinate, a_term, an_expression, ended, missing, run, run_behind, step}

-- Tokens may come, and then this is wanted, or a power and this.
record Reach (ts : List Token) (vs ws : List Want) : Type 0 where
  wants : List Want
  reached : run ts vs ≡ Some wants
  is : (wants ≡ Power ∷ ws) ⊎ (wants ≡ ws)

-- Tokens may come.
pub record MayCome (ts : List Token) (vs : List Want) : Type 0 where
  pub wants : List Want
  pub reached : run ts vs ≡ Some wants

pub come : {ts : List Token} {vs ws : List Want} → run ts vs ≡ Some ws → MayCome ts vs
come e = record { wants = _; reached = e }

-- More tokens that may come, whether a power is wanted or not.
go_on : {ts : List Token} {vs ws : List Want} (us : List Token) (r : Option (List Want)) → Reach ts vs ws → run us (Power ∷ ws) ≡ r → run us ws ≡ r → run (ts ++ us) vs ≡ r
go_on {ts} {vs} {ws} us r H powered plain = run_behind ts us vs H.wants H.reached ∙ by H.wants H.is
  where
    by : (xs : List Want) → (xs ≡ Power ∷ ws) ⊎ (xs ≡ ws) → run us xs ≡ r
    by xs (inl e) = ap (run us) e ∙ powered
    by xs (inr e) = ap (run us) e ∙ plain

exact : {ts : List Token} {vs ws : List Want} → run ts vs ≡ Some ws → Reach ts vs ws
exact e = record { wants = _; reached = e; is = inr refl }

reach_front : {ts us : List Token} {vs xs ws : List Want} → run ts vs ≡ run us xs → Reach us xs ws → Reach ts vs ws
reach_front e H = record { wants = H.wants; reached = e ∙ H.reached; is = H.is }

-- And the line may end then.
pub record IsFull (ts : List Token) (vs : List Want) : Type 0 where
  pub wants : List Want
  pub reached : run ts vs ≡ Some wants
  pub may_end : MayEnd wants

full : {ts : List Token} {vs ws : List Want} → run ts vs ≡ Some ws → MayEnd ws → IsFull ts vs
full e h = record { wants = _; reached = e; may_end = h }

full_front : {ts us : List Token} {vs xs : List Want} → run ts vs ≡ run us xs → IsFull us xs → IsFull ts vs
full_front e H = record { wants = H.wants; reached = e ∙ H.reached; may_end = H.may_end }

pub full_comes : {ts : List Token} {vs : List Want} → IsFull ts vs → MayCome ts vs
full_comes H = record { wants = H.wants; reached = H.reached }

reach_full : {ts : List Token} {vs ws : List Want} → Reach ts vs ws → MayEnd ws → IsFull ts vs
reach_full {ws = ws} H h = record { wants = H.wants; reached = H.reached; may_end = by H.wants H.is }
  where
    by : (xs : List Want) → (xs ≡ Power ∷ ws) ⊎ (xs ≡ ws) → MayEnd xs
    by xs (inl e) = subst MayEnd (sym e) (missing tt h)
    by xs (inr e) = subst MayEnd (sym e) h

comes : {ts : List Token} {vs ws : List Want} → Reach ts vs ws → MayCome ts vs
comes H = record { wants = H.wants; reached = H.reached }

pub comes_front : {ts us : List Token} {vs xs : List Want} → run ts vs ≡ run us xs → MayCome us xs → MayCome ts vs
comes_front e H = record { wants = H.wants; reached = e ∙ H.reached }

-- no `-` is first
abbrev Starts : List Token → Type 0
Starts [] = ⊥
Starts (t ∷ ts) = is_the_sign minus t ≡ false

starts_more : (ts us : List Token) → Starts ts → Starts (ts ++ us)
starts_more [] us h = absurd h
starts_more (t ∷ ts) us h = h

no_minus : (ts : List Token) (ws : List Want) → Starts ts → run ts (Negative ∷ ws) ≡ run ts ws
no_minus [] ws h = absurd h
no_minus (Word w ∷ ts) ws h = refl
no_minus (Number n ∷ ts) ws h = refl
no_minus (Sign b ∷ ts) ws h = ap (λ c. option_and_then (run ts) (cond c (Some ws) (step (Sign b) ws))) h
no_minus (BadByte ∷ ts) ws h = refl

module _ (F : Field) (meaning : List ℕ → Meaning) where
  atom_starts : {depth : ℕ} {ts : List Token} {f : Polynomial} → IsAtom F meaning depth ts f → Starts ts
  atom_starts (expressions.number small) = refl
  atom_starts (expressions.word is) = refl
  atom_starts (expressions.parentheses h) = refl

  factor_starts : {depth : ℕ} {ts : List Token} {f : Polynomial} → IsFactor F meaning depth ts f → Starts ts
  factor_starts (expressions.atom h) = atom_starts h
  factor_starts (expressions.raised {ts = ts} h small within) = starts_more ts _ (atom_starts h)

  term_starts : {depth : ℕ} {ts : List Token} {f : Polynomial} → IsTerm F meaning depth ts f → Starts ts
  term_starts (expressions.factor h) = factor_starts h
  term_starts (expressions.times {ts = ts} h k within) = starts_more ts _ (term_starts h)

  mutual
    atom_runs : {depth : ℕ} {ts : List Token} {f : Polynomial} → IsAtom F meaning depth ts f → (ws : List Want) → run ts (Operand ∷ ws) ≡ Some ws
    atom_runs (expressions.number small) ws = refl
    atom_runs (expressions.word is) ws = refl
    atom_runs (expressions.parentheses {ts = ts} h) ws = go_on (Sign closing ∷ []) (Some ws) (expression_runs h (Mark closing ∷ ws)) refl refl

    factor_runs : {depth : ℕ} {ts : List Token} {f : Polynomial} → IsFactor F meaning depth ts f → (ws : List Want) → Reach ts (Operand ∷ Power ∷ ws) ws
    factor_runs (expressions.atom {ts = ts} h) ws = record { wants = Power ∷ ws; reached = atom_runs h (Power ∷ ws); is = inl refl }
    factor_runs (expressions.raised {k = k} {ts = ts} h small within) ws = exact (run_behind ts (Sign caret ∷ Number k ∷ []) (Operand ∷ Power ∷ ws) (Power ∷ ws) (atom_runs h (Power ∷ ws)))

    term_runs : {depth : ℕ} {ts : List Token} {f : Polynomial} → IsTerm F meaning depth ts f → (ws : List Want) → Reach ts (a_term ws) (Factors ∷ ws)
    term_runs (expressions.factor h) ws = factor_runs h (Factors ∷ ws)
    term_runs (expressions.times {ts = ts} {us = us} h k within) ws = reach_front (go_on (Sign star ∷ us) (run us (a_term ws)) (term_runs h ws) refl refl) (factor_runs k (Factors ∷ ws))

    expression_runs : {depth : ℕ} {ts : List Token} {f : Polynomial} → IsExpression F meaning depth ts f → (ws : List Want) → Reach ts (an_expression ws) (Factors ∷ Summands ∷ ws)
    expression_runs (expressions.first {ts = ts} h) ws = reach_front (no_minus ts (a_term (Summands ∷ ws)) (term_starts h)) (term_runs h (Summands ∷ ws))
    expression_runs (expressions.negative {ts = ts} h) ws = reach_front refl (term_runs h (Summands ∷ ws))
    expression_runs (expressions.add {ts = ts} {us = us} h k within) ws = reach_front (go_on (Sign plus ∷ us) (run us (a_term (Summands ∷ ws))) (expression_runs h ws) refl refl) (term_runs k (Summands ∷ ws))
    expression_runs (expressions.less {ts = ts} {us = us} h k within) ws = reach_front (go_on (Sign minus ∷ us) (run us (a_term (Summands ∷ ws))) (expression_runs h ws) refl refl) (term_runs k (Summands ∷ ws))

  large_atom_starts : {depth : ℕ} {ts : List Token} → IsLargeAtom F meaning depth ts → Starts ts
  large_atom_starts large.nested = refl
  large_atom_starts (large.inside h) = refl

  large_factor_starts : {depth : ℕ} {ts : List Token} → IsLargeFactor F meaning depth ts → Starts ts
  large_factor_starts (large.atom h) = large_atom_starts h
  large_factor_starts (large.exponent {ts = ts} h above small) = starts_more ts _ (atom_starts h)
  large_factor_starts (large.raised {ts = ts} h small big) = starts_more ts _ (atom_starts h)

  large_term_starts : {depth : ℕ} {ts : List Token} → IsLargeTerm F meaning depth ts → Starts ts
  large_term_starts (large.factor h) = large_factor_starts h
  large_term_starts (large.later {ts = ts} h k) = starts_more ts _ (term_starts h)
  large_term_starts (large.times {ts = ts} h k big) = starts_more ts _ (term_starts h)

  mutual
    large_atom_comes : {depth : ℕ} {ts : List Token} → IsLargeAtom F meaning depth ts → (ws : List Want) → MayCome ts (Operand ∷ ws)
    large_atom_comes large.nested ws = come refl
    large_atom_comes (large.inside h) ws = comes_front refl (large_comes h (Mark closing ∷ ws))

    large_factor_comes : {depth : ℕ} {ts : List Token} → IsLargeFactor F meaning depth ts → (ws : List Want) → MayCome ts (Operand ∷ Power ∷ ws)
    large_factor_comes (large.atom h) ws = large_atom_comes h (Power ∷ ws)
    large_factor_comes (large.exponent {k = k} {ts = ts} h above small) ws = come (run_behind ts (Sign caret ∷ Number k ∷ []) (Operand ∷ Power ∷ ws) (Power ∷ ws) (atom_runs h (Power ∷ ws)))
    large_factor_comes (large.raised {k = k} {ts = ts} h small big) ws = come (run_behind ts (Sign caret ∷ Number k ∷ []) (Operand ∷ Power ∷ ws) (Power ∷ ws) (atom_runs h (Power ∷ ws)))

    large_term_comes : {depth : ℕ} {ts : List Token} → IsLargeTerm F meaning depth ts → (ws : List Want) → MayCome ts (a_term ws)
    large_term_comes (large.factor h) ws = large_factor_comes h (Factors ∷ ws)
    large_term_comes (large.later {ts = ts} {us = us} h k) ws = comes_front (go_on (Sign star ∷ us) (run us (a_term ws)) (term_runs h ws) refl refl) (large_factor_comes k (Factors ∷ ws))
    large_term_comes (large.times {ts = ts} {us = us} h k big) ws = comes_front (go_on (Sign star ∷ us) (run us (a_term ws)) (term_runs h ws) refl refl) (comes (factor_runs k (Factors ∷ ws)))

    large_comes : {depth : ℕ} {ts : List Token} → IsLargeExpression F meaning depth ts → (ws : List Want) → MayCome ts (an_expression ws)
    large_comes (large.first {ts = ts} h) ws = comes_front (no_minus ts (a_term (Summands ∷ ws)) (large_term_starts h)) (large_term_comes h (Summands ∷ ws))
    large_comes (large.negative h) ws = comes_front refl (large_term_comes h (Summands ∷ ws))
    large_comes (large.behind_plus {ts = ts} {us = us} h k) ws = comes_front (go_on (Sign plus ∷ us) (run us (a_term (Summands ∷ ws))) (expression_runs h ws) refl refl) (large_term_comes k (Summands ∷ ws))
    large_comes (large.behind_minus {ts = ts} {us = us} h k) ws = comes_front (go_on (Sign minus ∷ us) (run us (a_term (Summands ∷ ws))) (expression_runs h ws) refl refl) (large_term_comes k (Summands ∷ ws))
    large_comes (large.add {ts = ts} {us = us} h k big) ws = comes_front (go_on (Sign plus ∷ us) (run us (a_term (Summands ∷ ws))) (expression_runs h ws) refl refl) (comes (term_runs k (Summands ∷ ws)))
    large_comes (large.less {ts = ts} {us = us} h k big) ws = comes_front (go_on (Sign minus ∷ us) (run us (a_term (Summands ∷ ws))) (expression_runs h ws) refl refl) (comes (term_runs k (Summands ∷ ws)))

-- ---- lists

pub variables_run : {ts : List Token} {vs : List (List ℕ)} → AreListed IsVariable ts vs → (ws : List Want) → run ts (Name ∷ Variables ∷ ws) ≡ Some (Variables ∷ ws)
variables_run (grammar.last grammar.variable) ws = refl
variables_run (grammar.more {us = us} grammar.variable l) ws = variables_run l ws

terms_run : {S : Session} {ts : List Token} {f : Terms} → HasTerms S ts f → (ws : List Want) → Reach ts (an_expression ws) (Factors ∷ Summands ∷ ws)
terms_run (grammar.terms h) ws = expression_runs _ _ h ws

generators_run : {S : Session} {ts : List Token} {fs : List Terms} → AreListed (HasTerms S) ts fs → (ws : List Want) → Reach ts (an_expression (Generators ∷ ws)) (Factors ∷ Summands ∷ Generators ∷ ws)
generators_run (grammar.last h) ws = terms_run h (Generators ∷ ws)
generators_run (grammar.more {ts = ts} {us = us} h l) ws = reach_front (go_on (Sign comma ∷ us) (run us (an_expression (Generators ∷ ws))) (terms_run h (Generators ∷ ws)) refl refl) (generators_run l ws)

coordinate_runs : {p : ℕ} {ts : List Token} {c : ℕ} → IsCoordinate p ts c → (ws : List Want) → run ts (a_coordinate ws) ≡ Some ws
coordinate_runs (grammar.number small) ws = refl
coordinate_runs (grammar.negative small) ws = refl

coordinates_run : {p : ℕ} {ts : List Token} {cs : List ℕ} → AreListed (IsCoordinate p) ts cs → (ws : List Want) → run ts (a_coordinate (Coordinates ∷ ws)) ≡ Some (Coordinates ∷ ws)
coordinates_run (grammar.last h) ws = coordinate_runs h (Coordinates ∷ ws)
coordinates_run (grammar.more {ts = ts} {us = us} h l) ws = run_behind ts (Sign comma ∷ us) (a_coordinate (Coordinates ∷ ws)) (Coordinates ∷ ws) (coordinate_runs h (Coordinates ∷ ws)) ∙ coordinates_run l ws

-- ---- statements

ratio_full : {ts : List Token} {t : _} → IsRatio ts t → IsFull ts (Numeral ∷ Denominator ∷ [])
ratio_full (grammar.whole h) = full refl (missing tt ended)
ratio_full (grammar.quotient h) = full refl ended

question_full : {S : Session} {ts : List Token} {q : Question} → IsQuestion S ts q → IsFull ts (QuestionWord ∷ [])
unfolding question.ask_of
question_full (grammar.parts e f) = full refl ended
question_full (grammar.basis j) = full refl ended
question_full (grammar.member f j) = full refl ended
question_full (grammar.same j k) = full refl ended
question_full (grammar.sum j k) = full refl ended
question_full (grammar.product j k) = full refl ended
question_full (grammar.meet j k) = full refl ended
question_full (grammar.colon j k) = full refl ended
question_full (grammar.power e j) = full refl ended
question_full (grammar.root e j) = full refl ended
question_full (grammar.test f t) = full_front refl (ratio_full t)
question_full (grammar.left f t above) = full_front refl (ratio_full t)
question_full (grammar.isjump f t above) = full_front refl (ratio_full t)
question_full (grammar.regular f t) = full_front refl (ratio_full t)
question_full (grammar.jumps f e) = full refl ended
question_full (grammar.nu e f j) = full refl ended
question_full (grammar.threshold f j e) = full refl ended
question_full (grammar.threshold_at f at e) = full refl ended
question_full (grammar.fpure j) = full refl (missing tt ended)
question_full (grammar.fpure_at j at) = full refl ended
question_full (grammar.split j) = full refl ended
question_full (grammar.compatible e u j) = full refl ended

-- a question that has an ideal as its answer
ideal_question_full : {S : Session} {ts : List Token} {q : Question} → IsQuestion S ts q → question.answers_ideal q ≡ true → IsFull ts (IdealWord ∷ [])
unfolding question.ask_of question.ideal_ask_of
ideal_question_full (grammar.parts e f) is = absurd cc
ideal_question_full (grammar.basis j) is = full refl ended
ideal_question_full (grammar.member f j) is = absurd cc
ideal_question_full (grammar.same j k) is = absurd cc
ideal_question_full (grammar.sum j k) is = full refl ended
ideal_question_full (grammar.product j k) is = full refl ended
ideal_question_full (grammar.meet j k) is = full refl ended
ideal_question_full (grammar.colon j k) is = full refl ended
ideal_question_full (grammar.power e j) is = full refl ended
ideal_question_full (grammar.root e j) is = full refl ended
ideal_question_full (grammar.test f t) is = full_front refl (ratio_full t)
ideal_question_full (grammar.left f t above) is = full_front refl (ratio_full t)
ideal_question_full (grammar.isjump f t above) is = absurd cc
ideal_question_full (grammar.regular f t) is = absurd cc
ideal_question_full (grammar.jumps f e) is = absurd cc
ideal_question_full (grammar.nu e f j) is = absurd cc
ideal_question_full (grammar.threshold f j e) is = absurd cc
ideal_question_full (grammar.threshold_at f at e) is = absurd cc
ideal_question_full (grammar.fpure j) is = absurd cc
ideal_question_full (grammar.fpure_at j at) is = absurd cc
ideal_question_full (grammar.split j) is = full refl ended
ideal_question_full (grammar.compatible e u j) is = absurd cc

pub ring_full : {ts : List Token} {S : Session} → IsRing ts S → IsFull ts (Beginning false ∷ [])
unfolding statements.keyword_of
ring_full (grammar.ring known l few apart) = full (variables_run l []) (missing tt ended)

pub statement_full : {S T : Session} {ts : List Token} → IsStatement S ts T → IsFull ts (Beginning true ∷ [])
unfolding statements.keyword_of
statement_full grammar.lex = full refl ended
statement_full grammar.grlex = full refl ended
statement_full grammar.grevlex = full refl ended
statement_full (grammar.budget low high) = full refl ended
statement_full (grammar.poly new h few) = full_front refl (reach_full (terms_run h []) (missing tt (missing tt ended)))
statement_full (grammar.ideal new l few terms) = full (go_on (Sign closing ∷ []) (Some []) (generators_run l (Mark closing ∷ [])) refl refl) ended
statement_full (grammar.point {ts = ts} new l each) = full (run_behind ts (Sign closing ∷ []) (a_coordinate (Coordinates ∷ Mark closing ∷ [])) (Coordinates ∷ Mark closing ∷ []) (coordinates_run l (Mark closing ∷ []))) ended
statement_full (grammar.named_result new q answers) = full_front refl (ideal_question_full q answers)
statement_full (grammar.asked few q) = full_front refl (question_full q)

-- ---- beginnings that have another fault

pub large_has_come : {S : Session} {ts : List Token} → HasLarge S ts → MayCome ts (Beginning true ∷ [])
unfolding statements.keyword_of
large_has_come (large.poly new h) = comes_front refl (large_comes _ _ h [])
large_has_come (large.first_generator new h) = comes_front refl (large_comes _ _ h (Generators ∷ Mark closing ∷ []))
large_has_come (large.generator {ts = ts} {us = us} new l few h) =
    comes_front {us = us} {xs = an_expression (Generators ∷ Mark closing ∷ [])} (go_on (Sign comma ∷ us) (run us (an_expression (Generators ∷ Mark closing ∷ []))) (generators_run l (Mark closing ∷ [])) refl refl) (large_comes _ _ h (Generators ∷ Mark closing ∷ []))

pub many_has_come : {S : Session} {ts : List Token} → AreTooMany S ts → MayCome ts (Beginning true ∷ [])
unfolding statements.keyword_of
many_has_come (rank.questions many) = come refl
many_has_come (rank.names {name = name} (inl e) v w many) = subst (λ k. MayCome (Word k ∷ Word name ∷ []) (Beginning true ∷ [])) (sym e) (come refl)
many_has_come (rank.names {name = name} (inr (inl e)) v w many) = subst (λ k. MayCome (Word k ∷ Word name ∷ []) (Beginning true ∷ [])) (sym e) (come refl)
many_has_come (rank.names {name = name} (inr (inr (inl e))) v w many) = subst (λ k. MayCome (Word k ∷ Word name ∷ []) (Beginning true ∷ [])) (sym e) (come refl)
many_has_come (rank.names {name = name} (inr (inr (inr e))) v w many) = subst (λ k. MayCome (Word k ∷ Word name ∷ []) (Beginning true ∷ [])) (sym e) (come refl)
many_has_come (rank.generators new l full) = come (go_on (Sign comma ∷ []) (Some (an_expression (Generators ∷ Mark closing ∷ []))) (generators_run l (Mark closing ∷ [])) refl refl)
many_has_come (rank.terms new h many) = comes_front refl (comes (terms_run h []))
many_has_come (rank.generator_terms new l few many) = comes_front refl (comes (generators_run l (Mark closing ∷ [])))

pub arity_has_come : {S : Session} {ts : List Token} → HaveWrongArity S ts → MayCome ts (Beginning true ∷ [])
unfolding statements.keyword_of
arity_has_come (rank.too_many {ts = ts} new l all) = come (run_behind ts (Sign comma ∷ []) (a_coordinate (Coordinates ∷ Mark closing ∷ [])) (Coordinates ∷ Mark closing ∷ []) (coordinates_run l (Mark closing ∷ [])))
arity_has_come (rank.too_few {ts = ts} new l few) = come (run_behind ts (Sign closing ∷ []) (a_coordinate (Coordinates ∷ Mark closing ∷ [])) (Coordinates ∷ Mark closing ∷ []) (coordinates_run l (Mark closing ∷ [])))
