-- What words stand for in the expressions of a session: its variables.
use Rattle.std.proofs.Common.{◌≡◌, ℕ, Bool, true, false, List, Option, Some, None}
use Rattle.std.specs.Option.{is_some, option_map_or}
use Rattle.fj_coeff.specs.Field.{Field}
use Rattle.fj_theory.specs.Polynomial.{Polynomial}
use Rattle.fj_text.specs.declared.scope.Meaning.{Meaning}
use Rattle.fj_text.specs.declared.scope.Meaning.TheVariants as meanings
use Rattle.fj_text.specs.Grammar as expressions
use Rattle.fj_text.specs.Grammar.{IsAtom, IsExpression, IsFactor, IsTerm}
use Rattle.fj_text.specs.Reading.{meaning_among, meaning_at}
use Rattle.fj_text.specs.Token.{Token}
use Rattle.fj_text.specs.Word.{place_of}
use Rattle.fj_script.specs.Names.{declared_names, meaning, unless_declared}
use Rattle.fj_script.specs.Session.{Session}
use Rattle.fj_grammar.specs.Large as large
use Rattle.fj_grammar.specs.Large.{IsLargeAtom, IsLargeExpression, IsLargeFactor, IsLargeTerm}

-- An expression is one where each word that is a variable is the same variable.
module _ {F : Field} {m n : List ℕ → Meaning} (same : (w : List ℕ) (i : ℕ) → m w ≡ meanings.Variable i → n w ≡ meanings.Variable i) where
  mutual
    atom_along : {depth : ℕ} {ts : List Token} {f : Polynomial} → IsAtom F m depth ts f → IsAtom F n depth ts f
    atom_along (expressions.number h) = expressions.number h
    atom_along (expressions.word {depth} {i} {w} h) = expressions.word (same w i h)
    atom_along (expressions.parentheses d) = expressions.parentheses (expression_along d)

    factor_along : {depth : ℕ} {ts : List Token} {f : Polynomial} → IsFactor F m depth ts f → IsFactor F n depth ts f
    factor_along (expressions.atom d) = expressions.atom (atom_along d)
    factor_along (expressions.raised d few h) = expressions.raised (atom_along d) few h

    term_along : {depth : ℕ} {ts : List Token} {f : Polynomial} → IsTerm F m depth ts f → IsTerm F n depth ts f
    term_along (expressions.factor d) = expressions.factor (factor_along d)
    term_along (expressions.times d e h) = expressions.times (term_along d) (factor_along e) h

    pub expression_along : {depth : ℕ} {ts : List Token} {f : Polynomial} → IsExpression F m depth ts f → IsExpression F n depth ts f
    expression_along (expressions.first d) = expressions.first (term_along d)
    expression_along (expressions.negative d) = expressions.negative (term_along d)
    expression_along (expressions.add d e h) = expressions.add (expression_along d) (term_along e) h
    expression_along (expressions.less d e h) = expressions.less (expression_along d) (term_along e) h

  mutual
    large_atom_along : {depth : ℕ} {ts : List Token} → IsLargeAtom F m depth ts → IsLargeAtom F n depth ts
    large_atom_along large.nested = large.nested
    large_atom_along (large.inside d) = large.inside (large_along d)

    large_factor_along : {depth : ℕ} {ts : List Token} → IsLargeFactor F m depth ts → IsLargeFactor F n depth ts
    large_factor_along (large.atom d) = large.atom (large_atom_along d)
    large_factor_along (large.exponent d much few) = large.exponent (atom_along d) much few
    large_factor_along (large.raised d few h) = large.raised (atom_along d) few h

    large_term_along : {depth : ℕ} {ts : List Token} → IsLargeTerm F m depth ts → IsLargeTerm F n depth ts
    large_term_along (large.factor d) = large.factor (large_factor_along d)
    large_term_along (large.later d e) = large.later (term_along d) (large_factor_along e)
    large_term_along (large.times d e h) = large.times (term_along d) (factor_along e) h

    pub large_along : {depth : ℕ} {ts : List Token} → IsLargeExpression F m depth ts → IsLargeExpression F n depth ts
    large_along (large.first d) = large.first (large_term_along d)
    large_along (large.negative d) = large.negative (large_term_along d)
    large_along (large.behind_plus d e) = large.behind_plus (expression_along d) (large_term_along e)
    large_along (large.behind_minus d e) = large.behind_minus (expression_along d) (large_term_along e)
    large_along (large.add d e h) = large.add (expression_along d) (term_along e) h
    large_along (large.less d e h) = large.less (expression_along d) (term_along e) h

module _ (S : Session) (w : List ℕ) (i : ℕ) where
  pub among_variables : meaning S w ≡ meanings.Variable i → meaning_among S.variables w ≡ meanings.Variable i
  unfolding meaning
  among_variables = by (place_of S.variables w) (is_some (place_of (declared_names S.values) w))
    where
      by : (o : Option ℕ) (b : Bool) → option_map_or (λ i. meanings.Variable i) o (unless_declared b) ≡ meanings.Variable i → meaning_at o ≡ meanings.Variable i
      by (Some k) b e = e
      by None true e = absurd cc
      by None false e = absurd cc

  pub in_session : meaning_among S.variables w ≡ meanings.Variable i → meaning S w ≡ meanings.Variable i
  unfolding meaning
  in_session = by (place_of S.variables w) (unless_declared (is_some (place_of (declared_names S.values) w)))
    where
      by : (o : Option ℕ) (m : Meaning) → meaning_at o ≡ meanings.Variable i → option_map_or (λ i. meanings.Variable i) o m ≡ meanings.Variable i
      by (Some k) m e = e
      by None m e = absurd cc
