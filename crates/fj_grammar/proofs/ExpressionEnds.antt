-- The last token of an expression: a word, a number that isn't wide, or a closing parenthesis.
use Rattle.std.proofs.Common.{◌≡◌, ℕ, ◌^◌, ◌<◌, ◌≤◌, List, [], ◌∷◌, ◌++◌, refl, sym, ap, ◌∙◌, arith, append_assoc}
use Rattle.fj_coeff.specs.Field.{Field}
use Rattle.fj_theory.specs.Polynomial.{Polynomial}
use Rattle.fj_text.specs.declared.scope.Meaning.{Meaning}
use Rattle.fj_text.specs.Grammar as grammar
use Rattle.fj_text.specs.Grammar.{IsAtom, IsExpression, IsFactor, IsTerm}
use Rattle.fj_text.specs.Token.{Token, Word, Number, Sign, BadByte, caret, closing, minus, opening, plus, star}

-- A token that isn't a wide number.
abbrev pub IsNarrow : Token → Type 0
IsNarrow (Number n) = n < 2 ^ 32
IsNarrow (Word w) = Unit {0}
IsNarrow (Sign b) = Unit {0}
IsNarrow BadByte = Unit {0}

pub record EndsNarrow (ts : List Token) : Type 0 where
  pub front : List Token
  pub last : Token
  pub whole : ts ≡ front ++ last ∷ []
  pub narrow : IsNarrow last

pub narrow_behind : (ts us : List Token) → EndsNarrow us → EndsNarrow (ts ++ us)
narrow_behind ts us h = record { front = ts ++ h.front; last = h.last; whole = ap (λ vs. ts ++ vs) h.whole ∙ sym (append_assoc ts h.front (h.last ∷ [])); narrow = h.narrow }

pub exponent_narrow : (ts : List Token) (k : ℕ) → k ≤ 1000 → EndsNarrow (ts ++ Sign caret ∷ Number k ∷ [])
exponent_narrow ts k few = record { front = ts ++ Sign caret ∷ []; last = Number k; whole = sym (append_assoc ts (Sign caret ∷ []) (Number k ∷ [])); narrow = omega (arith, few) }

module _ {F : Field} {meaning : List ℕ → Meaning} where
  atom_narrow : {depth : ℕ} {ts : List Token} {f : Polynomial} → IsAtom F meaning depth ts f → EndsNarrow ts
  atom_narrow (grammar.number {n = n} h) = record { front = []; last = Number n; whole = refl; narrow = h }
  atom_narrow (grammar.word {w = w} h) = record { front = []; last = Word w; whole = refl; narrow = tt }
  atom_narrow (grammar.parentheses {ts = ts} d) = record { front = Sign opening ∷ ts; last = Sign closing; whole = refl; narrow = tt }

  pub factor_narrow : {depth : ℕ} {ts : List Token} {f : Polynomial} → IsFactor F meaning depth ts f → EndsNarrow ts
  factor_narrow (grammar.atom d) = atom_narrow d
  factor_narrow (grammar.raised {k = k} {ts = ts} d few h) = exponent_narrow ts k few

  pub term_narrow : {depth : ℕ} {ts : List Token} {f : Polynomial} → IsTerm F meaning depth ts f → EndsNarrow ts
  term_narrow (grammar.factor d) = factor_narrow d
  term_narrow (grammar.times {ts = ts} {us = us} d e h) = narrow_behind ts (Sign star ∷ us) (narrow_behind (Sign star ∷ []) us (factor_narrow e))

  pub expression_narrow : {depth : ℕ} {ts : List Token} {f : Polynomial} → IsExpression F meaning depth ts f → EndsNarrow ts
  expression_narrow (grammar.first d) = term_narrow d
  expression_narrow (grammar.negative {ts = ts} d) = narrow_behind (Sign minus ∷ []) ts (term_narrow d)
  expression_narrow (grammar.add {ts = ts} {us = us} d e h) = narrow_behind ts (Sign plus ∷ us) (narrow_behind (Sign plus ∷ []) us (term_narrow e))
  expression_narrow (grammar.less {ts = ts} {us = us} d e h) = narrow_behind ts (Sign minus ∷ us) (narrow_behind (Sign minus ∷ []) us (term_narrow e))
