-- The grammar of expressions over tokens, without places and faults, each expression with its value; and what it has to do
-- with what is read.
use Rattle.std.specs.Prelude.{◌≡◌, ◌≢◌, ℕ, suc, ◌%◌, ◌^◌, ◌<◌, ◌≤◌, List, [], ◌∷◌, ◌++◌, map, unwrap_or, Ok}
use Rattle.std.specs.FinMap.{len}
use Rattle.fj_coeff.specs.Field.{Field, IsField}
use Rattle.fj_theory.specs.Exponents.{origin}
use Rattle.fj_theory.specs.PointIdeal.{variable_exponents}
use Rattle.fj_theory.specs.Polynomial.{Polynomial, degree, negation, power, product, sum, term}
use Rattle.fj_text.specs.declared.scope.Meaning.{Meaning}
use Rattle.fj_text.specs.declared.scope.Meaning.TheVariants.{Variable}
use Rattle.fj_text.specs.Token.{Token, Word, Number, Sign, BadByte, star, caret, plus, minus, opening, closing}
use Rattle.fj_text.specs.State.{State}
use Rattle.fj_text.specs.Expression.{expression}

-- At most 1,000 terms, and a degree of at most 1,000.
pub record IsWithinLimits (f : Polynomial) : Type 0 where
  pub few : len f ≤ 1000
  pub low : unwrap_or (degree f) 0 ≤ 1000

-- Tokens that are an atom, a factor, a term and an expression with this value. At most so many parentheses are around
-- each other, and each value formed on the way is within the limits.
mutual
  pub data IsAtom (F : Field) (meaning : List ℕ → Meaning) : ℕ → List Token → Polynomial → Type 0 where
    number : {depth n : ℕ} → n < 2 ^ 32 → IsAtom F meaning depth (Number n ∷ []) (term (n % F.characteristic) origin)
    word : {depth i : ℕ} {w : List ℕ} → meaning w ≡ Variable i → IsAtom F meaning depth (Word w ∷ []) (term 1 (variable_exponents i))
    parentheses : {depth : ℕ} {ts : List Token} {f : Polynomial} → IsExpression F meaning depth ts f → IsAtom F meaning (suc depth) (Sign opening ∷ ts ++ Sign closing ∷ []) f

  pub data IsFactor (F : Field) (meaning : List ℕ → Meaning) : ℕ → List Token → Polynomial → Type 0 where
    atom : {depth : ℕ} {ts : List Token} {f : Polynomial} → IsAtom F meaning depth ts f → IsFactor F meaning depth ts f
    raised : {depth k : ℕ} {ts : List Token} {f : Polynomial} → IsAtom F meaning depth ts f → k ≤ 1000 → ((i : ℕ) → 2 ≤ i → i ≤ k → IsWithinLimits (power F f i)) → IsFactor F meaning depth (ts ++ Sign caret ∷ Number k ∷ []) (power F f k)

  pub data IsTerm (F : Field) (meaning : List ℕ → Meaning) : ℕ → List Token → Polynomial → Type 0 where
    factor : {depth : ℕ} {ts : List Token} {f : Polynomial} → IsFactor F meaning depth ts f → IsTerm F meaning depth ts f
    times : {depth : ℕ} {ts us : List Token} {f g : Polynomial} → IsTerm F meaning depth ts f → IsFactor F meaning depth us g → IsWithinLimits (product F f g) → IsTerm F meaning depth (ts ++ Sign star ∷ us) (product F f g)

  pub data IsExpression (F : Field) (meaning : List ℕ → Meaning) : ℕ → List Token → Polynomial → Type 0 where
    first : {depth : ℕ} {ts : List Token} {f : Polynomial} → IsTerm F meaning depth ts f → IsExpression F meaning depth ts f
    negative : {depth : ℕ} {ts : List Token} {f : Polynomial} → IsTerm F meaning depth ts f → IsExpression F meaning depth (Sign minus ∷ ts) (negation F f)
    add : {depth : ℕ} {ts us : List Token} {f g : Polynomial} → IsExpression F meaning depth ts f → IsTerm F meaning depth us g → IsWithinLimits (sum F f g) → IsExpression F meaning depth (ts ++ Sign plus ∷ us) (sum F f g)
    less : {depth : ℕ} {ts us : List Token} {f g : Polynomial} → IsExpression F meaning depth ts f → IsTerm F meaning depth us g → IsWithinLimits (sum F f (negation F g)) → IsExpression F meaning depth (ts ++ Sign minus ∷ us) (sum F f (negation F g))

-- the tokens that are left, without their places
abbrev pub tokens_left : State → List Token
tokens_left s = map (λ t. t.token) s.left

-- The tokens don't go on with an expression before them.
abbrev pub AreBehind : List Token → Type 0
AreBehind [] = Unit {0}
AreBehind (Sign b ∷ ts) = (b ≢ caret) × (b ≢ star) × (b ≢ plus) × (b ≢ minus)
AreBehind (Word w ∷ ts) = Unit {0}
AreBehind (Number n ∷ ts) = Unit {0}
AreBehind (BadByte ∷ ts) = Unit {0}

-- What is read is an expression with this value.
abbrev pub ReadIsExpression : Type 0
ReadIsExpression =
    (F : Field) → IsField F → (meaning : List ℕ → Meaning) (s t : State) (f : Polynomial)
    → expression F meaning s ≡ Ok (f, t) → (ts : List Token) × (tokens_left s ≡ ts ++ tokens_left t) × IsExpression F meaning 64 ts f

-- An expression is read, with this value.
abbrev pub ExpressionIsRead : Type 0
ExpressionIsRead =
    (F : Field) → IsField F → (meaning : List ℕ → Meaning) (s : State) (ts rest : List Token) (f : Polynomial)
    → IsExpression F meaning 64 ts f → tokens_left s ≡ ts ++ rest → AreBehind rest → (t : State) × (expression F meaning s ≡ Ok (f, t)) × (tokens_left t ≡ rest)
