-- The beginnings of expressions that end where something is too large first: at an exponent above 1,000, at the end of a power,
-- a product or a sum that is formed from the left and isn't within the limits, or at one parenthesis too many around each other.
use Rattle.std.specs.Prelude.{ℕ, zero, suc, ◌^◌, ◌<◌, ◌≤◌, List, [], ◌∷◌, ◌++◌, length, codes}
use Rattle.fj_coeff.specs.Field.{Field}
use Rattle.fj_coeff.specs.PrimeField.{prime_field}
use Rattle.fj_theory.specs.Polynomial.{Polynomial, negation, power, product, sum}
use Rattle.fj_text.specs.declared.scope.Meaning.{Meaning}
use Rattle.fj_text.specs.Grammar.{IsAtom, IsExpression, IsFactor, IsTerm, IsWithinLimits}
use Rattle.fj_text.specs.Reading.{meaning_among}
use Rattle.fj_text.specs.Token.{Token, Word, Number, Sign, caret, minus, opening, plus, star}
use Rattle.fj_script.specs.Items.{comma, equals}
use Rattle.fj_script.specs.Session.{Session, Terms}
use Rattle.fj_grammar.specs.Grammar.{AreListed, HasTerms, IsNew}

-- Of an atom, a factor, a term and an expression, where so many more parentheses may be around each other. All that stands
-- before is as in the grammar, and each of its values is within the limits.
mutual
  pub data IsLargeAtom (F : Field) (meaning : List ℕ → Meaning) : ℕ → List Token → Type 0 where
    nested : IsLargeAtom F meaning zero (Sign opening ∷ [])
    inside : {depth : ℕ} {ts : List Token} → IsLargeExpression F meaning depth ts → IsLargeAtom F meaning (suc depth) (Sign opening ∷ ts)

  pub data IsLargeFactor (F : Field) (meaning : List ℕ → Meaning) : ℕ → List Token → Type 0 where
    atom : {depth : ℕ} {ts : List Token} → IsLargeAtom F meaning depth ts → IsLargeFactor F meaning depth ts
    exponent : {depth k : ℕ} {ts : List Token} {f : Polynomial} → IsAtom F meaning depth ts f → 1000 < k → k < 2 ^ 32 → IsLargeFactor F meaning depth (ts ++ Sign caret ∷ Number k ∷ [])
    raised : {depth k : ℕ} {ts : List Token} {f : Polynomial} → IsAtom F meaning depth ts f → k ≤ 1000 → (((i : ℕ) → 2 ≤ i → i ≤ k → IsWithinLimits (power F f i)) → ⊥) → IsLargeFactor F meaning depth (ts ++ Sign caret ∷ Number k ∷ [])

  pub data IsLargeTerm (F : Field) (meaning : List ℕ → Meaning) : ℕ → List Token → Type 0 where
    factor : {depth : ℕ} {ts : List Token} → IsLargeFactor F meaning depth ts → IsLargeTerm F meaning depth ts
    later : {depth : ℕ} {ts us : List Token} {f : Polynomial} → IsTerm F meaning depth ts f → IsLargeFactor F meaning depth us → IsLargeTerm F meaning depth (ts ++ Sign star ∷ us)
    times : {depth : ℕ} {ts us : List Token} {f g : Polynomial} → IsTerm F meaning depth ts f → IsFactor F meaning depth us g → (IsWithinLimits (product F f g) → ⊥) → IsLargeTerm F meaning depth (ts ++ Sign star ∷ us)

  pub data IsLargeExpression (F : Field) (meaning : List ℕ → Meaning) : ℕ → List Token → Type 0 where
    first : {depth : ℕ} {ts : List Token} → IsLargeTerm F meaning depth ts → IsLargeExpression F meaning depth ts
    negative : {depth : ℕ} {ts : List Token} → IsLargeTerm F meaning depth ts → IsLargeExpression F meaning depth (Sign minus ∷ ts)
    behind_plus : {depth : ℕ} {ts us : List Token} {f : Polynomial} → IsExpression F meaning depth ts f → IsLargeTerm F meaning depth us → IsLargeExpression F meaning depth (ts ++ Sign plus ∷ us)
    behind_minus : {depth : ℕ} {ts us : List Token} {f : Polynomial} → IsExpression F meaning depth ts f → IsLargeTerm F meaning depth us → IsLargeExpression F meaning depth (ts ++ Sign minus ∷ us)
    add : {depth : ℕ} {ts us : List Token} {f g : Polynomial} → IsExpression F meaning depth ts f → IsTerm F meaning depth us g → (IsWithinLimits (sum F f g) → ⊥) → IsLargeExpression F meaning depth (ts ++ Sign plus ∷ us)
    less : {depth : ℕ} {ts us : List Token} {f g : Polynomial} → IsExpression F meaning depth ts f → IsTerm F meaning depth us g → (IsWithinLimits (sum F f (negation F g)) → ⊥) → IsLargeExpression F meaning depth (ts ++ Sign minus ∷ us)

-- The same over the field and in the variables of the ring.
abbrev pub IsLargeIn : Session → List Token → Type 0
IsLargeIn S ts = IsLargeExpression (prime_field S.prime) (meaning_among S.variables) 64 ts

-- A declaration as far as something in it is too large: the expression of a polynomial, or a generator after others.
pub data HasLarge (S : Session) : List Token → Type 0 where
  poly : {name : List ℕ} {ts : List Token} → IsNew S name → IsLargeIn S ts → HasLarge S (Word (codes "poly") ∷ Word name ∷ Sign equals ∷ ts)
  first_generator : {name : List ℕ} {ts : List Token} → IsNew S name → IsLargeIn S ts → HasLarge S (Word (codes "ideal") ∷ Word name ∷ Sign equals ∷ Sign opening ∷ ts)
  generator : {name : List ℕ} {ts us : List Token} {fs : List Terms} → IsNew S name → AreListed (HasTerms S) ts fs → length fs < 256 → IsLargeIn S us
      → HasLarge S (Word (codes "ideal") ∷ Word name ∷ Sign equals ∷ Sign opening ∷ ts ++ Sign comma ∷ us)
