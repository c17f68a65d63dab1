-- What is wrong with the number or the word at which a fault is reported.
use Rattle.std.specs.Prelude.{◌≡◌, ℕ, ◌^◌, ◌<◌, ◌≤◌, ◌⊎◌, false, List, [], drop, Contains, Option, Some, None, codes}
use Rattle.fj_coeff.specs.Field.{primes}
use Rattle.fj_text.specs.Token.{Token, Word, Number}
use Rattle.fj_script.specs.declared.fault.FaultKind.{FaultKind}
use Rattle.fj_script.specs.declared.fault.FaultKind.TheVariants as kinds
use Rattle.fj_script.specs.Session.{Session, Terms, Value, Poly, is_nonconstant}
use Rattle.fj_grammar.specs.Beginning.{IsDoomedWith}

-- A variable of the ring, or a declared name.
abbrev pub IsNameIn : Session → List ℕ → Type 0
IsNameIn S w = Contains S.variables w ⊎ ((v : Value) × Contains S.values (w, v))

-- A word that begins a statement, but not the ring's.
abbrev pub BeginsLater : List ℕ → Type 0
BeginsLater w = (w ≡ codes "order") ⊎ (w ≡ codes "budget") ⊎ (w ≡ codes "poly") ⊎ (w ≡ codes "ideal") ⊎ (w ≡ codes "point") ⊎ (w ≡ codes "let") ⊎ (w ≡ codes "ask")

-- A token that is wrong in this way after these tokens of its line: of the ring's line, where there is no session yet, and else
-- of a line after this session.
pub data IsWrong : Option Session → List Token → FaultKind → Token → Type 0 where
  no_ring : {w : List ℕ} → BeginsLater w → IsWrong None [] kinds.NoRing (Word w)
  no_prime : {ts : List Token} {n : ℕ} → (Contains primes n → ⊥) → IsWrong None ts kinds.Prime (Number n)
  eighth : {ts : List Token} {w : List ℕ} → IsDoomedWith ts (Word w) → IsWrong None ts kinds.Vars (Word w)
  again : {ts : List Token} {w : List ℕ} → Contains (drop 1 ts) (Word w) → IsWrong None ts kinds.Taken (Word w)
  taken : {S : Session} {ts : List Token} {w : List ℕ} → IsNameIn S w → IsWrong (Some S) ts kinds.Taken (Word w)
  unknown : {S : Session} {ts : List Token} {w : List ℕ} → (IsNameIn S w → ⊥) → IsWrong (Some S) ts kinds.Unknown (Word w)
  other : {S : Session} {ts : List Token} {w : List ℕ} → IsNameIn S w → IsWrong (Some S) ts kinds.Kind (Word w)
  constant : {S : Session} {ts : List Token} {w : List ℕ} {f : Terms} → Contains S.values (w, Poly f) → is_nonconstant f ≡ false → IsWrong (Some S) ts kinds.Constant (Word w)
  wide : {S : Session} {ts : List Token} {n : ℕ} → 2 ^ 32 ≤ n → IsWrong (Some S) ts kinds.Wide (Number n)
  out_of_range : {S : Session} {ts : List Token} {n : ℕ} → n < 2 ^ 32 → IsWrong (Some S) ts kinds.Range (Number n)
