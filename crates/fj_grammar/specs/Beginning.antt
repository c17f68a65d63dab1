-- What stands before the place of a fault could have gone on to a statement.
use Rattle.std.specs.Prelude.{◌≡◌, ℕ, ◌-◌, ◌↔◌, ◌⊎◌, List, [], ◌∷◌, ◌++◌, map, take, drop, length, All, Contains, Option, Some, None, Err, codes}
use Rattle.fj_text.specs.Token.{Token, Word, Number, Sign}
use Rattle.fj_script.specs.declared.fault.Fault.{Fault}
use Rattle.fj_script.specs.Items.{comma, equals, slash}
use Rattle.fj_script.specs.Script.{lines, script}
use Rattle.fj_script.specs.Session.{Session, Value}
use Rattle.fj_grammar.specs.FirstFault.{HasStatements, line_at, tokens_before}
use Rattle.fj_grammar.specs.Grammar.{AreListed, IsRing, IsSession, IsStatement, IsVariable, tokens_of}

-- Another session with the same ring, in which each of these words is declared as in this one.
pub record IsAlikeFor (ts : List Token) (S other : Session) : Type 0 where
  pub prime : other.prime ≡ S.prime
  pub variables : other.variables ≡ S.variables
  pub names : (w : List ℕ) (v : Value) → Contains ts (Word w) → (Contains S.values (w, v) ↔ Contains other.values (w, v))

-- Tokens can go on to a line: to the ring's where there is none yet, and else to a statement of this session, or of another
-- one in which the words after the first one mean the same.
abbrev pub CanGoOn : Option Session → List Token → Type 0
CanGoOn None ts = (more : List Token) × (T : Session) × IsRing (ts ++ more) T
CanGoOn (Some S) ts = (other : Session) × IsAlikeFor (drop 1 ts) S other × (more : List Token) × (T : Session) × IsStatement other (ts ++ more) T

-- The same, and the next token is this one. The words after it mean what they mean in the other session.
abbrev pub CanGoOnWith : Option Session → List Token → Token → Type 0
CanGoOnWith None ts t = (more : List Token) × (T : Session) × IsRing (ts ++ t ∷ more) T
CanGoOnWith (Some S) ts t = (other : Session) × IsAlikeFor (drop 1 ts) S other × (more : List Token) × (T : Session) × IsStatement other (ts ++ t ∷ more) T

-- Tokens that can't go on, though none of them is wrong: a comma after seven variables, and a fraction with numerator 0
-- where t has to be above 0.
pub data IsDoomed : List Token → Type 0 where
  ring : {p : ℕ} {vs : List (List ℕ)} {ts : List Token} → AreListed IsVariable ts vs → length vs ≡ 7 → IsDoomed (Word (codes "ring") ∷ Number p ∷ ts ++ Sign comma ∷ [])
  left : {F : List ℕ} → IsDoomed (Word (codes "ask") ∷ Word (codes "left") ∷ Word F ∷ Number 0 ∷ Sign slash ∷ [])
  isjump : {F : List ℕ} → IsDoomed (Word (codes "ask") ∷ Word (codes "isjump") ∷ Word F ∷ Number 0 ∷ Sign slash ∷ [])
  named_left : {N F : List ℕ} → IsDoomed (Word (codes "let") ∷ Word N ∷ Sign equals ∷ Word (codes "left") ∷ Word F ∷ Number 0 ∷ Sign slash ∷ [])

-- Such tokens, and a token that comes next all the same: a word after the comma, and a number after the `/`.
pub data IsDoomedWith : List Token → Token → Type 0 where
  eighth : {p : ℕ} {vs : List (List ℕ)} {ts : List Token} {w : List ℕ} → AreListed IsVariable ts vs → length vs ≡ 7 → IsDoomedWith (Word (codes "ring") ∷ Number p ∷ ts ++ Sign comma ∷ []) (Word w)
  left_over : {F : List ℕ} {n : ℕ} → IsDoomedWith (Word (codes "ask") ∷ Word (codes "left") ∷ Word F ∷ Number 0 ∷ Sign slash ∷ []) (Number n)
  isjump_over : {F : List ℕ} {n : ℕ} → IsDoomedWith (Word (codes "ask") ∷ Word (codes "isjump") ∷ Word F ∷ Number 0 ∷ Sign slash ∷ []) (Number n)
  named_left_over : {N F : List ℕ} {n : ℕ} → IsDoomedWith (Word (codes "let") ∷ Word N ∷ Sign equals ∷ Word (codes "left") ∷ Word F ∷ Number 0 ∷ Sign slash ∷ []) (Number n)

-- The session that lines make, where there is a ring yet.
abbrev pub MakeSession : List (List Token) → Option Session → Type 0
MakeSession ls None = All (λ ts. ts ≡ []) ls
MakeSession ls (Some S) = IsSession ls S

-- The tokens before the place of a fault can go on, after the session that the lines before it make.
abbrev pub BeginningIsLegal : Type 0
BeginningIsLegal =
    (bytes : List ℕ) (place : Fault) → HasStatements bytes → script bytes ≡ Err place
    → (before : Option Session) × MakeSession (map tokens_of (take (place.line - 1) (lines bytes))) before
    × (let ts = map (λ t. t.token) (tokens_before place.column (line_at place.line bytes)) in CanGoOn before ts ⊎ IsDoomed ts)
