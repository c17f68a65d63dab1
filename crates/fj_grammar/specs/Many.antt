-- What there may be too many of, and coordinates of which there are too many or too few.
use Rattle.std.specs.Prelude.{◌≡◌, ◌≢◌, ℕ, ◌+◌, ◌<◌, ◌≤◌, ◌⊎◌, List, [], ◌∷◌, ◌++◌, length, All, codes}
use Rattle.fj_text.specs.Token.{Token, Word, Sign, opening, closing}
use Rattle.fj_script.specs.Items.{comma, equals}
use Rattle.fj_script.specs.Session.{Session, Terms, terms_in}
use Rattle.fj_grammar.specs.Grammar.{AreListed, HasTerms, IsCoordinate, IsNew}

abbrev pub Declares : List ℕ → Type 0
Declares keyword = (keyword ≡ codes "poly") ⊎ (keyword ≡ codes "ideal") ⊎ (keyword ≡ codes "point") ⊎ (keyword ≡ codes "let")

-- Tokens up to one at which there are too many of something, in a line after this session. No higher kind stands there: the
-- name is none of the session's, and each value that is formed in an expression is within its limits.
pub data AreTooMany (S : Session) : List Token → Type 0 where
  questions : 4096 ≤ length S.asked → AreTooMany S (Word (codes "ask") ∷ [])
  names : {keyword name : List ℕ} → Declares keyword → All (λ v. v ≢ name) S.variables → All (λ v. v.0 ≢ name) S.values → 4096 ≤ length S.values → AreTooMany S (Word keyword ∷ Word name ∷ [])
  generators : {name : List ℕ} {ts : List Token} {fs : List Terms} → IsNew S name → AreListed (HasTerms S) ts fs → length fs ≡ 256 → AreTooMany S (Word (codes "ideal") ∷ Word name ∷ Sign equals ∷ Sign opening ∷ ts ++ Sign comma ∷ [])
  terms : {name : List ℕ} {ts : List Token} {f : Terms} → IsNew S name → HasTerms S ts f → 1000000 < S.terms + length f → AreTooMany S (Word (codes "poly") ∷ Word name ∷ Sign equals ∷ ts)
  generator_terms : {name : List ℕ} {ts : List Token} {fs : List Terms} → IsNew S name → AreListed (HasTerms S) ts fs → length fs ≤ 256 → 1000000 < S.terms + terms_in fs
      → AreTooMany S (Word (codes "ideal") ∷ Word name ∷ Sign equals ∷ Sign opening ∷ ts)

-- Tokens up to a comma after a coordinate for each variable, or up to a parenthesis after too few, in a line after this session.
pub data HaveWrongArity (S : Session) : List Token → Type 0 where
  too_many : {name : List ℕ} {ts : List Token} {cs : List ℕ} → IsNew S name → AreListed (IsCoordinate S.prime) ts cs → length cs ≡ length S.variables
      → HaveWrongArity S (Word (codes "point") ∷ Word name ∷ Sign equals ∷ Sign opening ∷ ts ++ Sign comma ∷ [])
  too_few : {name : List ℕ} {ts : List Token} {cs : List ℕ} → IsNew S name → AreListed (IsCoordinate S.prime) ts cs → length cs < length S.variables
      → HaveWrongArity S (Word (codes "point") ∷ Word name ∷ Sign equals ∷ Sign opening ∷ ts ++ Sign closing ∷ [])
