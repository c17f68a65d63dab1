-- What is at the place of a Syntax, and what is not: the causes of other kinds.
use Rattle.std.specs.Prelude.{◌≡◌, ℕ, zero, ◌+◌, List, [], ◌∷◌, ◌++◌, drop, Option, Some, None, codes}
use Rattle.fj_text.specs.Token.{Token, Word, Number, Sign, Placed, tokens_from}
use Rattle.fj_script.specs.declared.fault.Fault.{Fault}
use Rattle.fj_script.specs.Items.{equals}
use Rattle.fj_script.specs.Session.{Session}
use Rattle.fj_grammar.specs.Beginning.{CanGoOn, IsAlikeFor, IsDoomedWith}
use Rattle.fj_grammar.specs.FirstFault.{line_at}
use Rattle.fj_grammar.specs.Grammar.{IsRing, IsStatement}
use Rattle.fj_grammar.specs.Large.{HasLarge}
use Rattle.fj_grammar.specs.Many.{AreTooMany, HaveWrongArity}
use Rattle.fj_grammar.specs.Wrong.{BeginsLater}

-- A place is one past the last token of its line.
abbrev pub IsLineEnd : Fault → List ℕ → Type 0
IsLineEnd place bytes = (ts : List Placed) × (last : Placed) × (tokens_from zero zero (line_at place.line bytes) ≡ ts ++ last ∷ []) × (place.column ≡ last.end + 1)

-- These tokens are the ring's line, where there is no ring yet, and else a statement of this session, or of one that is alike.
abbrev pub IsWhole : Option Session → List Token → Type 0
IsWhole None ts = (T : Session) × IsRing ts T
IsWhole (Some S) ts = (other : Session) × IsAlikeFor (drop 1 ts) S other × (T : Session) × IsStatement other ts T

-- After these tokens a word of a fixed list has to come: of statements, of orders or of questions. Elsewhere a word is a name.
pub data NeedKeyword : List Token → Type 0 where
  statement : NeedKeyword []
  order : NeedKeyword (Word (codes "order") ∷ [])
  question : NeedKeyword (Word (codes "ask") ∷ [])
  named_result : {name : List ℕ} → NeedKeyword (Word (codes "let") ∷ Word name ∷ Sign equals ∷ [])

-- Tokens that differ in their numbers and names alone: in place of a number there may be another one, and in place of a name
-- another one.
pub data AreAlike : List Token → List Token → Type 0 where
  none : AreAlike [] []
  same : (ts us : List Token) (t : Token) → AreAlike ts us → AreAlike (ts ++ t ∷ []) (us ++ t ∷ [])
  number : (ts us : List Token) (n m : ℕ) → AreAlike ts us → AreAlike (ts ++ Number n ∷ []) (us ++ Number m ∷ [])
  name : (ts us : List Token) (v w : List ℕ) → AreAlike ts us → (NeedKeyword ts → ⊥) → AreAlike (ts ++ Word v ∷ []) (us ++ Word w ∷ [])

-- After these tokens a line may not end, whatever their numbers and names are. `before` is the session before the line.
abbrev pub IsUnfinished : Option Session → List Token → Type 0
IsUnfinished before ts = (us : List Token) → AreAlike ts us → IsWhole before us → ⊥

-- This token may not come after these ones, whatever their numbers and names are, and no other kind has its cause at it.
pub record IsMisplaced (before : Option Session) (ts : List Token) (t : Token) : Type 0 where
  pub no_statement : (us : List Token) → AreAlike (ts ++ t ∷ []) us → CanGoOn before us → ⊥
  pub not_doomed : (u : Token) → AreAlike (ts ++ t ∷ []) (ts ++ u ∷ []) → IsDoomedWith ts u → ⊥
  -- where there is no ring yet it isn't another statement's word
  pub no_later_statement : (w : List ℕ) → before ≡ None → ts ≡ [] → t ≡ Word w → BeginsLater w → ⊥
  pub nothing_large : (S : Session) → before ≡ Some S → HasLarge S (ts ++ t ∷ []) → ⊥
  pub right_arity : (S : Session) → before ≡ Some S → HaveWrongArity S (ts ++ t ∷ []) → ⊥
  pub not_too_many : (S : Session) → before ≡ Some S → AreTooMany S (ts ++ t ∷ []) → ⊥
