-- The rank of kinds at the place of a fault: of two that could stand there the higher one is reported. And each kind has its cause
-- at its place.
use Rattle.std.specs.Prelude.{◌≡◌, ℕ, zero, ◌+◌, ◌-◌, ◌^◌, ◌<◌, ◌≤◌, ◌⊎◌, List, [], ◌∷◌, ◌++◌, length, map, take, Contains, Option, None, Err, codes}
use Rattle.fj_text.specs.Token.{Token, Word, Number, BadByte, Placed, tokens_from}
use Rattle.fj_script.specs.declared.fault.Fault.{Fault}
use Rattle.fj_script.specs.declared.fault.FaultKind.{FaultKind}
use Rattle.fj_script.specs.declared.fault.FaultKind.TheVariants as kinds
use Rattle.fj_script.specs.Script.{lines, script}
use Rattle.fj_script.specs.Session.{Session}
use Rattle.fj_grammar.specs.Beginning.{CanGoOnWith, IsDoomedWith, MakeSession}
use Rattle.fj_grammar.specs.FirstFault.{HasStatements, line_at, tokens_before}
use Rattle.fj_grammar.specs.Grammar.{IsSession, tokens_of}
use Rattle.fj_grammar.specs.Large.{HasLarge}
use Rattle.fj_grammar.specs.Many.{AreTooMany, HaveWrongArity}
use Rattle.fj_grammar.specs.Owed.{IsLineEnd, IsMisplaced, IsUnfinished}
use Rattle.fj_grammar.specs.Wrong.{BeginsLater, IsWrong}

-- This token stands at a place.
abbrev pub StandsAt : Fault → List ℕ → Token → Type 0
StandsAt place bytes t = (at : Placed) × Contains (tokens_from zero zero (line_at place.line bytes)) at × (at.start + 1 ≡ place.column) × (at.token ≡ t)

-- The line of a place begins with this word.
abbrev pub BeginsWith : Fault → List ℕ → List ℕ → Type 0
BeginsWith place bytes w = (ts : List Token) × (tokens_of (line_at place.line bytes) ≡ Word w ∷ ts)

-- The tokens before a place in its line, and the lines before it.
abbrev pub tokens_to : Fault → List ℕ → List Token
tokens_to place bytes = map (λ t. t.token) (tokens_before place.column (line_at place.line bytes))

abbrev pub lines_to : Fault → List ℕ → List (List Token)
lines_to place bytes = map tokens_of (take (place.line - 1) (lines bytes))

-- The first token stands at a place, and after the session that the lines before make it is wrong in the way that is reported. A
-- statement may have the second one there: the tokens before go on with it, or it comes after one of the two beginnings that can't.
abbrev pub IsAt : Fault → List ℕ → Token → Token → Type 0
IsAt place bytes t u =
    StandsAt place bytes t
    × (before : Option Session) × MakeSession (lines_to place bytes) before × IsWrong before (tokens_to place bytes) place.kind t × (CanGoOnWith before (tokens_to place bytes) u ⊎ IsDoomedWith (tokens_to place bytes) u)

-- The kinds that are reported at a number, and those that are reported at a word.
abbrev pub IsOfNumber : FaultKind → Type 0
IsOfNumber kind = (kind ≡ kinds.Prime) ⊎ (kind ≡ kinds.Wide) ⊎ (kind ≡ kinds.Range)

abbrev pub IsOfWord : FaultKind → Type 0
IsOfWord kind = (kind ≡ kinds.Vars) ⊎ (kind ≡ kinds.Taken) ⊎ (kind ≡ kinds.Unknown) ⊎ (kind ≡ kinds.Kind) ⊎ (kind ≡ kinds.Constant)

-- A token stands at the place, and after the session that the lines before make the tokens of the line through it are such tokens.
abbrev pub HasCause : (Session → List Token → Type 0) → Fault → List ℕ → Type 0
HasCause Is place bytes = (t : Token) × StandsAt place bytes t × (S : Session) × IsSession (lines_to place bytes) S × Is S (tokens_to place bytes ++ t ∷ [])

-- Of two kinds that could stand at one place the lower one is reported only where the higher one doesn't stand.
pub record IsHighest (bytes : List ℕ) (place : Fault) : Type 0 where
  pub byte_over_others : StandsAt place bytes BadByte → place.kind ≡ kinds.Byte
  pub byte_at_bad_byte : place.kind ≡ kinds.Byte → StandsAt place bytes BadByte
  pub not_long : place.kind ≡ kinds.Long → ⊥
  -- NoRing is reported at the first token of the session, where it is another statement's word
  pub no_ring_at_first : place.kind ≡ kinds.NoRing → (w : List ℕ) × StandsAt place bytes (Word w) × BeginsLater w × (tokens_to place bytes ≡ []) × MakeSession (lines_to place bytes) None
  -- Syntax where the line ends and may not, or at a token that may not stand there and at which no other kind has its cause
  pub syntax_is_owed : place.kind ≡ kinds.Syntax → (before : Option Session) × MakeSession (lines_to place bytes) before
      × ((IsLineEnd place bytes × IsUnfinished before (tokens_to place bytes)) ⊎ ((t : Token) × StandsAt place bytes t × IsMisplaced before (tokens_to place bytes) t))
  -- a wrong number stands where a number may stand, and a wrong word where a word may
  pub syntax_over_number : IsOfNumber place.kind → (n m : ℕ) × IsAt place bytes (Number n) (Number m)
  pub syntax_over_word : IsOfWord place.kind → (v w : List ℕ) × IsAt place bytes (Word v) (Word w)
  -- where something is too large, or the number of coordinates is wrong, the text up to it is as in the grammar
  pub syntax_over_large : place.kind ≡ kinds.Large → HasCause HasLarge place bytes
  pub syntax_over_arity : place.kind ≡ kinds.Arity → HasCause HaveWrongArity place bytes
  -- no number of the ring's line is Wide
  pub prime_over_wide : place.kind ≡ kinds.Wide → BeginsWith place bytes (codes "ring") → ⊥
  -- a number that is Large, that is out of range, or with which there are too many terms isn't wide
  pub wide_over_large : place.kind ≡ kinds.Large → (n : ℕ) → StandsAt place bytes (Number n) → n < 2 ^ 32
  pub wide_over_range : place.kind ≡ kinds.Range → (n : ℕ) → StandsAt place bytes (Number n) → n < 2 ^ 32
  pub wide_over_many : place.kind ≡ kinds.Many → (n : ℕ) → StandsAt place bytes (Number n) → n < 2 ^ 32
  -- a variable that is taken is one of the first seven: at most `ring`, the prime, and six variables with their commas stand before it
  pub vars_over_taken : place.kind ≡ kinds.Taken → BeginsWith place bytes (codes "ring") → length (tokens_before place.column (line_at place.line bytes)) ≤ 14
  -- a name too many is no name yet, and an expression with which there are too many terms has its value
  pub taken_and_large_over_many : place.kind ≡ kinds.Many → HasCause AreTooMany place bytes

-- The kind of a fault is the highest at its place.
abbrev pub KindIsHighest : Type 0
KindIsHighest = (bytes : List ℕ) (place : Fault) → HasStatements bytes → script bytes ≡ Err place → IsHighest bytes place
