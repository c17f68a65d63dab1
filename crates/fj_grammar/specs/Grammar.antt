-- The grammar of sessions over tokens, without places and faults, each session with its meaning.
use Rattle.std.specs.Prelude.{◌≡◌, ◌≢◌, ℕ, zero, ◌+◌, ◌-◌, ◌*◌, ◌%◌, ◌^◌, ◌<◌, ◌≤◌, IsTrue, List, [], ◌∷◌, ◌++◌, length, map, slice_get, Some, All, AllPairs, Contains, codes}
use Rattle.fj_coeff.specs.Field.{primes}
use Rattle.fj_coeff.specs.PrimeField.{prime_field}
use Rattle.fj_theory.specs.Fraction.{Fraction}
use Rattle.fj_theory.specs.MonomialOrder.{grevlex_key}
use Rattle.fj_theory.specs.Polynomial.{Polynomial, terms_falling}
use Rattle.fj_ratio.specs.Lowest.{IsLowestForm}
use Rattle.fj_plain.specs.declared.order_name.OrderName.TheVariants as orders
use Rattle.fj_text.specs.Grammar.{IsExpression}
use Rattle.fj_text.specs.Reading.{meaning_among}
use Rattle.fj_text.specs.Token.{Token, Word, Number, Sign, minus, opening, closing, tokens_from}
use Rattle.fj_script.specs.declared.question.Question.{Question}
use Rattle.fj_script.specs.declared.question.Question.TheVariants as questions
use Rattle.fj_script.specs.Items.{comma, equals, slash}
use Rattle.fj_script.specs.Question.{answers_ideal}
use Rattle.fj_script.specs.Session.{Session, Terms, Value, Poly, Ideal, Point, Let, ask, declare, is_nonconstant, new_session, terms_in}
use Rattle.fj_script.specs.Script.{lines}

-- Items with a comma between each two.
pub data AreListed {A : Type 0} (Is : List Token → A → Type 0) : List Token → List A → Type 0 where
  last : {ts : List Token} {x : A} → Is ts x → AreListed Is ts (x ∷ [])
  more : {ts us : List Token} {x : A} {xs : List A} → Is ts x → AreListed Is us xs → AreListed Is (ts ++ Sign comma ∷ us) (x ∷ xs)

-- A variable. Any word may be one.
pub data IsVariable : List Token → List ℕ → Type 0 where
  variable : {w : List ℕ} → IsVariable (Word w ∷ []) w

-- `ring p v1, v2, ..`: one of the primes, and one to seven variables, no two the same
pub data IsRing : List Token → Session → Type 0 where
  ring : {p : ℕ} {vs : List (List ℕ)} {ts : List Token} → Contains primes p → AreListed IsVariable ts vs → length vs ≤ 7 → AllPairs (λ v w. v ≢ w) vs → IsRing (Word (codes "ring") ∷ Number p ∷ ts) (new_session p vs)

-- A word that may be declared: no variable and no declared name, and fewer than 4,096 names are declared.
pub record IsNew (S : Session) (name : List ℕ) : Type 0 where
  pub no_variable : All (λ v. v ≢ name) S.variables
  pub not_declared : All (λ v. v.0 ≢ name) S.values
  pub few : length S.values < 4096

-- An expression over the field and in the variables of the ring, and the terms of its value.
pub data HasTerms (S : Session) : List Token → Terms → Type 0 where
  terms : {ts : List Token} {f : Polynomial} → IsExpression (prime_field S.prime) (meaning_among S.variables) 64 ts f → HasTerms S ts (terms_falling grevlex_key f)

-- A number, or `-` and a number, modulo p.
pub data IsCoordinate (p : ℕ) : List Token → ℕ → Type 0 where
  number : {n : ℕ} → n < 2 ^ 32 → IsCoordinate p (Number n ∷ []) (n % p)
  negative : {n : ℕ} → n < 2 ^ 32 → IsCoordinate p (Sign minus ∷ Number n ∷ []) ((p - n % p) % p)

-- The name that was declared at this place, counted from 0, and what it stands for.
pub record NamesPolynomial (S : Session) (name : List ℕ) (place : ℕ) : Type 0 where
  pub terms : Terms
  pub is : slice_get S.values place ≡ Some (name, Poly terms)

-- A polynomial with a term of degree 1 or more.
pub record NamesNonconstant (S : Session) (name : List ℕ) (place : ℕ) : Type 0 where
  pub terms : Terms
  pub is : slice_get S.values place ≡ Some (name, Poly terms)
  pub nonconstant : IsTrue (is_nonconstant terms)

-- An ideal by its generators, or the one that a question has as its answer.
pub data IsIdeal : Value → Type 0 where
  generated : {fs : List Terms} → IsIdeal (Ideal fs)
  answered : {budget : ℕ} {q : Question} → IsIdeal (Let budget q)

pub record NamesIdeal (S : Session) (name : List ℕ) (place : ℕ) : Type 0 where
  pub value : Value
  pub is : slice_get S.values place ≡ Some (name, value)
  pub ideal : IsIdeal value

pub record NamesPoint (S : Session) (name : List ℕ) (place : ℕ) : Type 0 where
  pub coordinates : List ℕ
  pub is : slice_get S.values place ≡ Some (name, Point coordinates)

-- E of `jumps` and `threshold`: at least 1, with p^E at most 65,536.
pub record IsLevel (p e : ℕ) : Type 0 where
  pub above_zero : 1 ≤ e
  pub low : p ^ e ≤ 65536

-- t: a number, or two with a `/` between them, in lowest terms at most 8 and with a denominator of at most 65,535.
pub record IsExponent (m n : ℕ) (t : Fraction) : Type 0 where
  pub numerator_fits : m < 2 ^ 32
  pub denominator_fits : n < 2 ^ 32
  pub divides : 0 < n
  pub form : IsLowestForm m n t
  pub low : t.numerator ≤ 8 * t.denominator
  pub short : t.denominator ≤ 65535

pub data IsRatio : List Token → Fraction → Type 0 where
  whole : {m : ℕ} {t : Fraction} → IsExponent m 1 t → IsRatio (Number m ∷ []) t
  quotient : {m n : ℕ} {t : Fraction} → IsExponent m n t → IsRatio (Number m ∷ Sign slash ∷ Number n ∷ []) t

-- What stands after `ask`, and after `let N =` where an ideal is the answer. The name's kind decides whether a question is about an ideal or a point.
pub data IsQuestion (S : Session) : List Token → Question → Type 0 where
  parts : {e f : ℕ} {F : List ℕ} → e ≤ 12 → NamesPolynomial S F f → IsQuestion S (Word (codes "parts") ∷ Number e ∷ Word F ∷ []) (questions.Parts e f)
  basis : {j : ℕ} {J : List ℕ} → NamesIdeal S J j → IsQuestion S (Word (codes "basis") ∷ Word J ∷ []) (questions.Basis j)
  member : {f j : ℕ} {F J : List ℕ} → NamesPolynomial S F f → NamesIdeal S J j → IsQuestion S (Word (codes "member") ∷ Word F ∷ Word J ∷ []) (questions.Member f j)
  same : {j k : ℕ} {J K : List ℕ} → NamesIdeal S J j → NamesIdeal S K k → IsQuestion S (Word (codes "same") ∷ Word J ∷ Word K ∷ []) (questions.Same j k)
  sum : {j k : ℕ} {J K : List ℕ} → NamesIdeal S J j → NamesIdeal S K k → IsQuestion S (Word (codes "sum") ∷ Word J ∷ Word K ∷ []) (questions.Sum j k)
  product : {j k : ℕ} {J K : List ℕ} → NamesIdeal S J j → NamesIdeal S K k → IsQuestion S (Word (codes "product") ∷ Word J ∷ Word K ∷ []) (questions.Product j k)
  meet : {j k : ℕ} {J K : List ℕ} → NamesIdeal S J j → NamesIdeal S K k → IsQuestion S (Word (codes "meet") ∷ Word J ∷ Word K ∷ []) (questions.Meet j k)
  colon : {j k : ℕ} {J K : List ℕ} → NamesIdeal S J j → NamesIdeal S K k → IsQuestion S (Word (codes "colon") ∷ Word J ∷ Word K ∷ []) (questions.Colon j k)
  power : {e j : ℕ} {J : List ℕ} → e ≤ 12 → NamesIdeal S J j → IsQuestion S (Word (codes "power") ∷ Number e ∷ Word J ∷ []) (questions.Power e j)
  root : {e j : ℕ} {J : List ℕ} → e ≤ 12 → NamesIdeal S J j → IsQuestion S (Word (codes "root") ∷ Number e ∷ Word J ∷ []) (questions.Root e j)
  test : {f : ℕ} {F : List ℕ} {ts : List Token} {t : Fraction} → NamesNonconstant S F f → IsRatio ts t → IsQuestion S (Word (codes "test") ∷ Word F ∷ ts) (questions.Test f t)
  left : {f : ℕ} {F : List ℕ} {ts : List Token} {t : Fraction} → NamesNonconstant S F f → IsRatio ts t → 0 < t.numerator → IsQuestion S (Word (codes "left") ∷ Word F ∷ ts) (questions.Left f t)
  isjump : {f : ℕ} {F : List ℕ} {ts : List Token} {t : Fraction} → NamesNonconstant S F f → IsRatio ts t → 0 < t.numerator → IsQuestion S (Word (codes "isjump") ∷ Word F ∷ ts) (questions.IsJump f t)
  regular : {f : ℕ} {F : List ℕ} {ts : List Token} {t : Fraction} → NamesNonconstant S F f → IsRatio ts t → IsQuestion S (Word (codes "regular") ∷ Word F ∷ ts) (questions.Regular f t)
  jumps : {f e : ℕ} {F : List ℕ} → NamesNonconstant S F f → IsLevel S.prime e → IsQuestion S (Word (codes "jumps") ∷ Word F ∷ Number e ∷ []) (questions.Jumps f e)
  nu : {e f j : ℕ} {F J : List ℕ} → e ≤ 12 → NamesNonconstant S F f → NamesIdeal S J j → IsQuestion S (Word (codes "nu") ∷ Number e ∷ Word F ∷ Word J ∷ []) (questions.Nu e f j)
  threshold : {f j e : ℕ} {F J : List ℕ} → NamesNonconstant S F f → NamesIdeal S J j → IsLevel S.prime e → IsQuestion S (Word (codes "threshold") ∷ Word F ∷ Word J ∷ Number e ∷ []) (questions.Threshold f j e)
  threshold_at : {f at e : ℕ} {F P : List ℕ} → NamesNonconstant S F f → NamesPoint S P at → IsLevel S.prime e → IsQuestion S (Word (codes "threshold") ∷ Word F ∷ Word P ∷ Number e ∷ []) (questions.ThresholdAt f at e)
  fpure : {j : ℕ} {J : List ℕ} → NamesIdeal S J j → IsQuestion S (Word (codes "fpure") ∷ Word J ∷ []) (questions.Pure j)
  fpure_at : {j at : ℕ} {J P : List ℕ} → NamesIdeal S J j → NamesPoint S P at → IsQuestion S (Word (codes "fpure") ∷ Word J ∷ Word P ∷ []) (questions.PureAt j at)
  split : {j : ℕ} {J : List ℕ} → NamesIdeal S J j → IsQuestion S (Word (codes "split") ∷ Word J ∷ []) (questions.Split j)
  compatible : {e u j : ℕ} {U J : List ℕ} → e ≤ 12 → NamesPolynomial S U u → NamesIdeal S J j → IsQuestion S (Word (codes "compatible") ∷ Number e ∷ Word U ∷ Word J ∷ []) (questions.Compatible e u j)

-- A statement after the ring, and the session that it makes of the one before it.
pub data IsStatement (S : Session) : List Token → Session → Type 0 where
  lex : IsStatement S (Word (codes "order") ∷ Word (codes "lex") ∷ []) (record S { order = orders.Lex })
  grlex : IsStatement S (Word (codes "order") ∷ Word (codes "grlex") ∷ []) (record S { order = orders.Grlex })
  grevlex : IsStatement S (Word (codes "order") ∷ Word (codes "grevlex") ∷ []) (record S { order = orders.Grevlex })
  budget : {b : ℕ} → 1 ≤ b → b ≤ 10000000 → IsStatement S (Word (codes "budget") ∷ Number b ∷ []) (record S { budget = b })
  poly : {name : List ℕ} {ts : List Token} {f : Terms} → IsNew S name → HasTerms S ts f → S.terms + length f ≤ 1000000
      → IsStatement S (Word (codes "poly") ∷ Word name ∷ Sign equals ∷ ts) (declare S name (Poly f) (length f))
  ideal : {name : List ℕ} {ts : List Token} {fs : List Terms} → IsNew S name → AreListed (HasTerms S) ts fs → length fs ≤ 256 → S.terms + terms_in fs ≤ 1000000
      → IsStatement S (Word (codes "ideal") ∷ Word name ∷ Sign equals ∷ Sign opening ∷ ts ++ Sign closing ∷ []) (declare S name (Ideal fs) (terms_in fs))
  point : {name : List ℕ} {ts : List Token} {cs : List ℕ} → IsNew S name → AreListed (IsCoordinate S.prime) ts cs → length cs ≡ length S.variables
      → IsStatement S (Word (codes "point") ∷ Word name ∷ Sign equals ∷ Sign opening ∷ ts ++ Sign closing ∷ []) (declare S name (Point cs) 0)
  named_result : {name : List ℕ} {ts : List Token} {q : Question} → IsNew S name → IsQuestion S ts q → IsTrue (answers_ideal q)
      → IsStatement S (Word (codes "let") ∷ Word name ∷ Sign equals ∷ ts) (declare S name (Let S.budget q) 0)
  asked : {ts : List Token} {q : Question} → length S.asked < 4096 → IsQuestion S ts q → IsStatement S (Word (codes "ask") ∷ ts) (ask S q)

-- Lines after the ring. A line without a token says nothing.
pub data AreStatements : Session → List (List Token) → Session → Type 0 where
  none : {S : Session} → AreStatements S [] S
  nothing : {S T : Session} {ls : List (List Token)} → AreStatements S ls T → AreStatements S ([] ∷ ls) T
  statement : {S T U : Session} {ts : List Token} {ls : List (List Token)} → IsStatement S ts T → AreStatements T ls U → AreStatements S (ts ∷ ls) U

-- The lines of a session. The first statement is the ring's.
pub data IsSession : List (List Token) → Session → Type 0 where
  blank : {S : Session} {ls : List (List Token)} → IsSession ls S → IsSession ([] ∷ ls) S
  begins : {S T : Session} {ts : List Token} {ls : List (List Token)} → IsRing ts S → AreStatements S ls T → IsSession (ts ∷ ls) T

-- The tokens of a line.
abbrev pub tokens_of : List ℕ → List Token
tokens_of line = map (λ t. t.token) (tokens_from zero zero line)

-- Bytes that are a session: at most 1,048,576, whose lines are one.
pub record AreSession (bytes : List ℕ) (S : Session) : Type 0 where
  pub few : length bytes ≤ 1048576
  pub is : IsSession (map tokens_of (lines bytes)) S
