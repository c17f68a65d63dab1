-- Monomial orders by keys: a key gives each exponent list nine naturals, and the order is the lexicographic order of
-- the keys (Cox, Little and O'Shea 2015, chapter 2).
use Rattle.std.specs.Prelude.{◌≡◌, ℕ, zero, suc, ◌≤◌, List, [], ◌∷◌, ◌++◌, length, take, sum, slice_index, All}
use Rattle.std.specs.Ordering.{nat_cmp}
use Rattle.std.specs.Cmp.Lexicographic.{slice_cmp}
use Rattle.std.specs.declared.cmp.Ordering.{Ordering}
use Rattle.std.specs.declared.cmp.Ordering.TheVariants.{Less}
use Rattle.fj_theory.specs.Exponents.{IsExponents, plus, total}

-- The order of a key.
abbrev pub compare_by : (List ℕ → List ℕ) → List ℕ → List ℕ → Ordering
compare_by key a b = slice_cmp nat_cmp (key a) (key b)

-- Lex: the first exponent that differs decides.
unfoldable pub lex_key : List ℕ → List ℕ
lex_key a = a ++ 0 ∷ []

-- The sums of the first k exponents, for k from the given number down to 1.
unfoldable pub front_sums : ℕ → List ℕ → List ℕ
front_sums zero a = []
front_sums (suc k) a = sum (take (suc k) a) ∷ front_sums k a

-- Grevlex: the total decides, and at equal totals the last exponent that differs, the smaller being greater.
unfoldable pub grevlex_key : List ℕ → List ℕ
grevlex_key a = front_sums 8 a ++ 0 ∷ []

-- Grlex: the total decides, and at equal totals Lex.
unfoldable pub grlex_key : List ℕ → List ℕ
grlex_key a = sum a ∷ a

-- An elimination order for the eighth variable: its exponent decides, and then the other seven in Grevlex.
unfoldable pub elim_key : List ℕ → List ℕ
elim_key a = slice_index a 7 ∷ front_sums 7 a ++ 0 ∷ []

-- What makes a key a monomial order: nine entries, none above the total; no two exponent lists have one key; two exponent
-- lists compare as before after the same list is added to both. That the zero list is the least follows.
pub record IsMonomialOrder (key : List ℕ → List ℕ) : Type 0 where
  pub nine : (a : List ℕ) → IsExponents a → length (key a) ≡ 9
  pub bounded : (a : List ℕ) → IsExponents a → All (λ k. k ≤ total a) (key a)
  pub injective : (a b : List ℕ) → IsExponents a → IsExponents b → key a ≡ key b → a ≡ b
  pub kept : (a b c : List ℕ) → IsExponents a → IsExponents b → IsExponents c → compare_by key (plus a c) (plus b c) ≡ compare_by key a b

-- Each list is less than the next one.
abbrev pub IsRising : (List ℕ → List ℕ) → List (List ℕ) → Type 0
IsRising key [] = Unit {0}
IsRising key (a ∷ []) = Unit {0}
IsRising key (a ∷ b ∷ more) = (compare_by key a b ≡ Less) × IsRising key (b ∷ more)
