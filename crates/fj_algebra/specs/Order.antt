-- Monomials, and orders of them by keys.
use Rattle.std.specs.Prelude.{◌≡◌, ◌⊎◌, ℕ, List, length}
use Rattle.std.specs.Ordering.{nat_cmp}
use Rattle.std.specs.Cmp.Lexicographic.{slice_cmp}
use Rattle.std.specs.declared.cmp.Ordering.{Ordering}
use Rattle.std.specs.declared.cmp.Ordering.TheVariants.{Less}

-- The monomials of a polynomial ring: a commutative monoid.
pub record Monomials (M : Type 0) : Type 0 where
  pub one : M
  pub times : M → M → M
  pub times_assoc : (a b c : M) → times (times a b) c ≡ times a (times b c)
  pub times_comm : (a b : M) → times a b ≡ times b a
  pub times_one : (a : M) → times a one ≡ a
  -- Whether one monomial divides another is decided, with the quotient.
  pub quotient : (a b : M) → Dec ((c : M) × (times a c ≡ b))

-- a divides b
pub record Divides {M : Type 0} (monomials : Monomials M) (a b : M) : Type 0 where
  pub quotient : M
  pub product : monomials.times a quotient ≡ b

-- c is a common multiple of a and b that divides each common multiple
pub record IsLeastCommonMultiple {M : Type 0} (monomials : Monomials M) (a b c : M) : Type 0 where
  pub left : Divides monomials a c
  pub right : Divides monomials b c
  pub least : (d : M) → Divides monomials a d → Divides monomials b d → Divides monomials c d

-- A monomial order (Cox, Little, O'Shea 2015, chapter 2) by keys: the lexicographic order of lists of naturals of one
-- length that tell the monomials apart, where it stays the same when both sides are multiplied by a monomial.
pub record MonomialOrder {M : Type 0} (monomials : Monomials M) : Type 0 where
  pub entries : ℕ
  pub key : M → List ℕ
  pub key_length : (a : M) → length (key a) ≡ entries
  pub key_injective : (a b : M) → key a ≡ key b → a ≡ b
  pub kept : (c a b : M) → slice_cmp nat_cmp (key (monomials.times c a)) (key (monomials.times c b)) ≡ slice_cmp nat_cmp (key a) (key b)

-- how the order compares two monomials
abbrev pub compare : {M : Type 0} {monomials : Monomials M} → MonomialOrder monomials → M → M → Ordering
compare order a b = slice_cmp nat_cmp (order.key a) (order.key b)

-- a is below b
pub record IsBelow {M : Type 0} {monomials : Monomials M} (order : MonomialOrder monomials) (a b : M) : Type 0 where
  pub is_less : compare order a b ≡ Less

-- a is at most b
abbrev pub IsAtMost : {M : Type 0} {monomials : Monomials M} → MonomialOrder monomials → M → M → Type 0
IsAtMost order a b = IsBelow order a b ⊎ (a ≡ b)
