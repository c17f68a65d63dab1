-- Rings over whose q-th powers a finite basis is given, as polynomial rings over a perfect field have one.
use Rattle.std.specs.Prelude.{◌≡◌, ℕ, List, Contains}
use Rattle.fj_algebra.specs.Ring.{CommutativeRing}
use Rattle.fj_algebra.specs.Power.{power}
use Rattle.fj_algebra.specs.Sum.{sum_over}
use Rattle.fj_algebra.specs.Frobenius.{IsFrobenius}

-- The element whose parts are c a: the sum of (c a)^q times the basis element at a, over the residues a.
abbrev pub from_parts : {A Residue : Type 0} → CommutativeRing A → ℕ → List Residue → (Residue → A) → (Residue → A) → A
from_parts R q residues basis c = sum_over R (λ a. R.mul (power R (c a) q) (basis a)) residues

-- Each h is in one way the sum of q-th powers times the basis elements (Blickle, Mustata and Smith 2008, section 2).
-- The residues of a polynomial ring are the exponents below q, its basis elements the monomials, and the origin is the exponent zero.
pub record Parts {A : Type 0} (R : CommutativeRing A) (Residue : Type 0) (q : ℕ) : Type 0 where
  pub frobenius : IsFrobenius R q
  pub residues : List Residue
  pub basis : Residue → A
  pub part : A → Residue → A
  pub from : (h : A) → h ≡ from_parts R q residues basis (part h)
  pub unique : (c d : Residue → A) → from_parts R q residues basis c ≡ from_parts R q residues basis d → (a : Residue) → Contains residues a → c a ≡ d a
  pub origin : Residue
  pub origin_listed : Contains residues origin
  pub origin_part : part R.one origin ≡ R.one
