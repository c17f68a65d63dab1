-- Laws of Frobenius roots and of parts, which the law functions prove (Blickle, Mustață and Smith 2008, section 2).
use Rattle.std.specs.Prelude.{◌≡◌, ℕ, ◌+◌, ◌^◌, List, All, map, flat_map}
use Rattle.fj_coeff.specs.Field.{Field, IsField}
use Rattle.fj_theory.specs.Polynomial.{Polynomial, IsPolynomial}
use Rattle.fj_theory.specs.Parts.{Part, IsParts}
use Rattle.fj_theory.specs.Ideal.{ArePolynomials}
use Rattle.fj_theory.specs.Root.{IsRoot}

-- The root of the root at e, at d, is the root at d + e.
abbrev pub RootOfRoot : Type 0
RootOfRoot =
    (F : Field) → IsField F → (d e : ℕ) (L M N : List Polynomial) → ArePolynomials F L
    → IsRoot F (F.characteristic ^ e) L M → IsRoot F (F.characteristic ^ d) M N → IsRoot F (F.characteristic ^ (d + e)) L N

-- A polynomial with a list of parts.
pub record WithParts : Type 0 where
  pub polynomial : Polynomial
  pub parts : List Part

-- The parts of the polynomials of a list generate the root of the list at e: the smallest ideal whose Frobenius power has
-- the list inside.
abbrev pub PartsGenerateRoot : Type 0
PartsGenerateRoot =
    (F : Field) → IsField F → (e : ℕ) (L : List WithParts) → All (λ h. IsPolynomial F h.polynomial) L
    → All (λ h. IsParts F (F.characteristic ^ e) h.polynomial h.parts) L
    → IsRoot F (F.characteristic ^ e) (map (λ h. h.polynomial) L) (flat_map (λ h. map (λ part. part.polynomial) h.parts) L)

-- A polynomial has one list of parts at e.
abbrev pub PartsUnique : Type 0
PartsUnique =
    (F : Field) → IsField F → (e : ℕ) (h : Polynomial) (parts others : List Part)
    → IsParts F (F.characteristic ^ e) h parts → IsParts F (F.characteristic ^ e) h others → parts ≡ others
