-- Laws of splittings, which the law functions prove: the trace and Fedder's criterion (Fedder 1983, section 1), and
-- compatible ideals by roots (Blickle, Mustață and Smith 2008, section 2).
use Rattle.std.specs.Prelude.{◌≡◌, ◌≢◌, ◌↔◌, ℕ, ◌^◌, List, Any}
use Rattle.fj_coeff.specs.Field.{Field, IsField}
use Rattle.fj_theory.specs.Exponents.{origin}
use Rattle.fj_theory.specs.Polynomial.{Polynomial, IsPolynomial, sum, product, power, term}
use Rattle.fj_theory.specs.Parts.{Part, IsParts, part_at}
use Rattle.fj_theory.specs.Ideal.{ArePolynomials, Member, Inside, multiples}
use Rattle.fj_theory.specs.FrobeniusPower.{frobenius_power}
use Rattle.fj_theory.specs.Root.{IsRoot}
use Rattle.fj_theory.specs.Colon.{IsColon}
use Rattle.fj_theory.specs.Evaluation.{IsPoint, value}
use Rattle.fj_theory.specs.Splitting.{IsInverseLinear, IsFPure, IsFPureAt, IsCompatible, top_residue}

-- phi sends polynomials to polynomials and is additive, and phi (g^q h) is g phi (h).
pub record IsLinearOverPowers (F : Field) (q : ℕ) (phi : Polynomial → Polynomial) : Type 0 where
  pub polynomials : (h : Polynomial) → IsPolynomial F h → IsPolynomial F (phi h)
  pub additive : (g h : Polynomial) → IsPolynomial F g → IsPolynomial F h → phi (sum F g h) ≡ sum F (phi g) (phi h)
  pub linear : (g h : Polynomial) → IsPolynomial F g → IsPolynomial F h → phi (product F (power F g q) h) ≡ product F g (phi h)

-- The q^-1-linear maps are the additive maps out of which g^q comes as g.
abbrev pub InverseLinearMaps : Type 0
InverseLinearMaps =
    (F : Field) → IsField F → (e : ℕ) (phi : Polynomial → Polynomial)
    → IsInverseLinear F (F.characteristic ^ e) phi ↔ IsLinearOverPowers F (F.characteristic ^ e) phi

-- phi is the trace of u: phi (h) is the part of u * h at (q - 1, .., q - 1).
pub record IsTraceOf (F : Field) (q : ℕ) (u : Polynomial) (phi : Polynomial → Polynomial) : Type 0 where
  pub polynomial : IsPolynomial F u
  pub is : (h : Polynomial) → IsPolynomial F h → (parts : List Part) → IsParts F q (product F u h) parts → phi h ≡ part_at parts (top_residue q)

-- The q^-1-linear maps are the traces of polynomials.
abbrev pub TracesGenerate : Type 0
TracesGenerate =
    (F : Field) → IsField F → (e : ℕ) (phi : Polynomial → Polynomial)
    → IsInverseLinear F (F.characteristic ^ e) phi ↔ ((u : Polynomial) × IsTraceOf F (F.characteristic ^ e) u phi)

-- Fedder's criterion: S/(I) is F-pure exactly where the root at 1 of I^[p] : I is the whole ring.
abbrev pub FedderCriterion : Type 0
FedderCriterion =
    (F : Field) → IsField F → (I C M : List Polynomial) → ArePolynomials F I → IsColon F (frobenius_power F (F.characteristic ^ 1) I) I C
    → IsRoot F (F.characteristic ^ 1) C M → IsFPure F I ↔ Member F M (term 1 origin)

-- The criterion at a point: S/(I) is F-pure there exactly where some polynomial of that root isn't zero there.
abbrev pub FedderCriterionAt : Type 0
FedderCriterionAt =
    (F : Field) → IsField F → (I C M : List Polynomial) → ArePolynomials F I → IsColon F (frobenius_power F (F.characteristic ^ 1) I) I C
    → IsRoot F (F.characteristic ^ 1) C M → (point : List ℕ) → IsPoint F point → IsFPureAt F I point ↔ Any (λ r. value F r point ≢ 0) M

-- J is compatible with u at e exactly where the root at e of u J is inside (J).
abbrev pub CompatibleByRoot : Type 0
CompatibleByRoot =
    (F : Field) → IsField F → (e : ℕ) (u : Polynomial) → IsPolynomial F u → (J M : List Polynomial) → ArePolynomials F J
    → IsRoot F (F.characteristic ^ e) (multiples F u J) M → IsCompatible F e u J ↔ Inside F M J
