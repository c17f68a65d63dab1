-- Maps that are linear over q-th powers (Fedder 1983, section 1), F-purity (Hochster and Roberts 1976, Fedder 1983), and
-- compatible ideals (Schwede 2009 and 2010).
use Rattle.std.specs.Prelude.{◌≡◌, ◌≢◌, ℕ, ◌-◌, ◌^◌, ◌<◌, List, [], ◌∷◌, All, replicate}
use Rattle.std.specs.FinMap.{empty}
use Rattle.fj_coeff.specs.Field.{Field}
use Rattle.fj_theory.specs.Exponents.{IsExponents, origin}
use Rattle.fj_theory.specs.Polynomial.{difference, Polynomial, IsPolynomial, sum, product, term}
use Rattle.fj_theory.specs.Parts.{Part, IsParts, part_at}
use Rattle.fj_theory.specs.Ideal.{Member}
use Rattle.fj_theory.specs.Evaluation.{value}

-- The sum of h_a * k_a over a list of parts h_a at residues a.
unfoldable pub weighted_sum : Field → (List ℕ → Polynomial) → List Part → Polynomial
weighted_sum F k [] = empty
weighted_sum F k (part ∷ parts) = sum F (product F part.polynomial (k part.residue)) (weighted_sum F k parts)

-- phi is a q^-1-linear map of polynomials. It is a choice of one polynomial k_a for each exponent list a with entries
-- below q: phi (h) is the sum over a of h_a * k_a, where the h_a are the parts of h over q-th powers.
pub record IsInverseLinear (F : Field) (q : ℕ) (phi : Polynomial → Polynomial) : Type 0 where
  pub values : List ℕ → Polynomial
  pub polynomials : (a : List ℕ) → IsExponents a → All (λ k. k < q) a → IsPolynomial F (values a)
  pub is : (h : Polynomial) (parts : List Part) → IsParts F q h parts → phi h ≡ weighted_sum F values parts

-- phi keeps the ideal (L): it sends each member of (L) to a member of (L).
pub record Keeps (F : Field) (phi : Polynomial → Polynomial) (L : List Polynomial) : Type 0 where
  pub each : (g : Polynomial) → Member F L g → Member F L (phi g)

-- The ring of polynomials modulo (L) is F-pure: some p^-1-linear map phi keeps (L), and phi (1) - 1 is in (L).
pub record IsFPure (F : Field) (L : List Polynomial) : Type 0 where
  pub phi : Polynomial → Polynomial
  pub linear : IsInverseLinear F F.characteristic phi
  pub keeps : Keeps F phi L
  pub splits : Member F L (difference F (phi (term 1 origin)) (term 1 origin))

-- It is F-pure at a zero of (L): some p^-1-linear map phi keeps (L), and phi (1) isn't zero at the point.
pub record IsFPureAt (F : Field) (L : List Polynomial) (point : List ℕ) : Type 0 where
  pub phi : Polynomial → Polynomial
  pub linear : IsInverseLinear F F.characteristic phi
  pub keeps : Keeps F phi L
  pub nonzero : value F (phi (term 1 origin)) point ≢ 0

-- The greatest residue: each of the eight entries is q - 1.
unfoldable pub top_residue : ℕ → List ℕ
top_residue q = replicate 8 (q - 1)

-- J is compatible with u at e: for each g in (J) the part of u * g at (q - 1, .., q - 1) over q-th powers is in (J), q = p^e.
pub record IsCompatible (F : Field) (e : ℕ) (u : Polynomial) (J : List Polynomial) : Type 0 where
  pub each : (g : Polynomial) → Member F J g → (parts : List Part) → IsParts F (F.characteristic ^ e) (product F u g) parts
      → Member F J (part_at parts (top_residue (F.characteristic ^ e)))
