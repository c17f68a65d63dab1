-- Maps that are linear over q-th powers, F-purity, and compatible ideals.
use Rattle.std.specs.Prelude.{◌≡◌, ◌≢◌, ℕ, List, Contains}
use Rattle.fj_algebra.specs.Ring.{CommutativeRing, subtract}
use Rattle.fj_algebra.specs.Sum.{sum_over}
use Rattle.fj_algebra.specs.Ideal.{Member}
use Rattle.fj_algebra.specs.Parts.{Parts}

-- The q^-1-linear map phi with the values k a: phi (h) is the sum of the parts of h times the values.
-- It is additive, phi (f^q h) is f phi (h), and its value at the basis element of a is k a.
abbrev pub inverse_linear : {A Residue : Type 0} {R : CommutativeRing A} {q : ℕ} → Parts R Residue q → (Residue → A) → A → A
inverse_linear {R} P k h = sum_over R (λ a. R.mul (P.part h a) (k a)) P.residues

-- The map sends (L) into itself.
pub record KeepsIdeal {A : Type 0} (R : CommutativeRing A) (phi : A → A) (L : List A) : Type 0 where
  pub each : (g : A) → Member R L g → Member R L (phi g)

-- The ring modulo (L) is F-pure: some q^-1-linear map keeps (L) and sends 1 to 1 modulo (L).
pub record IsFPure {A Residue : Type 0} {R : CommutativeRing A} {q : ℕ} (P : Parts R Residue q) (L : List A) : Type 0 where
  pub values : Residue → A
  pub keeps : KeepsIdeal R (inverse_linear P values) L
  pub splits : Member R L (subtract R (inverse_linear P values R.one) R.one)

-- It is F-pure at a point: some q^-1-linear map keeps (L) and sends 1 to an element that is not zero at the point.
pub record IsFPureAt {A B Residue : Type 0} {R : CommutativeRing A} {q : ℕ} (S : CommutativeRing B) (at_point : A → B) (P : Parts R Residue q) (L : List A) : Type 0 where
  pub values : Residue → A
  pub keeps : KeepsIdeal R (inverse_linear P values) L
  pub nonzero : at_point (inverse_linear P values R.one) ≢ S.zero

-- The trace, the part at the top residue, generates the q^-1-linear maps: the part at a is the trace of
-- the multiple by the basis element of the mirrored residue. In a polynomial ring the top residue is (q-1, .., q-1),
-- and the mirrored residue of a is its difference to a.
pub record Trace {A Residue : Type 0} {R : CommutativeRing A} {q : ℕ} (P : Parts R Residue q) : Type 0 where
  pub top : Residue
  pub top_listed : Contains P.residues top
  pub mirror : Residue → Residue
  pub mirrored : (h : A) (a : Residue) → Contains P.residues a → P.part (R.mul (P.basis (mirror a)) h) top ≡ P.part h a

-- The map that sends h to the trace of u h.
abbrev pub trace_map : {A Residue : Type 0} {R : CommutativeRing A} {q : ℕ} {P : Parts R Residue q} → Trace P → A → A → A
trace_map {R} {P} T u h = P.part (R.mul u h) T.top

-- J is compatible with u: the map that sends h to the trace of u h keeps (J).
abbrev pub IsCompatible : {A Residue : Type 0} {R : CommutativeRing A} {q : ℕ} {P : Parts R Residue q} → Trace P → A → List A → Type 0
IsCompatible {R} T u J = KeepsIdeal R (trace_map T u) J
