-- Roots of the powers of one polynomial.
use Rattle.std.proofs.Common.{ℕ, ◌+◌, ◌*◌, ◌^◌, ◌≤◌, List, [], ◌∷◌, subst}
use Rattle.fj_coeff.specs.Field.{Field, IsField}
use Rattle.fj_theory.specs.Polynomial.{Polynomial, IsPolynomial, power}
use Rattle.fj_theory.specs.Ideal.{ArePolynomials, Inside, SameIdeal}
use Rattle.fj_theory.specs.Root.{IsRoot}
use Rattle.fj_theory.proofs.PolynomialRing.{IsPolynomial-power, power_power}
use Rattle.fj_theory.proofs.IdealBridge.{ArePolynomials-single}
use Rattle.fj_theory.proofs.Ideal.{Inside-powers}
use Rattle.fj_theory.proofs.Root.{IsRoot-unique, IsRoot-monotone, IsRoot-SameIdeal_root, IsRoot-IsRoot}
use Rattle.fj_theory.proofs.RootParts.{IsRoot-frobenius_power, root_exists}

-- T is the root of f^m at e.
abbrev pub IsPowerRoot : Field → Polynomial → ℕ → ℕ → List Polynomial → Type 0
IsPowerRoot F f e m T = IsRoot F (F.characteristic ^ e) (power F f m ∷ []) T

module _ {F : Field} (L : IsField F) {f : Polynomial} (A : IsPolynomial F f) where
  pub ArePolynomials-power : (m : ℕ) → ArePolynomials F (power F f m ∷ [])
  ArePolynomials-power m = ArePolynomials-single (IsPolynomial-power L A m)

  pub power_root : (e m : ℕ) → (T : List Polynomial) × IsPowerRoot F f e m T
  power_root e m = root_exists L e (ArePolynomials-power m)

  -- A list that generates the root is the root.
  pub IsPowerRoot-SameIdeal : (e m : ℕ) {T T' : List Polynomial} → IsPowerRoot F f e m T → ArePolynomials F T' → SameIdeal F T T' → IsPowerRoot F f e m T'
  IsPowerRoot-SameIdeal e m S P E = IsRoot-SameIdeal_root L e (ArePolynomials-power m) S P E

  -- The root of a higher power is smaller.
  pub power_root-falls : (e : ℕ) {m n : ℕ} {M N : List Polynomial} → m ≤ n → IsPowerRoot F f e m M → IsPowerRoot F f e n N → Inside F N M
  power_root-falls e {m} {n} h S T = IsRoot-monotone L (ArePolynomials-power n) (ArePolynomials-power m) (Inside-powers L A m n h) T S

  -- The root of f^(m*p^k) at e + k is the root of f^m at e.
  pub power_root-scaled : (e k m : ℕ) {T : List Polynomial} → IsPowerRoot F f e m T → IsPowerRoot F f (e + k) (m * F.characteristic ^ k) T
  power_root-scaled e k m S =
      let q : ℕ = F.characteristic ^ k in
      let R : IsRoot F q (power F f (m * q) ∷ []) (power F f m ∷ []) =
      subst (λ g. IsRoot F q (g ∷ []) (power F f m ∷ [])) (power_power L A m q) (IsRoot-frobenius_power L k (ArePolynomials-power m)) in
      IsRoot-IsRoot L k (ArePolynomials-power (m * q)) R e S

  pub power_root-unscaled : (e k m : ℕ) {T : List Polynomial} → IsPowerRoot F f (e + k) (m * F.characteristic ^ k) T → IsPowerRoot F f e m T
  power_root-unscaled e k m S =
      let R = power_root e m in
      IsPowerRoot-SameIdeal e m R.1 S.polynomials (IsRoot-unique (power_root-scaled e k m R.1) S)

  -- Where f^l and f^n have one root, so have the powers between them.
  pub power_root-squeezed : (e : ℕ) {l m n : ℕ} {T : List Polynomial} → l ≤ m → m ≤ n → IsPowerRoot F f e l T → IsPowerRoot F f e n T → IsPowerRoot F f e m T
  power_root-squeezed e {m = m} low high S S' =
      let R = power_root e m in
      IsPowerRoot-SameIdeal e m R.1 S.polynomials (record { forth = power_root-falls e low S R.1; back = power_root-falls e high R.1 S' })

  module _ (e k m n : ℕ) {M N : List Polynomial} (S : IsPowerRoot F f e m M) (T : IsPowerRoot F f (e + k) n N) where
    -- Roots at different e are compared by the exponents over p^e.
    pub power_root-rises_across : n ≤ m * F.characteristic ^ k → Inside F M N
    power_root-rises_across h = power_root-falls (e + k) h T (power_root-scaled e k m S)

    pub power_root-falls_across : m * F.characteristic ^ k ≤ n → Inside F N M
    power_root-falls_across h = power_root-falls (e + k) h (power_root-scaled e k m S) T
