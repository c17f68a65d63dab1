-- Roots, test ideals and left limits of monomials.
use Rattle.std.proofs.Common.{◌≡◌, ◌≢◌, ℕ, zero, suc, ◌+◌, ◌-◌, ◌*◌, ◌/◌, ◌^◌, ◌<◌, ◌≤◌, List, [], ◌∷◌, All, refl, sym, ap, ap₂, ◌∙◌, subst, arith, inl, inr, ⊎_elim, eq-zero-or-pos}
use Rattle.std.specs.FinMap.{empty}
use Rattle.std.proofs.lemmas.Bool.{cases_lt}
use Rattle.std.proofs.lemmas.Option.{none-some}
use Rattle.std.proofs.lemmas.Nat.{div_below, le-div, mod_below}
use Rattle.std.proofs.lemmas.List.Elements.{All-nil, All-cons}
use Rattle.std.proofs.Math.Nat.{mul-le-mul_right, mul-lt-mul_of_pos_right, lt_of_mul-lt-mul_right, le_of_mul-le-mul_right, div-add-mod}
use Rattle.fj_coeff.specs.Field.{Field, IsField}
use Rattle.fj_coeff.specs.Field as field
use Rattle.fj_theory.specs.Exponents.{IsExponents, total, times, quotient_by, residue_by}
use Rattle.fj_theory.specs.Polynomial.{IsPolynomial, power, product, term, degree}
use Rattle.fj_theory.specs.Parts.{Part, sum_of_parts}
use Rattle.fj_theory.specs.Fraction.{Fraction, ceil_times}
use Rattle.fj_theory.specs.Root.{IsRoot}
use Rattle.fj_theory.proofs.Exponents.{IsExponents-times, cons_same, total-cons}
use Rattle.fj_theory.proofs.Field.{characteristic_large, one_below}
use Rattle.fj_theory.proofs.Frobenius.{power_positive}
use Rattle.fj_theory.proofs.Fraction.{ceil_times-IsCeiling}
use Rattle.fj_theory.proofs.Monomial.{power_term, product_terms}
use Rattle.fj_theory.proofs.Polynomial.{IsPolynomial-term}
use Rattle.fj_theory.proofs.PolynomialRing.{sum_empty, IsPolynomial-power}
use Rattle.fj_theory.proofs.Product.{IsPolynomial-product}
use Rattle.fj_theory.proofs.Degree.{degree-empty, degree-term}
use Rattle.fj_theory.proofs.Residues.{quotient-residue, IsExponents-quotient_by, IsExponents-residue_by, residue_by-below}
use Rattle.fj_theory.proofs.RootParts.{IsRoot-parts}
use Rattle.fj_testideal.specs.TestIdeal.{IsTestIdeal, IsLeftLimit}
use Rattle.fj_testideal.specs.MonomialLaws.{floor_exponents, exponents_below}
use Rattle.fj_testideal.proofs.Ceiling.{power_large, ceiling_positive}
use Rattle.fj_testideal.proofs.PowerRoot.{IsPowerRoot}

-- ceil(t*q) is less than 1 above t*q.
ceiling_close : (t : Fraction) (q : ℕ) → ceil_times t q * t.denominator < t.numerator * q + t.denominator
ceiling_close t q = elim (cases_lt (ceil_times t q * t.denominator) (t.numerator * q + t.denominator)) [
  | inl less ↦ less
  | inr more ↦
      let n = ceil_times t q in
      let some : 1 ≤ ceil_times t q = elim (cases_lt 0 (ceil_times t q)) [
        | inl some ↦ some
        | inr none ↦ let product : ceil_times t q * t.denominator ≤ 0 * t.denominator = mul-le-mul_right t.denominator none in absurd (omega (arith, t.positive))
      ] in
      let whole : ceil_times t q - 1 + 1 ≡ ceil_times t q = omega arith in
      let product : (ceil_times t q - 1 + 1) * t.denominator ≡ ceil_times t q * t.denominator = ap (λ n. n * t.denominator) whole in
      absurd (omega (arith, (ceil_times-IsCeiling t q).least (ceil_times t q - 1) (omega arith)))
]

-- A quotient by its bounds.
pub div_between : (n k m : ℕ) → 0 < k → m * k ≤ n → n < (m + 1) * k → n / k ≡ m
div_between n k m positive low high = omega (arith, div_below n k (m + 1) positive high, le-div m n k positive low)

module _ (t : Fraction) (q x : ℕ) (large : x * t.denominator < q) where
  -- An entry of the exponents of the test ideal.
  floor_entry : ceil_times t q * x / q ≡ t.numerator * x / t.denominator
  floor_entry =
      let c = ceil_times t q in
      let y = t.numerator * x / t.denominator in
      let whole = div-add-mod (t.numerator * x) t.denominator in
      let rest = mod_below (t.numerator * x) t.denominator t.positive in
      let first : y * t.denominator * q ≤ t.numerator * x * q = mul-le-mul_right q (omega arith) in
      let second : t.numerator * q * x ≤ c * t.denominator * x = mul-le-mul_right x (ceil_times-IsCeiling t q).enough in
      let third : c * t.denominator * x ≤ (t.numerator * q + t.denominator) * x = mul-le-mul_right x (omega (arith, ceiling_close t q)) in
      let fourth : (t.numerator * x + 1) * q ≤ (y + 1) * t.denominator * q = mul-le-mul_right q (omega arith) in
      let low : y * q * t.denominator ≤ c * x * t.denominator = omega arith in
      let high : c * x * t.denominator < (y + 1) * q * t.denominator = omega arith in
      div_between (c * x) q y (omega arith) (le_of_mul-le-mul_right low t.positive) (lt_of_mul-lt-mul_right t.denominator high)

  -- An entry of the exponents of the left limit.
  below_entry : 0 < t.numerator → (ceil_times t q - 1) * x / q ≡ ceil_times t x - 1
  below_entry above = ⊎_elim none some (eq-zero-or-pos x)
    where
      none : x ≡ 0 → (ceil_times t q - 1) * x / q ≡ ceil_times t x - 1
      none e =
          let nothing : (ceil_times t q - 1) * x ≡ (ceil_times t q - 1) * 0 = ap (λ n. (ceil_times t q - 1) * n) e in
          let ceiling : ceil_times t x ≤ 0 = (ceil_times-IsCeiling t x).least 0 (let zero_product : t.numerator * x ≡ t.numerator * 0 = ap (λ n. t.numerator * n) e in omega arith) in
          div_between ((ceil_times t q - 1) * x) q (ceil_times t x - 1) (omega arith) (let product : (ceil_times t x - 1) * q ≤ 0 * q = mul-le-mul_right q (omega arith) in omega arith)
          (let product : 1 * q ≤ (ceil_times t x - 1 + 1) * q = mul-le-mul_right q (omega arith) in omega arith)

      some : 0 < x → (ceil_times t q - 1) * x / q ≡ ceil_times t x - 1
      some positive =
          let n = ceil_times t q - 1 in
          let g = ceil_times t x - 1 in
          let next : ceil_times t q - 1 + 1 ≡ ceil_times t q = omega (arith, ceiling_positive t q above (omega arith)) in
          let last : ceil_times t x - 1 + 1 ≡ ceil_times t x = omega (arith, ceiling_positive t x above positive) in
          let next_product : (n + 1) * t.denominator ≡ ceil_times t q * t.denominator = ap (λ m. m * t.denominator) next in
          let last_product : (g + 1) * t.denominator ≡ ceil_times t x * t.denominator = ap (λ m. m * t.denominator) last in
          let first : (g * t.denominator + 1) * q ≤ t.numerator * x * q = mul-le-mul_right q (omega (arith, ceiling_close t x)) in
          let second : t.numerator * q * x ≤ (n * t.denominator + t.denominator) * x = mul-le-mul_right x (omega (arith, (ceil_times-IsCeiling t q).enough)) in
          let third : n * t.denominator * x < t.numerator * q * x = mul-lt-mul_of_pos_right (omega (arith, ceiling_close t q)) positive in
          let fourth : t.numerator * x * q ≤ (g + 1) * t.denominator * q = mul-le-mul_right q (omega (arith, (ceil_times-IsCeiling t x).enough)) in
          let low : g * q * t.denominator ≤ n * x * t.denominator = omega arith in
          let high : n * x * t.denominator < (g + 1) * q * t.denominator = omega arith in
          div_between (n * x) q g (omega arith) (le_of_mul-le-mul_right low t.positive) (lt_of_mul-lt-mul_right t.denominator high)

-- The same for all entries.
floor_entries : (t : Fraction) (q : ℕ) (a : List ℕ) → total a * t.denominator < q → quotient_by q (times (ceil_times t q) a) ≡ floor_exponents t a
unfolding quotient_by times
floor_entries t q [] large = refl
floor_entries t q (x ∷ a) large =
    let sum : total (x ∷ a) * t.denominator ≡ (x + total a) * t.denominator = ap (λ n. n * t.denominator) (total-cons x a) in
    cons_same (floor_entry t q x (omega arith)) (floor_entries t q a (omega arith))

below_entries : (t : Fraction) (q : ℕ) (a : List ℕ) → total a * t.denominator < q → 0 < t.numerator → quotient_by q (times (ceil_times t q - 1) a) ≡ exponents_below t a
unfolding quotient_by times
below_entries t q [] large above = refl
below_entries t q (x ∷ a) large above =
    let sum : total (x ∷ a) * t.denominator ≡ (x + total a) * t.denominator = ap (λ n. n * t.denominator) (total-cons x a) in
    cons_same (below_entry t q x (omega arith) above) (below_entries t q a (omega arith) above)

module _ {F : Field} (L : IsField F) where
  one_power : (k : ℕ) → field.power F 1 k ≡ 1
  unfolding field.power
  one_power zero = refl
  one_power (suc k) = ap (F.mul 1) (one_power k) ∙ L.mul_one 1 (one_below L)

  module _ {a : List ℕ} (A : IsExponents a) where
    pub power_monomial : (m : ℕ) → power F (term 1 a) m ≡ term 1 (times m a)
    power_monomial m = power_term L 1 (one_below L) A m ∙ ap (λ c. term c (times m a)) (one_power m)

  term_nonempty : {a : List ℕ} → IsExponents a → term 1 a ≢ empty
  term_nonempty {a} A same = none-some (total a) (sym degree-empty ∙ ap degree (sym same) ∙ degree-term F 1 (omega arith) (one_below L) A)

  -- The root at e of a monomial is the monomial whose exponents are divided by p^e.
  pub IsRoot-monomial : (e : ℕ) {a : List ℕ} → IsExponents a → IsRoot F (F.characteristic ^ e) (term 1 a ∷ []) (term 1 (quotient_by (F.characteristic ^ e) a) ∷ [])
  unfolding sum_of_parts
  IsRoot-monomial e {a} A =
      let q : ℕ = F.characteristic ^ e in
      let B = IsExponents-quotient_by q A in
      let C = IsExponents-residue_by q A in
      let part : Part = record { residue = residue_by q a; polynomial = term 1 (quotient_by q a) } in
      let T = IsPolynomial-term 1 (one_below L) A in
      IsRoot-parts L e T {parts = part ∷ []} (record {
        whole = sym (sum_empty L (IsPolynomial-product L (IsPolynomial-power L (IsPolynomial-term 1 (one_below L) B) q) (IsPolynomial-term 1 (one_below L) C))
            ∙ ap (λ g. product F g (term 1 (residue_by q a))) (power_monomial B q)
            ∙ product_terms L 1 1 (one_below L) (one_below L) (IsExponents-times q B) C
            ∙ ap₂ term (L.mul_one 1 (one_below L)) (quotient-residue q a (power_positive L e)));
        residues = All-cons (λ part. IsExponents part.residue) part [] C (All-nil (λ part. IsExponents part.residue));
        below = All-cons (λ part. All (λ k. k < q) part.residue) part [] (residue_by-below q a (power_positive L e)) (All-nil (λ part. All (λ k. k < q) part.residue));
        rising = tt;
        polynomials = All-cons (λ part. IsPolynomial F part.polynomial) part [] (IsPolynomial-term 1 (one_below L) B) (All-nil (λ part. IsPolynomial F part.polynomial));
        nonzero = All-cons (λ part. part.polynomial ≢ empty) part [] (term_nonempty B) (All-nil (λ part. part.polynomial ≢ empty));
      })

  module _ {a : List ℕ} (A : IsExponents a) where
    IsPowerRoot-monomial : (e m : ℕ) → IsPowerRoot F (term 1 a) e m (term 1 (quotient_by (F.characteristic ^ e) (times m a)) ∷ [])
    IsPowerRoot-monomial e m =
        let q : ℕ = F.characteristic ^ e in
        subst (λ g. IsRoot F q (g ∷ []) (term 1 (quotient_by q (times m a)) ∷ [])) (sym (power_monomial A m)) (IsRoot-monomial e (IsExponents-times m A))

    large_power : (t : Fraction) (e : ℕ) → total a * t.denominator + 1 ≤ e → total a * t.denominator < F.characteristic ^ e
    large_power t e h = omega (arith, power_large F.characteristic e (characteristic_large L))

    pub test_ideal-monomial : (t : Fraction) → IsTestIdeal F (term 1 a) t (term 1 (floor_exponents t a) ∷ [])
    test_ideal-monomial t = record {
      start = total a * t.denominator + 1;
      root = λ e h.
          let q : ℕ = F.characteristic ^ e in
          subst (λ b. IsPowerRoot F (term 1 a) e (ceil_times t q) (term 1 b ∷ [])) (floor_entries t q a (large_power t e h)) (IsPowerRoot-monomial e (ceil_times t q));
    }

    pub left_limit-monomial : (t : Fraction) → 0 < t.numerator → IsLeftLimit F (term 1 a) t (term 1 (exponents_below t a) ∷ [])
    left_limit-monomial t above = record {
      start = total a * t.denominator + 1;
      root = λ e h.
          let q : ℕ = F.characteristic ^ e in
          subst (λ b. IsPowerRoot F (term 1 a) e (ceil_times t q - 1) (term 1 b ∷ [])) (below_entries t q a (large_power t e h) above) (IsPowerRoot-monomial e (ceil_times t q - 1));
    }
