-- The root of f at every large e is (1), and so tau is constant just above each exponent.
use Rattle.std.proofs.Common.{◌≡◌, ℕ, ◌+◌, ◌*◌, ◌^◌, ◌<◌, ◌≤◌, Bool, true, false, true≢false, cond, max, List, [], ◌∷◌, Some, All, refl, sym, ap, ap₂, ◌∙◌, subst, arith, eq-zero-or-pos, ⊎_elim}
use Rattle.std.specs.declared.cmp.Ordering.TheVariants.{Less}
use Rattle.std.specs.FinMap.{entries, from_entries}
use Rattle.std.proofs.lemmas.Nat.{pow-add}
use Rattle.std.proofs.lemmas.List.Elements.{All-nil, All-cons, All-weaker}
use Rattle.std.proofs.Math.Nat.{mul-le-mul_left, mul-le-mul_right}
use Rattle.fj_coeff.specs.Field.{Field, IsField}
use Rattle.fj_algebra.proofs.Root as ring_laws
use Rattle.fj_theory.specs.Exponents.{IsExponents, origin, total, plus, times}
use Rattle.fj_theory.specs.Polynomial.{Polynomial, IsPolynomial, IsTerm, coefficient, power, term, degree}
use Rattle.fj_theory.specs.Parts.{iterated_root, part_terms}
use Rattle.fj_theory.specs.Ideal.{ArePolynomials, Member}
use Rattle.fj_theory.specs.Fraction.{Fraction, compare, ceil_times}
use Rattle.fj_theory.specs.Root.{IsRoot}
use Rattle.fj_theory.proofs.Degree.{degree_bounds, degree_attained}
use Rattle.fj_theory.proofs.Exponents.{IsExponents-origin, IsExponents-plus, IsExponents-times, origin_plus, plus_origin, times_origin, total-cons, total-times, total-plus_exponents, origin_from_total}
use Rattle.fj_theory.proofs.Field.{characteristic_large, one_below}
use Rattle.fj_theory.proofs.FormalSum.{same, same-Decides, same_true}
use Rattle.fj_theory.proofs.Fraction.{compare-less, ceil_times-IsCeiling}
use Rattle.fj_theory.proofs.Frobenius.{power_positive}
use Rattle.fj_theory.proofs.IdealBridge.{over, in_ring, InRing-frobenius_power, Member_map, Member_over, ArePolynomials-single, IsPolynomial-one}
use Rattle.fj_theory.proofs.Ideal.{Member-product, Inside-one, Inside-single, Inside-head}
use Rattle.fj_theory.proofs.Monomial.{product_terms}
use Rattle.fj_theory.proofs.PartsList.{IsTerm-part_terms, coefficient-part_terms}
use Rattle.fj_theory.proofs.PartsRing.{polynomial-Parts, map_part, residue_listed}
use Rattle.fj_theory.proofs.Polynomial.{IsPolynomial-term, polynomial_equal, coefficient-term, coefficient_below}
use Rattle.fj_theory.proofs.PolynomialRing.{power_first}
use Rattle.fj_theory.proofs.Root.{IsRoot-SameIdeal_root, IsRoot-IsRoot}
use Rattle.fj_theory.proofs.RootParts.{IsRoot-power, root_exists}
use Rattle.fj_theory.proofs.Roots.{iterated_root_zero, iterated_root_positive, iterated_root_below}
use Rattle.fj_theory.proofs.Terms.{IsPolynomial-from_entries, IsTerm-entries, from_entries-entries}
use Rattle.fj_testideal.specs.TestIdeal.{IsTestIdeal}
use Rattle.fj_testideal.specs.Jump.{IsConstant}
use Rattle.fj_testideal.specs.JumpLaws.{IsConstantAfter}
use Rattle.fj_testideal.proofs.Ceiling.{power_large, ceiling_below}
use Rattle.fj_testideal.proofs.PowerRoot.{IsPowerRoot, ArePolynomials-power, power_root-squeezed}
use Rattle.fj_testideal.proofs.Chain.{multiples-unit}
use Rattle.fj_testideal.proofs.LeftLimit.{test_ideal_from_root}
use Rattle.fj_testideal.proofs.Jump.{constant_from_ends}

entries_below : (a : List ℕ) (q : ℕ) → total a < q → All (λ k. k < q) a
entries_below [] q h = All-nil (λ k. k < q)
entries_below (x ∷ a) q h = All-cons (λ k. k < q) x a (omega (arith, total-cons x a)) (entries_below a q (omega (arith, total-cons x a)))

module _ {F : Field} (L : IsField F) {f : Polynomial} (A : IsPolynomial F f) {n : ℕ} (D : degree f ≡ Some n) where
  module _ (e : ℕ) (large : n < F.characteristic ^ e) where
    module _ {a : List ℕ} (P : IsExponents a) (top : total a ≡ n) where
      below : All (λ k. k < F.characteristic ^ e) a
      below = entries_below a (F.characteristic ^ e) (omega arith)

      -- Above a term of greatest degree there is none.
      nothing_above : (b : List ℕ) → IsExponents b → same b origin ≡ false → coefficient f (plus (times (F.characteristic ^ e) b) a) ≡ 0
      nothing_above b B apart = ⊎_elim (λ none. none) (λ found. absurd (high found)) (eq-zero-or-pos (coefficient f (plus (times (F.characteristic ^ e) b) a)))
        where
          high : 0 < coefficient f (plus (times (F.characteristic ^ e) b) a) → ⊥
          high found =
              let q : ℕ = F.characteristic ^ e in
              let bound = degree_bounds L A D (plus (times q b) a) (IsExponents-plus (IsExponents-times q B) P) found in
              let sizes : total (plus (times q b) a) ≡ q * total b + total a = total-plus_exponents (IsExponents-times q B) P ∙ ap (λ m. m + total a) (total-times q b) in
              ⊎_elim
              (λ none. let yes = (same-Decides b origin).1 (origin_from_total B none) in true≢false (sym yes ∙ apart))
              (λ some. let product : q * 1 ≤ q * total b = mul-le-mul_left q some in absurd (omega arith))
              (eq-zero-or-pos (total b))

      -- The part of f at its exponents is a constant.
      part_constant : from_entries (part_terms F e a (entries f)) ≡ term (iterated_root F e (coefficient f a)) origin
      part_constant = polynomial_equal (IsPolynomial-from_entries _ (IsTerm-part_terms L e a (entries f) (IsTerm-entries A)))
          (IsPolynomial-term c (iterated_root_below L e _ (coefficient_below A (omega (arith, one_below L)) a)) IsExponents-origin)
          (λ b B. coefficient-part_terms L e P below (entries f) (All-weaker (IsTerm F) (λ t. IsExponents t.0) (λ t T. T.exponents) (entries f) (IsTerm-entries A)) B
          ∙ ap (λ g. iterated_root F e (coefficient g (plus (times q b) a))) (from_entries-entries f)
          ∙ by b B (same b origin) refl ∙ sym (coefficient-term c origin b))
        where
          q : ℕ
          q = F.characteristic ^ e

          c : ℕ
          c = iterated_root F e (coefficient f a)

          by : (b : List ℕ) → IsExponents b → (t : Bool) → same b origin ≡ t
              → iterated_root F e (coefficient f (plus (times (F.characteristic ^ e) b) a)) ≡ cond t (iterated_root F e (coefficient f a)) 0
          by b B true s = ap (λ d. iterated_root F e (coefficient f d))
              (ap (λ d. plus (times (F.characteristic ^ e) d) a) (same_true b origin s) ∙ ap (λ d. plus d a) (times_origin (F.characteristic ^ e)) ∙ origin_plus P)
          by b B false s = ap (iterated_root F e) (nothing_above b B s) ∙ iterated_root_zero L e

    -- A constant that isn't zero gives 1.
    one_from_constant : {M : List Polynomial} → ArePolynomials F M → (c : ℕ) → 0 < c → c < F.size → Member F M (term c origin) → Member F M (term 1 origin)
    one_from_constant {M} Q c some fits H =
        let inverse_fits = L.inverse_below c some fits in
        subst (Member F M)
        (product_terms L (F.inverse c) c inverse_fits fits IsExponents-origin IsExponents-origin
        ∙ ap₂ term (L.mul_comm (F.inverse c) c inverse_fits fits ∙ L.mul_inverse c some fits) (plus_origin IsExponents-origin))
        (Member-product L Q (IsPolynomial-term (F.inverse c) inverse_fits IsExponents-origin) H)

    -- The root of f at e is (1).
    pub root_is_one : IsRoot F (F.characteristic ^ e) (f ∷ []) (term 1 origin ∷ [])
    root_is_one =
        let q : ℕ = F.characteristic ^ e in
        let R = root_exists L e (ArePolynomials-single A) in
        let Q = (R.1).polynomials in
        let X = in_ring Q in
        let top = degree_attained L A D in
        let fits = coefficient_below A (omega (arith, one_below L)) top.0 in
        let part = Member_map L X (ring_laws.Member-part (polynomial-Parts L e) (Member_over L (InRing-frobenius_power L q X) A (Inside-head (R.1).inside)) top.0 (residue_listed L e top.1 (below top.1 top.3))) in
        let constant = subst (Member F R.0) (map_part L e (over A) top.0 ∙ part_constant top.1 top.3) part in
        let one = one_from_constant Q _ (iterated_root_positive L e _ top.2 fits) (iterated_root_below L e _ fits) constant in
        IsRoot-SameIdeal_root L e (ArePolynomials-single A) R.1 (ArePolynomials-single (IsPolynomial-one L)) (record { forth = Inside-one L Q; back = Inside-single one })

  -- Where T is the test ideal at two places, tau is constant between them.
  constant_between : (t u : Fraction) → compare t u ≡ Less → {T : List Polynomial} → IsTestIdeal F f t T → IsTestIdeal F f u T → IsConstant F f t u
  constant_between t u less I J = constant_from_ends L A t u less I (record {
    start = max (max I.start J.start) (t.denominator * u.denominator);
    root = λ e h.
        let q : ℕ = F.characteristic ^ e in
        power_root-squeezed L A e (ceiling_below t u q less (omega (arith, power_large F.characteristic e (characteristic_large L)))) (omega arith) (I.root e (omega arith)) (J.root e (omega arith));
  })

  module _ (t : Fraction) (e : ℕ) where
    -- The number just above ceil(t*p^e)/p^e.
    abbrev above : ℕ
    above = ceil_times t (F.characteristic ^ e) * F.characteristic ^ (n + 1) + 1

    abbrev end : Fraction
    end = record { numerator = above; denominator = F.characteristic ^ (e + (n + 1)); positive = power_positive L (e + (n + 1)) }

    same_above : {T : List Polynomial} → IsPowerRoot F f e (ceil_times t (F.characteristic ^ e)) T → IsTestIdeal F f end T
    same_above S =
        let k = n + 1 in
        let q : ℕ = F.characteristic ^ k in
        let m = ceil_times t (F.characteristic ^ e) in
        let one = root_is_one k (omega (arith, power_large F.characteristic k (characteristic_large L))) in
        let first = subst (λ g. IsRoot F q (g ∷ []) (term 1 origin ∷ [])) (sym (power_first L A)) one in
        let reduced = subst (IsRoot F q (power F f (m * q + 1) ∷ [])) (multiples-unit L A m) (IsRoot-power L k A m 1 first) in
        test_ideal_from_root L A (e + k) above end refl (IsRoot-IsRoot L k (ArePolynomials-power L A (m * q + 1)) reduced e S)

    end-above : compare t end ≡ Less
    end-above =
        let p = F.characteristic in
        let q : ℕ = p ^ (n + 1) in
        let enough = (ceil_times-IsCeiling t (p ^ e)).enough in
        let scaled : t.numerator * p ^ e * q ≤ ceil_times t (p ^ e) * t.denominator * q = mul-le-mul_right q enough in
        let power : t.numerator * p ^ (e + (n + 1)) ≡ t.numerator * (p ^ e * q) = ap (λ r. t.numerator * r) (pow-add p e (n + 1)) in
        compare-less t end (omega (arith, t.positive))

  pub constant_after : (t : Fraction) {T : List Polynomial} → IsTestIdeal F f t T → IsConstantAfter F f t
  constant_after t I =
      let e = I.start in
      record { end = end t e; is_above = end-above t e; constant = constant_between t (end t e) (end-above t e) I (same_above t e (I.root e (omega arith))) }
