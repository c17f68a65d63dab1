-- Laws of F-thresholds: powers inside (J^[q]) by roots, thresholds by limits, and the gap that has the threshold inside.
use Rattle.std.proofs.Common.{◌≡◌, ◌↔◌, ◌⊎◌, inl, inr, ℕ, suc, ◌+◌, ◌-◌, ◌*◌, ◌^◌, ◌<◌, ◌≤◌, List, [], ◌∷◌, refl, sym, ap, ◌∙◌, subst, arith, Ordering, Less, Equal, Greater}
use Rattle.std.specs.Ordering.{ordering_reverse}
use Rattle.std.proofs.Math.Nat.{one-le-pow}
use Rattle.std.proofs.lemmas.Bool.{cases_lt}
use Rattle.fj_coeff.specs.Field.{Field, IsField}
use Rattle.fj_theory.specs.Exponents.{origin}
use Rattle.fj_theory.specs.Root.{IsRoot}
use Rattle.fj_theory.specs.Polynomial.{Polynomial, IsPolynomial, term}
use Rattle.fj_theory.specs.Ideal.{ArePolynomials, Inside}
use Rattle.fj_theory.specs.Fraction.{IsAtMost, Fraction, SameValue, compare, ceil_times}
use Rattle.fj_theory.proofs.RootParts.{IsRoot-one}
use Rattle.fj_theory.proofs.PolynomialRing.{power_zero}
use Rattle.fj_theory.proofs.Fraction.{ceil_times-le, ceil_times-SameValue, SameValue-from_compare, compare-IsTotalOrder, compare-less}
use Rattle.fj_theory.proofs.Fedder.{power_one}
use Rattle.fj_theory.proofs.Field.{characteristic_large}
use Rattle.fj_theory.proofs.Ideal.{Inside-single, Inside-head, Inside-trans}
use Rattle.fj_theory.proofs.Root.{Inside-IsRoot}
use Rattle.fj_theory.proofs.FrobeniusPower.{Member-frobenius_power}
use Rattle.fj_testideal.specs.TestIdeal.{IsTestIdeal, IsLeftLimit}
use Rattle.fj_testideal.specs.Threshold.{IsProper, IsPowerInside, IsNu, IsThreshold}
use Rattle.fj_testideal.specs.ThresholdLaws.{NuIsUnique, ThresholdIsUnique}
use Rattle.fj_testideal.proofs.Ceiling.{power_large, ceiling_positive, ceiling_below, ceiling_rises, truncation_rises}
use Rattle.fj_testideal.proofs.PowerRoot.{IsPowerRoot, ArePolynomials-power, power_root, power_root-falls, power_root-scaled}
use Rattle.fj_testideal.proofs.CompleteList.{above_zero_same}

module _ {F : Field} (L : IsField F) {f : Polynomial} (A : IsPolynomial F f) {J : List Polynomial} (P : ArePolynomials F J) where
  -- f^m is in (J^[q]) exactly where the root of f^m at e is inside (J).
  pub power_inside_by_root : (e m : ℕ) {M : List Polynomial} → IsPowerRoot F f e m M → IsPowerInside F f J e m ↔ Inside F M J
  power_inside_by_root e m R =
      let law = Inside-IsRoot L e (ArePolynomials-power L A m) R P in
      (λ h. law.1 (Inside-single h), λ i. Inside-head (law.0 i))

  -- A higher power is inside where a lower one is.
  pub power_inside-more : (e : ℕ) {m n : ℕ} → m ≤ n → IsPowerInside F f J e m → IsPowerInside F f J e n
  power_inside-more e {m} {n} h inside =
      let R = power_root L A e m in
      let S = power_root L A e n in
      (power_inside_by_root e n S.1).1 (Inside-trans L S.1.polynomials R.1.polynomials P (power_root-falls L A e h R.1 S.1) ((power_inside_by_root e m R.1).0 inside))

  -- Powers at different e are compared by the exponents over p^e.
  module _ (e k m n : ℕ) where
    pub power_inside-across : m * F.characteristic ^ k ≤ n → IsPowerInside F f J e m → IsPowerInside F f J (e + k) n
    power_inside-across h inside =
        let R = power_root L A e m in
        power_inside-more (e + k) h ((power_inside_by_root (e + k) (m * F.characteristic ^ k) (power_root-scaled L A e k m R.1)).1 ((power_inside_by_root e m R.1).0 inside))

    pub power_inside-back : n ≤ m * F.characteristic ^ k → IsPowerInside F f J (e + k) n → IsPowerInside F f J e m
    power_inside-back h inside =
        let R = power_root L A e m in
        (power_inside_by_root e m R.1).1 ((power_inside_by_root (e + k) (m * F.characteristic ^ k) (power_root-scaled L A e k m R.1)).0 (power_inside-more (e + k) h inside))

  positive : 0 < F.characteristic
  positive = omega (arith, characteristic_large L)

  module _ (t : Fraction) where
    -- Where f^ceil(t*p^e) is inside at a large e, it is at each.
    pub ceiling_inside-back : (e k : ℕ) → IsPowerInside F f J (e + k) (ceil_times t (F.characteristic ^ (e + k))) → IsPowerInside F f J e (ceil_times t (F.characteristic ^ e))
    ceiling_inside-back e k inside = power_inside-back e k _ _ (ceiling_rises t F.characteristic e k) inside

    -- Where f^(ceil(t*p^e) - 1) is inside at one e, it is at each larger one.
    pub truncation_inside-across : 0 < t.numerator → (e k : ℕ) → IsPowerInside F f J e (ceil_times t (F.characteristic ^ e) - 1)
        → IsPowerInside F f J (e + k) (ceil_times t (F.characteristic ^ (e + k)) - 1)
    truncation_inside-across above e k inside = power_inside-across e k _ _ (truncation_rises t F.characteristic e k positive above) inside

    -- The test ideal is inside (J) exactly where each f^ceil(t*p^e) is in (J^[q]).
    pub test_ideal_inside : {T : List Polynomial} → IsTestIdeal F f t T → Inside F T J ↔ ((e : ℕ) → IsPowerInside F f J e (ceil_times t (F.characteristic ^ e)))
    test_ideal_inside I = (
      λ i e. ceiling_inside-back e I.start ((power_inside_by_root (e + I.start) _ (I.root (e + I.start) (omega arith))).1 i),
      λ h. (power_inside_by_root I.start _ (I.root I.start (omega arith))).0 (h I.start),
    )

    -- The left limit is inside (J) exactly where some f^(ceil(t*p^e) - 1) is in (J^[q]).
    pub left_limit_inside : 0 < t.numerator → {S : List Polynomial} → IsLeftLimit F f t S
        → Inside F S J ↔ ((e : ℕ) × IsPowerInside F f J e (ceil_times t (F.characteristic ^ e) - 1))
    left_limit_inside above I = (
      λ i. (I.start, (power_inside_by_root I.start _ (I.root I.start (omega arith))).1 i),
      λ h. (power_inside_by_root (h.0 + I.start) _ (I.root (h.0 + I.start) (omega arith))).0 (truncation_inside-across above h.0 I.start h.1),
    )

    -- t is the threshold exactly where the test ideal is inside (J) and the left limit isn't.
    pub threshold_by_limits : 0 < t.numerator → {S T : List Polynomial} → IsLeftLimit F f t S → IsTestIdeal F f t T
        → IsThreshold F f J t ↔ (Inside F T J × (Inside F S J → ⊥))
    threshold_by_limits above I K = (
      λ h. ((test_ideal_inside K).1 h.inside, λ i. let some = (left_limit_inside above I).0 i in h.outside some.0 some.1),
      λ h. record { above_zero = above; inside = (test_ideal_inside K).0 h.0; outside = λ e inside. h.1 ((left_limit_inside above I).1 (e, inside)) },
    )

  -- nu(e) is one number.
  compare_numbers : (i j : ℕ) → (i < j) ⊎ ((i ≡ j) ⊎ (j < i))
  compare_numbers i j = grind arith

  power_outside-zero : (e : ℕ) → IsProper F J → IsPowerInside F f J e 0 → ⊥
  power_outside-zero e proper inside =
      let R = IsRoot-one L e in
      proper (Inside-head ((Inside-IsRoot L e (ArePolynomials-power L A 0) (subst (λ g. IsRoot F (F.characteristic ^ e) (g ∷ []) (term 1 origin ∷ [])) (sym (power_zero L A)) R) P).1 (Inside-single inside)))

  nu_by_next : (e r : ℕ) → IsNu F f J e r ↔ ((IsPowerInside F f J e r → ⊥) × IsPowerInside F f J e (suc r))
  nu_by_next e r = (
    λ N. (N.outside, N.greatest (suc r) (omega arith)),
    λ h. record { outside = h.0; greatest = λ k l. power_inside-more e l h.1 },
  )

  pub nu_is_one : NuIsUnique F f J
  nu_is_one = record {
    higher = λ e m n h inside. power_inside-more e h inside;
    at_zero = power_outside-zero;
    at_power = λ e H. Member-frobenius_power L e P H;
    by_next = nu_by_next;
    unique = λ e r s N M. elim (compare_numbers r s) [
      | inl l ↦ absurd (M.outside (N.greatest s l))
      | inr (inl same) ↦ same
      | inr (inr l) ↦ absurd (N.outside (M.greatest r l))
    ];
    below = λ e r H N. elim (compare_numbers r (F.characteristic ^ e)) [
      | inl l ↦ l
      | inr (inl same) ↦ absurd (N.outside (subst (IsPowerInside F f J e) (sym same) (Member-frobenius_power L e P H)))
      | inr (inr l) ↦ absurd (N.outside (power_inside-more e (omega arith) (Member-frobenius_power L e P H)))
    ];
  }

  -- p nu(e) <= nu(e+1) <= p nu(e) + p - 1.
  pub nu-grows_by_digit : (e r s : ℕ) → IsNu F f J e r → IsNu F f J (suc e) s → (F.characteristic * r ≤ s) × (s ≤ F.characteristic * r + F.characteristic - 1)
  nu-grows_by_digit e r s N M =
      let next : e + 1 ≡ suc e = omega arith in
      let one : F.characteristic ^ 1 ≡ F.characteristic = power_one F.characteristic in
      let low : (m : ℕ) → m * F.characteristic ^ 1 ≡ F.characteristic * m = λ m. ap (λ q. m * q) one ∙ omega arith in (
        elim (compare_numbers s (F.characteristic * r)) [
          | inl less ↦ absurd (N.outside (power_inside-back e 1 r (F.characteristic * r) (omega (arith, low r))
              (subst (λ d. IsPowerInside F f J d (F.characteristic * r)) (sym next) (M.greatest (F.characteristic * r) less))))
          | inr more ↦ elim more [ inl same ↦ omega (arith, same) | inr large ↦ omega (arith, large) ]
        ],
        elim (compare_numbers s (F.characteristic * r + F.characteristic)) [
          | inl less ↦ omega (arith, less)
          | inr more ↦
              let above : F.characteristic * suc r ≤ s = elim more [ inl same ↦ omega (arith, same) | inr large ↦ omega (arith, large) ] in
              absurd (M.outside (subst (λ d. IsPowerInside F f J d s) next (power_inside-across e 1 (suc r) s (omega (arith, above, low (suc r))) (N.greatest (suc r) (omega arith)))))
        ],
      )

  IsThreshold-SameValue : (s t : Fraction) → SameValue s t → IsThreshold F f J s → IsThreshold F f J t
  IsThreshold-SameValue s t same h = record {
    above_zero = above_zero_same s t same h.above_zero;
    inside = λ e. subst (IsPowerInside F f J e) (ceil_times-SameValue s t (F.characteristic ^ e) same) (h.inside e);
    outside = λ e inside. h.outside e (subst (λ m. IsPowerInside F f J e (m - 1)) (sym (ceil_times-SameValue s t (F.characteristic ^ e) same)) inside);
  }

  -- Where f^(ceil(t*p^e) - 1) is inside at some e, f^ceil(s*p^d) is inside at each d, for s at least t.
  pub ceiling_inside_above : (s t : Fraction) → 0 < t.numerator → IsAtMost t s
      → (e : ℕ) → IsPowerInside F f J e (ceil_times t (F.characteristic ^ e) - 1) → (d : ℕ) → IsPowerInside F f J d (ceil_times s (F.characteristic ^ d))
  ceiling_inside_above s t above at_most e inside d =
      let large = truncation_inside-across t above e d inside in
      let more : IsPowerInside F f J (e + d) (ceil_times s (F.characteristic ^ (e + d))) = power_inside-more (e + d) (omega (arith, ceil_times-le t s (F.characteristic ^ (e + d)) at_most)) large in
      let order : e + d ≡ d + e = omega arith in
      ceiling_inside-back s d e (subst (λ n. IsPowerInside F f J n (ceil_times s (F.characteristic ^ n))) order more)

  -- A fraction above the threshold isn't it.
  above_threshold : (s t : Fraction) → compare s t ≡ Less → IsThreshold F f J s → IsThreshold F f J t → ⊥
  above_threshold s t less h k =
      let e = s.denominator * t.denominator in
      let low = ceiling_below s t (F.characteristic ^ e) less (power_large F.characteristic e (characteristic_large L)) in
      k.outside e (power_inside-more e low (h.inside e))

  threshold_unique : (s t : Fraction) → IsThreshold F f J s → IsThreshold F f J t → SameValue s t
  threshold_unique s t h k = go (compare s t) refl
    where
      go : (o : Ordering) → compare s t ≡ o → SameValue s t
      go Less e = absurd (above_threshold s t e h k)
      go Equal e = SameValue-from_compare s t e
      go Greater e = absurd (above_threshold t s (compare-IsTotalOrder.antisymm t s ∙ ap ordering_reverse e) k h)

  threshold_by_nu : (t : Fraction) → 0 < t.numerator → IsThreshold F f J t ↔ ((e : ℕ) → IsNu F f J e (ceil_times t (F.characteristic ^ e) - 1))
  threshold_by_nu t above = (
    λ h e. record { outside = h.outside e; greatest = λ k l. power_inside-more e (omega (arith, l)) (h.inside e) },
    λ nu. record {
      above_zero = above;
      inside = λ e. let some = ceiling_positive t (F.characteristic ^ e) above (one-le-pow e F.characteristic positive) in (nu e).greatest (ceil_times t (F.characteristic ^ e)) (omega (arith, some));
      outside = λ e. (nu e).outside;
    },
  )

  -- It is the least number whose test ideal is inside (J).
  threshold_least : (t : Fraction) → IsThreshold F f J t → (s : Fraction) (S : List Polynomial) → IsTestIdeal F f s S
      → Inside F S J ↔ IsAtMost t s
  threshold_least t h s S I = (
    λ i. elim (cases_lt (s.numerator * t.denominator) (t.numerator * s.denominator)) [
      | inl less ↦
          let e = s.denominator * t.denominator in
          let low = ceiling_below s t (F.characteristic ^ e) (compare-less s t less) (power_large F.characteristic e (characteristic_large L)) in
          absurd (h.outside e (power_inside-more e low ((test_ideal_inside s I).0 i e)))
      | inr more ↦ more
    ],
    λ at_most. (test_ideal_inside s I).1 (λ e. power_inside-more e (ceil_times-le t s (F.characteristic ^ e) at_most) (h.inside e)),
  )

  pub threshold_is_one : ThresholdIsUnique F f J
  threshold_is_one = record { by_nu = threshold_by_nu; unique = threshold_unique; same = IsThreshold-SameValue; least = threshold_least }
