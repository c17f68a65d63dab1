-- The numbers of questions that are read: they keep their limits.
use Rattle.std.proofs.Common.{◌≡◌, ℕ, ◌*◌, ◌^◌, ◌<◌, ◌≤◌, ◌==◌, Bool, true, false, true≢false, ◌&&◌, ◌||◌, not, ltb, ltb-false, refl, sym, arith}
use Rattle.std.proofs.lemmas.Bool.{eqb-false}
use Rattle.fj_theory.specs.Fraction.{Fraction}
use Rattle.fj_text.specs.State.{State, after_sign}
use Rattle.fj_script.specs.Items.{narrow, slash}
use Rattle.fj_script.specs.Numbers.{exponent, is_exponent, level, lowest, ratio, ratio_of, within}
use Rattle.fj_script.proofs.AcceptedArguments.{IsExponent, IsLevel}
use Rattle.fj_script.proofs.AcceptedPolynomials.{or_false}
use Rattle.fj_script.proofs.AcceptedYields.{Yields, Anything, yields_anything, yields_if, yields_option, yields_then, yields_weaker}

or_false_left : (a b : Bool) → (a || b) ≡ false → a ≡ false
or_false_left true b h = absurd (true≢false h)
or_false_left false b h = refl

pub within_limits : (low high : ℕ) (s : State) → Yields (λ n. (low ≤ n.0) × (n.0 ≤ high)) (within low high s)
unfolding within
within_limits low high s =
    let limits : ℕ × State → Type 0 = λ n. (low ≤ n.0) × (n.0 ≤ high) in
    yields_then Anything limits (narrow s) _ (yields_anything _)
    (λ n _. yields_if limits (ltb n.0 low || ltb high n.0) _ _ (λ _. tt)
    (λ h. (ltb-false n.0 low (or_false_left (ltb n.0 low) (ltb high n.0) h), ltb-false high n.0 (or_false (ltb n.0 low) (ltb high n.0) h))))

-- e
pub exponent_limits : (s : State) → Yields (λ e. e.0 ≤ 12) (exponent s)
unfolding exponent
exponent_limits s = yields_weaker (λ e. (0 ≤ e.0) × (e.0 ≤ 12)) (λ e. e.0 ≤ 12) (within 0 12 s) (within_limits 0 12 s) (λ e h. h.1)

-- E
pub level_limits : (p : ℕ) (s : State) → Yields (λ e. IsLevel p e.0) (level p s)
unfolding level
level_limits p s =
    let limits : ℕ × State → Type 0 = λ e. IsLevel p e.0 in
    yields_then Anything limits (narrow s) _ (yields_anything _)
    (λ n _. yields_if limits (n.0 == 0 || ltb 65536 (p ^ n.0)) _ _ (λ _. tt)
    (λ h. let nonzero : n.0 ≡ 0 → ⊥ = eqb-false n.0 0 (or_false_left (n.0 == 0) (ltb 65536 (p ^ n.0)) h) in
    record { positive = positive n.0 nonzero; low = ltb-false 65536 (p ^ n.0) (or_false (n.0 == 0) (ltb 65536 (p ^ n.0)) h) }))
  where
    positive : (n : ℕ) → (n ≡ 0 → ⊥) → 0 < n
    positive n h = omega (arith, h)

-- t
exponent_is : (positive : Bool) (t : Fraction) → is_exponent positive t ≡ true → IsExponent positive t
unfolding is_exponent
exponent_is positive t h = by (ltb 65535 t.denominator) (ltb (8 * t.denominator) t.numerator) (t.numerator == 0) refl refl refl h
  where
    by : (a b c : Bool) → ltb 65535 t.denominator ≡ a → ltb (8 * t.denominator) t.numerator ≡ b → (t.numerator == 0) ≡ c → not (a || b || positive && c) ≡ true → IsExponent positive t
    by true b c large high zero h = absurd (true≢false (sym h))
    by false true c large high zero h = absurd (true≢false (sym h))
    by false false c large high zero h = record { denominator = ltb-false _ _ large; low = ltb-false _ _ high; above = λ above. above_zero c zero positive above h }
      where
        above_zero : (c : Bool) → (t.numerator == 0) ≡ c → (positive : Bool) → positive ≡ true → not (positive && c) ≡ true → 0 < t.numerator
        above_zero true zero true above h = absurd (true≢false (sym h))
        above_zero false zero true above h = let nonzero : t.numerator ≡ 0 → ⊥ = eqb-false t.numerator 0 zero in omega (arith, nonzero)
        above_zero c zero false above h = absurd (true≢false (sym above))

module _ (positive : Bool) where
  abbrev Limits : Fraction × State → Type 0
  Limits t = IsExponent positive t.0

  fraction_limits : (m n : ℕ) (s : State) → Yields Limits (ratio_of positive m n s)
  unfolding ratio_of
  fraction_limits m n s = yields_option Limits (lowest m n) _ _ (λ t _. yields_if Limits (is_exponent positive t) _ _ (exponent_is positive t) (λ _. tt)) tt

  pub ratio_limits : (s : State) → Yields Limits (ratio positive s)
  unfolding ratio
  ratio_limits s =
      yields_then Anything Limits (narrow s) _ (yields_anything _)
      (λ m _. yields_option Limits (after_sign slash m.1) _ _
      (λ t _. yields_then Anything Limits (narrow t) _ (yields_anything _) (λ n _. fraction_limits m.0 n.0 n.1)) (fraction_limits m.0 1 m.1))
