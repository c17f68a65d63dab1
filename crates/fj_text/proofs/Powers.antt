-- Powers that are formed at once: degrees add, so that the last product of a power has the greatest degree, and where
-- only the last power can have too many terms, it alone decides.
use Rattle.std.proofs.Common.{◌≡◌, ℕ, zero, suc, ◌*◌, ◌<◌, ◌≤◌, true, false, ltb, ◌||◌, Option, Some, None, ◌⊎◌, inl, inr, refl, sym, ap, ◌∙◌, arith, ⊎_elim, unwrap_or}
use Rattle.std.specs.FinMap.{len}
use Rattle.std.specs.Option.{option_and_then}
use Rattle.std.proofs.lemmas.Bool.{cases_Bool, le-ltb, lt-ltb}
use Rattle.std.proofs.Math.Nat.{mul-le-mul_left}
use Rattle.fj_coeff.specs.Field.{Field, IsField}
use Rattle.fj_theory.specs.Polynomial.{Polynomial, IsPolynomial, degree, power, product}
use Rattle.fj_theory.proofs.Degree.{degree-empty, degree-power, empty_from_degree}
use Rattle.fj_theory.proofs.PolynomialRing.{IsPolynomial-power, power_first, power_suc, product_comm, product_empty}
use Rattle.fj_text.specs.Expression.{is_large, power_within, within}
use Rattle.fj_text.proofs.Values.{or_true, power-one, power-step}

within_large : (f : Polynomial) → is_large f ≡ true → within f ≡ None
within_large f large = rw large refl

within_small : (f : Polynomial) → is_large f ≡ false → within f ≡ Some f
within_small f small = rw small refl

module _ {F : Field} (L : IsField F) {f : Polynomial} (P : IsPolynomial F f) where
  -- One more product of a power that was formed.
  next_power : (k : ℕ) → power_within F f (suc k) ≡ Some (power F f (suc k)) → power_within F f (suc (suc k)) ≡ within (power F f (suc (suc k)))
  next_power k e =
      power-step F f k ∙ ap (option_and_then (λ g. within (product F g f))) e
      ∙ ap within (product_comm L (IsPolynomial-power L P (suc k)) P ∙ sym (power_suc L P (suc k)))

  -- A power is formed, or a product is large.
  formed_or_large : (k : ℕ) → (power_within F f (suc k) ≡ Some (power F f (suc k))) ⊎ (power_within F f (suc k) ≡ None)
  formed_or_large zero = inl (power-one F f ∙ ap (λ g. Some g) (sym (power_first L P)))
  formed_or_large (suc k) =
      ⊎_elim
      (λ e. ⊎_elim (λ large. inr (next_power k e ∙ within_large _ large)) (λ small. inl (next_power k e ∙ within_small _ small)) (cases_Bool (is_large (power F f (suc (suc k))))))
      (λ e. inr (power-step F f k ∙ ap (option_and_then (λ g. within (product F g f))) e))
      (formed_or_large k)

  -- Where the last product is large, there is no power.
  last_large : (k : ℕ) → 2 ≤ k → is_large (power F f k) ≡ true → power_within F f k ≡ None
  last_large zero h large = absurd (omega arith)
  last_large (suc zero) h large = absurd (omega arith)
  last_large (suc (suc k)) h large =
      ⊎_elim (λ e. next_power k e ∙ within_large _ large) (λ e. power-step F f k ∙ ap (option_and_then (λ g. within (product F g f))) e) (formed_or_large k)

  -- Where no product before the last is large, the last one decides.
  formed_before : (k : ℕ) → ((j : ℕ) → 2 ≤ j → j ≤ suc k → is_large (power F f j) ≡ false) → power_within F f (suc k) ≡ Some (power F f (suc k))
  formed_before zero small = power-one F f ∙ ap (λ g. Some g) (sym (power_first L P))
  formed_before (suc k) small =
      next_power k (formed_before k (λ j two at. small j two (omega arith))) ∙ within_small _ (small (suc (suc k)) (omega arith) (omega arith))

  last_decides : (k : ℕ) → 2 ≤ k → ((j : ℕ) → 2 ≤ j → j < k → is_large (power F f j) ≡ false) → power_within F f k ≡ within (power F f k)
  last_decides zero h small = absurd (omega arith)
  last_decides (suc zero) h small = absurd (omega arith)
  last_decides (suc (suc k)) h small = next_power k (formed_before k (λ j two at. small j two (omega arith)))

  degree_zero : degree f ≡ None → (k : ℕ) → degree (power F f (suc k)) ≡ None
  degree_zero e k =
      let none = empty_from_degree L P e in
      ap degree (power_suc L P k ∙ product_comm L P (IsPolynomial-power L P k) ∙ ap (product F (power F f k)) none ∙ product_empty L (IsPolynomial-power L P k)) ∙ degree-empty

  degree_of_power : (k : ℕ) → 1 ≤ k → unwrap_or (degree (power F f k)) 0 ≡ unwrap_or (degree f) 0 * k
  degree_of_power zero h = absurd (omega arith)
  degree_of_power (suc k) h = by (degree f) refl
    where
      by : (o : Option ℕ) → degree f ≡ o → unwrap_or (degree (power F f (suc k))) 0 ≡ unwrap_or o 0 * suc k
      by None e = ap (λ o. unwrap_or o 0) (degree_zero e k) ∙ omega arith
      by (Some n) e = ap (λ o. unwrap_or o 0) (degree-power L P e (suc k)) ∙ omega arith

  -- A power whose degree is above 1,000 isn't formed.
  pub high_power : (k : ℕ) → 2 ≤ k → 1000 < unwrap_or (degree f) 0 * k → power_within F f k ≡ None
  unfolding is_large
  high_power k h high =
      let above : ltb 1000 (unwrap_or (degree (power F f k)) 0) ≡ true = lt-ltb 1000 _ (omega (arith, degree_of_power k (omega arith))) in
      last_large k h (ap (λ b. ltb 1000 (len (power F f k)) || b) above ∙ or_true (ltb 1000 (len (power F f k))))

  -- Where the lower powers have at most 1,000 terms, the last product decides.
  pub power_by_last : (k : ℕ) → 2 ≤ k → unwrap_or (degree f) 0 * k ≤ 1000 → ((j : ℕ) → j < k → len (power F f j) ≤ 1000) → power_within F f k ≡ within (power F f k)
  unfolding is_large
  power_by_last k two low few = last_decides k two small
    where
      small : (j : ℕ) → 2 ≤ j → j < k → is_large (power F f j) ≡ false
      small j from to =
          let terms : ltb 1000 (len (power F f j)) ≡ false = le-ltb _ _ (few j to) in
          let rising : unwrap_or (degree f) 0 * j ≤ unwrap_or (degree f) 0 * k = mul-le-mul_left {m = j} {n = k} (unwrap_or (degree f) 0) (omega arith) in
          let degrees : ltb 1000 (unwrap_or (degree (power F f j)) 0) ≡ false = le-ltb _ _ (omega (arith, degree_of_power j (omega arith), rising, low)) in
          rw (terms, degrees) refl
