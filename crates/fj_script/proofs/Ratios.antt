-- The fraction of two numbers in lowest terms.
use Rattle.std.proofs.Common.{◌≡◌, ℕ, zero, suc, ◌*◌, ◌/◌, ◌%◌, ◌^◌, ◌<◌, ◌≤◌, ◌==◌, ◌↔◌, Bool, true, false, ◌&&◌, ◌||◌, not, nat_lt, if◌then◌else◌, Some, Result, Ok, Err, inl, inr, refl, sym, ap, ◌∙◌, subst, true≢false, arith}
use Rattle.std.specs.Int.{IsGcd}
use Rattle.std.specs.Option.{option_map_or}
use Rattle.std.specs.Result.{IsErrOf}
use Rattle.std.proofs.lemmas.Bool.{and_parts, cases_eq, lt-ltb, le-ltb, eqb-true}
use Rattle.std.proofs.lemmas.Nat.{mod_below}
use Rattle.std.proofs.lemmas.Nat.Gcd.{IsGcd-from_zero, IsGcd-from_mod, le_of_dvd, dvd_of_mod-eq-zero, mod-eq-zero_of_dvd}
use Rattle.std.proofs.Math.Nat.{div-le_self}
use Rattle.fj_theory.specs.Fraction.{Fraction}
use Rattle.fj_ratio.specs.declared.ratio.RatioFault.{RatioFault}
use Rattle.fj_ratio.specs.declared.ratio.RatioFault.TheVariants as faults
use Rattle.fj_ratio.specs.Lowest.{IsLowestForm, IsTooWide}
use Rattle.fj_ratio.specs.FractionCode.{same_fraction}
use Rattle.fj_ratio.proofs.LowestTerms.{divided, gcd_positive, same_lowest_form}
use Rattle.fj_text.specs.State.{State}
use Rattle.fj_script.specs.declared.fault.FaultKind.TheVariants as kinds
use Rattle.fj_script.specs.LineFault.{fault_at}
use Rattle.fj_script.specs.Numbers.{common_divisor, divisor_up_to, fraction, is_exponent, lowest, ratio_of}

gcd_exists : (fuel m n : ℕ) → n < fuel → (g : ℕ) × IsGcd m n g
gcd_exists zero m n h = absurd (omega arith)
gcd_exists (suc fuel) m zero h = (m, IsGcd-from_zero m 0 refl)
gcd_exists (suc fuel) m (suc n) h =
    let less : m % suc n < suc n = mod_below m (suc n) (omega arith) in
    let next = gcd_exists fuel (suc n) (m % suc n) (omega arith) in
    (next.0, IsGcd-from_mod m (suc n) next.0 next.1)

-- The greatest of all common divisors is the greatest up to each bound that isn't below it.
greatest_up_to : (m n g d : ℕ) → IsGcd m n g → 0 < g → g ≤ d → divisor_up_to m n d ≡ g
unfolding divisor_up_to
greatest_up_to m n g zero gcd positive within = absurd (omega arith)
greatest_up_to m n g (suc d) gcd positive within = by (m % suc d == 0 && n % suc d == 0) refl (greatest_up_to m n g d gcd positive)
  where
    divides_both : suc d ≡ g → (m % suc d == 0 && n % suc d == 0) ≡ true
    divides_both e =
        let first : m % suc d ≡ 0 = mod-eq-zero_of_dvd (suc d) (rw e gcd.0) in
        let second : n % suc d ≡ 0 = mod-eq-zero_of_dvd (suc d) (rw e gcd.1) in
        rw (first, second) refl

    by : (b : Bool) → (m % suc d == 0 && n % suc d == 0) ≡ b → (g ≤ d → divisor_up_to m n d ≡ g) → (if b then suc d else divisor_up_to m n d) ≡ g
    by true e rest =
        let both = and_parts (m % suc d == 0) (n % suc d == 0) e in
        let above : suc d ≤ g = le_of_dvd positive (gcd.2 (suc d) (dvd_of_mod-eq-zero (suc d) (eqb-true (m % suc d) 0 both.0)) (dvd_of_mod-eq-zero (suc d) (eqb-true (n % suc d) 0 both.1))) in
        omega arith
    by false e rest = elim (cases_eq (suc d) g) [ inl same ↦ absurd (true≢false (sym (divides_both same) ∙ e)) | inr other ↦ rest (omega (arith, other)) ]

fraction_is : (m n : ℕ) (positive : 0 < n) → fraction m n ≡ Some (record { numerator = m; denominator = n; positive = positive })
fraction_is m zero positive = absurd (omega arith)
fraction_is m (suc n) positive = ap (λ t. Some t) (same_fraction _ _ refl)

-- m/n in lowest terms, where n isn't 0.
pub record Reduced (m n : ℕ) (t : Fraction) : Type 0 where
  pub is : lowest m n ≡ Some t
  pub form : IsLowestForm m n t
  pub below : t.numerator ≤ m

pub reduced : (m n : ℕ) → 0 < n → (t : Fraction) × Reduced m n t
unfolding lowest common_divisor
reduced m n positive =
    let g = gcd_exists (suc n) m n (omega arith) in
    let above : 0 < g.0 = gcd_positive m n g.0 positive g.1 in
    let parts = divided m n g.0 positive g.1 in
    let same : divisor_up_to m n n ≡ g.0 = greatest_up_to m n g.0 n g.1 above (le_of_dvd positive g.1.1) in (
      record { numerator = m / g.0; denominator = n / g.0; positive = parts.positive },
      record {
        is = ap (λ k. fraction (m / k) (n / k)) same ∙ fraction_is (m / g.0) (n / g.0) parts.positive;
        form = record { value = parts.value; lowest = parts.lowest };
        below = div-le_self m g.0;
      },
    )

reduced_is : (m n : ℕ) (t : Fraction) → 0 < n → IsLowestForm m n t → Reduced m n t
reduced_is m n t positive form =
    let r = reduced m n positive in
    let same = same_lowest_form m n r.0 t positive r.1.form form in
    subst (Reduced m n) (same_fraction r.0 t (λ i. (same.0 i, same.1 i))) r.1

module _ (positive : Bool) (m n : ℕ) (s : State) where
  pub of_form : (t : Fraction) → 0 < n → IsLowestForm m n t → ratio_of positive m n s ≡ (if is_exponent positive t then Ok (t, s) else Err (fault_at kinds.Range s))
  unfolding ratio_of
  of_form t above form = ap (λ o. option_map_or (λ t. if is_exponent positive t then Ok (t, s) else Err (fault_at kinds.Range s)) o (Err (fault_at kinds.Range s))) (reduced_is m n t above form).is

  of_refused : (t : Fraction) → 0 < n → IsLowestForm m n t → is_exponent positive t ≡ false → ratio_of positive m n s ≡ Err (fault_at kinds.Range s)
  of_refused t above form e = of_form t above form ∙ ap (λ b. if b then Ok (t, s) else Err (fault_at kinds.Range s)) e

  -- The fraction is taken.
  pub of_taken : (t : Fraction) → 0 < n → IsLowestForm m n t → t.denominator < 65536 → t.numerator ≤ 8 * t.denominator → (positive && t.numerator == 0) ≡ false
      → ratio_of positive m n s ≡ Ok (t, s)
  unfolding is_exponent
  of_taken t above form short small e =
      let taken : is_exponent positive t ≡ true = rw (le-ltb 65535 t.denominator (omega arith), le-ltb (8 * t.denominator) t.numerator small, e) refl in
      of_form t above form ∙ ap (λ b. if b then Ok (t, s) else Err (fault_at kinds.Range s)) taken

  -- The fraction is out of its range.
  pub of_large : (t : Fraction) → 0 < n → IsLowestForm m n t → 8 * t.denominator < t.numerator → ratio_of positive m n s ≡ Err (fault_at kinds.Range s)
  unfolding is_exponent
  of_large t above form large =
      of_refused t above form (by (nat_lt 65535 t.denominator))
    where
      by : (b : Bool) → not (b || nat_lt (8 * t.denominator) t.numerator || positive && t.numerator == 0) ≡ false
      by true = refl
      by false = rw (lt-ltb (8 * t.denominator) t.numerator large) refl

  pub of_zero : (t : Fraction) → 0 < n → IsLowestForm m n t → (positive && t.numerator == 0) ≡ true → ratio_of positive m n s ≡ Err (fault_at kinds.Range s)
  unfolding is_exponent
  of_zero t above form nothing =
      of_refused t above form (by (nat_lt 65535 t.denominator) (nat_lt (8 * t.denominator) t.numerator))
    where
      by : (b c : Bool) → not (b || c || positive && t.numerator == 0) ≡ false
      by true c = refl
      by false true = refl
      by false false = rw nothing refl

  pub over_zero : n ≡ 0 → ratio_of positive m n s ≡ Err (fault_at kinds.Range s)
  unfolding ratio_of lowest common_divisor divisor_up_to
  over_zero e = rw e refl

  too_wide : m < 2 ^ 32 → IsTooWide m n → ratio_of positive m n s ≡ Err (fault_at kinds.Range s)
  unfolding is_exponent
  too_wide narrow wide =
      let short = (reduced_is m n wide.form wide.divides wide.lowest).below in
      of_refused wide.form wide.divides wide.lowest
      (elim wide.wide [ inl long ↦ rw (lt-ltb 65535 wide.form.denominator long) refl | inr long ↦ absurd (omega arith) ])

  -- There is no such fraction.
  pub without_form : {X : Type 0} (r : Result X RatioFault) (e : RatioFault) → r ≡ Err e → m < 2 ^ 32
      → (IsErrOf r faults.Zero ↔ (n ≡ 0)) → (IsErrOf r faults.TooWide ↔ IsTooWide m n) → ratio_of positive m n s ≡ Err (fault_at kinds.Range s)
  without_form r faults.Zero is narrow none wide = over_zero (none.0 is)
  without_form r faults.TooWide is narrow none wide = too_wide narrow (wide.0 is)

-- Where there is a fraction the denominator isn't 0.
pub above_zero : {X : Type 0} (n : ℕ) (r : Result X RatioFault) (t : X) → r ≡ Ok t → (IsErrOf r faults.Zero ↔ (n ≡ 0)) → 0 < n
above_zero zero r t is none =
    let failed : r ≡ Err faults.Zero = none.1 refl in
    absurd cc
above_zero (suc n) r t is none = omega arith
