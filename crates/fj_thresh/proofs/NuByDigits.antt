-- Roots of the powers of a polynomial by the digits of the exponent, and nu digit by digit.
use Rattle.std.proofs.Math.Nat.{pow-zero}
use Rattle.std.proofs.Common.{◌≡◌, ◌↔◌, ℕ, suc, ◌+◌, ◌*◌, ◌^◌, ◌<◌, List, [], ◌∷◌, ◌++◌, length, length-append, sym, ap, subst, arith}
use Rattle.std.proofs.lemmas.List.Elements.{All-nil, All-push}
use Rattle.fj_coeff.specs.Field.{Field, IsField}
use Rattle.fj_coeff.specs.PrimeFieldLaws.{prime_power_fits}
use Rattle.fj_theory.specs.Digits.{value_of}
use Rattle.fj_theory.specs.Exponents.{origin}
use Rattle.fj_theory.specs.Ideal.{ArePolynomials, Inside}
use Rattle.fj_theory.specs.Polynomial.{Polynomial, IsPolynomial, term}
use Rattle.fj_theory.specs.Root.{IsRoot}
use Rattle.fj_theory.proofs.Digits.{value_of-push}
use Rattle.fj_theory.proofs.IdealBridge.{ArePolynomials-single, IsPolynomial-one}
use Rattle.fj_testideal.specs.Threshold.{IsNu, IsPowerInside}
use Rattle.fj_testideal.proofs.Chain.{FollowsDigits-root, multiples-unit}
use Rattle.fj_testideal.proofs.PowerRoot.{IsPowerRoot}
use Rattle.fj_testideal.proofs.Threshold.{nu_is_one, power_inside-across, power_inside-back, power_inside_by_root}
use Rattle.fj_theory.proofs.Fedder.{power_one}
use Rattle.fj_chain.specs.Lists.{LeadTo}
use Rattle.fj_chain.proofs.Chains.{LeadTo-FollowsDigits}
use Rattle.fj_thresh.specs.Answer.{IsProperWith}
use Rattle.fj_thresh.specs.Lists.{WriteNu}

-- One more digit at the end.
pub length-push : (digits : List ℕ) (last : ℕ) → length (digits ++ last ∷ []) ≡ suc (length digits)
length-push digits last = let sum = length-append digits (last ∷ []) in omega (arith, sum)

module _ {F : Field} (L : IsField F) {f : Polynomial} (A : IsPolynomial F f) where
  -- The steps for the digits of r from (1) lead to the root of f^r.
  pub digits_reach_root : (digits : List ℕ) (N : List Polynomial) → LeadTo F f digits (term 1 origin ∷ []) N → IsPowerRoot F f (length digits) (value_of F.characteristic digits) N
  digits_reach_root digits N lead =
      let P = ArePolynomials-single (IsPolynomial-one L) in
      subst (λ M. IsRoot F (F.characteristic ^ length digits) M N) (multiples-unit L A (value_of F.characteristic digits))
      (FollowsDigits-root L A digits P (LeadTo-FollowsDigits L A digits N P lead))

  module _ {J : List Polynomial} (P : ArePolynomials F J) (digits : List ℕ) (last : ℕ) where
    -- So they tell whether f^r is in the Frobenius power.
    pub power_inside_by_digits : (N : List Polynomial) → LeadTo F f (digits ++ last ∷ []) (term 1 origin ∷ []) N
        → IsPowerInside F f J (suc (length digits)) (F.characteristic * value_of F.characteristic digits + last) ↔ Inside F N J
    power_inside_by_digits N lead =
        subst (λ r. IsPowerInside F f J (suc (length digits)) r ↔ Inside F N J) (value_of-push F.characteristic last digits)
        (subst (λ e. IsPowerInside F f J e (value_of F.characteristic (digits ++ last ∷ [])) ↔ Inside F N J) (length-push digits last)
        (power_inside_by_root L A P (length (digits ++ last ∷ [])) (value_of F.characteristic (digits ++ last ∷ [])) (digits_reach_root (digits ++ last ∷ []) N lead)))

    -- The last digit of nu.
    pub nu_push : WriteNu F f J digits → last < F.characteristic
        → (IsPowerInside F f J (suc (length digits)) (F.characteristic * value_of F.characteristic digits + last) → ⊥)
        → IsPowerInside F f J (suc (length digits)) (F.characteristic * value_of F.characteristic digits + suc last)
        → WriteNu F f J (digits ++ last ∷ [])
    nu_push W below out next = record {
      below = All-push (λ d. d < F.characteristic) digits last W.below below;
      is_nu = subst (IsNu F f J (length (digits ++ last ∷ []))) (sym (value_of-push F.characteristic last digits))
          (subst (λ e. IsNu F f J e (F.characteristic * value_of F.characteristic digits + last)) (sym (length-push digits last))
          (((nu_is_one L A P).by_next (suc (length digits)) (F.characteristic * value_of F.characteristic digits + last)).1
          (out, subst (IsPowerInside F f J (suc (length digits))) (omega arith) next)));
    }

  module _ {J : List Polynomial} (P : ArePolynomials F J) (digits : List ℕ) where
    -- At the next exponent f^(p nu) isn't inside, and f^(p nu + p) is.
    pub nu_ends : WriteNu F f J digits → (n : ℕ) → n ≡ F.characteristic
        → (IsPowerInside F f J (suc (length digits)) (F.characteristic * value_of F.characteristic digits + 0) → ⊥)
        × IsPowerInside F f J (suc (length digits)) (F.characteristic * value_of F.characteristic digits + n)
    nu_ends W n is =
        let e = length digits in
        let r : ℕ = value_of F.characteristic digits in
        let next : e + 1 ≡ suc e = omega arith in
        let one : (m : ℕ) → m * F.characteristic ^ 1 ≡ F.characteristic * m = λ m. let q = ap (λ q. m * q) (power_one F.characteristic) in omega (arith, q) in
        let low = one r in
        let high = one (suc r) in (
          λ inside. W.is_nu.outside (power_inside-back L A P e 1 r (F.characteristic * r + 0) (omega (arith, low)) (subst (λ d. IsPowerInside F f J d (F.characteristic * r + 0)) (sym next) inside)),
          subst (λ d. IsPowerInside F f J d (F.characteristic * r + n)) next (power_inside-across L A P e 1 (suc r) (F.characteristic * r + n) (omega (arith, high, is)) (W.is_nu.greatest (suc r) (omega arith))),
        )
    -- nu(0) is written by no digit.

  pub nu_start : {J : List Polynomial} → ArePolynomials F J → IsProperWith F J f → WriteNu F f J []
  unfolding value_of
  nu_start {J} P within = record {
    below = All-nil (λ d. d < F.characteristic);
    is_nu = ((nu_is_one L A P).by_next 0 0).1 ((nu_is_one L A P).at_zero 0 within.proper, subst (IsPowerInside F f J 0) (pow-zero F.characteristic) ((nu_is_one L A P).at_power 0 within.member));
  }

  -- nu is below q.
  pub nu_below : {J : List Polynomial} → ArePolynomials F J → IsProperWith F J f → (digits : List ℕ) → WriteNu F f J digits → value_of F.characteristic digits < F.characteristic ^ length digits
  nu_below P within digits W = (nu_is_one L A P).below (length digits) (value_of F.characteristic digits) within.member W.is_nu

  -- The next nu fits a machine word.
  pub nu_fits : {J : List Polynomial} → ArePolynomials F J → IsProperWith F J f → (digits : List ℕ) (last : ℕ) → WriteNu F f J (digits ++ last ∷ []) → length digits < 12
      → F.characteristic * value_of F.characteristic digits + last < 2 ^ 64
  nu_fits P within digits last W few =
      let count = length-push digits last in
      let below = nu_below P within (digits ++ last ∷ []) W in
      let fits = prime_power_fits F.characteristic (length (digits ++ last ∷ [])) L.prime (omega (arith, count, few)) in
      let value = value_of-push F.characteristic last digits in
      omega (arith, below, fits, value)
