-- The chain of a period from (f) or (1): its ideals are generated in degree at most deg f in the variables of f, so it repeats.
use Rattle.std.proofs.Common.{◌≡◌, inl, inr, ℕ, zero, suc, ◌+◌, ◌*◌, ◌^◌, ◌<◌, ◌≤◌, List, [], ◌∷◌, ◌++◌, length, take, All, Some, subst, arith}
use Rattle.std.proofs.Math.Nat.{pow-zero, pow-suc, mul-le-mul_left}
use Rattle.fj_coeff.specs.Field.{Field, IsField}
use Rattle.fj_theory.specs.Exponents.{origin}
use Rattle.fj_theory.specs.Polynomial.{Polynomial, IsPolynomial, term, degree}
use Rattle.fj_theory.specs.Ideal.{ArePolynomials}
use Rattle.fj_theory.specs.Digits.{value_of, repeated_value}
use Rattle.fj_theory.proofs.Period.{repeated_last}
use Rattle.fj_theory.proofs.IdealBridge.{ArePolynomials-single, IsPolynomial-one}
use Rattle.fj_theory.proofs.Ideal.{SameIdeal-sym}
use Rattle.fj_testideal.specs.Chain.{IsChain, chain_at}
use Rattle.fj_testideal.specs.BoundedIdeal.{occurs_in, IsBoundedIdeal}
use Rattle.fj_testideal.specs.LeadLaws.{PeriodsMoveLeads, RepeatsFrom}
use Rattle.fj_testideal.proofs.Chain.{power_of_power, value_of_below, IsChain-push, IsChain-up_to, IsChain-step}
use Rattle.fj_testideal.proofs.ChainLimit.{chain_root_from_f, chain_root_from_one, chain_rises, chain_falls}
use Rattle.fj_testideal.proofs.BoundedParts.{power_root_bounded}
use Rattle.fj_testideal.proofs.BoundedChain.{strict_step, rising_repeats, falling_repeats}

-- a(1 + q + .. + q^(k-1)) is below q^k.
repeated_below : (q a k : ℕ) → a < q → repeated_value q a k < q ^ k
unfolding repeated_value
repeated_below q a zero less = let one : q ^ 0 ≡ 1 = pow-zero q in omega arith
repeated_below q a (suc k) less =
    let product : q * (repeated_value q a k + 1) ≤ q * q ^ k = mul-le-mul_left q (omega (arith, repeated_below q a k less)) in
    omega (arith, product, repeated_last q a k, pow-suc q k)

module _ {F : Field} (L : IsField F) {f : Polynomial} (A : IsPolynomial F f) {d : ℕ} (of_degree : degree f ≡ Some d)
    (period : List ℕ) (below : All (λ a. a < F.characteristic) period) where
  own : ArePolynomials F (f ∷ [])
  own = ArePolynomials-single A

  unit : ArePolynomials F (term 1 origin ∷ [])
  unit = ArePolynomials-single (IsPolynomial-one L)

  -- What k periods write is below p^(k b).
  pub written_below : (k : ℕ) → repeated_value (F.characteristic ^ length period) (value_of F.characteristic period) k < F.characteristic ^ (k * length period)
  written_below k =
      subst (λ n. repeated_value (F.characteristic ^ length period) (value_of F.characteristic period) k < n) (power_of_power F.characteristic (length period) k)
      (repeated_below (F.characteristic ^ length period) (value_of F.characteristic period) k (value_of_below F.characteristic period below))

  module _ (lists : List (List Polynomial)) {last : List Polynomial} where
    -- Each ideal of the chains is generated in degree at most deg f in the variables of f.
    pub bounded_from_f : IsChain F f period (f ∷ []) lists last → IsBoundedIdeal F (occurs_in f) d last
    bounded_from_f chain =
        power_root_bounded L (length lists * length period) _ d A of_degree (omega (arith, written_below (length lists))) (chain_root_from_f L A period lists chain)

    pub bounded_from_one : IsChain F f period (term 1 origin ∷ []) lists last → IsBoundedIdeal F (occurs_in f) d last
    bounded_from_one chain =
        power_root_bounded L (length lists * length period) _ d A of_degree (omega (arith, written_below (length lists))) (chain_root_from_one L A period lists chain)

    polynomials_from_f : IsChain F f period (f ∷ []) lists last → ArePolynomials F last
    polynomials_from_f chain = (chain_root_from_f L A period lists chain).polynomials

    polynomials_from_one : IsChain F f period (term 1 origin ∷ []) lists last → ArePolynomials F last
    polynomials_from_one chain = (chain_root_from_one L A period lists chain).polynomials

  pub period_moves_leads : PeriodsMoveLeads F f d period
  period_moves_leads = record {
    from_f = λ lists last next chain follows leads more few many.
        let further = IsChain-push L A period lists (f ∷ []) last next own chain follows in
        strict_step L (polynomials_from_f lists chain) (polynomials_from_f (lists ++ next ∷ []) further)
        (bounded_from_f lists chain) (bounded_from_f (lists ++ next ∷ []) further) (chain_rises L A period lists below chain follows) few many;
    from_one = λ lists last next chain follows leads fewer many few.
        let further = IsChain-push L A period lists (term 1 origin ∷ []) last next unit chain follows in
        elim (strict_step L (polynomials_from_one (lists ++ next ∷ []) further) (polynomials_from_one lists chain)
        (bounded_from_one (lists ++ next ∷ []) further) (bounded_from_one lists chain) (chain_falls L A period lists chain follows) few many) [
          | inl same ↦ inl (SameIdeal-sym same)
          | inr less ↦ inr less
        ];
  }

  pub repeats_from_f : RepeatsFrom F f d period (f ∷ [])
  repeats_from_f = record {
    repeats = λ lists last chain leads are long.
        let up_to : (i : ℕ) → i ≤ length lists → IsChain F f period (f ∷ []) (take i lists) (chain_at (f ∷ []) lists i) = IsChain-up_to L A period lists (f ∷ []) last (f ∷ []) own chain in
        rising_repeats L {vars = occurs_in f} {bound = d} {chain = chain_at (f ∷ []) lists} (length lists) (record {
          leads = leads;
          polynomials = λ i h. polynomials_from_f (take i lists) (up_to i h);
          bounded = λ i h. bounded_from_f (take i lists) (up_to i h);
          are_leads = are;
        }) (λ i h. chain_rises L A period (take i lists) below (up_to i (omega arith)) (IsChain-step L A period lists (f ∷ []) last (f ∷ []) chain i h)) long;
  }

  pub repeats_from_one : RepeatsFrom F f d period (term 1 origin ∷ [])
  repeats_from_one = record {
    repeats = λ lists last chain leads are long.
        let first : List Polynomial = term 1 origin ∷ [] in
        let up_to : (i : ℕ) → i ≤ length lists → IsChain F f period first (take i lists) (chain_at first lists i) = IsChain-up_to L A period lists first last first unit chain in
        falling_repeats L {vars = occurs_in f} {bound = d} {chain = chain_at first lists} (length lists) (record {
          leads = leads;
          polynomials = λ i h. polynomials_from_one (take i lists) (up_to i h);
          bounded = λ i h. bounded_from_one (take i lists) (up_to i h);
          are_leads = are;
        }) (λ i h. chain_falls L A period (take i lists) (up_to i (omega arith)) (IsChain-step L A period lists first last first chain i h)) long;
  }
