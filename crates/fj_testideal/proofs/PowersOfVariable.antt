-- Roots, chains and test ideals of powers of one variable, by numbers.
use Rattle.std.proofs.Common.{◌≡◌, ℕ, zero, suc, ◌+◌, ◌*◌, ◌/◌, ◌^◌, ◌<◌, List, [], ◌∷◌, Some, refl, sym, ap, ◌∙◌, subst, arith, lit<}
use Rattle.fj_coeff.specs.Field.{Field, IsField}
use Rattle.fj_theory.specs.Exponents.{IsExponents, total, plus, times, quotient_by}
use Rattle.fj_theory.specs.Polynomial.{IsPolynomial, power, product, term, degree}
use Rattle.fj_theory.specs.Ideal.{SameIdeal, multiples}
use Rattle.fj_theory.specs.Fraction.{ceil_times}
use Rattle.fj_theory.specs.Digits.{ceiling_less_one, digit, digits}
use Rattle.fj_theory.specs.Root.{IsRoot}
use Rattle.fj_theory.proofs.Field.{one_below}
use Rattle.fj_theory.proofs.Polynomial.{IsPolynomial-term}
use Rattle.fj_theory.proofs.Degree.{degree-term}
use Rattle.fj_theory.proofs.Exponents.{total-cons}
use Rattle.fj_theory.proofs.Frobenius.{power_positive}
use Rattle.fj_theory.proofs.Monomial.{product_terms}
use Rattle.fj_theory.proofs.IdealBridge.{ArePolynomials-single}
use Rattle.fj_theory.proofs.Ideal.{SameIdeal-refl, Inside-head}
use Rattle.fj_testideal.specs.TestIdeal.{IsTestIdeal, IsLeftLimit}
use Rattle.fj_testideal.specs.Chain.{IsStep, IsLimit, chain_at}
use Rattle.fj_testideal.specs.Examples.{x, third, one, IsNoSingleRoot, StartsAtOne, UsesLowestFirst}
use Rattle.fj_testideal.proofs.Degrees.{degree-Member}
use Rattle.fj_testideal.proofs.TestIdeal.{IsTestIdeal-unique, IsLeftLimit-unique}
use Rattle.fj_testideal.proofs.NumberOfPeriods.{tells_number}
use Rattle.fj_testideal.proofs.MonomialRoot.{div_between, power_monomial, IsRoot-monomial, test_ideal-monomial, left_limit-monomial}

-- The exponents of x^n.
abbrev exponents : ℕ → List ℕ
exponents n = n ∷ 0 ∷ 0 ∷ 0 ∷ 0 ∷ 0 ∷ 0 ∷ 0 ∷ []

IsExponents-x : (n : ℕ) → IsExponents (exponents n)
IsExponents-x n = record { eight = refl }

times_x : (m n : ℕ) → times m (exponents n) ≡ exponents (m * n)
unfolding times
times_x m n = let none : m * 0 ≡ 0 = omega arith in ap (λ z. m * n ∷ z ∷ z ∷ z ∷ z ∷ z ∷ z ∷ z ∷ []) none

quotient_x : (q n : ℕ) → 0 < q → quotient_by q (exponents n) ≡ exponents (n / q)
unfolding quotient_by
quotient_x q n h = let none : 0 / q ≡ 0 = div_between 0 q 0 h (omega arith) (omega arith) in ap (λ z. n / q ∷ z ∷ z ∷ z ∷ z ∷ z ∷ z ∷ z ∷ []) none

total_x : (n : ℕ) → total (exponents n) ≡ n
total_x n = let rest : total (0 ∷ 0 ∷ 0 ∷ 0 ∷ 0 ∷ 0 ∷ 0 ∷ []) ≡ 0 = refl in omega (arith, total-cons n (0 ∷ 0 ∷ 0 ∷ 0 ∷ 0 ∷ 0 ∷ 0 ∷ []))

module _ {F : Field} (L : IsField F) where
  IsPolynomial-x : (n : ℕ) → IsPolynomial F (x n)
  IsPolynomial-x n = IsPolynomial-term 1 (one_below L) (IsExponents-x n)

  power_x : (n m : ℕ) → power F (x n) m ≡ x (m * n)
  power_x n m = power_monomial L (IsExponents-x n) m ∙ ap (term 1) (times_x m n)

  product_x : (m n : ℕ) → product F (x m) (x n) ≡ x (m + n)
  unfolding plus
  product_x m n =
      product_terms L 1 1 (one_below L) (one_below L) (IsExponents-x m) (IsExponents-x n)
      ∙ ap (λ c. term c (exponents (m + n))) (L.mul_one 1 (one_below L))

  degree_x : (n : ℕ) → degree (x n) ≡ Some n
  degree_x n = degree-term F 1 (omega arith) (one_below L) (IsExponents-x n) ∙ ap Some (total_x n)

  -- (x^m) and (x^n) are one ideal for equal m and n alone.
  apart : (m n : ℕ) → SameIdeal F (x m ∷ []) (x n ∷ []) → m ≡ n
  apart m n E =
      omega (arith, degree-Member L (IsPolynomial-x n) (degree_x n) (degree_x m) (Inside-head E.forth), degree-Member L (IsPolynomial-x m) (degree_x m) (degree_x n) (Inside-head E.back))

  root_x : (e n : ℕ) → IsRoot F (F.characteristic ^ e) (x n ∷ []) (x (n / F.characteristic ^ e) ∷ [])
  root_x e n =
      let q : ℕ = F.characteristic ^ e in
      subst (λ b. IsRoot F q (x n ∷ []) (term 1 b ∷ [])) (quotient_x q n (power_positive L e)) (IsRoot-monomial L e (IsExponents-x n))

  module _ (two : F.characteristic ≡ 2) where
    -- A step in characteristic 2.
    step_x : (n d j k : ℕ) → (d * n + j) / 2 ^ 1 ≡ k → IsStep F (x n) d (x j ∷ []) (x k ∷ [])
    step_x n d j k half =
        let list : x (d * n + j) ∷ [] ≡ multiples F (power F (x n) d) (x j ∷ []) = ap (λ g. g ∷ []) (sym (ap (λ g. product F g (x j)) (power_x n d) ∙ product_x (d * n) j)) in
        subst (λ M. IsRoot F (F.characteristic ^ 1) M (x k ∷ [])) list
        (subst (λ k. IsRoot F (F.characteristic ^ 1) (x (d * n + j) ∷ []) (x k ∷ [])) (ap (λ p. (d * n + j) / p ^ 1) two ∙ half) (root_x 1 (d * n + j)))

    same : (n : ℕ) → SameIdeal F (x n ∷ []) (x n ∷ [])
    same n = SameIdeal-refl L (ArePolynomials-single (IsPolynomial-x n))

    pub one_root_is_no_limit : IsNoSingleRoot F
    unfolding ceil_times
    one_root_is_no_limit =
        let limit : IsTestIdeal F (x 5) third (x 1 ∷ []) = test_ideal-monomial L (IsExponents-x 5) third in
        let q : ℕ = F.characteristic ^ 2 in
        let m = ceil_times third q in
        let value : m * 5 / q ≡ 2 = ap (λ p. ceil_times third (p ^ 2) * 5 / p ^ 2) two in
        record {
          root = subst (λ g. IsRoot F q (g ∷ []) (x 2 ∷ [])) (sym (power_x 5 m)) (subst (λ k. IsRoot F q (x (m * 5) ∷ []) (x k ∷ [])) value (root_x 2 (m * 5)));
          test_ideal = limit;
          apart = λ other. let e = apart 1 2 (IsTestIdeal-unique limit other) in absurd (omega arith);
        }

    pub falling_chain_starts_at_one : StartsAtOne F
    unfolding ceil_times digits digit ceiling_less_one
    falling_chain_starts_at_one =
        let left : IsLeftLimit F (x 1) one (x 0 ∷ []) = left_limit-monomial L (IsExponents-x 1) one (lit< tt) in
        record {
          digits_of_one = ap (λ p. digits p one 0 1) two;
          limit_from_f = record { lists = []; chain = same 1; next = x 1 ∷ []; follows = (x 1 ∷ [], same 1, step_x 1 1 1 1 refl); repeats = same 1 };
          limit_from_one = record { lists = []; chain = same 0; next = x 0 ∷ []; follows = (x 0 ∷ [], same 0, step_x 1 1 0 0 refl); repeats = same 0 };
          left_limit = left;
          apart = λ other. let e = apart 0 1 (IsLeftLimit-unique left other) in absurd (omega arith);
        }

    strict : (i : ℕ) → i < 2 → SameIdeal F (chain_at (x 5 ∷ []) ((x 2 ∷ []) ∷ (x 1 ∷ []) ∷ []) i) (chain_at (x 5 ∷ []) ((x 2 ∷ []) ∷ (x 1 ∷ []) ∷ []) (suc i)) → ⊥
    strict zero h E = let e = apart 5 2 E in absurd (omega arith)
    strict (suc zero) h E = let e = apart 2 1 E in absurd (omega arith)
    strict (suc (suc i)) h E = absurd (omega arith)

    pub lowest_digit_comes_first : UsesLowestFirst F
    unfolding ceil_times digits digit ceiling_less_one
    lowest_digit_comes_first =
        let limit : IsTestIdeal F (x 5) third (x 1 ∷ []) = test_ideal-monomial L (IsExponents-x 5) third in
        let rising : IsLimit F (x 5) (0 ∷ 1 ∷ []) (x 5 ∷ []) (x 1 ∷ []) = record {
          lists = (x 2 ∷ []) ∷ (x 1 ∷ []) ∷ [];
          chain = ((x 5 ∷ [], (x 5 ∷ [], same 5, step_x 5 1 5 5 refl), step_x 5 0 5 2 refl), ((x 3 ∷ [], (x 2 ∷ [], same 2, step_x 5 1 2 3 refl), step_x 5 0 3 1 refl), same 1));
          next = x 1 ∷ [];
          follows = (x 3 ∷ [], (x 1 ∷ [], same 1, step_x 5 1 1 3 refl), step_x 5 0 3 1 refl);
          repeats = same 1;
        } in
        record {
          digits_of_third = ap (λ p. digits p third 0 2) two;
          limit = rising;
          number = (tells_number L (IsPolynomial-x 5) (0 ∷ 1 ∷ []) rising.lists (x 1 ∷ []) (x 1 ∷ [])).from_f rising.chain rising.follows (same 1) (λ found. strict found.0 found.1 found.2);
          other_limit = record {
            lists = (x 3 ∷ []) ∷ [];
            chain = ((x 2 ∷ [], (x 5 ∷ [], same 5, step_x 5 0 5 2 refl), step_x 5 1 2 3 refl), same 3);
            next = x 3 ∷ [];
            follows = (x 1 ∷ [], (x 3 ∷ [], same 3, step_x 5 0 3 1 refl), step_x 5 1 1 3 refl);
            repeats = same 3;
          };
          test_ideal = limit;
          apart = λ other. let e = apart 1 3 (IsTestIdeal-unique limit other) in absurd (omega arith);
        }
