-- The cusp x^2 + y^3 over GF(5) at 4/5.
use Rattle.std.proofs.Common.{◌≡◌, ℕ, zero, suc, ◌+◌, ◌*◌, ◌%◌, ◌^◌, ◌<◌, List, [], ◌∷◌, map, refl, sym, ap, ap₂, ◌∙◌, subst, arith, lit<}
use Rattle.std.proofs.lemmas.List.Elements.{All-nil, All-from_recursion}
use Rattle.std.proofs.lemmas.Nat.Gcd.{IsGcd-from_zero, IsGcd-from_mod}
use Rattle.fj_coeff.specs.Field.{Field, IsField}
use Rattle.fj_coeff.specs.Field as field
use Rattle.fj_coeff.specs.PrimeField.{prime_field}
use Rattle.fj_theory.specs.Polynomial.{Polynomial, IsPolynomial, sum, product, power, term}
use Rattle.fj_theory.specs.Ideal.{ArePolynomials, Member, SameIdeal, multiples}
use Rattle.fj_theory.specs.FrobeniusPower.{frobenius_power}
use Rattle.fj_theory.specs.Fraction.{IsInUnitInterval, ceil_times}
use Rattle.fj_theory.specs.Digits.{ceiling_less_one, digit, digits, IsExpansion}
use Rattle.fj_theory.specs.Exponents.{origin}
use Rattle.fj_theory.specs.Evaluation.{IsPoint, IsZeroOf, monomial_value, value as polynomial_value}
use Rattle.fj_theory.specs.MonomialOrder.{lex_key}
use Rattle.fj_theory.specs.Root.{IsRoot}
use Rattle.fj_theory.proofs.PolynomialRing.{sum_empty, power_suc, product_one, product_comm, IsPolynomial-power}
use Rattle.fj_theory.proofs.IdealBridge.{ArePolynomials-cons, ArePolynomials-single, IsPolynomial-one}
use Rattle.fj_theory.proofs.Ideal.{SameIdeal-refl, Member-product, Member-all, Member-Contains, Inside-cons, Inside-single, Inside-head, Inside-Contains}
use Rattle.fj_theory.proofs.Evaluation.{value-term, value-one, Member-IsZeroOf}
use Rattle.fj_theory.proofs.FrobeniusPower.{ArePolynomials-frobenius_power}
use Rattle.fj_theory.proofs.Product.{IsPolynomial-product}
use Rattle.fj_theory.proofs.Root.{IsRoot-SameIdeal_root}
use Rattle.fj_theory.proofs.RootParts.{IsRoot-frobenius_power, IsRoot-one}
use Rattle.fj_testideal.specs.Chain.{IsStep, IsLimit, chain_at}
use Rattle.fj_testideal.specs.Examples.{xy, cusp, four_fifths, IsCuspOverFive}
use Rattle.fj_testideal.proofs.TestIdeal.{IsLeftLimit-unique}
use Rattle.fj_testideal.proofs.Jump.{jump_from_difference}
use Rattle.fj_testideal.proofs.ChainLimit.{test_ideal-from_digits, left_limit-from_digits}
use Rattle.fj_testideal.proofs.NumberOfPeriods.{tells_number}
use Rattle.fj_testideal.proofs.TermSum.{L, at, Item, item, value, IsExponents-at, IsPolynomial-item, IsPolynomial-value, multiply, raise, value-multiply, value-single, value-raise, item_product, ItemPart, part_of, root_of_value}

-- The terms of the cusp.
abbrev terms : List Item
terms = (2, 0, 1) ∷ (0, 3, 1) ∷ []

cusp_value : cusp ≡ value terms
unfolding value
cusp_value = ap (sum (prime_field 5) (xy 2 0)) (sym (sum_empty L (IsPolynomial-item (0, 3, 1))))

power_value : (k : ℕ) → power (prime_field 5) cusp k ≡ value (raise terms k)
power_value k = ap (λ f. power (prime_field 5) f k) cusp_value ∙ sym (value-raise terms k)

A : IsPolynomial (prime_field 5) cusp
A = subst (IsPolynomial (prime_field 5)) (sym cusp_value) (IsPolynomial-value terms)

power_is : (k : ℕ) → IsPolynomial (prime_field 5) (power (prime_field 5) cusp k)
power_is k = IsPolynomial-power L A k

-- The ideals (y, x) and (1).
abbrev yx : List Polynomial
yx = xy 0 1 ∷ xy 1 0 ∷ []

abbrev unit : List Polynomial
unit = xy 0 0 ∷ []

yx_polynomials : ArePolynomials (prime_field 5) yx
yx_polynomials = ArePolynomials-cons (IsPolynomial-item (0, 1, 1)) (ArePolynomials-single (IsPolynomial-item (1, 0, 1)))

unit_polynomials : ArePolynomials (prime_field 5) unit
unit_polynomials = ArePolynomials-single (IsPolynomial-item (0, 0, 1))

-- The parts of f^4, of f^4 y and of f^3 y.
abbrev fourth_parts : List ItemPart
fourth_parts =
    record { r = 0; s = 2; term = (0, 2, 1); r_below = lit< tt; s_below = lit< tt; nonzero = lit< tt }
    ∷ record { r = 1; s = 3; term = (1, 0, 4); r_below = lit< tt; s_below = lit< tt; nonzero = lit< tt }
    ∷ record { r = 2; s = 4; term = (0, 1, 4); r_below = lit< tt; s_below = lit< tt; nonzero = lit< tt }
    ∷ record { r = 3; s = 0; term = (1, 0, 1); r_below = lit< tt; s_below = lit< tt; nonzero = lit< tt }
    ∷ record { r = 4; s = 1; term = (0, 1, 1); r_below = lit< tt; s_below = lit< tt; nonzero = lit< tt } ∷ []

abbrev fourth_y_parts : List ItemPart
fourth_y_parts =
    record { r = 0; s = 3; term = (0, 2, 1); r_below = lit< tt; s_below = lit< tt; nonzero = lit< tt }
    ∷ record { r = 1; s = 4; term = (1, 0, 4); r_below = lit< tt; s_below = lit< tt; nonzero = lit< tt }
    ∷ record { r = 2; s = 0; term = (0, 2, 4); r_below = lit< tt; s_below = lit< tt; nonzero = lit< tt }
    ∷ record { r = 3; s = 1; term = (1, 0, 1); r_below = lit< tt; s_below = lit< tt; nonzero = lit< tt }
    ∷ record { r = 4; s = 2; term = (0, 1, 1); r_below = lit< tt; s_below = lit< tt; nonzero = lit< tt } ∷ []

abbrev third_y_parts : List ItemPart
third_y_parts =
    record { r = 0; s = 0; term = (0, 2, 1); r_below = lit< tt; s_below = lit< tt; nonzero = lit< tt }
    ∷ record { r = 1; s = 1; term = (1, 0, 1); r_below = lit< tt; s_below = lit< tt; nonzero = lit< tt }
    ∷ record { r = 2; s = 2; term = (0, 1, 3); r_below = lit< tt; s_below = lit< tt; nonzero = lit< tt }
    ∷ record { r = 4; s = 4; term = (0, 0, 3); r_below = lit< tt; s_below = lit< tt; nonzero = lit< tt } ∷ []

abbrev polynomials : List ItemPart → List Polynomial
polynomials ps = map (λ part. part.polynomial) (map part_of ps)

root_fourth_parts : IsRoot (prime_field 5) (5 ^ 1) (power (prime_field 5) cusp 4 ∷ []) (polynomials fourth_parts)
unfolding lex_key
root_fourth_parts =
    subst (λ g. IsRoot (prime_field 5) (5 ^ 1) (g ∷ []) (polynomials fourth_parts)) (sym (power_value 4)) (root_of_value (raise terms 4) fourth_parts (refl, (refl, (refl, (refl, tt)))) refl)

times_y : (k : ℕ) → product (prime_field 5) (power (prime_field 5) cusp k) (xy 0 1) ≡ value (multiply (raise terms k) ((0, 1, 1) ∷ []))
times_y k = ap₂ (product (prime_field 5)) (power_value k) (sym (value-single (0, 1, 1))) ∙ sym (value-multiply (raise terms k) ((0, 1, 1) ∷ []))

root_fourth_y : IsRoot (prime_field 5) (5 ^ 1) (product (prime_field 5) (power (prime_field 5) cusp 4) (xy 0 1) ∷ []) (polynomials fourth_y_parts)
unfolding lex_key
root_fourth_y =
    subst (λ g. IsRoot (prime_field 5) (5 ^ 1) (g ∷ []) (polynomials fourth_y_parts)) (sym (times_y 4)) (root_of_value (multiply (raise terms 4) ((0, 1, 1) ∷ [])) fourth_y_parts (refl, (refl, (refl, (refl, tt)))) refl)

root_third_y : IsRoot (prime_field 5) (5 ^ 1) (product (prime_field 5) (power (prime_field 5) cusp 3) (xy 0 1) ∷ []) (polynomials third_y_parts)
unfolding lex_key
root_third_y =
    subst (λ g. IsRoot (prime_field 5) (5 ^ 1) (g ∷ []) (polynomials third_y_parts)) (sym (times_y 3)) (root_of_value (multiply (raise terms 3) ((0, 1, 1) ∷ [])) third_y_parts (refl, (refl, (refl, tt))) refl)

-- A multiple of a member by a term.
item_member : {M : List Polynomial} → ArePolynomials (prime_field 5) M → (t u : Item) → Member (prime_field 5) M (item u) → Member (prime_field 5) M (item (t.0 + u.0, t.1 + u.1, t.2 * u.2))
item_member {M} P t u H = subst (Member (prime_field 5) M) (item_product t u) (Member-product L P (IsPolynomial-item t) H)

-- The root of f^4 at 1 is (y, x).
root_fourth : IsRoot (prime_field 5) (5 ^ 1) (power (prime_field 5) cusp 4 ∷ []) yx
root_fourth =
    let P = yx_polynomials in
    let Q = root_fourth_parts.polynomials in
    let y = Member-Contains L P {g = xy 0 1} (0, lit< tt, refl) in
    let x = Member-Contains L P {g = xy 1 0} (1, lit< tt, refl) in
    IsRoot-SameIdeal_root L 1 (ArePolynomials-single (power_is 4)) root_fourth_parts P (record {
      forth = Inside-cons (item_member P (0, 1, 1) (0, 1, 1) y)
          (Inside-cons (item_member P (0, 0, 4) (1, 0, 1) x) (Inside-cons (item_member P (0, 0, 4) (0, 1, 1) y) (Inside-cons x (Inside-single y))));
      back = Inside-cons (Member-Contains L Q {g = xy 0 1} (4, lit< tt, refl)) (Inside-single (Member-Contains L Q {g = xy 1 0} (3, lit< tt, refl)));
    })

times_one : (k : ℕ) → multiples (prime_field 5) (power (prime_field 5) cusp k) unit ≡ power (prime_field 5) cusp k ∷ []
unfolding origin
times_one k = ap (λ g. g ∷ []) (product_one L (power_is k))

times_self : (k : ℕ) → multiples (prime_field 5) (power (prime_field 5) cusp k) (cusp ∷ []) ≡ power (prime_field 5) cusp (suc k) ∷ []
times_self k = ap (λ g. g ∷ []) (product_comm L (power_is k) A ∙ sym (power_suc L A k))

-- The steps of the chains.
step_from_f : IsStep (prime_field 5) cusp 4 (cusp ∷ []) (cusp ∷ [])
step_from_f = subst (λ M. IsRoot (prime_field 5) (5 ^ 1) M (cusp ∷ [])) (sym (times_self 4)) (IsRoot-frobenius_power L 1 (ArePolynomials-single A))

last_from_f : IsStep (prime_field 5) cusp 3 (cusp ∷ []) yx
last_from_f = subst (λ M. IsRoot (prime_field 5) (5 ^ 1) M yx) (sym (times_self 3)) root_fourth

first_from_one : IsStep (prime_field 5) cusp 4 unit yx
first_from_one = subst (λ M. IsRoot (prime_field 5) (5 ^ 1) M yx) (sym (times_one 4)) root_fourth

step_from_yx : IsStep (prime_field 5) cusp 4 yx yx
step_from_yx =
    let P = yx_polynomials in
    let Q = ArePolynomials-frobenius_power L P (5 ^ 1) in
    let fourth = Inside-head root_fourth.inside in
    let multiple : (t : Item) → Member (prime_field 5) (frobenius_power (prime_field 5) (5 ^ 1) yx) (product (prime_field 5) (power (prime_field 5) cusp 4) (item t)) = λ t.
    subst (Member (prime_field 5) (frobenius_power (prime_field 5) (5 ^ 1) yx)) (product_comm L (IsPolynomial-item t) (power_is 4)) (Member-product L Q (IsPolynomial-item t) fourth) in
    record {
      polynomials = P;
      inside = Inside-cons (multiple (0, 1, 1)) (Inside-single (multiple (1, 0, 1)));
      least = λ N R I.
          let parts = root_fourth_y.least N R (Inside-single (Inside-head I)) in
          Inside-cons (Inside-Contains {g = xy 0 1} parts (4, lit< tt, refl)) (Inside-single (Inside-Contains {g = xy 1 0} parts (3, lit< tt, refl)));
    }

last_from_yx : IsStep (prime_field 5) cusp 3 yx unit
unfolding origin
last_from_yx =
    let P = unit_polynomials in
    let Q = ArePolynomials-frobenius_power L P (5 ^ 1) in
    let one = Inside-head (IsRoot-one L 1).inside in
    let multiple : (t : Item) → Member (prime_field 5) (frobenius_power (prime_field 5) (5 ^ 1) unit) (product (prime_field 5) (power (prime_field 5) cusp 3) (item t)) =
    λ t. Member-all L Q one (IsPolynomial-product L (power_is 3) (IsPolynomial-item t)) in
    record {
      polynomials = P;
      inside = Inside-cons (multiple (0, 1, 1)) (Inside-single (multiple (1, 0, 1)));
      least = λ N R I.
          let parts = root_third_y.least N R (Inside-single (Inside-head I)) in
          Inside-single (item_member R (0, 0, 2) (0, 0, 3) (Inside-Contains {g = item (0, 0, 3)} parts (3, lit< tt, refl)));
    }

-- 1 isn't in (y, x).
one_outside : Member (prime_field 5) yx (xy 0 0) → ⊥
unfolding origin monomial_value field.power
one_outside H =
    let point : IsPoint (prime_field 5) [] = record { short = omega arith; below = All-nil (λ k. k < 5) } in
    let zero_at : (i j : ℕ) → monomial_value (prime_field 5) (at i j) [] ≡ 0 → polynomial_value (prime_field 5) (xy i j) [] ≡ 0 = λ i j e.
    value-term L point 1 (lit< tt) (IsExponents-at i j) ∙ ap (λ c. 1 * c % 5) e in
    let zeros : IsZeroOf (prime_field 5) yx [] = record { each = All-from_recursion (λ g. polynomial_value (prime_field 5) g [] ≡ 0) yx (zero_at 0 1 refl, (zero_at 1 0 refl, tt)) } in
    let e = sym (value-one L point) ∙ Member-IsZeroOf L point yx_polynomials zeros H in
    absurd (omega arith)

-- The digits of 4/5.
expansion : IsExpansion 5 four_fifths (record { prime = 5; pre = 3 ∷ []; period = 4 ∷ [] })
unfolding digits digit ceiling_less_one ceil_times
expansion = record {
  prime = refl;
  lowest = IsGcd-from_mod 4 5 1 (IsGcd-from_mod 5 4 1 (IsGcd-from_mod 4 1 1 (IsGcd-from_zero 1 0 refl)));
  lengths = record {
    rest = 1;
    split = refl;
    prime_to = IsGcd-from_mod 5 1 1 (IsGcd-from_zero 1 0 refl);
    order = record { positive = lit< tt; one = refl; least = λ k some e. some };
  };
  pre = refl;
  period = refl;
}

strict : (i : ℕ) → i < 1 → SameIdeal (prime_field 5) (chain_at unit (yx ∷ []) i) (chain_at unit (yx ∷ []) (suc i)) → ⊥
strict zero h E = one_outside (Inside-head E.forth)
strict (suc i) h E = absurd (omega arith)

-- The test ideal and the left limit at 4/5.
pub cusp_over_five : IsCuspOverFive
unfolding term origin
cusp_over_five =
    let interval : IsInUnitInterval four_fifths = record { above_zero = lit< tt; at_most_one = lit< tt } in
    let own = SameIdeal-refl L (ArePolynomials-single A) in
    let whole = SameIdeal-refl L (ArePolynomials-single (IsPolynomial-one L)) in
    let middle = SameIdeal-refl L yx_polynomials in
    let limit_from_f : IsLimit (prime_field 5) cusp (4 ∷ []) (cusp ∷ []) (cusp ∷ []) =
    record { lists = []; chain = own; next = cusp ∷ []; follows = (cusp ∷ [], own, step_from_f); repeats = SameIdeal-refl L (ArePolynomials-single A) } in
    let limit_from_one : IsLimit (prime_field 5) cusp (4 ∷ []) unit yx =
    record { lists = yx ∷ []; chain = ((unit, whole, first_from_one), middle); next = yx; follows = (yx, middle, step_from_yx); repeats = SameIdeal-refl L yx_polynomials } in
    let test_ideal = test_ideal-from_digits L A four_fifths interval _ expansion limit_from_f (cusp ∷ [], own, last_from_f) in
    let left_limit = left_limit-from_digits L A four_fifths interval _ expansion limit_from_one (yx, middle, last_from_yx) in
    record {
      expansion = expansion;
      limit_from_f = limit_from_f;
      digits_from_f = (cusp ∷ [], own, last_from_f);
      limit_from_one = limit_from_one;
      number_from_one = (tells_number L A (4 ∷ []) (yx ∷ []) yx yx).from_one limit_from_one.chain limit_from_one.follows middle (λ found. strict found.0 found.1 found.2);
      digits_from_one = (yx, middle, last_from_yx);
      test_ideal = test_ideal;
      left_limit = left_limit;
      is_jump = jump_from_difference L A four_fifths interval.above_zero left_limit test_ideal (λ E. one_outside (Inside-head E.forth));
      apart = λ other. one_outside (Inside-head (IsLeftLimit-unique left_limit other).forth);
    }
