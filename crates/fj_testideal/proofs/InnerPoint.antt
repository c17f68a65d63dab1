-- For f = x^5 in characteristic 2 the gap from 1/3 to 1/2 is open, though f has one test ideal at 1/3 and at 3/8.
use Rattle.std.proofs.Common.{[], ◌∷◌, refl, arith, lit<}
use Rattle.fj_coeff.specs.Field.{Field, IsField}
use Rattle.fj_theory.specs.Exponents.{IsExponents}
use Rattle.fj_theory.specs.Polynomial.{IsPolynomial}
use Rattle.fj_theory.specs.Ideal.{SameIdeal}
use Rattle.fj_theory.specs.Fraction.{ceil_times}
use Rattle.fj_theory.proofs.Field.{one_below}
use Rattle.fj_theory.proofs.Polynomial.{IsPolynomial-term}
use Rattle.fj_theory.proofs.Degree.{degree-term}
use Rattle.fj_theory.proofs.Ideal.{Inside-head}
use Rattle.fj_testideal.specs.TestIdeal.{IsTestIdeal, IsLeftLimit}
use Rattle.fj_testideal.specs.Examples.{x, third}
use Rattle.fj_testideal.specs.SearchExamples.{three_eighths, third_to_half, IsOpenPastInnerPoint}
use Rattle.fj_testideal.proofs.Degrees.{degree-Member}
use Rattle.fj_testideal.proofs.Jump.{equal_from_constant}
use Rattle.fj_testideal.proofs.MonomialRoot.{test_ideal-monomial, left_limit-monomial}

module _ {F : Field} (L : IsField F) where
  fifth : IsExponents (5 ∷ 0 ∷ 0 ∷ 0 ∷ 0 ∷ 0 ∷ 0 ∷ 0 ∷ [])
  fifth = record { eight = refl }

  first : IsPolynomial F (x 1)
  first = IsPolynomial-term 1 (one_below L) (record { eight = refl })

  second : IsPolynomial F (x 2)
  second = IsPolynomial-term 1 (one_below L) (record { eight = refl })

  -- (x) isn't (x^2).
  apart : SameIdeal F (x 1 ∷ []) (x 2 ∷ []) → ⊥
  apart E =
      let less = degree-Member L second (degree-term F 1 (omega arith) (one_below L) (record { eight = refl })) (degree-term F 1 (omega arith) (one_below L) (record { eight = refl })) (Inside-head E.forth) in
      omega (arith, less)

  pub inner_point_settles_no_gap : IsOpenPastInnerPoint F
  unfolding ceil_times
  inner_point_settles_no_gap =
      let at_lower : IsTestIdeal F (x 5) third (x 1 ∷ []) = test_ideal-monomial L fifth third in
      let left : IsLeftLimit F (x 5) third_to_half.upper (x 2 ∷ []) = left_limit-monomial L fifth third_to_half.upper (lit< tt) in
      record {
        at_lower = at_lower;
        at_inner = test_ideal-monomial L fifth three_eighths;
        inner = record { above = refl; below = refl };
        is_open = λ C. apart (equal_from_constant L (IsPolynomial-term 1 (one_below L) fifth) third third_to_half.upper refl at_lower left C);
      }
