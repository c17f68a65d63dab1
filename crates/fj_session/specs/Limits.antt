-- What the questions on test ideals mean. f is the polynomial that they name, t their exponent.
use Rattle.std.specs.Prelude.{List}
use Rattle.fj_coeff.specs.Field.{Field}
use Rattle.fj_theory.specs.Exponents.{origin}
use Rattle.fj_theory.specs.Fraction.{Fraction}
use Rattle.fj_theory.specs.Ideal.{Member}
use Rattle.fj_theory.specs.Polynomial.{Polynomial, term}
use Rattle.fj_testideal.specs.Jump.{IsJump}
use Rattle.fj_testideal.specs.TestIdeal.{IsLeftLimit, IsTestIdeal}
use Rattle.fj_plain.specs.declared.order_name.OrderName.{OrderName}
use Rattle.fj_plain.specs.declared.order_name.OrderName.TheVariants.{Grevlex}
use Rattle.fj_ideal.specs.Lists.{RunFor}
use Rattle.fj_chain.specs.Lists.{IsHighInJump, IsHighInLeft, IsHighInTest, IsJumpList, IsLastLeftList, IsLastTestList, IsLeftList, IsTestList}
use Rattle.fj_session.specs.Meaning.{Meaning, meaning_of_ideal, meaning_of_verdict}

-- `test F t`
abbrev pub meaning_of_test : Field → OrderName → Polynomial → Fraction → Meaning
meaning_of_test F printing f t = meaning_of_ideal F printing (IsTestIdeal F f t) (IsLastTestList F f t) (RunFor Grevlex (IsTestList F f t)) (IsHighInTest F f t)

-- `left F t`
abbrev pub meaning_of_left : Field → OrderName → Polynomial → Fraction → Meaning
meaning_of_left F printing f t = meaning_of_ideal F printing (IsLeftLimit F f t) (IsLastLeftList F f t) (RunFor Grevlex (IsLeftList F f t)) (IsHighInLeft F f t)

-- `isjump F t`
abbrev pub meaning_of_is_jump : Field → Polynomial → Fraction → Meaning
meaning_of_is_jump F f t = meaning_of_verdict (IsJump F f t) (RunFor Grevlex (IsJumpList F f t)) (IsHighInJump F f t)

-- 1 is in the test ideal of f at t.
pub record IsRegularAt (F : Field) (f : Polynomial) (t : Fraction) : Type 0 where
  pub ideal : List Polynomial
  pub is_test_ideal : IsTestIdeal F f t ideal
  pub unit : Member F ideal (term 1 origin)

-- `regular F t`
abbrev pub meaning_of_regular : Field → Polynomial → Fraction → Meaning
meaning_of_regular F f t = meaning_of_verdict (IsRegularAt F f t) (RunFor Grevlex (IsTestList F f t)) (IsHighInTest F f t)
