-- Commutative rings with one, on a type of values.
use Rattle.std.specs.Prelude.{◌≡◌}

-- A commutative ring with one (Atiyah and Macdonald 1969, chapter 1). The ring with one element is allowed.
pub record CommutativeRing (A : Type 0) : Type 0 where
  pub zero : A
  pub one : A
  pub add : A → A → A
  pub neg : A → A
  pub mul : A → A → A
  pub add_assoc : (x y z : A) → add (add x y) z ≡ add x (add y z)
  pub add_comm : (x y : A) → add x y ≡ add y x
  pub add_zero : (x : A) → add x zero ≡ x
  pub add_neg : (x : A) → add x (neg x) ≡ zero
  pub mul_assoc : (x y z : A) → mul (mul x y) z ≡ mul x (mul y z)
  pub mul_comm : (x y : A) → mul x y ≡ mul y x
  pub mul_one : (x : A) → mul x one ≡ x
  pub mul_add : (x y z : A) → mul x (add y z) ≡ add (mul x y) (mul x z)

-- The difference x - y.
abbrev pub subtract : {A : Type 0} → CommutativeRing A → A → A → A
subtract R x y = R.add x (R.neg y)

-- A homomorphism of rings with one (Atiyah and Macdonald 1969, chapter 1).
pub record RingMap {A B : Type 0} (R : CommutativeRing A) (S : CommutativeRing B) (f : A → B) : Type 0 where
  pub keeps_zero : f R.zero ≡ S.zero
  pub keeps_one : f R.one ≡ S.one
  pub keeps_add : (x y : A) → f (R.add x y) ≡ S.add (f x) (f y)
  pub keeps_mul : (x y : A) → f (R.mul x y) ≡ S.mul (f x) (f y)
