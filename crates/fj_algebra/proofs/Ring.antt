-- Laws of commutative rings, and sets of them for `simp`.
use Rattle.std.proofs.Common.{◌≡◌, refl, sym, ap, ◌∙◌, subst}
use Rattle.fj_algebra.specs.Ring.{CommutativeRing, RingMap, subtract}

module _ {A : Type 0} (R : CommutativeRing A) where
  open R use {zero as 𝟘, one as 𝟙, add as ◌⊕◌, neg as ⊖◌, mul as ◌⊗◌}

  infixl 60 ◌⊕◌
  infixl 70 ◌⊗◌
  infix 80 ⊖◌
  pub add_assoc : (x y z : A) → x ⊕ y ⊕ z ≡ x ⊕ (y ⊕ z)
  add_assoc = R.add_assoc

  pub add_comm : (x y : A) → x ⊕ y ≡ y ⊕ x
  add_comm = R.add_comm

  pub add_left_comm : (x y z : A) → x ⊕ (y ⊕ z) ≡ y ⊕ (x ⊕ z)
  add_left_comm x y z = sym (add_assoc x y z) ∙ ap (λ a. a ⊕ z) (add_comm x y) ∙ add_assoc y x z

  pub add_zero : (x : A) → x ⊕ 𝟘 ≡ x
  add_zero = R.add_zero

  pub zero_add : (x : A) → 𝟘 ⊕ x ≡ x
  zero_add x = add_comm 𝟘 x ∙ add_zero x

  pub add_neg : (x : A) → x ⊕ ⊖ x ≡ 𝟘
  add_neg = R.add_neg

  pub neg_add : (x : A) → ⊖ x ⊕ x ≡ 𝟘
  neg_add x = add_comm (⊖ x) x ∙ add_neg x

  -- Cancellation in a sum that is bracketed to the right, with none to three terms between.
  pub add_neg_0 : (x z : A) → x ⊕ (⊖ x ⊕ z) ≡ z
  add_neg_0 x z = sym (add_assoc x (⊖ x) z) ∙ ap (λ a. a ⊕ z) (add_neg x) ∙ zero_add z

  pub neg_add_0 : (x z : A) → ⊖ x ⊕ (x ⊕ z) ≡ z
  neg_add_0 x z = sym (add_assoc (⊖ x) x z) ∙ ap (λ a. a ⊕ z) (neg_add x) ∙ zero_add z

  pub add_neg_1 : (x a z : A) → x ⊕ (a ⊕ (⊖ x ⊕ z)) ≡ a ⊕ z
  add_neg_1 x a z = add_left_comm x a (⊖ x ⊕ z) ∙ ap (◌⊕◌ a) (add_neg_0 x z)

  pub neg_add_1 : (x a z : A) → ⊖ x ⊕ (a ⊕ (x ⊕ z)) ≡ a ⊕ z
  neg_add_1 x a z = add_left_comm (⊖ x) a (x ⊕ z) ∙ ap (◌⊕◌ a) (neg_add_0 x z)

  pub add_neg_2 : (x a b z : A) → x ⊕ (a ⊕ (b ⊕ (⊖ x ⊕ z))) ≡ a ⊕ (b ⊕ z)
  add_neg_2 x a b z = add_left_comm x a (b ⊕ (⊖ x ⊕ z)) ∙ ap (◌⊕◌ a) (add_neg_1 x b z)

  pub neg_add_2 : (x a b z : A) → ⊖ x ⊕ (a ⊕ (b ⊕ (x ⊕ z))) ≡ a ⊕ (b ⊕ z)
  neg_add_2 x a b z = add_left_comm (⊖ x) a (b ⊕ (x ⊕ z)) ∙ ap (◌⊕◌ a) (neg_add_1 x b z)

  pub add_neg_3 : (x a b c z : A) → x ⊕ (a ⊕ (b ⊕ (c ⊕ (⊖ x ⊕ z)))) ≡ a ⊕ (b ⊕ (c ⊕ z))
  add_neg_3 x a b c z = add_left_comm x a (b ⊕ (c ⊕ (⊖ x ⊕ z))) ∙ ap (◌⊕◌ a) (add_neg_2 x b c z)

  pub neg_add_3 : (x a b c z : A) → ⊖ x ⊕ (a ⊕ (b ⊕ (c ⊕ (x ⊕ z)))) ≡ a ⊕ (b ⊕ (c ⊕ z))
  neg_add_3 x a b c z = add_left_comm (⊖ x) a (b ⊕ (c ⊕ (x ⊕ z))) ∙ ap (◌⊕◌ a) (neg_add_2 x b c z)

  -- The same at the end of the sum.
  pub add_neg_1_end : (x a : A) → x ⊕ (a ⊕ ⊖ x) ≡ a
  add_neg_1_end x a = add_left_comm x a (⊖ x) ∙ ap (◌⊕◌ a) (add_neg x) ∙ add_zero a

  pub neg_add_1_end : (x a : A) → ⊖ x ⊕ (a ⊕ x) ≡ a
  neg_add_1_end x a = add_left_comm (⊖ x) a x ∙ ap (◌⊕◌ a) (neg_add x) ∙ add_zero a

  pub add_neg_2_end : (x a b : A) → x ⊕ (a ⊕ (b ⊕ ⊖ x)) ≡ a ⊕ b
  add_neg_2_end x a b = add_left_comm x a (b ⊕ ⊖ x) ∙ ap (◌⊕◌ a) (add_neg_1_end x b)

  pub neg_add_2_end : (x a b : A) → ⊖ x ⊕ (a ⊕ (b ⊕ x)) ≡ a ⊕ b
  neg_add_2_end x a b = add_left_comm (⊖ x) a (b ⊕ x) ∙ ap (◌⊕◌ a) (neg_add_1_end x b)

  pub add_neg_3_end : (x a b c : A) → x ⊕ (a ⊕ (b ⊕ (c ⊕ ⊖ x))) ≡ a ⊕ (b ⊕ c)
  add_neg_3_end x a b c = add_left_comm x a (b ⊕ (c ⊕ ⊖ x)) ∙ ap (◌⊕◌ a) (add_neg_2_end x b c)

  pub neg_add_3_end : (x a b c : A) → ⊖ x ⊕ (a ⊕ (b ⊕ (c ⊕ x))) ≡ a ⊕ (b ⊕ c)
  neg_add_3_end x a b c = add_left_comm (⊖ x) a (b ⊕ (c ⊕ x)) ∙ ap (◌⊕◌ a) (neg_add_2_end x b c)

  pub add_cancel_left : (x y z : A) → x ⊕ y ≡ x ⊕ z → y ≡ z
  add_cancel_left x y z e = sym (neg_add_0 x y) ∙ ap (◌⊕◌ (⊖ x)) e ∙ neg_add_0 x z

  pub add_cancel_right : (x y z : A) → y ⊕ x ≡ z ⊕ x → y ≡ z
  add_cancel_right x y z e = add_cancel_left x y z (add_comm x y ∙ e ∙ add_comm z x)

  -- The negative is the only solution.
  pub neg_unique : (x y : A) → x ⊕ y ≡ 𝟘 → y ≡ ⊖ x
  neg_unique x y e = add_cancel_left x y (⊖ x) (e ∙ sym (add_neg x))

  pub neg_neg : (x : A) → ⊖ (⊖ x) ≡ x
  neg_neg x = sym (neg_unique (⊖ x) x (neg_add x))

  pub neg_zero : ⊖ 𝟘 ≡ 𝟘
  neg_zero = sym (zero_add (⊖ 𝟘)) ∙ add_neg 𝟘

  pub neg_sum : (x y : A) → ⊖ (x ⊕ y) ≡ ⊖ x ⊕ ⊖ y
  neg_sum x y = sym (neg_unique (x ⊕ y) (⊖ x ⊕ ⊖ y) (add_assoc x y (⊖ x ⊕ ⊖ y) ∙ ap (◌⊕◌ x) (add_neg_1_end y (⊖ x)) ∙ add_neg x))

  pub subtract_self : (x : A) → subtract R x x ≡ 𝟘
  subtract_self = add_neg

  pub equal_from_subtract : (x y : A) → subtract R x y ≡ 𝟘 → x ≡ y
  equal_from_subtract x y e = sym (add_neg_1_end y x ∙ refl) ∙ ap (◌⊕◌ y) e ∙ add_zero y

  pub mul_assoc : (x y z : A) → x ⊗ y ⊗ z ≡ x ⊗ (y ⊗ z)
  mul_assoc = R.mul_assoc

  pub mul_comm : (x y : A) → x ⊗ y ≡ y ⊗ x
  mul_comm = R.mul_comm

  pub mul_left_comm : (x y z : A) → x ⊗ (y ⊗ z) ≡ y ⊗ (x ⊗ z)
  mul_left_comm x y z = sym (mul_assoc x y z) ∙ ap (λ a. a ⊗ z) (mul_comm x y) ∙ mul_assoc y x z

  pub mul_one : (x : A) → x ⊗ 𝟙 ≡ x
  mul_one = R.mul_one

  pub one_mul : (x : A) → 𝟙 ⊗ x ≡ x
  one_mul x = mul_comm 𝟙 x ∙ mul_one x

  pub mul_add : (x y z : A) → x ⊗ (y ⊕ z) ≡ x ⊗ y ⊕ x ⊗ z
  mul_add = R.mul_add

  pub add_mul : (x y z : A) → (x ⊕ y) ⊗ z ≡ x ⊗ z ⊕ y ⊗ z
  add_mul x y z = simp (mul_comm, mul_add)

  pub mul_zero : (x : A) → x ⊗ 𝟘 ≡ 𝟘
  mul_zero x = add_cancel_left (x ⊗ 𝟘) (x ⊗ 𝟘) 𝟘 (sym (mul_add x 𝟘 𝟘) ∙ ap (◌⊗◌ x) (add_zero 𝟘) ∙ sym (add_zero (x ⊗ 𝟘)))

  pub zero_mul : (x : A) → 𝟘 ⊗ x ≡ 𝟘
  zero_mul x = mul_comm 𝟘 x ∙ mul_zero x

  pub mul_neg : (x y : A) → x ⊗ ⊖ y ≡ ⊖ (x ⊗ y)
  mul_neg x y = neg_unique (x ⊗ y) (x ⊗ ⊖ y) (sym (mul_add x y (⊖ y)) ∙ ap (◌⊗◌ x) (add_neg y) ∙ mul_zero x)

  pub neg_mul : (x y : A) → ⊖ x ⊗ y ≡ ⊖ (x ⊗ y)
  neg_mul x y = mul_comm (⊖ x) y ∙ mul_neg y x ∙ ap (λ a. ⊖ a) (mul_comm y x)

-- Sums sorted and bracketed to the right, without zeros.
pub ruleset sum_laws = (add_zero, zero_add, add_assoc, add_comm, add_left_comm)

-- Products sorted and bracketed to the right, without ones and zeros.
pub ruleset product_laws = (mul_one, one_mul, mul_zero, zero_mul, mul_assoc, mul_comm, mul_left_comm)

-- Signs moved to the monomials.
pub ruleset sign_laws = (subtract, neg_zero, neg_neg, neg_sum, mul_neg, neg_mul)

-- A term and its negative left out, with up to three terms between.
pub ruleset cancel_laws =
    (add_neg, neg_add, add_neg_0, neg_add_0, add_neg_1, neg_add_1, add_neg_1_end, neg_add_1_end, add_neg_2, neg_add_2, add_neg_2_end, neg_add_2_end, add_neg_3, neg_add_3, add_neg_3_end, neg_add_3_end)

-- What proves an identity of commutative rings: both sides are multiplied out, sorted and cancelled.
pub ruleset ring_laws = (sign_laws, mul_add, add_mul, product_laws, cancel_laws, sum_laws)

-- What a ring map keeps besides.
module _ {A B : Type 0} {R : CommutativeRing A} {S : CommutativeRing B} {f : A → B} (F : RingMap R S f) where
  pub keeps_neg : (x : A) → f (R.neg x) ≡ S.neg (f x)
  keeps_neg x = neg_unique S (f x) (f (R.neg x)) (sym (F.keeps_add x (R.neg x)) ∙ ap f (R.add_neg x) ∙ F.keeps_zero)

  pub keeps_subtract : (x y : A) → f (subtract R x y) ≡ subtract S (f x) (f y)
  keeps_subtract x y = F.keeps_add x (R.neg y) ∙ ap (S.add (f x)) (keeps_neg y)

pub RingMap-identity : {A : Type 0} (R : CommutativeRing A) → RingMap R R (λ x. x)
RingMap-identity R = record { keeps_zero = refl; keeps_one = refl; keeps_add = λ x y. refl; keeps_mul = λ x y. refl }

pub RingMap-compose : {A B C : Type 0} {R : CommutativeRing A} {S : CommutativeRing B} {T : CommutativeRing C} {f : A → B} {g : B → C} → RingMap R S f → RingMap S T g → RingMap R T (λ x. g (f x))
RingMap-compose {f} {g} F G = record {
  keeps_zero = ap g F.keeps_zero ∙ G.keeps_zero;
  keeps_one = ap g F.keeps_one ∙ G.keeps_one;
  keeps_add = λ x y. ap g (F.keeps_add x y) ∙ G.keeps_add (f x) (f y);
  keeps_mul = λ x y. ap g (F.keeps_mul x y) ∙ G.keeps_mul (f x) (f y);
}

pub RingMap-same : {A B : Type 0} {R : CommutativeRing A} {S : CommutativeRing B} {f g : A → B} → ((x : A) → f x ≡ g x) → RingMap R S f → RingMap R S g
RingMap-same {R} {S} e F = subst (RingMap R S) (λ i x. e x i) F
