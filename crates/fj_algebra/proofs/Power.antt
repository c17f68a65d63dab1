-- Laws of powers and of natural multiples.
use Rattle.std.proofs.Common.{◌≡◌, ℕ, zero, suc, ◌+◌, ◌*◌, refl, sym, ap, ◌∙◌, arith, zero-add, suc-add, mul-zero, zero-mul}
use Rattle.fj_algebra.specs.Ring.{CommutativeRing, RingMap}
use Rattle.fj_algebra.specs.Power.{power, multiple}
use Rattle.fj_algebra.proofs.Ring.{one_mul, mul_one, mul_assoc, product_laws, zero_mul, zero_add, add_zero, add_assoc, add_mul, sum_laws}

times_more : (m n : ℕ) → m + m * n ≡ m * suc n
times_more m n = omega arith

more_times : (m n : ℕ) → n + m * n ≡ suc m * n
more_times m n = omega arith

module _ {A : Type 0} (R : CommutativeRing A) where
  open R use {zero as 𝟘, one as 𝟙, add as ◌⊕◌, neg as ⊖◌, mul as ◌⊗◌}

  infixl 60 ◌⊕◌
  infixl 70 ◌⊗◌
  infix 80 ⊖◌
  pub power-zero : (x : A) → power R x 0 ≡ 𝟙
  unfolding power
  power-zero x = refl

  pub power-suc : (x : A) (n : ℕ) → power R x (suc n) ≡ x ⊗ power R x n
  unfolding power
  power-suc x n = refl

  pub power-1 : (x : A) → power R x 1 ≡ x
  unfolding power
  power-1 x = mul_one R x

  pub power-add : (x : A) (m n : ℕ) → power R x (m + n) ≡ power R x m ⊗ power R x n
  unfolding power
  power-add x zero n = ap (power R x) (zero-add n) ∙ sym (one_mul R (power R x n))
  power-add x (suc m) n = ap (power R x) (suc-add m n) ∙ ap (◌⊗◌ x) (power-add x m n) ∙ sym (mul_assoc R x (power R x m) (power R x n))

  regroup_mul : (x y a b : A) → (x ⊗ y) ⊗ (a ⊗ b) ≡ (x ⊗ a) ⊗ (y ⊗ b)
  regroup_mul x y a b = simp product_laws

  pub power-mul : (x y : A) (n : ℕ) → power R (x ⊗ y) n ≡ power R x n ⊗ power R y n
  unfolding power
  power-mul x y zero = sym (one_mul R 𝟙)
  power-mul x y (suc n) = ap (◌⊗◌ (x ⊗ y)) (power-mul x y n) ∙ regroup_mul x y (power R x n) (power R y n)

  pub power-power : (x : A) (m n : ℕ) → power R (power R x m) n ≡ power R x (m * n)
  unfolding power
  power-power x m zero = ap (power R x) (sym (mul-zero m))
  power-power x m (suc n) = ap (◌⊗◌ (power R x m)) (power-power x m n) ∙ sym (power-add x m (m * n)) ∙ ap (power R x) (times_more m n)

  pub power-one : (n : ℕ) → power R 𝟙 n ≡ 𝟙
  unfolding power
  power-one zero = refl
  power-one (suc n) = one_mul R (power R 𝟙 n) ∙ power-one n

  -- A positive power of zero is zero.
  pub power_of_zero : (n : ℕ) → power R 𝟘 (suc n) ≡ 𝟘
  unfolding power
  power_of_zero n = zero_mul R (power R 𝟘 n)

  pub multiple-zero : (x : A) → multiple R 0 x ≡ 𝟘
  unfolding multiple
  multiple-zero x = refl

  pub multiple-suc : (n : ℕ) (x : A) → multiple R (suc n) x ≡ x ⊕ multiple R n x
  unfolding multiple
  multiple-suc n x = refl

  pub multiple-1 : (x : A) → multiple R 1 x ≡ x
  unfolding multiple
  multiple-1 x = add_zero R x

  pub multiple-add : (m n : ℕ) (x : A) → multiple R (m + n) x ≡ multiple R m x ⊕ multiple R n x
  unfolding multiple
  multiple-add zero n x = ap (λ k. multiple R k x) (zero-add n) ∙ sym (zero_add R (multiple R n x))
  multiple-add (suc m) n x = ap (λ k. multiple R k x) (suc-add m n) ∙ ap (◌⊕◌ x) (multiple-add m n x) ∙ sym (add_assoc R x (multiple R m x) (multiple R n x))

  regroup_add : (x y a b : A) → (x ⊕ y) ⊕ (a ⊕ b) ≡ (x ⊕ a) ⊕ (y ⊕ b)
  regroup_add x y a b = simp sum_laws

  pub multiple_of_sum : (n : ℕ) (x y : A) → multiple R n (x ⊕ y) ≡ multiple R n x ⊕ multiple R n y
  unfolding multiple
  multiple_of_sum zero x y = sym (zero_add R 𝟘)
  multiple_of_sum (suc n) x y = ap (◌⊕◌ (x ⊕ y)) (multiple_of_sum n x y) ∙ regroup_add x y (multiple R n x) (multiple R n y)

  pub multiple_of_zero : (n : ℕ) → multiple R n 𝟘 ≡ 𝟘
  unfolding multiple
  multiple_of_zero zero = refl
  multiple_of_zero (suc n) = zero_add R (multiple R n 𝟘) ∙ multiple_of_zero n

  pub multiple-multiple : (m n : ℕ) (x : A) → multiple R m (multiple R n x) ≡ multiple R (m * n) x
  unfolding multiple
  multiple-multiple zero n x = ap (λ k. multiple R k x) (sym (zero-mul n))
  multiple-multiple (suc m) n x = ap (◌⊕◌ (multiple R n x)) (multiple-multiple m n x) ∙ sym (multiple-add n (m * n) x) ∙ ap (λ k. multiple R k x) (more_times m n)

  pub multiple-mul : (n : ℕ) (x y : A) → multiple R n (x ⊗ y) ≡ multiple R n x ⊗ y
  unfolding multiple
  multiple-mul zero x y = sym (zero_mul R y)
  multiple-mul (suc n) x y = ap (◌⊕◌ (x ⊗ y)) (multiple-mul n x y) ∙ sym (add_mul R x (multiple R n x) y)

  -- n times x is the product of n times one and x.
  pub multiple_by_one : (n : ℕ) (x : A) → multiple R n x ≡ multiple R n 𝟙 ⊗ x
  multiple_by_one n x = ap (multiple R n) (sym (one_mul R x)) ∙ multiple-mul n 𝟙 x

module _ {A B : Type 0} {R : CommutativeRing A} {S : CommutativeRing B} {f : A → B} (F : RingMap R S f) where
  pub power-RingMap : (x : A) (n : ℕ) → f (power R x n) ≡ power S (f x) n
  unfolding power
  power-RingMap x zero = F.keeps_one
  power-RingMap x (suc n) = F.keeps_mul x (power R x n) ∙ ap (S.mul (f x)) (power-RingMap x n)

  pub multiple-RingMap : (n : ℕ) (x : A) → f (multiple R n x) ≡ multiple S n (f x)
  unfolding multiple
  multiple-RingMap zero x = F.keeps_zero
  multiple-RingMap (suc n) x = F.keeps_add x (multiple R n x) ∙ ap (S.add (f x)) (multiple-RingMap n x)
