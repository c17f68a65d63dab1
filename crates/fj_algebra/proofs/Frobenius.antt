-- The p-th power map: Pascal's triangle, the freshman's dream, and Frobenius powers of ideals.
use Rattle.std.proofs.Common.{◌≡◌, ℕ, zero, suc, ◌+◌, ◌*◌, ◌/◌, ◌%◌, ◌^◌, List, [], ◌∷◌, ◌++◌, map, length, All, refl, sym, ap, ap₂, ◌∙◌, subst, arith}
use Rattle.std.proofs.lemmas.List.{length-map, map-append}
use Rattle.std.proofs.Math.Nat.{pow-zero, pow-suc}
use Rattle.std.proofs.lemmas.List.Elements.{All-contains, All-from_recursion}
use Rattle.fj_algebra.specs.Ring.{CommutativeRing}
use Rattle.fj_algebra.specs.Power.{power, multiple}
use Rattle.fj_algebra.specs.Ideal.{Member, Inside, SameIdeal, multiples, products}
use Rattle.fj_algebra.specs.Frobenius.{HasCharacteristic, table_primes, IsTablePrime, IsFrobenius, frobenius_power}
use Rattle.fj_algebra.proofs.Ring.{RingMap-identity, RingMap-compose, RingMap-same, zero_add, add_zero, mul_zero, add_cancel_left, zero_mul, ring_laws}
use Rattle.fj_algebra.proofs.Ideal.{Member-RingMap, Inside-RingMap, SameIdeal-RingMap}
use Rattle.fj_algebra.proofs.Power.{power-zero, power-suc, power-1, power-mul, power-power, power-one, multiple-zero, multiple-1, multiple-add, multiple-multiple, multiple-mul, multiple_by_one}

-- The row of Pascal's triangle below `row`, where the entry above left of the first is a.
abbrev next_row : ℕ → List ℕ → List ℕ
next_row a [] = a ∷ []
next_row a (c ∷ row) = (a + c) ∷ next_row c row

-- The n-th row of Pascal's triangle.
abbrev pub pascal_row : ℕ → List ℕ
pascal_row zero = 1 ∷ []
pascal_row (suc n) = next_row 0 (pascal_row n)

length_next_row : (a : ℕ) (row : List ℕ) → length (next_row a row) ≡ suc (length row)
length_next_row a [] = refl
length_next_row a (c ∷ row) = ap suc (length_next_row c row)

-- k zeros and a one.
abbrev one_after : ℕ → List ℕ
one_after zero = 1 ∷ []
one_after (suc k) = 0 ∷ one_after k

-- The binary form with the coefficients c 0, .., c n: the sum of c i times f^(n-i) g^i.
abbrev pub binary_form : {A : Type 0} → CommutativeRing A → A → A → List ℕ → A
binary_form R f g [] = R.zero
binary_form R f g (c ∷ row) = R.add (multiple R c (power R f (length row))) (R.mul g (binary_form R f g row))

module _ {A : Type 0} (R : CommutativeRing A) where
  open R use {zero as 𝟘, one as 𝟙, add as ◌⊕◌, neg as ⊖◌, mul as ◌⊗◌}

  infixl 60 ◌⊕◌
  infixl 70 ◌⊗◌
  infix 80 ⊖◌
  row_step : (f g x y z s : A) → (x ⊕ f ⊗ y) ⊕ g ⊗ (y ⊕ (f ⊕ g) ⊗ s) ≡ x ⊕ (f ⊕ g) ⊗ (y ⊕ g ⊗ s)
  row_step f g x y z s = simp ring_laws

  multiple-mul_left : (n : ℕ) (x y : A) → multiple R n (x ⊗ y) ≡ x ⊗ multiple R n y
  multiple-mul_left n x y = ap (multiple R n) (R.mul_comm x y) ∙ multiple-mul R n y x ∙ R.mul_comm (multiple R n y) x

  binary_form-next_row : (f g : A) (a : ℕ) (row : List ℕ) → binary_form R f g (next_row a row) ≡ multiple R a (power R f (length row)) ⊕ (f ⊕ g) ⊗ binary_form R f g row
  binary_form-next_row f g a [] = ap (◌⊕◌ (multiple R a (power R f 0))) (mul_zero R g ∙ sym (mul_zero R (f ⊕ g)))
  binary_form-next_row f g a (c ∷ row) =
      let n : ℕ = length row in
      let x : A = multiple R a (power R f (suc n)) in
      let y : A = multiple R c (power R f n) in
      let front : multiple R (a + c) (power R f (length (next_row c row))) ≡ x ⊕ f ⊗ y =
      ap (λ k. multiple R (a + c) (power R f k)) (length_next_row c row) ∙ multiple-add R a c (power R f (suc n)) ∙ ap (◌⊕◌ x) (ap (multiple R c) (power-suc R f n) ∙ multiple-mul_left c f (power R f n)) in
      ap₂ ◌⊕◌ front (ap (◌⊗◌ g) (binary_form-next_row f g c row)) ∙ row_step f g x y x (binary_form R f g row)

  -- The binomial theorem.
  pub power_of_sum : (f g : A) (n : ℕ) → power R (f ⊕ g) n ≡ binary_form R f g (pascal_row n)
  power_of_sum f g zero = power-zero R (f ⊕ g) ∙ sym (ap₂ ◌⊕◌ (multiple-1 R (power R f 0) ∙ power-zero R f) (mul_zero R g) ∙ add_zero R 𝟙)
  power_of_sum f g (suc n) = power-suc R (f ⊕ g) n ∙ ap (◌⊗◌ (f ⊕ g)) (power_of_sum f g n) ∙ sym (binary_form-next_row f g 0 (pascal_row n) ∙ ap (λ a. a ⊕ (f ⊕ g) ⊗ binary_form R f g (pascal_row n)) (multiple-zero R (power R f (length (pascal_row n)))) ∙ zero_add R _)

  binary_form_last : (f g : A) (k : ℕ) → binary_form R f g (one_after k) ≡ power R g k
  binary_form_last f g zero = ap₂ ◌⊕◌ (multiple-1 R (power R f 0) ∙ power-zero R f) (mul_zero R g) ∙ add_zero R 𝟙 ∙ sym (power-zero R g)
  binary_form_last f g (suc k) = ap₂ ◌⊕◌ (multiple-zero R _) (ap (◌⊗◌ g) (binary_form_last f g k)) ∙ zero_add R _ ∙ sym (power-suc R g k)

  module _ (p : ℕ) (H : HasCharacteristic R p) where
    -- p times an element is zero.
    pub multiple_of_characteristic : (x : A) → multiple R p x ≡ 𝟘
    multiple_of_characteristic x = multiple_by_one R p x ∙ ap (λ a. a ⊗ x) H.vanishes ∙ zero_mul R x

    -- Multiples depend on the number modulo p alone.
    pub multiple_modulo : (n : ℕ) (x : A) → multiple R (n % p) x ≡ multiple R n x
    multiple_modulo n x =
        let split : n ≡ n % p + p * (n / p) = omega arith in
        sym (ap (λ k. multiple R k x) split ∙ multiple-add R (n % p) (p * (n / p)) x ∙ ap (◌⊕◌ (multiple R (n % p) x)) (sym (multiple-multiple R p (n / p) x) ∙ multiple_of_characteristic (multiple R (n / p) x)) ∙ add_zero R _)

    binary_form_modulo : (f g : A) (row : List ℕ) → binary_form R f g (map (λ c. c % p) row) ≡ binary_form R f g row
    binary_form_modulo f g [] = refl
    binary_form_modulo f g (c ∷ row) = ap₂ ◌⊕◌ (multiple_modulo c _ ∙ ap (λ k. multiple R c (power R f k)) (length-map row (λ c. c % p))) (ap (◌⊗◌ g) (binary_form_modulo f g row))

-- The p-th row of Pascal's triangle is 1, 0, .., 0, 1 modulo p.
unfoldable IsFrobeniusRow : ℕ → Type 0
IsFrobeniusRow p = (k : ℕ) × (p ≡ suc k) × (map (λ c. c % p) (pascal_row p) ≡ 1 ∷ one_after k)

frobenius_rows : All IsFrobeniusRow table_primes
unfolding IsFrobeniusRow
frobenius_rows = All-from_recursion IsFrobeniusRow table_primes ((1, refl, refl), ((2, refl, refl), ((4, refl, refl), ((6, refl, refl), ((10, refl, refl), ((12, refl, refl), ((16, refl, refl), ((18, refl, refl), ((22, refl, refl), ((28, refl, refl), ((30, refl, refl), tt)))))))))))

length_one_after : (k : ℕ) → length (one_after k) ≡ suc k
length_one_after zero = refl
length_one_after (suc k) = ap suc (length_one_after k)

pub IsFrobenius-1 : {A : Type 0} (R : CommutativeRing A) → IsFrobenius R 1
IsFrobenius-1 R = record { ring_map = RingMap-same (λ x. sym (power-1 R x)) (RingMap-identity R) }

pub IsFrobenius-mul : {A : Type 0} (R : CommutativeRing A) {q r : ℕ} → IsFrobenius R q → IsFrobenius R r → IsFrobenius R (q * r)
IsFrobenius-mul R {q} {r} F G = record { ring_map = RingMap-same (λ x. power-power R x q r) (RingMap-compose F.ring_map G.ring_map) }

module _ {A : Type 0} (R : CommutativeRing A) {p : ℕ} (H : HasCharacteristic R p) (prime : IsTablePrime p) where
  open R use {zero as 𝟘, one as 𝟙, add as ◌⊕◌, neg as ⊖◌, mul as ◌⊗◌}

  infixl 60 ◌⊕◌
  infixl 70 ◌⊗◌
  -- The freshman's dream.
  pub power_of_sum_prime : (f g : A) → power R (f ⊕ g) p ≡ power R f p ⊕ power R g p
  unfolding IsFrobeniusRow
  power_of_sum_prime f g =
      let row = All-contains IsFrobeniusRow table_primes p frobenius_rows prime.listed in
      let k : ℕ = row.0 in
      let tail : List ℕ = one_after k in
      let last : binary_form R f g (1 ∷ tail) ≡ power R f p ⊕ power R g p =
      ap₂ ◌⊕◌ (multiple-1 R (power R f (length tail)) ∙ ap (power R f) (length_one_after k ∙ sym row.1)) (ap (◌⊗◌ g) (binary_form_last R f g k) ∙ sym (power-suc R g k) ∙ ap (power R g) (sym row.1)) in
      power_of_sum R f g p ∙ sym (binary_form_modulo R p H f g (pascal_row p)) ∙ ap (binary_form R f g) row.2 ∙ last

  power_of_zero_prime : power R 𝟘 p ≡ 𝟘
  power_of_zero_prime = add_cancel_left R (power R 𝟘 p) (power R 𝟘 p) 𝟘 (sym (power_of_sum_prime 𝟘 𝟘) ∙ ap (λ x. power R x p) (add_zero R 𝟘) ∙ sym (add_zero R (power R 𝟘 p)))

  -- Taking p-th powers is a ring map.
  pub IsFrobenius-prime : IsFrobenius R p
  IsFrobenius-prime = record {
    ring_map = record {
      keeps_zero = power_of_zero_prime;
      keeps_one = power-one R p;
      keeps_add = power_of_sum_prime;
      keeps_mul = λ x y. power-mul R x y p;
    };
  }

  -- Taking p^e-th powers is a ring map.
  pub IsFrobenius-power : (e : ℕ) → IsFrobenius R (p ^ e)
  IsFrobenius-power zero = subst (IsFrobenius R) (sym (pow-zero p)) (IsFrobenius-1 R)
  IsFrobenius-power (suc e) = subst (IsFrobenius R) (sym (pow-suc p e)) (IsFrobenius-mul R (IsFrobenius-power e) IsFrobenius-prime)

module _ {A : Type 0} (R : CommutativeRing A) where
  pub frobenius_power-append : (q : ℕ) (L M : List A) → frobenius_power R q (L ++ M) ≡ frobenius_power R q L ++ frobenius_power R q M
  frobenius_power-append q L M = map-append (λ g. power R g q) L M

  pub frobenius_power-1 : (L : List A) → frobenius_power R 1 L ≡ L
  frobenius_power-1 [] = refl
  frobenius_power-1 (g ∷ L) = ap₂ ◌∷◌ (power-1 R g) (frobenius_power-1 L)

  -- Frobenius powers of Frobenius powers: the exponents are multiplied.
  pub frobenius_power-frobenius_power : (q r : ℕ) (L : List A) → frobenius_power R r (frobenius_power R q L) ≡ frobenius_power R (q * r) L
  frobenius_power-frobenius_power q r [] = refl
  frobenius_power-frobenius_power q r (g ∷ L) = ap₂ ◌∷◌ (power-power R g q r) (frobenius_power-frobenius_power q r L)

  pub frobenius_power-multiples : (q : ℕ) (f : A) (L : List A) → frobenius_power R q (multiples R f L) ≡ multiples R (power R f q) (frobenius_power R q L)
  frobenius_power-multiples q f [] = refl
  frobenius_power-multiples q f (g ∷ L) = ap₂ ◌∷◌ (power-mul R f g q) (frobenius_power-multiples q f L)

  pub frobenius_power-products : (q : ℕ) (L M : List A) → frobenius_power R q (products R L M) ≡ products R (frobenius_power R q L) (frobenius_power R q M)
  frobenius_power-products q [] M = refl
  frobenius_power-products q (g ∷ L) M = frobenius_power-append q (multiples R g M) (products R L M) ∙ ap₂ ◌++◌ (frobenius_power-multiples q g M) (frobenius_power-products q L M)

module _ {A : Type 0} {R : CommutativeRing A} {q : ℕ} (F : IsFrobenius R q) where
  pub Member-frobenius_power : {L : List A} {h : A} → Member R L h → Member R (frobenius_power R q L) (power R h q)
  Member-frobenius_power H = Member-RingMap F.ring_map H

  pub Inside-frobenius_power : {L M : List A} → Inside R L M → Inside R (frobenius_power R q L) (frobenius_power R q M)
  Inside-frobenius_power I = Inside-RingMap F.ring_map I

  pub SameIdeal-frobenius_power : {L M : List A} → SameIdeal R L M → SameIdeal R (frobenius_power R q L) (frobenius_power R q M)
  SameIdeal-frobenius_power E = SameIdeal-RingMap F.ring_map E
