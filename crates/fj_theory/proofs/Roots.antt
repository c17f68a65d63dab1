-- Roots in the field: the p^e-th power map is injective, and the iterated root undoes it.
use Rattle.std.proofs.Common.{refl, ◌≡◌, ◌≢◌, ℕ, zero, suc, ◌*◌, ◌^◌, ◌<◌, sym, ap, ◌∙◌, arith, ⊎_elim, eq-zero-or-pos, pow-suc}
use Rattle.std.proofs.Math.Nat.{pow-zero}
use Rattle.fj_coeff.specs.Field.{Field, IsField}
use Rattle.fj_coeff.specs.Field as field
use Rattle.fj_algebra.specs.Power as ring
use Rattle.fj_algebra.specs.Ring.{RingMap, subtract}
use Rattle.fj_algebra.proofs.Power.{power-power, power-1}
use Rattle.fj_algebra.proofs.Ring.{mul_zero, zero_mul, equal_from_subtract, keeps_subtract, subtract_self}
use Rattle.fj_theory.specs.PartTerms.{iterated_root}
use Rattle.fj_theory.proofs.Field.{Element, element_equal, zero_below, rank_zero, rank_one, rank_mul}
use Rattle.fj_theory.proofs.Product.{K}
use Rattle.fj_theory.proofs.Monomial.{rank_power, power_below}
use Rattle.fj_theory.proofs.Frobenius.{raise, field-IsFrobenius}

-- One root more.
pub iterated_root_next : (F : Field) (e c : ℕ) → iterated_root F (suc e) c ≡ F.root (iterated_root F e c)
unfolding iterated_root
iterated_root_next F zero c = refl
iterated_root_next F (suc e) c = iterated_root_next F e (F.root c)

module _ {F : Field} (L : IsField F) where
  pub one_not_zero : (K L).one ≢ (K L).zero
  one_not_zero e = let ranks = sym (rank_one L) ∙ ap (λ x. x.rank) e ∙ rank_zero L in absurd (omega arith)

  -- An element that is not zero has an inverse.
  pub inverse : (x : Element F) → 0 < x.rank → Element F
  inverse x h = record { rank = F.inverse x.rank; below = L.inverse_below x.rank h x.below }

  pub mul_inverse : (x : Element F) (h : 0 < x.rank) → (K L).mul x (inverse x h) ≡ (K L).one
  unfolding inverse
  mul_inverse x h = element_equal _ _ (rank_mul L x (inverse x h) ∙ L.mul_inverse x.rank h x.below ∙ sym (rank_one L))

  -- The inverse isn't zero.
  pub inverse_positive : (d : ℕ) → 0 < d → d < F.size → 0 < F.inverse d
  unfolding inverse
  inverse_positive d h b = ⊎_elim (λ z. absurd (none z)) (λ p. p) (eq-zero-or-pos (F.inverse d))
    where
      none : F.inverse d ≡ 0 → ⊥
      none z =
          let x : Element F = record { rank = d; below = b } in
          one_not_zero (sym (mul_inverse x h) ∙ ap ((K L).mul x) (element_equal (inverse x h) (K L).zero (z ∙ sym (rank_zero L))) ∙ mul_zero (K L) x)

  -- A product is zero only where a factor is.
  pub zero_product : (x y : Element F) → 0 < x.rank → (K L).mul x y ≡ (K L).zero → y ≡ (K L).zero
  zero_product x y h e =
      sym ((K L).mul_one y) ∙ ap ((K L).mul y) (sym (mul_inverse x h)) ∙ sym ((K L).mul_assoc y x (inverse x h))
      ∙ ap (λ z. (K L).mul z (inverse x h)) ((K L).mul_comm y x ∙ e) ∙ zero_mul (K L) (inverse x h)

  pub mul_positive : (c d : ℕ) → 0 < c → c < F.size → 0 < d → d < F.size → 0 < F.mul c d
  mul_positive c d h hs g gs = ⊎_elim (λ z. absurd (none z)) (λ p. p) (eq-zero-or-pos (F.mul c d))
    where
      none : F.mul c d ≡ 0 → ⊥
      none z =
          let x : Element F = record { rank = c; below = hs } in
          let y : Element F = record { rank = d; below = gs } in
          let n = ap (λ v. v.rank) (zero_product x y h (element_equal _ _ (rank_mul L x y ∙ z ∙ sym (rank_zero L)))) ∙ rank_zero L in
          absurd (omega arith)

  module _ (e : ℕ) where
    raise_zero : (x : Element F) → raise L e x ≡ (K L).zero → x ≡ (K L).zero
    raise_zero x z = ⊎_elim (λ n. element_equal _ _ (n ∙ sym (rank_zero L))) (λ h. absurd (one_not_zero (one h))) (eq-zero-or-pos x.rank)
      where
        M : RingMap (K L) (K L) (raise L e)
        M = (field-IsFrobenius L e).ring_map

        one : 0 < x.rank → (K L).one ≡ (K L).zero
        one h =
            sym M.keeps_one ∙ ap (raise L e) (sym (mul_inverse x h)) ∙ M.keeps_mul x (inverse x h) ∙ ap (λ y. (K L).mul y (raise L e (inverse x h))) z
            ∙ zero_mul (K L) (raise L e (inverse x h))

    -- Elements with the same p^e-th power are equal.
    pub raise_injective : (x y : Element F) → raise L e x ≡ raise L e y → x ≡ y
    raise_injective x y same = equal_from_subtract (K L) x y (raise_zero (subtract (K L) x y)
        (keeps_subtract (field-IsFrobenius L e).ring_map x y ∙ ap (λ z. subtract (K L) z (raise L e y)) same ∙ subtract_self (K L) (raise L e y)))

    pub power_injective : (c d : ℕ) → c < F.size → d < F.size → field.power F c (F.characteristic ^ e) ≡ field.power F d (F.characteristic ^ e)
        → c ≡ d
    power_injective c d h g same =
        let x : Element F = record { rank = c; below = h } in
        let y : Element F = record { rank = d; below = g } in
        ap (λ z. z.rank) (raise_injective x y (element_equal _ _ (rank_power L x (F.characteristic ^ e) ∙ same ∙ sym (rank_power L y (F.characteristic ^ e)))))

  pub iterated_root_below : (e c : ℕ) → c < F.size → iterated_root F e c < F.size
  unfolding iterated_root
  iterated_root_below zero c h = h
  iterated_root_below (suc e) c h = iterated_root_below e (F.root c) (L.root_below c h)

  field_power-power : (c m n : ℕ) → c < F.size → field.power F (field.power F c m) n ≡ field.power F c (m * n)
  field_power-power c m n h =
      let x : Element F = record { rank = c; below = h } in
      ap (λ d. field.power F d n) (sym (rank_power L x m)) ∙ sym (rank_power L (ring.power (K L) x m) n) ∙ ap (λ z. z.rank) (power-power (K L) x m n)
      ∙ rank_power L x (m * n)

  field_power_first : (c : ℕ) → c < F.size → field.power F c 1 ≡ c
  field_power_first c h = let x : Element F = record { rank = c; below = h } in sym (rank_power L x 1) ∙ ap (λ z. z.rank) (power-1 (K L) x)

  -- The p^e-th power of the iterated root.
  pub power-iterated_root : (e c : ℕ) → c < F.size → field.power F (iterated_root F e c) (F.characteristic ^ e) ≡ c
  unfolding iterated_root
  power-iterated_root zero c h = ap (field.power F c) (pow-zero F.characteristic) ∙ field_power_first c h
  power-iterated_root (suc e) c h =
      ap (field.power F (iterated_root F e (F.root c))) (pow-suc F.characteristic e)
      ∙ sym (field_power-power (iterated_root F e (F.root c)) (F.characteristic ^ e) F.characteristic (iterated_root_below e (F.root c) (L.root_below c h)))
      ∙ ap (λ d. field.power F d F.characteristic) (power-iterated_root e (F.root c) (L.root_below c h)) ∙ L.power_root c h

  pub iterated_root-power : (e c : ℕ) → c < F.size → iterated_root F e (field.power F c (F.characteristic ^ e)) ≡ c
  iterated_root-power e c h =
      let b = power_below L c (F.characteristic ^ e) h in
      power_injective e _ c (iterated_root_below e _ b) h (power-iterated_root e _ b)

  pub field_power_zero : (e : ℕ) → field.power F 0 (F.characteristic ^ e) ≡ 0
  field_power_zero e = ap (λ d. field.power F d (F.characteristic ^ e)) (sym (rank_zero L)) ∙ sym (rank_power L (K L).zero (F.characteristic ^ e))
      ∙ ap (λ x. x.rank) (field-IsFrobenius L e).ring_map.keeps_zero ∙ rank_zero L

  pub field_power_positive : (e c : ℕ) → 0 < c → c < F.size → 0 < field.power F c (F.characteristic ^ e)
  field_power_positive e c p h =
      ⊎_elim (λ z. let n = power_injective e c 0 h (zero_below L) (z ∙ sym (field_power_zero e)) in absurd (omega arith)) (λ g. g) (eq-zero-or-pos (field.power F c (F.characteristic ^ e)))

  -- The root of zero is zero, and the root of what is not zero is not.
  pub iterated_root_zero : (e : ℕ) → iterated_root F e 0 ≡ 0
  iterated_root_zero e = power_injective e _ 0 (iterated_root_below e 0 (zero_below L)) (zero_below L) (power-iterated_root e 0 (zero_below L) ∙ sym (field_power_zero e))

  pub iterated_root_positive : (e c : ℕ) → 0 < c → c < F.size → 0 < iterated_root F e c
  iterated_root_positive e c p h =
      ⊎_elim (λ z. let n = sym (power-iterated_root e c h) ∙ ap (λ d. field.power F d (F.characteristic ^ e)) z ∙ field_power_zero e in absurd (omega arith)) (λ g. g) (eq-zero-or-pos (iterated_root F e c))
