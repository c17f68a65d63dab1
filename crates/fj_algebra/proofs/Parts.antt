-- The parts of an element: they are linear over q-th powers.
use Rattle.std.proofs.Common.{◌≡◌, ℕ, suc, List, [], ◌∷◌, Contains, sym, ap, ap₂, ◌∙◌}
use Rattle.fj_algebra.specs.Ring.{CommutativeRing}
use Rattle.fj_algebra.specs.Power.{power}
use Rattle.fj_algebra.specs.Sum.{sum_over}
use Rattle.fj_algebra.specs.Ideal.{combination}
use Rattle.fj_algebra.specs.Frobenius.{frobenius_power}
use Rattle.fj_algebra.specs.Parts.{Parts, from_parts}
use Rattle.fj_algebra.proofs.Ring.{mul_one, mul_comm, mul_assoc, add_mul, zero_mul, neg_unique, add_neg}
use Rattle.fj_algebra.proofs.Power.{power-mul}
use Rattle.fj_algebra.proofs.Sum.{sum_over-same, sum_over-add, sum_over-mul, sum_over-zero}

module _ {A Residue : Type 0} {R : CommutativeRing A} {q : ℕ} (P : Parts R Residue q) where
  open R use {zero as 𝟘, one as 𝟙, add as ◌⊕◌, neg as ⊖◌, mul as ◌⊗◌}

  infixl 60 ◌⊕◌
  infixl 70 ◌⊗◌
  infix 80 ⊖◌
  -- A family whose element is h has the parts of h.
  pub part_from : (h : A) (c : Residue → A) → h ≡ from_parts R q P.residues P.basis c → (a : Residue) → Contains P.residues a → P.part h a ≡ c a
  part_from h c e = P.unique (P.part h) c (sym (P.from h) ∙ e)

  pub from_parts-add : (c d : Residue → A) → from_parts R q P.residues P.basis (λ a. c a ⊕ d a) ≡ from_parts R q P.residues P.basis c ⊕ from_parts R q P.residues P.basis d
  from_parts-add c d =
      sum_over-same R _ (λ a. power R (c a) q ⊗ P.basis a ⊕ power R (d a) q ⊗ P.basis a) (λ a. ap (λ x. x ⊗ P.basis a) (P.frobenius.ring_map.keeps_add (c a) (d a)) ∙ add_mul R (power R (c a) q) (power R (d a) q) (P.basis a)) P.residues
      ∙ sum_over-add R (λ a. power R (c a) q ⊗ P.basis a) (λ a. power R (d a) q ⊗ P.basis a) P.residues

  pub from_parts-mul : (f : A) (c : Residue → A) → from_parts R q P.residues P.basis (λ a. f ⊗ c a) ≡ power R f q ⊗ from_parts R q P.residues P.basis c
  from_parts-mul f c =
      sum_over-same R _ (λ a. power R f q ⊗ (power R (c a) q ⊗ P.basis a)) (λ a. ap (λ x. x ⊗ P.basis a) (power-mul R f (c a) q) ∙ mul_assoc R (power R f q) (power R (c a) q) (P.basis a)) P.residues
      ∙ sum_over-mul R (power R f q) (λ a. power R (c a) q ⊗ P.basis a) P.residues

  pub from_parts-zero : from_parts R q P.residues P.basis (λ a. 𝟘) ≡ 𝟘
  from_parts-zero = sum_over-same R _ (λ a. 𝟘) (λ a. ap (λ x. x ⊗ P.basis a) P.frobenius.ring_map.keeps_zero ∙ zero_mul R (P.basis a)) P.residues ∙ sum_over-zero R P.residues

  module _ (a : Residue) (listed : Contains P.residues a) where
    pub part-zero : P.part 𝟘 a ≡ 𝟘
    part-zero = part_from 𝟘 (λ a. 𝟘) (sym from_parts-zero) a listed

    pub part-add : (g h : A) → P.part (g ⊕ h) a ≡ P.part g a ⊕ P.part h a
    part-add g h = part_from (g ⊕ h) (λ a. P.part g a ⊕ P.part h a) (ap₂ ◌⊕◌ (P.from g) (P.from h) ∙ sym (from_parts-add (P.part g) (P.part h))) a listed

    -- q-th powers come out of the parts.
    pub part-power_mul : (f h : A) → P.part (power R f q ⊗ h) a ≡ f ⊗ P.part h a
    part-power_mul f h = part_from (power R f q ⊗ h) (λ a. f ⊗ P.part h a) (ap (◌⊗◌ (power R f q)) (P.from h) ∙ sym (from_parts-mul f (P.part h))) a listed

    pub part-neg : (h : A) → P.part (⊖ h) a ≡ ⊖ P.part h a
    part-neg h = neg_unique R (P.part h a) (P.part (⊖ h) a) (sym (part-add h (⊖ h)) ∙ ap (λ x. P.part x a) (add_neg R h) ∙ part-zero)

    pub part-power : (f : A) → P.part (power R f q) a ≡ f ⊗ P.part 𝟙 a
    part-power f = ap (λ x. P.part x a) (sym (mul_one R (power R f q))) ∙ part-power_mul f 𝟙

    pub part-sum_over : {X : Type 0} (f : X → A) (xs : List X) → P.part (sum_over R f xs) a ≡ sum_over R (λ x. P.part (f x) a) xs
    part-sum_over f [] = part-zero
    part-sum_over f (x ∷ xs) = part-add (f x) (sum_over R f xs) ∙ ap (◌⊕◌ (P.part (f x) a)) (part-sum_over f xs)

    -- The part of a combination of q-th powers is a combination.
    pub part-combination : (d : ℕ → A) (M : List A) → P.part (combination R d (frobenius_power R q M)) a ≡ combination R (λ j. P.part (d j) a) M
    part-combination d [] = part-zero
    part-combination d (g ∷ M) =
        part-add (d 0 ⊗ power R g q) (combination R (λ j. d (suc j)) (frobenius_power R q M))
        ∙ ap₂ ◌⊕◌ (ap (λ x. P.part x a) (mul_comm R (d 0) (power R g q)) ∙ part-power_mul g (d 0) ∙ mul_comm R g (P.part (d 0) a)) (part-combination (λ j. d (suc j)) M)

  -- The part of f^q at the origin is f.
  pub origin-power : (f : A) → P.part (power R f q) P.origin ≡ f
  origin-power f = part-power P.origin P.origin_listed f ∙ ap (◌⊗◌ f) P.origin_part ∙ mul_one R f
