-- Masks of monomials: where one monomial divides another, so do the ones of its mask stand in the other's.
use Rattle.std.proofs.Common.{◌≡◌, ◌≢◌, ℕ, ◌+◌, ◌-◌, ◌*◌, ◌^◌, ◌<◌, ◌≤◌, min, List, [], ◌∷◌, ◌++◌, length, get_or, Bool, true, false, ◌&&◌, nat_le, ⊎_elim, refl, sym, ap, ap₂, ◌∙◌, arith}
use lib.Bits.{bit_and}
use Rattle.std.proofs.Math.Nat.{mod-eq_of_lt, pow-le-pow_right}
use Rattle.std.proofs.lemmas.Nat.{and_mask, and_block}
use Rattle.std.proofs.lemmas.Bool.{cases_lt, leb-true}
use Rattle.fj_mono.specs.Monomial.{Monomial}
use Rattle.fj_theory.specs.Exponents.{divides}
use Rattle.fj_basis.specs.Leads.{NoneDivides, height, mask_after}

tall : (e : ℕ) → (0 < 2 ^ min e 8) × (2 ^ min e 8 ≤ 256)
tall e =
    let least : 0 ≤ min e 8 = omega arith in
    let most : min e 8 ≤ 8 = omega arith in
    let low : 2 ^ 0 ≤ 2 ^ min e 8 = pow-le-pow_right {n = 2} (omega arith) least in
    let high : 2 ^ min e 8 ≤ 2 ^ 8 = pow-le-pow_right {n = 2} (omega arith) most in
    (omega (arith, low), omega (arith, high))

pub height_small : (e : ℕ) → height e < 256
unfolding height
height_small e = let t = tall e in omega (arith, t.0, t.1)

height_within : (a b : ℕ) → a ≤ b → bit_and (height a) (height b) ≡ height a
unfolding height
height_within a b h =
    let less : min a 8 ≤ min b 8 = omega arith in
    let more : 2 ^ min a 8 ≤ 2 ^ min b 8 = pow-le-pow_right {n = 2} (omega arith) less in
    let t = tall a in
    and_mask (2 ^ min a 8 - 1) (min b 8) ∙ mod-eq_of_lt (omega (arith, more, t.0))

pub mask_after-push : (n : ℕ) (es : List ℕ) (e : ℕ) → mask_after n (es ++ e ∷ []) ≡ mask_after n es * 256 + height e
unfolding mask_after
mask_after-push n [] e = refl
mask_after-push n (x ∷ es) e = mask_after-push (n * 256 + height x) es e

both : (a b : Bool) → (a && b) ≡ true → (a ≡ true) × (b ≡ true)
both true true e = (refl, refl)
both true false e = absurd (let z = e in cc)
both false b e = absurd (let z = e in cc)

le_from : (x y : ℕ) → nat_le x y ≡ true → x ≤ y
le_from x y e = leb-true x y e

mask_within : (es bs : List ℕ) (p q : ℕ) → length es ≡ length bs → divides es bs ≡ true → bit_and p q ≡ p → bit_and (mask_after p es) (mask_after q bs) ≡ mask_after p es
unfolding mask_after divides
mask_within [] [] p q l d h = h
mask_within [] (b ∷ bs) p q l d h = absurd (omega (arith, l))
mask_within (a ∷ es) [] p q l d h = absurd (omega (arith, l))
mask_within (a ∷ es) (b ∷ bs) p q l d h =
    let parts = both (nat_le a b) (divides es bs) d in
    mask_within es bs (p * 256 + height a) (q * 256 + height b) (omega (arith, l)) parts.1
    (and_block 8 p q (height a) (height b) (height_small a) (height_small b) ∙ ap₂ (λ x y. x * 256 + y) h (height_within a b (le_from a b parts.0)))

-- Where the mask isn't within the other, the monomial doesn't divide.
pub divides-no_mask : (m n : Monomial) (x y : ℕ) → x ≡ mask_after 0 m.exponents → y ≡ mask_after 0 n.exponents → bit_and x y ≢ x → divides m.exponents n.exponents ≡ false
divides-no_mask m n x y ex ey apart = by (divides m.exponents n.exponents) refl
  where
    by : (b : Bool) → divides m.exponents n.exponents ≡ b → divides m.exponents n.exponents ≡ false
    by false e = e
    by true e = absurd (apart (ap₂ bit_and ex ey ∙ mask_within m.exponents n.exponents 0 0 (m.eight ∙ sym n.eight) e refl ∙ sym ex))

-- One place more at which no member divides.
pub none-more : (es : List (List ℕ)) (from k : ℕ) (a : List ℕ) → NoneDivides es from k a → divides (get_or es k []) a ≡ false → NoneDivides es from (k + 1) a
none-more es from k a h e = record { none = λ j l m. by j l m }
  where
    at : (j : ℕ) → j ≡ k → divides (get_or es j []) a ≡ false
    at j s = ap (λ i. divides (get_or es i []) a) s ∙ e

    by : (j : ℕ) → from ≤ j → j < k + 1 → divides (get_or es j []) a ≡ false
    by j l m = ⊎_elim (λ less. h.none j l less) (λ past. at j (omega arith)) (cases_lt j k)
