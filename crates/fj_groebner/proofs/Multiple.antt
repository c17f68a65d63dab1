-- The least common multiple of two monomials.
use Rattle.std.proofs.Common.{◌≡◌, ℕ, suc, zero, ◌+◌, ◌≤◌, ◌==◌, ◌&&◌, ◌||◌, nat_le, max, Bool, true, false, List, [], ◌∷◌, length, refl, sym, ap, ap₂, ◌∙◌, arith, true≢false}
use Rattle.std.proofs.lemmas.Bool.Decides.{nat_tests}
use Rattle.fj_algebra.specs.Order as order
use Rattle.fj_theory.specs.Exponents.{plus, divides, least_common_multiple}
use Rattle.fj_groebner.specs.Run.{are_coprime}
use Rattle.fj_theory.proofs.Exponents.{cons_same}
use Rattle.fj_theory.proofs.OrderedPolynomials.{Exponents, exponents_equal, times, monomials}
use Rattle.fj_theory.proofs.Lead.{Divides-from_divides, divides-from_Divides}

pub both : (s t : Bool) → (s && t) ≡ true → (s ≡ true) × (t ≡ true)
both true t e = (refl, e)
both false t e = absurd (true≢false (sym e))

le_true : (x y : ℕ) → x ≤ y → nat_le x y ≡ true
le_true x y h = grind (arith, nat_tests)

true_le : (x y : ℕ) → nat_le x y ≡ true → x ≤ y
true_le x y h = grind (arith, nat_tests)

pub length-least_common_multiple : (a b : List ℕ) → length a ≡ length b → length (least_common_multiple a b) ≡ length a
unfolding least_common_multiple
length-least_common_multiple [] b e = refl
length-least_common_multiple (x ∷ a) [] e = absurd (omega (arith, e))
length-least_common_multiple (x ∷ a) (y ∷ b) e = ap suc (length-least_common_multiple a b (omega (arith, e)))

pub divides-least_common_multiple_left : (a b : List ℕ) → length a ≡ length b → divides a (least_common_multiple a b) ≡ true
unfolding least_common_multiple divides
divides-least_common_multiple_left [] b e = refl
divides-least_common_multiple_left (x ∷ a) [] e = absurd (omega (arith, e))
divides-least_common_multiple_left (x ∷ a) (y ∷ b) e = ap₂ ◌&&◌ (le_true x (max x y) (omega arith)) (divides-least_common_multiple_left a b (omega (arith, e)))

pub divides-least_common_multiple_right : (a b : List ℕ) → length a ≡ length b → divides b (least_common_multiple a b) ≡ true
unfolding least_common_multiple divides
divides-least_common_multiple_right [] [] e = refl
divides-least_common_multiple_right [] (y ∷ b) e = absurd (omega (arith, e))
divides-least_common_multiple_right (x ∷ a) [] e = absurd (omega (arith, e))
divides-least_common_multiple_right (x ∷ a) (y ∷ b) e = ap₂ ◌&&◌ (le_true y (max x y) (omega arith)) (divides-least_common_multiple_right a b (omega (arith, e)))

-- It divides each common multiple.
pub least_common_multiple-divides : (a b d : List ℕ) → divides a d ≡ true → divides b d ≡ true → divides (least_common_multiple a b) d ≡ true
unfolding least_common_multiple divides
least_common_multiple-divides [] b d h k = refl
least_common_multiple-divides (x ∷ a) [] d h k = refl
least_common_multiple-divides (x ∷ a) (y ∷ b) [] h k = h
least_common_multiple-divides (x ∷ a) (y ∷ b) (z ∷ d) h k =
    let u = both (nat_le x z) (divides a d) h in
    let v = both (nat_le y z) (divides b d) k in
    let l = true_le x z u.0 in
    let m = true_le y z v.0 in
    ap₂ ◌&&◌ (le_true (max x y) z (omega (arith, l, m))) (least_common_multiple-divides a b d u.1 v.1)

suc_test : (x : ℕ) → (suc x == 0) ≡ false
suc_test x = grind (arith, nat_tests)

one_zero : (x y : ℕ) → (x == 0 || y == 0) ≡ true → max x y ≡ x + y
one_zero zero y e = omega arith
one_zero (suc x) zero e = omega arith
one_zero (suc x) (suc y) e = absurd (true≢false (sym e ∙ ap₂ ◌||◌ (suc_test x) (suc_test y)))

-- Where the two have no variable in common it is their product.
pub least_common_multiple-coprime : (a b : List ℕ) → length a ≡ length b → are_coprime a b ≡ true → least_common_multiple a b ≡ plus a b
unfolding least_common_multiple are_coprime plus
least_common_multiple-coprime [] b e h = refl
least_common_multiple-coprime (x ∷ a) [] e h = refl
least_common_multiple-coprime (x ∷ a) (y ∷ b) e h =
    let u = both (x == 0 || y == 0) (are_coprime a b) h in cons_same (one_zero x y u.0) (least_common_multiple-coprime a b (omega (arith, e)) u.1)

-- As monomials.
unfoldable pub common_multiple : Exponents → Exponents → Exponents
common_multiple a b = record {
  list = least_common_multiple a.list b.list;
  is_exponents = record { eight = length-least_common_multiple a.list b.list (a.is_exponents.eight ∙ sym b.is_exponents.eight) ∙ a.is_exponents.eight };
}

pub common_multiple-is_least : (a b : Exponents) → order.IsLeastCommonMultiple monomials a b (common_multiple a b)
unfolding common_multiple
common_multiple-is_least a b =
    let e = a.is_exponents.eight ∙ sym b.is_exponents.eight in
    record {
      left = Divides-from_divides a (common_multiple a b) (divides-least_common_multiple_left a.list b.list e);
      right = Divides-from_divides b (common_multiple a b) (divides-least_common_multiple_right a.list b.list e);
      least = λ d h k. Divides-from_divides (common_multiple a b) d (least_common_multiple-divides a.list b.list d.list (divides-from_Divides h) (divides-from_Divides k));
    }

pub common_multiple-coprime : (a b : Exponents) → are_coprime a.list b.list ≡ true → common_multiple a b ≡ times a b
unfolding common_multiple times
common_multiple-coprime a b h = exponents_equal _ _ (least_common_multiple-coprime a.list b.list (a.is_exponents.eight ∙ sym b.is_exponents.eight) h)
