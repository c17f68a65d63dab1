-- The monomials in a set of variables.
use Rattle.std.proofs.Common.{◌≡◌, ◌⊎◌, inl, inr, ℕ, zero, suc, ◌+◌, ◌<◌, ◌≤◌, Bool, true, false, List, [], ◌∷◌, length, get_or, refl, sym, ap, ◌∙◌, arith, true≢false}
use Rattle.std.proofs.lemmas.List.{get_or_past}
use Rattle.fj_algebra.specs.StrictSteps.{IsFace}
use Rattle.fj_theory.specs.Exponents.{plus}
use Rattle.fj_theory.proofs.OrderedPolynomials.{Exponents, monomials, times}
use Rattle.fj_testideal.specs.BoundedIdeal.{Variables}

-- The other variables have the exponent 0.
pub record InVariables (vars : Variables) (a : Exponents) : Type 0 where
  pub others : (i : ℕ) → vars i ≡ false → get_or a.list i 0 ≡ 0

pub index-plus : (a b : List ℕ) (i : ℕ) → length a ≡ length b → get_or (plus a b) i 0 ≡ get_or a i 0 + get_or b i 0
unfolding plus
index-plus [] [] i e = omega arith
index-plus [] (y ∷ b) i e = absurd (omega arith)
index-plus (x ∷ a) [] i e = absurd (omega arith)
index-plus (x ∷ a) (y ∷ b) zero e = refl
index-plus (x ∷ a) (y ∷ b) (suc i) e = index-plus a b i (omega arith)

is_zero : (n : ℕ) → Dec (n ≡ 0)
is_zero zero = yes refl
is_zero (suc n) = no (λ e. absurd (omega arith))

pub below_or_above : (i n : ℕ) → (i < n) ⊎ (n ≤ i)
below_or_above i n = grind arith

last_or_before : (i n : ℕ) → i < suc n → (i < n) ⊎ (i ≡ n)
last_or_before i n h = grind arith

module _ (vars : Variables) (a : List ℕ) where
  -- Of the first n places, those outside of the variables have the exponent 0.
  FirstOthers : ℕ → Type 0
  FirstOthers n = (i : ℕ) → i < n → vars i ≡ false → get_or a i 0 ≡ 0

  decide_first : (n : ℕ) → Dec (FirstOthers n)
  unfolding FirstOthers
  decide_first zero = yes (λ i h. absurd (omega arith))
  decide_first (suc n) = go (decide_first n) (vars n) refl (is_zero (get_or a n 0))
    where
      go : Dec (FirstOthers n) → (t : Bool) → vars n ≡ t → Dec (get_or a n 0 ≡ 0) → Dec (FirstOthers (suc n))
      go (no some) t e d = no (λ all. some (λ i h. all i (omega arith)))
      go (yes all) true e d = yes (λ i h f. elim (last_or_before i n h) [
        | inl l ↦ all i l f
        | inr same ↦ absurd (true≢false (sym e ∙ ap vars (sym same) ∙ f))
      ])
      go (yes all) false e (yes z) = yes (λ i h f. elim (last_or_before i n h) [
        | inl l ↦ all i l f
        | inr same ↦ ap (λ j. get_or a j 0) same ∙ z
      ])
      go (yes all) false e (no z) = no (λ each. z (each n (omega arith) e))

decide_variables : (vars : Variables) (a : Exponents) → Dec (InVariables vars a)
unfolding FirstOthers
decide_variables vars a = elim (decide_first vars a.list 8) [
  | yes all ↦ yes (record { others = λ i f. others i f all (below_or_above i 8) })
  | no some ↦ no (λ h. some (λ i l f. h.others i f))
]
  where
    others : (i : ℕ) → vars i ≡ false → FirstOthers vars a.list 8 → (i < 8) ⊎ (8 ≤ i) → get_or a.list i 0 ≡ 0
    others i f all (inl l) = all i l f
    others i f all (inr l) = let eight = a.is_exponents.eight in get_or_past a.list i 0 (omega (arith, eight, l))

-- Products and divisors of monomials in the variables are such monomials.
pub variables_face : (vars : Variables) → IsFace monomials (InVariables vars)
unfolding monomials times
variables_face vars = record {
  decided = decide_variables vars;
  product = λ a b A B. record { others = λ i f. let sum = both a b i in let first = A.others i f in let second = B.others i f in omega (arith, sum, first, second) };
  factor = λ a b A. record { others = λ i f. let sum = both a b i in let whole = A.others i f in omega (arith, sum, whole) };
}
  where
    both : (a b : Exponents) (i : ℕ) → get_or (plus a.list b.list) i 0 ≡ get_or a.list i 0 + get_or b.list i 0
    both a b i = index-plus a.list b.list i (a.is_exponents.eight ∙ sym b.is_exponents.eight)
