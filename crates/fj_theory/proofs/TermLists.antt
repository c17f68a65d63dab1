-- Polynomials read off lists of terms in any order: the degree.
use Rattle.std.proofs.Common.{◌≡◌, ℕ, Bool, true, false, if◌then◌else◌, List, [], ◌∷◌, length, map, max, Some, is_gt, refl, sym, ap, ◌∙◌, arith}
use Rattle.std.specs.List.{fold, reduce}
use Rattle.std.specs.FinMap.{entries, len-entries}
use Rattle.std.proofs.lemmas.Simd.{map-map}
use Rattle.fj_coeff.specs.Field.{Field}
use Rattle.fj_theory.specs.Exponents.{total}
use Rattle.fj_theory.specs.MonomialOrder.{compare_by, IsMonomialOrder}
use Rattle.fj_theory.specs.Polynomial.{Polynomial, IsPolynomial, degree, place, sort_falling, terms_falling}
use Rattle.fj_theory.proofs.Terms.{length-terms_falling}

-- The greatest total of a list of terms, and 0 for none.
greatest : List (List ℕ × ℕ) → ℕ
greatest [] = 0
greatest (t ∷ ts) = max (total t.0) (greatest ts)

fold_max : (x : ℕ) (ts : List (List ℕ × ℕ)) → fold max x (map (λ t. total t.0) ts) ≡ max x (greatest ts)
unfolding greatest
fold_max x [] = omega arith
fold_max x (t ∷ ts) = fold_max (max x (total t.0)) ts ∙ omega arith

greatest_place : (key : List ℕ → List ℕ) (t : List ℕ × ℕ) (us : List (List ℕ × ℕ)) → greatest (place key t us) ≡ max (total t.0) (greatest us)
unfolding place greatest
greatest_place key t [] = refl
greatest_place key t (u ∷ us) = by (is_gt (compare_by key t.0 u.0)) (greatest_place key t us)
  where
    by : (g : Bool) → greatest (place key t us) ≡ max (total t.0) (greatest us)
        → greatest (if g then t ∷ u ∷ us else u ∷ place key t us) ≡ max (total t.0) (greatest (u ∷ us))
    by true rest = refl
    by false rest = ap (max (total u.0)) rest ∙ omega arith

greatest_sort : (key : List ℕ → List ℕ) (ts : List (List ℕ × ℕ)) → greatest (sort_falling key ts) ≡ greatest ts
unfolding sort_falling greatest
greatest_sort key [] = refl
greatest_sort key (t ∷ ts) = greatest_place key t (sort_falling key ts) ∙ ap (max (total t.0)) (greatest_sort key ts)

same_greatest : (ts us : List (List ℕ × ℕ)) → length ts ≡ length us → greatest ts ≡ greatest us → reduce max (map (λ t. total t.0) ts) ≡ reduce max (map (λ t. total t.0) us)
unfolding greatest
same_greatest [] [] same e = refl
same_greatest [] (u ∷ us) same e = absurd (omega arith)
same_greatest (t ∷ ts) [] same e = absurd (omega arith)
same_greatest (t ∷ ts) (u ∷ us) same e = ap Some (fold_max (total t.0) ts ∙ e ∙ sym (fold_max (total u.0) us))

-- The degree is the greatest total of the terms, in whatever order they are listed.
pub degree-terms_falling : {key : List ℕ → List ℕ} (O : IsMonomialOrder key) {F : Field} {f : Polynomial} → IsPolynomial F f
    → degree f ≡ reduce max (map (λ t. total t.0) (terms_falling key f))
unfolding degree terms_falling
degree-terms_falling {key} O {F} {f} P =
    ap (reduce max) (map-map total (λ t. t.0) (entries f))
    ∙ same_greatest (entries f) (sort_falling key (entries f)) (sym (len-entries f) ∙ sym (length-terms_falling O P)) (sym (greatest_sort key (entries f)))
