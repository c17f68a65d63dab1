-- Rows of cofactors entry by entry, as the code changes them.
use Rattle.std.proofs.Common.{◌≡◌, ℕ, zero, suc, ◌+◌, ◌^◌, ◌<◌, ◌≤◌, Option, Some, None, List, [], ◌∷◌, ◌++◌, nat_cmp, length, map, get_or, set, refl, sym, ap, ap₂, ◌∙◌, arith, add-one, eq-zero-or-pos, ⊎_elim}
use Rattle.std.specs.List.{flat_map}
use Rattle.std.specs.FinMap.{empty, entries, len-entries, len-empty}
use Rattle.std.specs.Cmp.Lexicographic.{slice_cmp}
use Rattle.std.proofs.lemmas.List.{get_or_default, nil_from_length}
use Rattle.fj_coeff.specs.Field.{Field, IsField}
use Rattle.fj_theory.specs.Exponents.{origin, plus, total}
use Rattle.fj_theory.specs.Polynomial.{Polynomial, IsPolynomial, coefficient, degree, sum, product, negation, term, with_coefficients, support}
use Rattle.fj_theory.specs.Ideal.{ArePolynomials}
use Rattle.fj_groebner.specs.Rows.{add_multiple}
use Rattle.fj_groebner.specs.Division.{DegreeAtMost}
use Rattle.fj_theory.proofs.Exponents.{IsExponents-origin}
use Rattle.fj_theory.proofs.Field.{one_below}
use Rattle.fj_theory.proofs.PolynomialRing.{sum_empty, product_comm, product_one, coefficient-negation, neg_zero_rank}
use Rattle.fj_theory.proofs.IdealBridge.{IsPolynomial-one, ArePolynomials-head, ArePolynomials-tail}
use Rattle.fj_theory.proofs.Degree.{degree-product, degree_attained}
use Rattle.fj_poly.specs.Limit.{IsHigh}
use Rattle.fj_poly.proofs.Limits.{low_degree, low_product_none, low_product_none_right}
use Rattle.fj_basis.proofs.Multiples.{product_term-negation}

nothing : (g : List ℕ → List (List ℕ)) → ((b : List ℕ) → g b ≡ []) → (xs : List (List ℕ)) → flat_map g xs ≡ []
nothing g e [] = refl
nothing g e (x ∷ xs) = ap₂ ◌++◌ (e x) (nothing g e xs)

support_empty : support empty ≡ []
support_empty = ap (map (λ (e : List ℕ × ℕ). e.0)) (nil_from_length (entries empty) (sym (len-entries empty) ∙ len-empty (slice_cmp nat_cmp) ℕ))

without : (c : List ℕ → ℕ) (xs : List (List ℕ)) → xs ≡ [] → with_coefficients c xs ≡ empty
unfolding with_coefficients
without c xs e = ap (with_coefficients c) e

-- A product with zero, of any maps.
pub times_empty : (F : Field) (f : Polynomial) → product F f empty ≡ empty
unfolding product
times_empty F f = without _ _ (nothing _ (λ b. ap (map (plus b)) support_empty) (support f))

pub empty_times : (F : Field) (g : Polynomial) → product F empty g ≡ empty
unfolding product
empty_times F g = without _ _ (ap (flat_map (λ b. map (plus b) (support g))) support_empty)

module _ (F : Field) (f : Polynomial) where
  -- The row xs with the multiples added to its first n entries.
  pub added : ℕ → List Polynomial → List Polynomial → List Polynomial
  added zero xs ys = xs
  added (suc n) [] ys = []
  added (suc n) (x ∷ xs) [] = x ∷ xs
  added (suc n) (x ∷ xs) (y ∷ ys) = sum F x (product F f y) ∷ added n xs ys

  pub added-none : (xs ys : List Polynomial) → added 0 xs ys ≡ xs
  unfolding added
  added-none xs ys = refl

  pub added-all : (n : ℕ) (xs ys : List Polynomial) → length xs ≤ n → added n xs ys ≡ add_multiple F f xs ys
  unfolding added add_multiple
  added-all zero [] ys l = refl
  added-all (suc n) [] ys l = refl
  added-all zero (x ∷ xs) ys l = absurd (omega (arith, l))
  added-all (suc n) (x ∷ xs) [] l = refl
  added-all (suc n) (x ∷ xs) (y ∷ ys) l = ap (λ zs. sum F x (product F f y) ∷ zs) (added-all n xs ys (omega (arith, l)))

  pub length-added : (n : ℕ) (xs ys : List Polynomial) → length (added n xs ys) ≡ length xs
  unfolding added
  length-added zero xs ys = refl
  length-added (suc n) [] ys = refl
  length-added (suc n) (x ∷ xs) [] = refl
  length-added (suc n) (x ∷ xs) (y ∷ ys) = ap suc (length-added n xs ys)

  added-set : (n : ℕ) (xs ys : List Polynomial) → n < length xs → length ys ≡ length xs
      → set (added n xs ys) n (sum F (get_or (added n xs ys) n empty) (product F f (get_or ys n empty))) ≡ added (n + 1) xs ys
  unfolding added
  added-set n [] ys l e = absurd (omega (arith, l))
  added-set n (x ∷ xs) [] l e = absurd (omega (arith, e))
  added-set zero (x ∷ xs) (y ∷ ys) l e = refl
  added-set (suc n) (x ∷ xs) (y ∷ ys) l e =
      ap (λ zs. sum F x (product F f y) ∷ zs) (added-set n xs ys (omega (arith, l)) (omega (arith, e)) ∙ ap (λ m. added m xs ys) (add-one n))
      ∙ ap (λ m. added m (x ∷ xs) (y ∷ ys)) (sym (add-one (suc n)))

  -- One entry more.
  pub added-more : (n : ℕ) (xs ys now new : List Polynomial) (d e value : Polynomial) → n < length xs → length ys ≡ length xs → now ≡ added n xs ys
      → value ≡ sum F (get_or now n d) (product F f (get_or ys n e)) → new ≡ set now n value → new ≡ added (n + 1) xs ys
  added-more n xs ys now new d e value l long is sums changed =
      let all = length-added n xs ys in
      let here : get_or now n d ≡ get_or (added n xs ys) n empty = ap (λ zs. get_or zs n d) is ∙ get_or_default (added n xs ys) n d empty (omega (arith, l, all)) in
      let there : get_or ys n e ≡ get_or ys n empty = get_or_default ys n e empty (omega (arith, l, long)) in
      changed ∙ ap₂ (λ zs v. set zs n v) is (sums ∙ ap₂ (λ a b. sum F a (product F f b)) here there) ∙ added-set n xs ys l long

module _ {F : Field} (L : IsField F) where
  -- Where the other entry is zero, nothing is added.
  pub added-zero : (f : Polynomial) (n : ℕ) (xs ys : List Polynomial) → n < length xs → length ys ≡ length xs → ArePolynomials F xs → get_or ys n empty ≡ empty
      → added F f n xs ys ≡ added F f (n + 1) xs ys
  unfolding added
  added-zero f n [] ys l e A z = absurd (omega (arith, l))
  added-zero f n (x ∷ xs) [] l e A z = absurd (omega (arith, e))
  added-zero f zero (x ∷ xs) (y ∷ ys) l e A z = ap (λ v. v ∷ xs) (sym (ap (λ g. sum F x (product F f g)) z ∙ ap (sum F x) (times_empty F f) ∙ sum_empty L (ArePolynomials-head A)))
  added-zero f (suc n) (x ∷ xs) (y ∷ ys) l e A z =
      ap (λ zs. sum F x (product F f y) ∷ zs) (added-zero f n xs ys (omega (arith, l)) (omega (arith, e)) (ArePolynomials-tail A) z ∙ ap (λ m. added F f m xs ys) (add-one n))
      ∙ ap (λ m. added F f m (x ∷ xs) (y ∷ ys)) (sym (add-one (suc n)))

  -- The negative is the product with the negative of one.
  pub scale-negation : {f : Polynomial} → IsPolynomial F f → product F (term (F.neg 1) origin) f ≡ negation F f
  scale-negation P = product_term-negation L P 1 (one_below L) IsExponents-origin ∙ ap (negation F) (product_comm L (IsPolynomial-one L) P ∙ product_one L P)

  -- A product of polynomials of bounded degree isn't high.
  pub product-low : {f g : Polynomial} → IsPolynomial F f → IsPolynomial F g → (n : ℕ) → ((a : List ℕ) → 0 < coefficient f a → total a + n ≤ 2 ^ 40) → DegreeAtMost n g
      → IsHigh (product F f g) → ⊥
  product-low {f} {g} P Q n low within = by (degree f) (degree g) refl refl
    where
      by : (o u : Option ℕ) → degree f ≡ o → degree g ≡ u → IsHigh (product F f g) → ⊥
      by None u d e = low_product_none L P Q d
      by (Some m) None d e = low_product_none_right L P Q e
      by (Some m) (Some k) d e =
          let top = degree_attained L P d in
          let other = degree_attained L Q e in
          let bound = low top.0 top.2 in
          let its = within.within other.0 other.2 in
          let is = top.3 in
          let its_is = other.3 in
          low_degree _ (degree-product L P Q d e) (omega (arith, bound, its, is, its_is))

  pub negation-positive : (f : Polynomial) (a : List ℕ) → 0 < coefficient (negation F f) a → 0 < coefficient f a
  negation-positive f a p =
      ⊎_elim (λ z. let none = coefficient-negation L f a ∙ ap F.neg z ∙ neg_zero_rank L in absurd (omega (arith, none, p))) (λ q. q) (eq-zero-or-pos (coefficient f a))

  pub negation-empty : negation F empty ≡ empty
  unfolding negation
  negation-empty = without _ _ support_empty
