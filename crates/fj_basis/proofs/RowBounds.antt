-- Bounds of the totals of the terms in rows of cofactors.
use Rattle.std.proofs.Common.{◌≡◌, ◌⊎◌, Bool, true, false, cond, ℕ, ◌+◌, ◌<◌, ◌≤◌, Option, Some, None, List, [], ◌∷◌, All, refl, sym, ap, ap₂, ◌∙◌, subst, arith, eq-zero-or-pos, ⊎_elim, inl, inr}
use Rattle.std.specs.FinMap.{empty}
use Rattle.std.proofs.lemmas.List.Elements.{All-cons, All-head, All-tail}
use Rattle.fj_coeff.specs.Field.{Field, IsField}
use Rattle.fj_theory.proofs.OrderedPolynomials.{exponents_of}
use Rattle.fj_theory.specs.Exponents.{total}
use Rattle.fj_theory.specs.Polynomial.{Polynomial, IsPolynomial, coefficient, degree, product, sum, term}
use Rattle.fj_theory.specs.Ideal.{ArePolynomials}
use Rattle.fj_groebner.specs.Rows.{add_multiple}
use Rattle.fj_groebner.specs.Division.{DegreeAtMost}
use Rattle.fj_theory.proofs.Degree.{degree-product, degree_attained, degree_bounds, empty_from_degree}
use Rattle.fj_theory.proofs.Field.{zero_below}
use Rattle.fj_theory.proofs.IdealBridge.{over, ArePolynomials-head, ArePolynomials-tail}
use Rattle.fj_theory.proofs.FormalSum.{same, same_true}
use Rattle.fj_theory.proofs.Polynomial.{coefficient-empty, coefficient-sum, coefficient-term}
use Rattle.fj_theory.proofs.Product.{IsPolynomial-product}
use Rattle.fj_basis.proofs.Rows.{times_empty, empty_times}

pub term-positive : (c : ℕ) (a b : List ℕ) → 0 < coefficient (term c a) b → b ≡ a
term-positive c a b p = by (same b a) refl
  where
    by : (t : Bool) → same b a ≡ t → b ≡ a
    by true e = same_true b a e
    by false e = let none = coefficient-term c a b ∙ ap (λ t. cond t c 0) e in absurd (omega (arith, none, p))

pub DegreeAtMost-empty : (n : ℕ) → DegreeAtMost n empty
DegreeAtMost-empty n = record { within = λ a p. let none = coefficient-empty a in absurd (omega (arith, none, p)) }

pub DegreeAtMost-term : (n c : ℕ) (a : List ℕ) → total a ≤ n → DegreeAtMost n (term c a)
DegreeAtMost-term n c a l = record { within = λ b p. let e = ap total (term-positive c a b p) in omega (arith, e, l) }

module _ {F : Field} (L : IsField F) where
  -- A coefficient of a sum that isn't zero comes from one of the two.
  pub sum-positive : (f g : Polynomial) (a : List ℕ) → 0 < coefficient (sum F f g) a → (0 < coefficient f a) ⊎ (0 < coefficient g a)
  sum-positive f g a p = by (eq-zero-or-pos (coefficient f a)) (eq-zero-or-pos (coefficient g a))
    where
      by : (coefficient f a ≡ 0) ⊎ (0 < coefficient f a) → (coefficient g a ≡ 0) ⊎ (0 < coefficient g a) → (0 < coefficient f a) ⊎ (0 < coefficient g a)
      by (inr q) o = inl q
      by (inl z) (inr q) = inr q
      by (inl z) (inl w) =
          let none = coefficient-sum L f g a ∙ ap₂ F.add z w ∙ L.add_zero 0 (zero_below L) in
          absurd (omega (arith, none, p))

  pub DegreeAtMost-sum : {f g : Polynomial} (n : ℕ) → DegreeAtMost n f → DegreeAtMost n g → DegreeAtMost n (sum F f g)
  DegreeAtMost-sum {f} {g} n A B = record { within = λ a p. ⊎_elim (λ q. A.within a q) (λ q. B.within a q) (sum-positive f g a p) }

  -- A product, where the totals of the one factor leave room for the bound of the other.
  pub DegreeAtMost-product : {f g : Polynomial} → IsPolynomial F f → IsPolynomial F g → (m n : ℕ) → ((a : List ℕ) → 0 < coefficient f a → total a + m ≤ n) → DegreeAtMost m g
      → DegreeAtMost n (product F f g)
  DegreeAtMost-product {f} {g} P Q m n low within = by (degree f) (degree g) refl refl
    where
      by : (o u : Option ℕ) → degree f ≡ o → degree g ≡ u → DegreeAtMost n (product F f g)
      by None u d e = subst (DegreeAtMost n) (sym (ap (λ h. product F h g) (empty_from_degree L P d) ∙ empty_times F g)) (DegreeAtMost-empty n)
      by (Some k) None d e = subst (DegreeAtMost n) (sym (ap (product F f) (empty_from_degree L Q e) ∙ times_empty F f)) (DegreeAtMost-empty n)
      by (Some k) (Some l) d e =
          let top = degree_attained L P d in
          let other = degree_attained L Q e in
          let bound = low top.0 top.2 in
          let its = within.within other.0 other.2 in
          let is = top.3 in
          let its_is = other.3 in
          let R = IsPolynomial-product L P Q in
          record {
            within = λ a p. let whole = degree_bounds L R (degree-product L P Q d e) a (exponents_of L (over R) a p) p in omega (arith, whole, bound, its, is, its_is);
          }

  -- A row with a multiple of another one added.
  pub DegreeAtMost-add_multiple : {f : Polynomial} → IsPolynomial F f → (m n : ℕ) → ((a : List ℕ) → 0 < coefficient f a → total a + m ≤ n) → (xs ys : List Polynomial)
      → ArePolynomials F ys → All (DegreeAtMost n) xs → All (DegreeAtMost m) ys → All (DegreeAtMost n) (add_multiple F f xs ys)
  unfolding add_multiple
  DegreeAtMost-add_multiple P m n low [] ys Q A B = A
  DegreeAtMost-add_multiple P m n low (x ∷ xs) [] Q A B = A
  DegreeAtMost-add_multiple {f} P m n low (x ∷ xs) (y ∷ ys) Q A B =
      All-cons (DegreeAtMost n) (sum F x (product F f y)) (add_multiple F f xs ys)
      (DegreeAtMost-sum n (All-head (DegreeAtMost n) x xs A) (DegreeAtMost-product P (ArePolynomials-head Q) m n low (All-head (DegreeAtMost m) y ys B)))
      (DegreeAtMost-add_multiple P m n low xs ys (ArePolynomials-tail Q) (All-tail (DegreeAtMost n) x xs A) (All-tail (DegreeAtMost m) y ys B))
