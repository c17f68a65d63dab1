-- Laws of rows of cofactors: what is made of polynomials is made of their rows.
use Rattle.std.proofs.Common.{◌<◌, get_or, set, ◌≡◌, ℕ, suc, zero, List, [], ◌∷◌, length, replicate, refl, sym, ap, ap₂, ◌∙◌, subst, arith, map, All, ◌≢◌}
use Rattle.std.proofs.lemmas.List.{length-map}
use Rattle.std.specs.FinMap.{empty}
use Rattle.fj_coeff.specs.Field.{Field, IsField}
use Rattle.fj_algebra.specs.Ring.{CommutativeRing}
use Rattle.fj_algebra.specs.Ideal as ring_ideal
use Rattle.fj_algebra.proofs.Ring.{ring_laws}
use Rattle.fj_theory.specs.Polynomial.{difference, Polynomial, IsPolynomial, sum, product, negation}
use Rattle.fj_theory.specs.Ideal.{ArePolynomials, list_combination}
use Rattle.fj_groebner.specs.Rows.{add_multiple, add_multiples, product_of_rows, IsRow, AreRows}
use Rattle.fj_theory.specs.MonomialOrder.{IsMonomialOrder}
use Rattle.fj_groebner.specs.Division.{Sugared, polynomials_of, Division, IsDivision}
use Rattle.fj_groebner.proofs.Division.{IsDivision-quotients, IsDivision-remainder}
use Rattle.fj_theory.proofs.Polynomial.{IsPolynomial-empty, IsPolynomial-sum}
use Rattle.fj_theory.proofs.Product.{IsPolynomial-product}
use Rattle.fj_theory.proofs.PolynomialRing.{sum_comm, product_comm, product_empty, sum_empty, sum_assoc, PolynomialOver, polynomial_ring, map_add, map_mul, map_neg, IsPolynomial-negation}
use Rattle.fj_theory.proofs.IdealBridge.{InRing, over, maps, in_ring, ArePolynomials-nil, ArePolynomials-cons, ArePolynomials-head, ArePolynomials-tail, list_combination_map}

no_sign : {A : Type 0} (R : CommutativeRing A) → R.zero ≡ R.neg R.zero
no_sign R = simp ring_laws

one_sign : {A : Type 0} (R : CommutativeRing A) (c g X : A) → R.add (R.mul (R.neg c) g) (R.neg X) ≡ R.neg (R.add (R.mul c g) X)
one_sign R c g X = simp ring_laws

none : {A : Type 0} (R : CommutativeRing A) (f : A) → R.zero ≡ R.add R.zero (R.mul f R.zero)
none R f = simp ring_laws

one_more : {A : Type 0} (R : CommutativeRing A) (f x y g X Y : A)
    → R.add (R.mul (R.add x (R.mul f y)) g) (R.add X (R.mul f Y)) ≡ R.add (R.add (R.mul x g) X) (R.mul f (R.add (R.mul y g) Y))
one_more R f x y g X Y = simp ring_laws

module _ {F : Field} (L : IsField F) where
  -- A row with a multiple of another one added.
  add_over : PolynomialOver F → List (PolynomialOver F) → List (PolynomialOver F) → List (PolynomialOver F)
  add_over f [] ys = []
  add_over f (x ∷ xs) [] = x ∷ xs
  add_over f (x ∷ xs) (y ∷ ys) = (polynomial_ring L).add x ((polynomial_ring L).mul f y) ∷ add_over f xs ys

  add_over-maps : (f : PolynomialOver F) (xs ys : List (PolynomialOver F)) → maps (add_over f xs ys) ≡ add_multiple F f.map (maps xs) (maps ys)
  unfolding add_over add_multiple
  add_over-maps f [] ys = refl
  add_over-maps f (x ∷ xs) [] = refl
  add_over-maps f (x ∷ xs) (y ∷ ys) = ap₂ ◌∷◌ (map_add L x _ ∙ ap (sum F x.map) (map_mul L f y)) (add_over-maps f xs ys)

  add_over-combination : (f : PolynomialOver F) (xs ys N : List (PolynomialOver F)) → length xs ≡ length ys
      → ring_ideal.list_combination (polynomial_ring L) (add_over f xs ys) N
      ≡ (polynomial_ring L).add (ring_ideal.list_combination (polynomial_ring L) xs N) ((polynomial_ring L).mul f (ring_ideal.list_combination (polynomial_ring L) ys N))
  unfolding add_over
  add_over-combination f [] [] N e = none (polynomial_ring L) f
  add_over-combination f [] (y ∷ ys) N e = absurd (omega (arith, e))
  add_over-combination f (x ∷ xs) [] N e = absurd (omega (arith, e))
  add_over-combination f (x ∷ xs) (y ∷ ys) [] e = none (polynomial_ring L) f
  add_over-combination f (x ∷ xs) (y ∷ ys) (g ∷ N) e =
      let R = polynomial_ring L in
      ap (R.add (R.mul (R.add x (R.mul f y)) g)) (add_over-combination f xs ys N (omega (arith, e))) ∙ one_more R f x y g _ _

  pub IsPolynomial-list_combination : {cs N : List Polynomial} → ArePolynomials F cs → ArePolynomials F N → IsPolynomial F (list_combination F cs N)
  IsPolynomial-list_combination C A =
      let X = in_ring C in
      let Y = in_ring A in
      subst (IsPolynomial F) (list_combination_map L X.list Y.list
      ∙ ap₂ (list_combination F) X.are Y.are) (ring_ideal.list_combination (polynomial_ring L) X.list Y.list).is_polynomial

  ArePolynomials-add_multiple : {f : Polynomial} → IsPolynomial F f → (xs ys : List Polynomial) → ArePolynomials F xs → ArePolynomials F ys
      → ArePolynomials F (add_multiple F f xs ys)
  unfolding add_multiple
  ArePolynomials-add_multiple P [] ys A B = A
  ArePolynomials-add_multiple P (x ∷ xs) [] A B = A
  ArePolynomials-add_multiple P (x ∷ xs) (y ∷ ys) A B =
      ArePolynomials-cons (IsPolynomial-sum L (ArePolynomials-head A) (IsPolynomial-product L P (ArePolynomials-head B)))
      (ArePolynomials-add_multiple P xs ys (ArePolynomials-tail A) (ArePolynomials-tail B))

  length-add_multiple : (f : Polynomial) (xs ys : List Polynomial) → length (add_multiple F f xs ys) ≡ length xs
  unfolding add_multiple
  length-add_multiple f [] ys = refl
  length-add_multiple f (x ∷ xs) [] = refl
  length-add_multiple f (x ∷ xs) (y ∷ ys) = ap suc (length-add_multiple f xs ys)

  module _ {N : List Polynomial} (A : ArePolynomials F N) where
    -- The combination with a sum of rows.
    pub list_combination-add_multiple : {f : Polynomial} {xs ys : List Polynomial} → IsPolynomial F f → ArePolynomials F xs → ArePolynomials F ys → length xs ≡ length ys
        → list_combination F (add_multiple F f xs ys) N ≡ sum F (list_combination F xs N) (product F f (list_combination F ys N))
    list_combination-add_multiple {f} {xs} {ys} P B C e =
        let X = in_ring B in
        let Y = in_ring C in
        let Z = in_ring A in
        let lc : List (PolynomialOver F) → PolynomialOver F = λ cs. ring_ideal.list_combination (polynomial_ring L) cs Z.list in
        let is : (W : InRing F xs) → (lc W.list).map ≡ list_combination F xs N = (λ W. list_combination_map L W.list Z.list ∙ ap₂ (list_combination F) W.are Z.are) in
        sym (list_combination_map L (add_over (over P) X.list Y.list) Z.list
        ∙ ap₂ (list_combination F) (add_over-maps (over P) X.list Y.list ∙ ap₂ (add_multiple F f) X.are Y.are) Z.are)
        ∙ ap (λ g. g.map) (add_over-combination (over P) X.list Y.list Z.list (same_length X Y e))
        ∙ map_add L (lc X.list) _
        ∙ ap₂ (sum F) (is X) (map_mul L (over P) (lc Y.list) ∙ ap (product F f) (list_combination_map L Y.list Z.list ∙ ap₂ (list_combination F) Y.are Z.are))
      where
        same_length : (X : InRing F xs) (Y : InRing F ys) → length xs ≡ length ys → length X.list ≡ length Y.list
        same_length X Y e = sym (length-map X.list (λ g. g.map)) ∙ ap length X.are ∙ e ∙ ap length (sym Y.are) ∙ length-map Y.list (λ g. g.map)

    IsRow-polynomial : {a : Polynomial} {row : List Polynomial} → IsRow F N a row → IsPolynomial F a
    IsRow-polynomial r = subst (IsPolynomial F) (sym r.is) (IsPolynomial-list_combination r.polynomials A)

    -- The row of a sum with a multiple.
    pub IsRow-add_multiple : {f a b : Polynomial} {xs ys : List Polynomial} → IsPolynomial F f → IsRow F N a xs → IsRow F N b ys
        → IsRow F N (sum F a (product F f b)) (add_multiple F f xs ys)
    IsRow-add_multiple {f} {a} {b} {xs} {ys} P r s = record {
      polynomials = ArePolynomials-add_multiple P xs ys r.polynomials s.polynomials;
      long = length-add_multiple f xs ys ∙ r.long;
      is = ap₂ (λ x y. sum F x (product F f y)) r.is s.is ∙ sym (list_combination-add_multiple P r.polynomials s.polynomials (r.long ∙ sym s.long));
    }

    rows_polynomials : (G : List Polynomial) (rows : List (List Polynomial)) → AreRows F N G rows → ArePolynomials F G
    unfolding AreRows
    rows_polynomials [] [] all = ArePolynomials-nil
    rows_polynomials [] (row ∷ rows) all = absurd all
    rows_polynomials (g ∷ G) [] all = absurd all
    rows_polynomials (g ∷ G) (row ∷ rows) all = ArePolynomials-cons (IsRow-polynomial all.0) (rows_polynomials G rows all.1)

    -- The row of a sum with a combination, from the rows of its list.
    pub IsRow-add_multiples : (fs G : List Polynomial) (rows : List (List Polynomial)) {a : Polynomial} {first : List Polynomial} → ArePolynomials F fs
        → AreRows F N G rows → IsRow F N a first
        → IsRow F N (sum F a (list_combination F fs G)) (add_multiples F fs rows first)
    unfolding add_multiples AreRows list_combination
    IsRow-add_multiples [] G rows {first = first} B all r = subst (λ f. IsRow F N f first) (sym (sum_empty L (IsRow-polynomial r))) r
    IsRow-add_multiples (f ∷ fs) [] [] {first = first} B all r = subst (λ f. IsRow F N f first) (sym (sum_empty L (IsRow-polynomial r))) r
    IsRow-add_multiples (f ∷ fs) [] (row ∷ rows) B all r = absurd all
    IsRow-add_multiples (f ∷ fs) (g ∷ G) [] B all r = absurd all
    IsRow-add_multiples (f ∷ fs) (g ∷ G) (row ∷ rows) {first = first} B all r =
        let P = ArePolynomials-head B in
        let one = IsRow-add_multiple P r all.0 in
        subst (λ h. IsRow F N h (add_multiples F fs rows (add_multiple F f first row)))
        (sum_assoc L (IsRow-polynomial r) (IsPolynomial-product L P (IsRow-polynomial all.0)) (IsPolynomial-list_combination (ArePolynomials-tail B) (rows_polynomials G rows all.1)))
        (IsRow-add_multiples fs G rows (ArePolynomials-tail B) all.1 one)

  -- The row of zero.
  pub IsRow-zero : (N : List Polynomial) → ArePolynomials F N → IsRow F N empty (replicate (length N) empty)
  unfolding list_combination
  IsRow-zero [] A = record { polynomials = ArePolynomials-nil; long = refl; is = refl }
  IsRow-zero (g ∷ N) A =
      let G = ArePolynomials-head A in
      let rest = IsRow-zero N (ArePolynomials-tail A) in
      record {
        polynomials = ArePolynomials-cons (IsPolynomial-empty F) rest.polynomials;
        long = ap suc rest.long;
        is = sym (ap₂ (sum F) (product_comm L (IsPolynomial-empty F) G ∙ product_empty L G) (sym rest.is) ∙ sum_empty L (IsPolynomial-empty F));
      }

  -- Of a list G whose rows over N are given: the row over N of a combination of G, and the rows over N of combinations of G,
  -- the product of the tables.
  module _ {N : List Polynomial} (A : ArePolynomials F N) (G : List Polynomial) (rows : List (List Polynomial)) (all : AreRows F N G rows) where
    pub IsRow-combination : {h : Polynomial} {fs : List Polynomial} → IsRow F G h fs → IsRow F N h (add_multiples F fs rows (replicate (length N) empty))
    IsRow-combination {h} {fs} r =
        let P = IsPolynomial-list_combination r.polynomials (rows_polynomials A G rows all) in
        subst (λ f. IsRow F N f (add_multiples F fs rows (replicate (length N) empty)))
        (sum_comm L (IsPolynomial-empty F) P ∙ sum_empty L P ∙ sym r.is)
        (IsRow-add_multiples A fs G rows r.polynomials all (IsRow-zero N A))

    pub AreRows-product : (H : List Polynomial) (factors : List (List Polynomial)) → AreRows F G H factors → AreRows F N H (product_of_rows F (length N) factors rows)
    unfolding AreRows
    AreRows-product [] [] there = tt
    AreRows-product [] (fs ∷ factors) there = absurd there
    AreRows-product (h ∷ H) [] there = absurd there
    AreRows-product (h ∷ H) (fs ∷ factors) there = (IsRow-combination there.0, AreRows-product H factors there.1)

  -- The row of a multiple of one polynomial of the list.
  pub IsRow-one : {c : Polynomial} → IsPolynomial F c → (N : List Polynomial) (j : ℕ) → ArePolynomials F N → j < length N
      → IsRow F N (product F c (get_or N j empty)) (set (replicate (length N) empty) j c)
  unfolding list_combination
  IsRow-one C [] j A l = absurd (omega (arith, l))
  IsRow-one {c} C (g ∷ N) zero A l =
      let G = ArePolynomials-head A in
      let rest = IsRow-zero N (ArePolynomials-tail A) in
      record {
        polynomials = ArePolynomials-cons C rest.polynomials;
        long = ap suc rest.long;
        is = sym (ap (sum F (product F c g)) (sym rest.is) ∙ sum_empty L (IsPolynomial-product L C G));
      }
  IsRow-one {c} C (g ∷ N) (suc j) A l =
      let G = ArePolynomials-head A in
      let rest = IsRow-one C N j (ArePolynomials-tail A) (omega (arith, l)) in
      let P = IsRow-polynomial (ArePolynomials-tail A) rest in
      record {
        polynomials = ArePolynomials-cons (IsPolynomial-empty F) rest.polynomials;
        long = ap suc rest.long;
        is = sym (ap₂ (sum F) (product_comm L (IsPolynomial-empty F) G ∙ product_empty L G) (sym rest.is) ∙ sum_comm L (IsPolynomial-empty F) P ∙ sum_empty L P);
      }

  negated : (cs N : List (PolynomialOver F)) → ring_ideal.list_combination (polynomial_ring L) (map (polynomial_ring L).neg cs) N ≡ (polynomial_ring L).neg (ring_ideal.list_combination (polynomial_ring L) cs N)
  negated [] N = no_sign (polynomial_ring L)
  negated (c ∷ cs) [] = no_sign (polynomial_ring L)
  negated (c ∷ cs) (g ∷ N) = ap ((polynomial_ring L).add ((polynomial_ring L).mul ((polynomial_ring L).neg c) g)) (negated cs N) ∙ one_sign (polynomial_ring L) c g _

  negated-maps : (cs : List (PolynomialOver F)) → maps (map (polynomial_ring L).neg cs) ≡ map (negation F) (maps cs)
  negated-maps [] = refl
  negated-maps (c ∷ cs) = ap₂ ◌∷◌ (map_neg L c) (negated-maps cs)

  -- The combination with the opposite row.
  pub list_combination-negation : {cs N : List Polynomial} → ArePolynomials F cs → ArePolynomials F N
      → list_combination F (map (negation F) cs) N ≡ negation F (list_combination F cs N)
  list_combination-negation {cs} {N} C A =
      let X = in_ring C in
      let Y = in_ring A in
      let R = polynomial_ring L in
      sym (list_combination_map L (map R.neg X.list) Y.list ∙ ap₂ (list_combination F) (negated-maps X.list ∙ ap (map (negation F)) X.are) Y.are)
      ∙ ap (λ g. g.map) (negated X.list Y.list) ∙ map_neg L (ring_ideal.list_combination R X.list Y.list)
      ∙ ap (negation F) (list_combination_map L X.list Y.list ∙ ap₂ (list_combination F) X.are Y.are)

  ArePolynomials-negation : (cs : List Polynomial) → ArePolynomials F cs → ArePolynomials F (map (negation F) cs)
  ArePolynomials-negation [] A = ArePolynomials-nil
  ArePolynomials-negation (c ∷ cs) A = ArePolynomials-cons (IsPolynomial-negation L (ArePolynomials-head A)) (ArePolynomials-negation cs (ArePolynomials-tail A))

  -- The row of a remainder, from the rows of the members and of the dividend.
  pub IsRow-remainder : {key : List ℕ → List ℕ} → IsMonomialOrder key → (G : List Sugared) → ArePolynomials F (polynomials_of G) → All (λ g. g ≢ empty) (polynomials_of G)
      → {h : Sugared} {last : Division}
      → IsPolynomial F h.polynomial → IsDivision F key G h last → {N : List Polynomial} → ArePolynomials F N → (rows : List (List Polynomial)) {row : List Polynomial}
      → AreRows F N (polynomials_of G) rows → IsRow F N h.polynomial row → IsRow F N last.remainder (add_multiples F (map (negation F) last.quotients) rows row)
  unfolding difference
  IsRow-remainder K G A some {h} {last} H D {N} B rows {row} all r =
      let Q = IsDivision-quotients K L G A some H D in
      subst (λ f. IsRow F N f (add_multiples F (map (negation F) last.quotients) rows row))
      (ap (sum F h.polynomial) (list_combination-negation Q A) ∙ sym (IsDivision-remainder K L G A some H D))
      (IsRow-add_multiples B (map (negation F) last.quotients) (polynomials_of G) rows (ArePolynomials-negation last.quotients Q) all r)
