-- The ideal of a point: a polynomial is in it exactly where it is zero at the point.
use Rattle.std.proofs.Common.{◌≡◌, ◌≢◌, ◌↔◌, ℕ, zero, suc, ◌-◌, ◌<◌, ◌≤◌, ◌⊎◌, inl, inr, false, cond, List, [], ◌∷◌, length, get_or, set, replicate, All, refl, sym, ap, ap₂, ◌∙◌, subst, arith, eq-zero-or-pos, get_or-set_other}
use Rattle.std.specs.List.{range_with_len}
use Rattle.std.specs.FinMap.{empty}
use Rattle.std.proofs.Math.Decide.{dec_le}
use Rattle.std.proofs.lemmas.List.{length-set}
use Rattle.std.proofs.lemmas.List.Elements.{All-head, All-tail, All-map}
use Rattle.std.proofs.lemmas.List.FromFn.{length-range_with_len, get_or-range_with_len, length-map-range_with_len, get_or-map-range_with_len}
use Rattle.fj_coeff.specs.Field as field
use Rattle.fj_coeff.specs.Field.{Field, IsField}
use Rattle.fj_algebra.specs.Ring.{CommutativeRing, subtract}
use Rattle.fj_algebra.proofs.Ring.{ring_laws}
use Rattle.fj_theory.specs.Exponents.{IsExponents, origin, plus, total}
use Rattle.fj_theory.specs.Polynomial.{difference, Polynomial, IsPolynomial, coefficient, sum, product, term}
use Rattle.fj_theory.specs.Ideal.{ArePolynomials, Member}
use Rattle.fj_theory.specs.Evaluation.{IsPoint, monomial_value, value, IsZeroOf}
use Rattle.fj_theory.specs.PointIdeal.{variable_exponents, less_coordinate, point_ideal, UsesFirst}
use Rattle.fj_theory.proofs.Exponents.{cons_same, total-cons, IsExponents-origin, origin_from_total, plus_origin, origin_plus}
use Rattle.fj_theory.proofs.Field.{zero_below, one_below}
use Rattle.fj_theory.proofs.PolynomialRing.{map_subtract, polynomial_ring, map_zero, map_add, map_mul, IsPolynomial-negation, sum_negation}
use Rattle.fj_theory.proofs.IdealBridge.{over}
use Rattle.fj_theory.proofs.Ideal.{Member-Contains, Member-empty, Member-sum, Member-product}
use Rattle.fj_theory.proofs.Polynomial.{coefficient_below, coefficient-sum, coefficient-term, IsPolynomial-empty, IsPolynomial-term, IsPolynomial-sum}
use Rattle.fj_theory.proofs.FormalSum.{same, same_itself, same_false}
use Rattle.fj_theory.proofs.Monomial.{product_terms, sum_terms, term_zero, polynomial_induction}
use Rattle.fj_theory.proofs.Variables.{zeros_plus, IsExponents-variable}
use Rattle.fj_theory.proofs.Evaluation.{value_below, value-empty, value-one, value-sum, value-term, value-negation, Member-IsZeroOf, monomial_value-zeros, monomial_value-origin, monomial_value-plus, monomial_value_below}

-- Either all exponents are zero, or one is not.
find_positive : (a : List ℕ) → (total a ≡ 0) ⊎ ((i : ℕ) × (i < length a) × (0 < get_or a i 0))
find_positive [] = inl refl
find_positive (k ∷ a) = by (eq-zero-or-pos k) (find_positive a)
  where
    by : (k ≡ 0) ⊎ (0 < k) → (total a ≡ 0) ⊎ ((i : ℕ) × (i < length a) × (0 < get_or a i 0)) → (total (k ∷ a) ≡ 0) ⊎ ((i : ℕ) × (i < suc (length a)) × (0 < get_or (k ∷ a) i 0))
    by (inr h) rest = inr (0, omega arith, h)
    by (inl z) (inl s) = inl (total-cons k a ∙ omega arith)
    by (inl z) (inr found) = inr (suc found.0, omega (arith, found.1), found.2)

-- One less at the place i.
lower : List ℕ → ℕ → List ℕ
lower a i = set a i (get_or a i 0 - 1)

split_at : (a : List ℕ) (i : ℕ) → 0 < get_or a i 0 → plus (set (replicate (length a) 0) i 1) (lower a i) ≡ a
unfolding lower plus
split_at [] i h = absurd (omega arith)
split_at (k ∷ a) zero h = cons_same (omega arith) (zeros_plus a)
split_at (k ∷ a) (suc i) h = cons_same (omega arith) (split_at a i h)

total_lower : (a : List ℕ) (i : ℕ) → 0 < get_or a i 0 → total a ≡ suc (total (lower a i))
unfolding lower
total_lower [] i h = absurd (omega arith)
total_lower (k ∷ a) zero h = let s = total-cons k a in let t = total-cons (k - 1) a in omega arith
total_lower (k ∷ a) (suc i) h =
    let rest : total a ≡ suc (total (set a i (get_or a i 0 - 1))) = total_lower a i h in
    let s = total-cons k a in
    let t = total-cons k (set a i (get_or a i 0 - 1)) in
    omega arith

lower_positive : (n : ℕ) (a : List ℕ) (i : ℕ) → ((j : ℕ) → n ≤ j → get_or a j 0 ≡ 0) → 0 < get_or a i 0 → i < n
lower_positive n a i later h = elim (dec_le n i) [ yes g ↦ let z = later i g in absurd (omega arith) | no g ↦ omega arith ]

lower_later : (n : ℕ) (a : List ℕ) (i : ℕ) → i < n → ((j : ℕ) → n ≤ j → get_or a j 0 ≡ 0) → (j : ℕ) → n ≤ j → get_or (lower a i) j 0 ≡ 0
unfolding lower
lower_later n a i h later j g = let apart : j ≢ i = omega arith in get_or-set_other a i j _ 0 apart ∙ later j g

IsExponents-lower : {a : List ℕ} → IsExponents a → (i : ℕ) → IsExponents (lower a i)
unfolding lower
IsExponents-lower {a} A i = record { eight = length-set a i _ ∙ A.eight }

variable_plus_lower : {a : List ℕ} → IsExponents a → (i : ℕ) → 0 < get_or a i 0 → plus (variable_exponents i) (lower a i) ≡ a
unfolding variable_exponents origin
variable_plus_lower {a} A i h = ap (λ k. plus (set (replicate k 0) i 1) (lower a i)) (sym A.eight) ∙ split_at a i h

-- The constant polynomials.
abbrev constant : ℕ → Polynomial
constant c = term c origin

-- Differences of products and of sums.
ring_product : {A : Type 0} (R : CommutativeRing A) (x t c m : A) → subtract R (R.mul x t) (R.mul c m) ≡ R.add (R.mul x (subtract R t m)) (R.mul m (subtract R x c))
ring_product R x t c m = simp ring_laws

ring_sum : {A : Type 0} (R : CommutativeRing A) (c x m f v : A) → subtract R (R.add (R.mul c x) f) (R.add (R.mul c m) v) ≡ R.add (R.mul c (subtract R x m)) (subtract R f v)
ring_sum R c x m f v = simp ring_laws

ring_zero : {A : Type 0} (R : CommutativeRing A) (x : A) → subtract R x R.zero ≡ x
ring_zero R x = simp ring_laws

module _ {F : Field} (L : IsField F) where
  coordinate_below : (point : List ℕ) → All (λ x. x < F.size) point → (i : ℕ) → get_or point i 0 < F.size
  coordinate_below [] all i = zero_below L
  coordinate_below (x ∷ point) all zero = All-head (λ x. x < F.size) x point all
  coordinate_below (x ∷ point) all (suc i) = coordinate_below point (All-tail (λ x. x < F.size) x point all) i

  one_mul : (c : ℕ) → c < F.size → F.mul 1 c ≡ c
  one_mul c h = L.mul_comm 1 c (one_below L) h ∙ L.mul_one c h

  monomial_value-variable : (m i : ℕ) (point : List ℕ) → i < m → All (λ x. x < F.size) point → monomial_value F (set (replicate m 0) i 1) point ≡ get_or point i 0
  unfolding monomial_value field.power
  monomial_value-variable zero i point h all = absurd (omega arith)
  monomial_value-variable (suc m) zero [] h all = ap₂ F.mul (L.mul_one 0 (zero_below L)) (monomial_value-zeros L m []) ∙ L.mul_one 0 (zero_below L)
  monomial_value-variable (suc m) zero (x ∷ point) h all =
      let b = All-head (λ x. x < F.size) x point all in
      ap₂ F.mul (L.mul_one x b) (monomial_value-zeros L m point) ∙ L.mul_one x b
  monomial_value-variable (suc m) (suc i) [] h all = ap (F.mul 1) (monomial_value-variable m i [] (omega arith) all) ∙ one_mul 0 (zero_below L)
  monomial_value-variable (suc m) (suc i) (x ∷ point) h all =
      let rest = All-tail (λ x. x < F.size) x point all in
      ap (F.mul 1) (monomial_value-variable m i point (omega arith) rest) ∙ one_mul _ (coordinate_below point rest i)

  difference_self : {f : Polynomial} → IsPolynomial F f → difference F f f ≡ empty
  unfolding difference
  difference_self P = sum_negation L P

  difference_empty : {f : Polynomial} → IsPolynomial F f → difference F f empty ≡ f
  difference_empty {f} P =
      let R = polynomial_ring L in
      sym (map_subtract L (over P) R.zero ∙ ap (difference F f) (map_zero L)) ∙ ap (λ h. h.map) (ring_zero R (over P))

  difference_product : {x t c m : Polynomial} → IsPolynomial F x → IsPolynomial F t → IsPolynomial F c → IsPolynomial F m
      → difference F (product F x t) (product F c m) ≡ sum F (product F x (difference F t m)) (product F m (difference F x c))
  difference_product {x} {t} {c} {m} X T C M =
      let R = polynomial_ring L in
      sym (map_subtract L (R.mul (over X) (over T)) (R.mul (over C) (over M)) ∙ ap₂ (difference F) (map_mul L (over X) (over T)) (map_mul L (over C) (over M)))
      ∙ ap (λ h. h.map) (ring_product R (over X) (over T) (over C) (over M))
      ∙ map_add L _ _ ∙ ap₂ (sum F) (map_mul L (over X) _ ∙ ap (product F x) (map_subtract L (over T) (over M))) (map_mul L (over M) _ ∙ ap (product F m) (map_subtract L (over X) (over C)))

  difference_sum : {c x m f v : Polynomial} → IsPolynomial F c → IsPolynomial F x → IsPolynomial F m → IsPolynomial F f → IsPolynomial F v
      → difference F (sum F (product F c x) f) (sum F (product F c m) v) ≡ sum F (product F c (difference F x m)) (difference F f v)
  difference_sum {c} {x} {m} {f} {v} C X M P V =
      let R = polynomial_ring L in
      sym (map_subtract L (R.add (R.mul (over C) (over X)) (over P)) (R.add (R.mul (over C) (over M)) (over V))
      ∙ ap₂ (difference F) (map_add L _ _ ∙ ap (λ h. sum F h f) (map_mul L (over C) (over X))) (map_add L _ _ ∙ ap (λ h. sum F h v) (map_mul L (over C) (over M))))
      ∙ ap (λ h. h.map) (ring_sum R (over C) (over X) (over M) (over P) (over V))
      ∙ map_add L _ _ ∙ ap₂ (sum F) (map_mul L (over C) _ ∙ ap (product F c) (map_subtract L (over X) (over M))) (map_subtract L (over P) (over V))

  IsPolynomial-constant : (c : ℕ) → c < F.size → IsPolynomial F (constant c)
  IsPolynomial-constant c h = IsPolynomial-term c h IsExponents-origin

  constant_product : (c d : ℕ) → c < F.size → d < F.size → constant (F.mul c d) ≡ product F (constant c) (constant d)
  constant_product c d h g = sym (product_terms L c d h g IsExponents-origin IsExponents-origin ∙ ap (term (F.mul c d)) (plus_origin IsExponents-origin))

  value_of_variable : (point : List ℕ) (i : ℕ) → i < 8 → All (λ x. x < F.size) point → monomial_value F (variable_exponents i) point ≡ get_or point i 0
  unfolding variable_exponents origin
  value_of_variable point i h all = monomial_value-variable 8 i point h all

  IsPolynomial-less_coordinate : {point : List ℕ} → IsPoint F point → (i : ℕ) → IsPolynomial F (less_coordinate F point i)
  unfolding less_coordinate
  IsPolynomial-less_coordinate {point} at i =
      IsPolynomial-sum L (IsPolynomial-term 1 (one_below L) (IsExponents-variable i)) (IsPolynomial-negation L (IsPolynomial-constant _ (coordinate_below point at.below i)))

  pub ArePolynomials-point_ideal : {point : List ℕ} → IsPoint F point → (n : ℕ) → ArePolynomials F (point_ideal F n point)
  unfolding point_ideal
  ArePolynomials-point_ideal {point} at n = record {
    each = All-map (IsPolynomial F) (less_coordinate F point) (range_with_len 0 n) (λ k d h. IsPolynomial-less_coordinate at _);
  }

  module _ {point : List ℕ} (at : IsPoint F point) (n : ℕ) where
    -- Each x_i - c_i is a member.
    Member-less_coordinate : (i : ℕ) → i < n → Member F (point_ideal F n point) (less_coordinate F point i)
    unfolding point_ideal
    Member-less_coordinate i h =
        Member-Contains L (ArePolynomials-point_ideal at n)
        (i, subst (λ k. i < k) (sym (length-map-range_with_len (less_coordinate F point) 0 n)) h, get_or-map-range_with_len (less_coordinate F point) 0 n i i _ h (omega arith))

    module _ (small : n ≤ 8) where
      -- A monomial in the first n variables less its value is a member.
      Member-monomial : (t : ℕ) (a : List ℕ) → IsExponents a → ((i : ℕ) → n ≤ i → get_or a i 0 ≡ 0) → total a ≡ t
          → Member F (point_ideal F n point) (difference F (term 1 a) (constant (monomial_value F a point)))
      Member-monomial zero a A later e =
          subst (Member F (point_ideal F n point))
          (sym (ap (λ b. difference F (term 1 b) (constant (monomial_value F b point))) (origin_from_total A e) ∙ ap (λ c. difference F (term 1 origin) (constant c)) (monomial_value-origin L point)
          ∙ difference_self (IsPolynomial-constant 1 (one_below L)))) (Member-empty L (ArePolynomials-point_ideal at n))
      Member-monomial (suc t) a A later e = by (find_positive a) (λ b B l s. Member-monomial t b B l s)
        where
          by : (total a ≡ 0) ⊎ ((i : ℕ) × (i < length a) × (0 < get_or a i 0))
              → ((b : List ℕ) → IsExponents b → ((i : ℕ) → n ≤ i → get_or b i 0 ≡ 0) → total b ≡ t → Member F (point_ideal F n point) (difference F (term 1 b) (constant (monomial_value F b point))))
              → Member F (point_ideal F n point) (difference F (term 1 a) (constant (monomial_value F a point)))
          by (inl z) recur = absurd (omega arith)
          by (inr found) recur =
              let P = ArePolynomials-point_ideal at n in
              let i : ℕ = found.0 in
              let b : List ℕ = lower a i in
              let inside : i < n = lower_positive n a i later found.2 in
              let B : IsExponents b = IsExponents-lower A i in
              let E : IsExponents (variable_exponents i) = IsExponents-variable i in
              let split : plus (variable_exponents i) b ≡ a = variable_plus_lower A i found.2 in
              let c : ℕ = get_or point i 0 in
              let m : ℕ = monomial_value F b point in
              let hc : c < F.size = coordinate_below point at.below i in
              let hm : m < F.size = monomial_value_below L b point at.below in
              let front : term 1 a ≡ product F (term 1 (variable_exponents i)) (term 1 b) =
              ap (term 1) (sym split) ∙ sym (product_terms L 1 1 (one_below L) (one_below L) E B ∙ ap (λ k. term k (plus (variable_exponents i) b)) (L.mul_one 1 (one_below L))) in
              let back : constant (monomial_value F a point) ≡ product F (constant c) (constant m) =
              ap (λ x. constant (monomial_value F x point)) (sym split)
              ∙ ap constant (monomial_value-plus L at E B ∙ ap (λ k. F.mul k m) (value_of_variable point i (omega arith) at.below)) ∙ constant_product c m hc hm in
              let rest = recur b B (lower_later n a i inside later) (let s = total_lower a i found.2 in omega arith) in
              let X = IsPolynomial-term 1 (one_below L) E in
              let T = IsPolynomial-term 1 (one_below L) B in
              let C = IsPolynomial-constant c hc in
              let M = IsPolynomial-constant m hm in
              subst (Member F (point_ideal F n point)) (sym (ap₂ (difference F) front back ∙ difference_product X T C M))
              (Member-sum L P (Member-product L P X rest) (Member-product L P M (unfold less_coordinate difference in Member-less_coordinate i inside)))

      -- A polynomial in the first n variables less its value is a member.
      Member-less_value : {f : Polynomial} → IsPolynomial F f → UsesFirst n f → Member F (point_ideal F n point) (difference F f (constant (value F f point)))
      Member-less_value P =
          polynomial_induction L (λ f. UsesFirst n f → Member F (point_ideal F n point) (difference F f (constant (value F f point))))
          (λ first. subst (Member F (point_ideal F n point))
          (sym (ap (λ c. difference F empty (constant c)) (value-empty L at) ∙ ap (difference F empty) (term_zero L IsExponents-origin) ∙ difference_self (IsPolynomial-empty F))) (Member-empty L (ArePolynomials-point_ideal at n)))
          (λ c a f T Q new recur first.
          let I = ArePolynomials-point_ideal at n in
          let A = T.exponents in
          let m : ℕ = monomial_value F a point in
          let v : ℕ = value F f point in
          let hm : m < F.size = monomial_value_below L a point at.below in
          let hv : v < F.size = value_below L at Q in
          let S = IsPolynomial-term c T.below A in
          let C = IsPolynomial-constant c T.below in
          let at_sum : (b : List ℕ) → coefficient (sum F (term c a) f) b ≡ F.add (cond (same b a) c 0) (coefficient f b) = λ b. coefficient-sum L (term c a) f b ∙ ap (λ k. F.add k (coefficient f b)) (coefficient-term c a b) in
          let here : coefficient (sum F (term c a) f) a ≡ c =
          at_sum a ∙ ap₂ (λ t k. F.add (cond t c 0) k) (same_itself a) new ∙ L.add_zero c T.below in
          let later : UsesFirst n f = record {
            later = λ b h.
                let apart : same b a ≡ false = same_false b a (λ e. let z = ap (coefficient f) e ∙ new in absurd (omega arith)) in
                let hb = coefficient_below Q (zero_below L) b in
                first.later b (subst (λ k. 0 < k) (sym (at_sum b ∙ ap (λ t. F.add (cond t c 0) (coefficient f b)) apart ∙ L.add_comm 0 _ (zero_below L) hb ∙ L.add_zero _ hb)) h);
          } in
          let monomial = Member-monomial (total a) a A (first.later a (subst (λ k. 0 < k) (sym here) T.nonzero)) refl in
          let X = IsPolynomial-term 1 (one_below L) A in
          let front : term c a ≡ product F (constant c) (term 1 a) =
          sym (product_terms L c 1 T.below (one_below L) IsExponents-origin A ∙ ap₂ term (L.mul_one c T.below) (origin_plus A)) in
          let back : constant (value F (sum F (term c a) f) point) ≡ sum F (product F (constant c) (constant m)) (constant v) =
          ap constant (value-sum L at S Q ∙ ap (λ k. F.add k v) (value-term L at c T.below A)) ∙ sym (sum_terms L (F.mul c m) v (L.mul_below c m T.below hm) hv IsExponents-origin)
          ∙ ap (λ h. sum F h (constant v)) (constant_product c m T.below hm) in
          subst (Member F (point_ideal F n point))
          (sym (ap₂ (λ g h. difference F (sum F g f) h) front back ∙ difference_sum C X (IsPolynomial-constant m hm) Q (IsPolynomial-constant v hv)))
          (Member-sum L I (Member-product L I C monomial) (recur later)))
          P

      value-less_coordinate : (i : ℕ) → i < 8 → value F (less_coordinate F point i) point ≡ 0
      unfolding less_coordinate
      value-less_coordinate i h =
          let c : ℕ = get_or point i 0 in
          let hc : c < F.size = coordinate_below point at.below i in
          let E = IsExponents-variable i in
          let X = IsPolynomial-term 1 (one_below L) E in
          let C = IsPolynomial-constant c hc in
          value-sum L at X (IsPolynomial-negation L C)
          ∙ ap₂ F.add
          (value-term L at 1 (one_below L) E ∙ ap (F.mul 1) (value_of_variable point i h at.below) ∙ one_mul c hc)
          (value-negation L at C ∙ ap F.neg (value-term L at c hc IsExponents-origin ∙ ap (F.mul c) (monomial_value-origin L point) ∙ L.mul_one c hc))
          ∙ L.add_neg c hc

      -- The point is a zero of its ideal.
      pub IsZeroOf-point_ideal : IsZeroOf F (point_ideal F n point) point
      unfolding point_ideal
      IsZeroOf-point_ideal = record {
        each = All-map (λ g. value F g point ≡ 0) (less_coordinate F point) (range_with_len 0 n)
            (λ k d h. let inside : k < n = subst (λ m. k < m) (length-range_with_len 0 n) h in
            let e = get_or-range_with_len 0 n k d inside in
            value-less_coordinate (get_or (range_with_len 0 n) k d) (omega arith));
      }

      -- A polynomial in the first n variables is in the ideal of the point exactly where it is zero there.
      pub Member-point_ideal : {f : Polynomial} → IsPolynomial F f → UsesFirst n f → Member F (point_ideal F n point) f ↔ (value F f point ≡ 0)
      Member-point_ideal {f} P first = (
        Member-IsZeroOf L at (ArePolynomials-point_ideal at n) IsZeroOf-point_ideal,
        λ z. subst (Member F (point_ideal F n point))
            (ap (λ c. difference F f (constant c)) z ∙ ap (difference F f) (term_zero L IsExponents-origin) ∙ difference_empty P) (Member-less_value P first),
      )

      -- The ideal of a point is proper.
      pub point_ideal-IsProper : Member F (point_ideal F n point) (term 1 origin) → ⊥
      point_ideal-IsProper H =
          let zero = Member-IsZeroOf L at (ArePolynomials-point_ideal at n) IsZeroOf-point_ideal H in
          let one = value-one L at in
          absurd (omega (arith, zero, one))
