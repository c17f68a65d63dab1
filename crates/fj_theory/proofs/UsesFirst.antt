-- Polynomials that use the first n variables alone: what is made of such polynomials uses them alone.
use Rattle.std.proofs.Common.{◌≡◌, ◌⊎◌, inl, inr, ℕ, zero, suc, ◌*◌, ◌^◌, ◌<◌, ◌≤◌, Bool, true, false, cond, Option, Some, None, List, [], ◌∷◌, ◌++◌, length, map, flat_map, get_or, All, refl, sym, ap, ap₂, ◌∙◌, subst, arith, eq-zero-or-pos, mul_comm, true≢false}
use Rattle.std.specs.FinMap.{empty}
use Rattle.std.proofs.Math.Nat.{le-mul_of_pos_right}
use Rattle.std.proofs.lemmas.List.{get_or_past, get_or-set_other}
use Rattle.std.proofs.lemmas.List.Elements.{All-nil, All-cons, All-head, All-tail, All-map, All-append, All-weaker}
use native.Mathlib.Decide.{dec_le}
use Rattle.fj_coeff.specs.Field.{Field, IsField}
use Rattle.fj_coeff.specs.Field as field
use Rattle.fj_algebra.specs.Polynomial.{Supported}
use Rattle.fj_algebra.specs.Variable as variable
use Rattle.fj_algebra.proofs.Lists.{All-map_back, All-flat_map}
use Rattle.fj_algebra.proofs.Polynomial.{Supported-mul}
use Rattle.fj_theory.specs.Exponents.{IsExponents, origin, plus, times}
use Rattle.fj_theory.specs.FrobeniusPower.{frobenius_power}
use Rattle.fj_theory.specs.Ideal.{ArePolynomials, list_combination, multiples, products}
use Rattle.fj_theory.specs.Parts.{Part, IsParts, part_at}
use Rattle.fj_theory.specs.PointIdeal.{UsesFirst, variable_exponents}
use Rattle.fj_theory.specs.Polynomial.{difference, Polynomial, IsPolynomial, coefficient, degree, sum, negation, product, power, term}
use Rattle.fj_theory.specs.RootLaws.{WithParts}
use Rattle.fj_theory.proofs.Degree.{degree_attained, empty_from_degree}
use Rattle.fj_theory.proofs.Field.{zero_below}
use Rattle.fj_theory.proofs.FormalSum.{same, same_true, same_itself, same_false}
use Rattle.fj_theory.proofs.Frobenius.{power_positive}
use Rattle.fj_theory.proofs.IdealBridge.{over, InRing, ArePolynomials-head, ArePolynomials-tail}
use Rattle.fj_theory.proofs.Keys.{grevlex_key-IsMonomialOrder, index-plus}
use Rattle.fj_theory.proofs.OrderedPolynomials.{exponents_of, positive, positive_back, Exponents, monomials, polynomials, ordered_polynomials, times as monomial_times}
use Rattle.fj_theory.proofs.Parts.{residues_of, IsFamily-from_IsParts, part_at-coefficient}
use Rattle.fj_theory.proofs.Polynomial.{coefficient-empty, coefficient-sum, coefficient-term, coefficient_below, get-coefficient}
use Rattle.fj_theory.proofs.PolynomialRing.{PolynomialOver, polynomial_ring, map_mul, neg_zero_rank, coefficient-negation, IsPolynomial-power, power_zero, power_suc}
use Rattle.fj_theory.proofs.Residues.{Distinct}
use Rattle.fj_theory.proofs.Roots.{field_power_positive}
use Rattle.fj_theory.proofs.Variables.{exponent_at, variable_at, get_or-origin}

-- A polynomial uses the first n variables alone where each later exponent below the eighth is zero.
pub UsesFirst-from_exponents : {F : Field} {n : ℕ} {f : Polynomial} → IsPolynomial F f → ((i : ℕ) → i < 8 → n ≤ i → (a : List ℕ) → 0 < coefficient f a → get_or a i 0 ≡ 0)
    → UsesFirst n f
UsesFirst-from_exponents {n} {f} P z = record { later = λ a p i l. go a p i l (P.exponents a _ (get-coefficient f a p)).eight (dec_le 8 i) }
  where
    go : (a : List ℕ) → 0 < coefficient f a → (i : ℕ) → n ≤ i → length a ≡ 8 → Dec (8 ≤ i) → get_or a i 0 ≡ 0
    go a p i l e (yes h) = get_or_past a i 0 (omega (arith, e, h))
    go a p i l e (no h) = z i (omega (arith, h)) l a p

module _ {F : Field} (L : IsField F) where
  unfoldable pub variable_over : (i : ℕ) → i < 8 → variable.Variable (polynomials L).monomials
  unfolding polynomials
  variable_over = variable_at

  -- It lacks each later variable, and where it lacks each of them it uses the first n variables alone.
  pub Lacks-UsesFirst : {n : ℕ} (i : ℕ) (h : i < 8) → n ≤ i → (f : PolynomialOver F) → UsesFirst n f.map → variable.Lacks (polynomials L) (variable_over i h) f
  unfolding polynomials variable_over
  Lacks-UsesFirst i h l f u = record { within = λ a p. exponent_at i h a ∙ u.later a.list (positive L f a p) i l }

  pub UsesFirst-Lacks : {n : ℕ} (f : PolynomialOver F) → ((i : ℕ) (h : i < 8) → n ≤ i → variable.Lacks (polynomials L) (variable_over i h) f) → UsesFirst n f.map
  unfolding polynomials variable_over
  UsesFirst-Lacks f lacks = UsesFirst-from_exponents f.is_polynomial (λ i h l a p.
      let at : Exponents = record { list = a; is_exponents = exponents_of L f a p } in sym (exponent_at i h at) ∙ (lacks i h l).within at (positive_back L f at p))

  pub Lacks-InRing : {n : ℕ} (i : ℕ) (h : i < 8) → n ≤ i → {M : List Polynomial} (X : InRing F M) → All (UsesFirst n) M
      → All (variable.Lacks (polynomials L) (variable_over i h)) X.list
  Lacks-InRing {n} i h l X all =
      All-weaker (λ f. UsesFirst n f.map) (variable.Lacks (polynomials L) (variable_over i h)) (Lacks-UsesFirst i h l) X.list
      (All-map_back (UsesFirst n) (λ f. f.map) X.list (subst (All (UsesFirst n)) (sym X.are) all))

-- A polynomial that uses fewer variables, and the zero polynomial.
pub UsesFirst-more : {m n : ℕ} {f : Polynomial} → m ≤ n → UsesFirst m f → UsesFirst n f
UsesFirst-more h u = record { later = λ a p i l. u.later a p i (omega (arith, h, l)) }

pub UsesFirst-empty : (n : ℕ) → UsesFirst n empty
UsesFirst-empty n = record { later = λ a p i l. let z = coefficient-empty a in absurd (omega (arith, p, z)) }

-- Terms.
pub UsesFirst-term : {n : ℕ} (c : ℕ) (a : List ℕ) → ((i : ℕ) → n ≤ i → get_or a i 0 ≡ 0) → UsesFirst n (term c a)
UsesFirst-term {n} c a z = record { later = λ b p. by b (same b a) refl (subst (λ k. 0 < k) (coefficient-term c a b) p) }
  where
    by : (b : List ℕ) (t : Bool) → same b a ≡ t → 0 < cond t c 0 → (i : ℕ) → n ≤ i → get_or b i 0 ≡ 0
    by b true e p i l = ap (λ x. get_or x i 0) (same_true b a e) ∙ z i l
    by b false e p i l = absurd (omega (arith, p))

pub UsesFirst-constant : (n c : ℕ) → UsesFirst n (term c origin)
UsesFirst-constant n c = UsesFirst-term c origin (λ i l. get_or-origin i)

pub UsesFirst-variable : {n : ℕ} (c i : ℕ) → i < n → UsesFirst n (term c (variable_exponents i))
unfolding variable_exponents
UsesFirst-variable {n} c i h = UsesFirst-term c (variable_exponents i) (λ j l. get_or-set_other origin i j 1 0 (λ e. absurd (omega (arith, h, l, e))) ∙ get_or-origin j)

module _ {F : Field} (L : IsField F) {n : ℕ} where
  pub UsesFirst-sum : {f g : Polynomial} → UsesFirst n f → UsesFirst n g → UsesFirst n (sum F f g)
  UsesFirst-sum {f} {g} u v = record { later = λ a p. by a p (eq-zero-or-pos (coefficient f a)) (eq-zero-or-pos (coefficient g a)) }
    where
      by : (a : List ℕ) → 0 < coefficient (sum F f g) a → (coefficient f a ≡ 0) ⊎ (0 < coefficient f a) → (coefficient g a ≡ 0) ⊎ (0 < coefficient g a)
          → (i : ℕ) → n ≤ i → get_or a i 0 ≡ 0
      by a p (inr h) d = u.later a h
      by a p (inl z) (inr h) = v.later a h
      by a p (inl z) (inl w) = let none = coefficient-sum L f g a ∙ ap₂ F.add z w ∙ L.add_zero 0 (zero_below L) in absurd (omega (arith, p, none))

  pub UsesFirst-negation : {f : Polynomial} → UsesFirst n f → UsesFirst n (negation F f)
  UsesFirst-negation {f} u = record { later = λ a p. by a p (eq-zero-or-pos (coefficient f a)) }
    where
      by : (a : List ℕ) → 0 < coefficient (negation F f) a → (coefficient f a ≡ 0) ⊎ (0 < coefficient f a) → (i : ℕ) → n ≤ i → get_or a i 0 ≡ 0
      by a p (inr h) = u.later a h
      by a p (inl z) = let none = coefficient-negation L f a ∙ ap F.neg z ∙ neg_zero_rank L in absurd (omega (arith, p, none))

  pub UsesFirst-difference : {f g : Polynomial} → UsesFirst n f → UsesFirst n g → UsesFirst n (difference F f g)
  unfolding difference
  UsesFirst-difference u v = UsesFirst-sum u (UsesFirst-negation v)

-- The exponents from n on are zero.
abbrev AreZeroFrom : ℕ → Exponents → Type 0
AreZeroFrom n a = (i : ℕ) → n ≤ i → get_or a.list i 0 ≡ 0

zero_from-times : (n : ℕ) (a b : Exponents) → AreZeroFrom n a → AreZeroFrom n b → AreZeroFrom n (monomials.times a b)
unfolding monomials monomial_times
zero_from-times n a b u v i l =
    let e = index-plus a.list b.list i (a.is_exponents.eight ∙ sym b.is_exponents.eight) in
    let x = u i l in
    let y = v i l in
    omega (arith, e, x, y)

module _ {F : Field} (L : IsField F) {n : ℕ} where
  supported : (f : PolynomialOver F) → UsesFirst n f.map → Supported (polynomials L) (AreZeroFrom n) f
  unfolding polynomials
  supported f u = record { within = λ a p. u.later a.list (positive L f a p) }

  from_supported : (f : PolynomialOver F) → Supported (polynomials L) (AreZeroFrom n) f → UsesFirst n f.map
  unfolding polynomials
  from_supported f s =
      record { later = λ a p. let at : Exponents = record { list = a; is_exponents = exponents_of L f a p } in s.within at (positive_back L f at p) }

  pub UsesFirst-product : {f g : Polynomial} → IsPolynomial F f → IsPolynomial F g → UsesFirst n f → UsesFirst n g → UsesFirst n (product F f g)
  unfolding ordered_polynomials polynomials
  UsesFirst-product A B u v =
      subst (UsesFirst n) (map_mul L (over A) (over B))
      (from_supported ((polynomial_ring L).mul (over A) (over B))
      (Supported-mul (ordered_polynomials L grevlex_key-IsMonomialOrder) (zero_from-times n) (supported (over A) u) (supported (over B) v)))

  pub UsesFirst-power : {f : Polynomial} → IsPolynomial F f → UsesFirst n f → (k : ℕ) → UsesFirst n (power F f k)
  UsesFirst-power {f} A u zero = subst (UsesFirst n) (sym (power_zero L A)) (UsesFirst-constant n 1)
  UsesFirst-power {f} A u (suc k) = subst (UsesFirst n) (sym (power_suc L A k)) (UsesFirst-product A (IsPolynomial-power L A k) u (UsesFirst-power A u k))

  -- Lists.
  pub UsesFirst-multiples : {f : Polynomial} {M : List Polynomial} → IsPolynomial F f → ArePolynomials F M → UsesFirst n f → All (UsesFirst n) M → All (UsesFirst n) (multiples F f M)
  UsesFirst-multiples {f} {M} A P u all = All-map (UsesFirst n) (product F f) M (λ k d h. UsesFirst-product A (P.each k d h) u (all k d h))

  pub UsesFirst-products : {M N : List Polynomial} → ArePolynomials F M → ArePolynomials F N → All (UsesFirst n) M → All (UsesFirst n) N → All (UsesFirst n) (products F M N)
  UsesFirst-products {M} {N} P Q all each = All-flat_map (UsesFirst n) (λ g. multiples F g N) M (λ k d h. UsesFirst-multiples (P.each k d h) Q (all k d h) each)

  pub UsesFirst-frobenius_power : {M : List Polynomial} → ArePolynomials F M → All (UsesFirst n) M → (q : ℕ) → All (UsesFirst n) (frobenius_power F q M)
  UsesFirst-frobenius_power {M} P all q = All-map (UsesFirst n) (λ g. power F g q) M (λ k d h. UsesFirst-power (P.each k d h) (all k d h) q)

  pub UsesFirst-list_combination : (cs M : List Polynomial) → ArePolynomials F cs → ArePolynomials F M → All (UsesFirst n) cs → All (UsesFirst n) M → UsesFirst n (list_combination F cs M)
  unfolding list_combination
  UsesFirst-list_combination [] M C P each all = UsesFirst-empty n
  UsesFirst-list_combination (c ∷ cs) [] C P each all = UsesFirst-empty n
  UsesFirst-list_combination (c ∷ cs) (g ∷ M) C P each all =
      UsesFirst-sum L (UsesFirst-product (ArePolynomials-head C) (ArePolynomials-head P) (All-head (UsesFirst n) c cs each) (All-head (UsesFirst n) g M all))
      (UsesFirst-list_combination cs M (ArePolynomials-tail C) (ArePolynomials-tail P) (All-tail (UsesFirst n) c cs each) (All-tail (UsesFirst n) g M all))

pub UsesFirst-append : {n : ℕ} (M N : List Polynomial) → All (UsesFirst n) M → All (UsesFirst n) N → All (UsesFirst n) (M ++ N)
UsesFirst-append {n} M N all each = All-append (UsesFirst n) M N all each

-- Parts: the part at a listed residue is the listed one.
part_at_listed : (parts : List Part) → Distinct (residues_of parts) → All (λ part. part_at parts part.residue ≡ part.polynomial) parts
unfolding part_at
part_at_listed [] d = All-nil _
part_at_listed (part ∷ parts) d =
    All-cons (λ p. part_at (part ∷ parts) p.residue ≡ p.polynomial) part parts (ap (λ t. cond t part.polynomial (part_at parts part.residue)) (same_itself part.residue))
    (λ k p h. ap (λ t. cond t part.polynomial (part_at parts (get_or parts k p).residue)) (same_back part.residue _ (All-map_back (λ b. same part.residue b ≡ false) (λ q. q.residue) parts d.0 k p h))
    ∙ part_at_listed parts d.1 k p h)
  where
    same_back : (a b : List ℕ) → same a b ≡ false → same b a ≡ false
    same_back a b h = same_false b a (λ e. true≢false (sym (ap (same a) e ∙ same_itself a) ∙ h))

below_multiple : (q x : ℕ) → 0 < q → x ≤ q * x
below_multiple q x h = subst (λ k. x ≤ k) (mul_comm x q) (le-mul_of_pos_right x h)

-- Both exponents are zero where that of their product with a power is.
both_zero : (q : ℕ) → 0 < q → (b a : List ℕ) (i : ℕ) → length b ≡ length a → get_or (plus (times q b) a) i 0 ≡ 0 → (get_or b i 0 ≡ 0) × (get_or a i 0 ≡ 0)
unfolding plus times
both_zero q h [] [] i e z = (refl, refl)
both_zero q h [] (y ∷ a) i e z = absurd (omega arith)
both_zero q h (x ∷ b) [] i e z = absurd (omega arith)
both_zero q h (x ∷ b) (y ∷ a) zero e z = let most = below_multiple q x h in (omega (arith, z, most), omega (arith, z))
both_zero q h (x ∷ b) (y ∷ a) (suc i) e z = both_zero q h b a i (omega arith) z

module _ {F : Field} (L : IsField F) {n : ℕ} (e : ℕ) {f : Polynomial} (first : UsesFirst n f) {parts : List Part} (H : IsParts F (F.characteristic ^ e) f parts) where
  -- Where the part at a residue has a coefficient, its exponents and the residue are zero from n on.
  zeros_from : (a : List ℕ) (g : Polynomial) → IsExponents a → All (λ k. k < F.characteristic ^ e) a → IsPolynomial F g → part_at parts a ≡ g → (b : List ℕ) → 0 < coefficient g b
      → (i : ℕ) → n ≤ i → (get_or b i 0 ≡ 0) × (get_or a i 0 ≡ 0)
  zeros_from a g A below P found b h i l =
      let B = P.exponents b _ (get-coefficient g b h) in
      let power_there = ap (λ k. field.power F (coefficient k b) (F.characteristic ^ e)) (sym found) ∙ part_at-coefficient L e parts (IsFamily-from_IsParts H) H.whole A below B in
      let positive = subst (λ k. 0 < k) power_there (field_power_positive L e (coefficient g b) h (coefficient_below P (zero_below L) b)) in
      both_zero (F.characteristic ^ e) (power_positive L e) b a i (B.eight ∙ sym A.eight) (first.later (plus (times (F.characteristic ^ e) b) a) positive i l)

  -- The parts use the first n variables alone.
  pub UsesFirst-parts : All (λ part. UsesFirst n part.polynomial) parts
  UsesFirst-parts k d h = record {
    later = λ b p i l. (zeros_from _ _ (H.residues k d h) (H.below k d h) (H.polynomials k d h) (part_at_listed parts (IsFamily-from_IsParts H).distinct k d h) b p i l).0;
  }

  -- So do their residues.
  pub UsesFirst-residues : All (λ part. (i : ℕ) → n ≤ i → get_or part.residue i 0 ≡ 0) parts
  UsesFirst-residues k d h i l = by (degree (get_or parts k d).polynomial) refl
    where
      by : (o : Option ℕ) → degree (get_or parts k d).polynomial ≡ o → get_or (get_or parts k d).residue i 0 ≡ 0
      by None z = absurd (H.nonzero k d h (empty_from_degree L (H.polynomials k d h) z))
      by (Some m) z =
          let top = degree_attained L (H.polynomials k d h) z in
          (zeros_from _ _ (H.residues k d h) (H.below k d h) (H.polynomials k d h) (part_at_listed parts (IsFamily-from_IsParts H).distinct k d h) top.0 top.2 i l).1

-- The parts of all polynomials of a list, which generate its root, use the first n variables alone.
pub UsesFirst-all_parts : {F : Field} (L : IsField F) {n : ℕ} (e : ℕ) (M : List WithParts) → All (λ h. UsesFirst n h.polynomial) M
    → All (λ h. IsParts F (F.characteristic ^ e) h.polynomial h.parts) M
    → All (UsesFirst n) (flat_map (λ h. map (λ part. part.polynomial) h.parts) M)
UsesFirst-all_parts L {n} e M all parts =
    All-flat_map (UsesFirst n) (λ h. map (λ part. part.polynomial) h.parts) M
    (λ k d h. All-map (UsesFirst n) (λ part. part.polynomial) (get_or M k d).parts (UsesFirst-parts L e (all k d h) (parts k d h)))
