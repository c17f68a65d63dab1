-- Products, powers, parts and roots of polynomials of bounded degree in some of the variables.
use Rattle.std.proofs.Common.{◌≡◌, ◌⊎◌, ⊎_elim, inl, inr, ℕ, zero, suc, ◌+◌, ◌*◌, ◌^◌, ◌<◌, ◌≤◌, Bool, true, false, cond, List, [], ◌∷◌, ◌++◌, length, map, get_or, All, Contains, Some, refl, sym, ap, ◌∙◌, subst, arith, nat_lt, true≢false, eq-zero-or-pos, zero-lt-suc}
use Rattle.std.specs.FinMap.{entries, from_entries}
use Rattle.std.proofs.Math.Nat.{mul-le-mul_left, mul-le-mul_right, le_of_mul-le-mul_left}
use Rattle.std.proofs.lemmas.Bool.Decides.{nat_tests}
use Rattle.std.proofs.lemmas.List.{get_or_past, get_or-replicate}
use Rattle.std.proofs.lemmas.List.Folds.{list_any-from_Any}
use Rattle.std.proofs.lemmas.List.Elements.{All-nil, All-cons, All-head, All-tail, All-append, All-map, All-weaker}
use Rattle.std.proofs.lemmas.Map.Made.{is_member-Decides}
use Rattle.fj_coeff.specs.Field.{Field, IsField}
use Rattle.fj_algebra.specs.Polynomial as abstract
use Rattle.fj_algebra.proofs.Polynomial.{Supported-mul}
use Rattle.fj_theory.specs.Exponents.{IsExponents, origin, plus, times, total}
use Rattle.fj_theory.specs.Polynomial.{Polynomial, IsPolynomial, IsTerm, coefficient, support, degree, product, power, term}
use Rattle.fj_theory.specs.Parts.{Part, IsParts, part_terms, iterated_root}
use Rattle.fj_theory.specs.Root.{IsRoot}
use Rattle.fj_theory.proofs.Exponents.{IsExponents-origin, total_origin, total-plus_exponents, total-times, IsExponents-times}
use Rattle.fj_theory.proofs.FormalSum.{same, same_true, same-Decides}
use Rattle.fj_theory.proofs.Frobenius.{power_positive}
use Rattle.fj_theory.proofs.Polynomial.{support_listed, get-coefficient, coefficient-term}
use Rattle.fj_theory.proofs.Product.{IsPolynomial-product}
use Rattle.fj_theory.proofs.Degree.{degree_bounds}
use Rattle.fj_theory.proofs.Roots.{iterated_root_zero}
use Rattle.fj_theory.proofs.PolynomialRing.{over_equal, map_mul, power_zero, power_suc}
use Rattle.fj_theory.proofs.OrderedPolynomials.{Exponents, monomials, polynomials, ordered_polynomials}
use Rattle.fj_theory.proofs.IdealBridge.{over, IsPolynomial-one, ArePolynomials-single}
use Rattle.fj_theory.proofs.PartsList.{IsParts-unique, coefficient-part_terms}
use Rattle.fj_theory.proofs.Terms.{IsTerm-entries, from_entries-entries}
use Rattle.fj_theory.proofs.PartsExistence.{parts_of, IsParts-parts_of}
use Rattle.fj_theory.proofs.OrderedPolynomials.{positive_back}
use Rattle.fj_theory.proofs.Root.{IsRoot-unique, IsRoot-nil, IsRoot-append}
use Rattle.fj_theory.proofs.RootParts.{IsRoot-parts}
use Rattle.fj_testideal.specs.BoundedIdeal.{Variables, occurs_in, IsBoundedMonomial, IsBounded, IsBoundedIdeal}
use Rattle.fj_testideal.proofs.Variables.{InVariables, variables_face, index-plus, below_or_above}
use Rattle.fj_testideal.proofs.BoundedIdeal.{P, Small, supported, ArePolynomials-bounded}

index-times : (q : ℕ) (a : List ℕ) (i : ℕ) → get_or (times q a) i 0 ≡ q * get_or a i 0
unfolding times
index-times q [] i = omega arith
index-times q (x ∷ a) zero = refl
index-times q (x ∷ a) (suc i) = index-times q a i

-- A variable that doesn't occur in f has the exponent 0 in each term.
occurs_in-term : (f : Polynomial) (a : List ℕ) (i : ℕ) → 0 < coefficient f a → occurs_in f i ≡ false → get_or a i 0 ≡ 0
unfolding occurs_in
occurs_in-term f a i p e = go (get_or a i 0) refl
  where
    listed : Contains (support f) a
    listed = (is_member-Decides same-Decides (support f) a).0 (support_listed f a p)

    go : (n : ℕ) → get_or a i 0 ≡ n → get_or a i 0 ≡ 0
    go zero h = h
    go (suc n) h =
        let test : nat_lt 0 (get_or a i 0) ≡ true = rw h (grind (arith, nat_tests)) in
        absurd (true≢false (sym (list_any-from_Any (λ b. nat_lt 0 (get_or b i 0)) (support f) (listed.0, a, listed.1, listed.2, test)) ∙ e))

InVariables-origin : (vars : Variables) (E : IsExponents origin) → InVariables vars (record { list = origin; is_exponents = E })
unfolding origin
InVariables-origin vars E = record { others = λ i e. zeros i (below_or_above i 8) }
  where
    eight : List ℕ
    eight = 0 ∷ 0 ∷ 0 ∷ 0 ∷ 0 ∷ 0 ∷ 0 ∷ 0 ∷ []

    zeros : (i : ℕ) → (i < 8) ⊎ (8 ≤ i) → get_or eight i 0 ≡ 0
    zeros i (inl h) = get_or-replicate 8 i 0 0 h
    zeros i (inr h) = get_or_past eight i 0 (omega (arith, h))

total-monomials : (m n : Exponents) → total (monomials.times m n).list ≡ total m.list + total n.list
unfolding monomials
total-monomials m n = total-plus_exponents m.is_exponents n.is_exponents

module _ {F : Field} (L : IsField F) where
  bounded_from_supported : {vars : Variables} {bound : ℕ} {f : Polynomial} (Q : IsPolynomial F f) → abstract.Supported (polynomials L) (Small L vars bound) (over Q) → IsBounded F vars bound f
  unfolding polynomials
  bounded_from_supported {f = f} Q s = record {
    polynomial = Q;
    terms = λ a p.
        let E = Q.exponents a _ (get-coefficient f a p) in
        let at : Exponents = record { list = a; is_exponents = E } in
        let small = s.within at (positive_back L (over Q) at p) in
        record { exponents = E; others = small.inside.others; degree = small.small };
  }

  module _ {vars : Variables} where
    multiply : (a b : ℕ) (m n : Exponents) → Small L vars a m → Small L vars b n → Small L vars (a + b) (monomials.times m n)
    unfolding monomials
    multiply a b m n S T = record {
      inside = (variables_face vars).product m n S.inside T.inside;
      small = let sum = total-monomials m n in let first = S.small in let second = T.small in omega (arith, sum, first, second);
    }

    -- A product has at most the sum of the degrees, and no other variables than the factors.
    pub product_bounded : (a b : ℕ) {f g : Polynomial} → IsBounded F vars a f → IsBounded F vars b g → IsBounded F vars (a + b) (product F f g)
    unfolding ordered_polynomials polynomials monomials
    product_bounded a b {f} {g} S T =
        let Q = IsPolynomial-product L S.polynomial T.polynomial in
        bounded_from_supported Q
        (subst (abstract.Supported (polynomials L) (Small L vars (a + b))) (over_equal _ _ (map_mul L (over S.polynomial) (over T.polynomial)))
        (Supported-mul (P L) (multiply a b) (supported L vars a S) (supported L vars b T)))

    one_bounded : IsBounded F vars 0 (term 1 origin)
    one_bounded = record { polynomial = IsPolynomial-one L; terms = λ a p. go a p (same a origin) refl }
      where
        at_origin : IsBoundedMonomial vars 0 origin
        at_origin = record { exponents = IsExponents-origin; others = (InVariables-origin vars IsExponents-origin).others; degree = let none = total_origin in omega (arith, none) }

        go : (a : List ℕ) → 0 < coefficient (term 1 origin) a → (t : Bool) → same a origin ≡ t → IsBoundedMonomial vars 0 a
        go a p true e = subst (IsBoundedMonomial vars 0) (sym (same_true a origin e)) at_origin
        go a p false e = let none : coefficient (term 1 origin) a ≡ 0 = coefficient-term 1 origin a ∙ ap (λ t. cond t 1 0) e in absurd (omega (arith, none, p))

    pub power_bounded : (d : ℕ) {f : Polynomial} → IsBounded F vars d f → (m : ℕ) → IsBounded F vars (m * d) (power F f m)
    power_bounded d {f} S zero = let none : 0 ≡ 0 * d = omega arith in subst (λ n. IsBounded F vars n (power F f 0)) none (subst (IsBounded F vars 0) (sym (power_zero L S.polynomial)) one_bounded)
    power_bounded d {f} S (suc m) =
        let more : d + m * d ≡ suc m * d = omega arith in
        subst (λ n. IsBounded F vars n (power F f (suc m))) more
        (subst (IsBounded F vars (d + m * d)) (sym (power_suc L S.polynomial m)) (product_bounded d (m * d) S (power_bounded d S m)))

  IsBounded-more : {vars : Variables} {a b : ℕ} {f : Polynomial} → IsBounded F vars a f → a ≤ b → IsBounded F vars b f
  IsBounded-more S h = record {
    polynomial = S.polynomial;
    terms = λ a p. let t = S.terms a p in let low = t.degree in record { exponents = t.exponents; others = t.others; degree = omega (arith, low, h) };
  }

  -- A polynomial is bounded by its degree in the variables that occur in it.
  pub own_bounded : {f : Polynomial} → IsPolynomial F f → {d : ℕ} → degree f ≡ Some d → IsBounded F (occurs_in f) d f
  own_bounded {f} Q of_degree = record {
    polynomial = Q;
    terms = λ a p.
        let E = Q.exponents a _ (get-coefficient f a p) in
        record { exponents = E; others = λ i e. occurs_in-term f a i p e; degree = degree_bounds L Q of_degree a E p };
  }

  module _ (e : ℕ) {h : Polynomial} (H : IsPolynomial F h) {parts : List Part} (K : IsParts F (F.characteristic ^ e) h parts) where
    part_polynomials : All (λ part. part.polynomial ≡ from_entries (part_terms F e part.residue (entries h))) parts
    unfolding parts_of
    part_polynomials =
        subst (All (λ part. part.polynomial ≡ from_entries (part_terms F e part.residue (entries h)))) (IsParts-unique L e (IsParts-parts_of L e H) K)
        (All-map (λ part. part.polynomial ≡ from_entries (part_terms F e part.residue (entries h))) _ _ (λ k d g. refl))

    -- A term x^b of the part at a comes from the term x^(q b + a).
    part_term : (k : ℕ) (d : Part) → k < length parts → (b : List ℕ) → IsExponents b → 0 < coefficient (get_or parts k d).polynomial b
        → 0 < coefficient h (plus (times (F.characteristic ^ e) b) (get_or parts k d).residue)
    part_term k d l b B p =
        ⊎_elim (λ z. absurd (let none = coefficient_is ∙ ap (iterated_root F e) z ∙ iterated_root_zero L e in omega (arith, p, none))) (λ g. g)
        (eq-zero-or-pos (coefficient h (plus (times (F.characteristic ^ e) b) (get_or parts k d).residue)))
      where
        coefficient_is : coefficient (get_or parts k d).polynomial b ≡ iterated_root F e (coefficient h (plus (times (F.characteristic ^ e) b) (get_or parts k d).residue))
        coefficient_is = ap (λ g. coefficient g b) (part_polynomials k d l) ∙ coefficient-part_terms L e (K.residues k d l) (K.below k d l) (entries h)
            (All-weaker (IsTerm F) (λ t. IsExponents t.0) (λ t D. D.exponents) (entries h) (IsTerm-entries H)) B
            ∙ ap (λ g. iterated_root F e (coefficient g (plus (times (F.characteristic ^ e) b) (get_or parts k d).residue))) (from_entries-entries h)

  zero_factor : (q n : ℕ) → 0 < q → q * n ≡ 0 → n ≡ 0
  zero_factor q zero p e = refl
  zero_factor q (suc n) p e = absurd (let some = mul-le-mul_left q (zero-lt-suc n) in omega (arith, some, e, p))

  module _ {vars : Variables} (e bound D : ℕ) {h : Polynomial} (S : IsBounded F vars bound h) (small : bound ≤ F.characteristic ^ e * D)
      {parts : List Part} (K : IsParts F (F.characteristic ^ e) h parts) where
    pub parts_bounded : All (λ part. IsBounded F vars D part.polynomial
        × ((a : List ℕ) → 0 < coefficient part.polynomial a → F.characteristic ^ e * total a ≤ bound)) parts
    parts_bounded k x l = (
      record {
        polynomial = polynomial;
        terms = λ b p. record {
          exponents = exponents b p;
          others = λ i g.
              let whole = (term b p).others i g in
              let sum = index-plus (times q b) residue i ((IsExponents-times q (exponents b p)).eight ∙ sym (K.residues k x l).eight) in
              let scaled = index-times q b i in
              zero_factor q (get_or b i 0) (power_positive L e) (omega (arith, whole, sum, scaled));
          degree = le_of_mul-le-mul_left (omega (arith, part_bound b p, small)) (power_positive L e);
        };
      },
      part_bound,
    )
      where
        q : ℕ
        q = F.characteristic ^ e

        residue : List ℕ
        residue = (get_or parts k x).residue

        polynomial : IsPolynomial F (get_or parts k x).polynomial
        polynomial = K.polynomials k x l

        exponents : (b : List ℕ) → 0 < coefficient (get_or parts k x).polynomial b → IsExponents b
        exponents b p = polynomial.exponents b _ (get-coefficient (get_or parts k x).polynomial b p)

        term : (b : List ℕ) → 0 < coefficient (get_or parts k x).polynomial b → IsBoundedMonomial vars bound (plus (times (F.characteristic ^ e) b) (get_or parts k x).residue)
        term b p = S.terms (plus (times (F.characteristic ^ e) b) (get_or parts k x).residue) (part_term e S.polynomial K k x l b (exponents b p) p)

        part_bound : (b : List ℕ) → 0 < coefficient (get_or parts k x).polynomial b → F.characteristic ^ e * total b ≤ bound
        part_bound b p =
            let low = (term b p).degree in
            let whole = total-plus_exponents (IsExponents-times q (exponents b p)) (K.residues k x l) in
            let scaled = total-times q b in
            omega (arith, low, whole, scaled)

  module _ {vars : Variables} (e D : ℕ) where
    -- The parts of polynomials of degree at most p^e D.
    bounded_generators : (M : List Polynomial) → All (IsBounded F vars (F.characteristic ^ e * D)) M
        → (G : List Polynomial) × All (IsBounded F vars D) G × IsRoot F (F.characteristic ^ e) M G
    bounded_generators [] small = ([], All-nil (IsBounded F vars D), IsRoot-nil F (F.characteristic ^ e))
    bounded_generators (h ∷ M) small =
        let here = All-head (IsBounded F vars (F.characteristic ^ e * D)) h M small in
        let later = All-tail (IsBounded F vars (F.characteristic ^ e * D)) h M small in
        let rest = bounded_generators M later in
        let K = IsParts-parts_of L e here.polynomial in
        let polynomial : Part → Polynomial = λ part. part.polynomial in
        let parts : List Part = parts_of F e h in (
          map polynomial parts ++ rest.0,
          All-append (IsBounded F vars D) (map polynomial parts) rest.0
              (All-map (IsBounded F vars D) polynomial parts (λ k x l. (parts_bounded e (F.characteristic ^ e * D) D here (omega arith) K k x l).0)) rest.1,
          IsRoot-append L e (ArePolynomials-single here.polynomial) (IsRoot-parts L e here.polynomial K) (ArePolynomials-bounded L vars (F.characteristic ^ e * D) later) rest.2,
        )

    -- The root at e of polynomials of degree at most p^e D is generated in degree at most D.
    pub root_bounded : {M N : List Polynomial} → All (IsBounded F vars (F.characteristic ^ e * D)) M → IsRoot F (F.characteristic ^ e) M N → IsBoundedIdeal F vars D N
    root_bounded {M} small R =
        let found = bounded_generators M small in
        record { generators = found.0; bounded = found.1; generate = IsRoot-unique found.2 R }

  -- The root at e of f^m, m <= p^e, is generated in degree at most deg f in the variables of f.
  pub power_root_bounded : (e m d : ℕ) {f : Polynomial} {M : List Polynomial} → IsPolynomial F f → degree f ≡ Some d → m ≤ F.characteristic ^ e
      → IsRoot F (F.characteristic ^ e) (power F f m ∷ []) M → IsBoundedIdeal F (occurs_in f) d M
  power_root_bounded e m d {f} Q of_degree small R =
      let S = power_bounded d (own_bounded Q of_degree) m in
      root_bounded e d (All-cons (IsBounded F (occurs_in f) (F.characteristic ^ e * d)) (power F f m) []
      (IsBounded-more S (mul-le-mul_right d small)) (All-nil (IsBounded F (occurs_in f) (F.characteristic ^ e * d)))) R
