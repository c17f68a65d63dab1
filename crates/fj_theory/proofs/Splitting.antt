-- The p^-1-linear maps of polynomials are those of the ring of polynomials: by their values, by their laws, and as traces.
use Rattle.std.proofs.Common.{◌≡◌, ℕ, ◌^◌, ◌<◌, Bool, true, false, cond, ◌||◌, List, [], ◌∷◌, All, Contains, refl, sym, ap, ap₂, ◌∙◌, subst, true≢false}
use Rattle.std.specs.List.{list_any}
use Rattle.std.specs.FinMap.{empty}
use Rattle.std.proofs.lemmas.Map.Made.{is_member-Decides}
use Rattle.std.proofs.lemmas.List.Elements.{All-head, All-weaker, All-contains_itself}
use Rattle.fj_coeff.specs.Field.{Field, IsField}
use Rattle.fj_algebra.specs.Ring.{CommutativeRing}
use Rattle.fj_algebra.specs.Power as ring
use Rattle.fj_algebra.specs.Sum.{sum_over}
use Rattle.fj_algebra.specs.Splitting as ring_splitting
use Rattle.fj_algebra.proofs.Ring.{add_zero, zero_add, zero_mul, mul_comm, mul_one, mul_left_comm, mul_add}
use Rattle.fj_algebra.proofs.Sum.{sum_over-same_each, sum_over-zero}
use Rattle.fj_algebra.proofs.Parts.{part_from, part-add, part-power_mul}
use Rattle.fj_algebra.proofs.Splitting as ring_laws
use Rattle.fj_theory.specs.Exponents.{IsExponents}
use Rattle.fj_theory.specs.Polynomial.{Polynomial, IsPolynomial, sum, product, power, term}
use Rattle.fj_theory.specs.Parts.{Part, IsParts, sum_of_parts, part_at}
use Rattle.fj_theory.specs.PartTerms.{iterated_root}
use Rattle.fj_theory.specs.Splitting.{weighted_sum, IsInverseLinear, top_residue}
use Rattle.fj_theory.specs.SplittingLaws.{IsLinearOverPowers, IsTraceOf}
use Rattle.fj_theory.proofs.Field.{zero_below, one_below}
use Rattle.fj_theory.proofs.FormalSum.{same, same_true, same_itself, same-Decides}
use Rattle.fj_theory.proofs.Frobenius.{power_positive}
use Rattle.fj_theory.proofs.Polynomial.{coefficient_below, polynomial_equal, IsPolynomial-empty, IsPolynomial-term}
use Rattle.fj_theory.proofs.Product.{IsPolynomial-product}
use Rattle.fj_theory.proofs.PolynomialRing.{PolynomialOver, over_equal, polynomial_ring, map_zero, map_add, map_mul, map_power, product_comm, product_empty, IsPolynomial-power}
use Rattle.fj_theory.proofs.IdealBridge.{over}
use Rattle.fj_theory.proofs.Residues.{Distinct}
use Rattle.fj_theory.proofs.Parts.{IsFamily, IsFamily-tail, IsFamily-from_IsParts, IsPolynomial-sum_of_parts, IsPolynomial-part_at, part_at-coefficient}
use Rattle.fj_theory.proofs.PartsList.{IsParts-unique}
use Rattle.fj_theory.proofs.PartsExistence.{parts_of, IsParts-parts_of}
use Rattle.fj_theory.proofs.PartsRing.{polynomial-Parts, residue_listed, residues_distinct, map_basis, coefficient-part, Family, family_over}
use Rattle.fj_theory.proofs.Trace.{polynomial-Trace, top_is, IsExponents-top_residue, top_residue-below}
use Rattle.fj_theory.proofs.Roots.{iterated_root-power}

-- A sum over a list without repetition in which one summand alone isn't zero.
sum_over-single : {A : Type 0} (R : CommutativeRing A) (f : List ℕ → A) (a : List ℕ) (rs : List (List ℕ)) → Distinct rs
    → ((b : List ℕ) → same a b ≡ false → f b ≡ R.zero) → list_any (same a) rs ≡ true → sum_over R f rs ≡ f a
sum_over-single R f a [] distinct others listed = absurd (true≢false (sym listed))
sum_over-single R f a (b ∷ rs) distinct others listed = by (same a b) refl listed (sum_over-single R f a rs distinct.1 others)
  where
    by : (t : Bool) → same a b ≡ t → (t || list_any (same a) rs) ≡ true → (list_any (same a) rs ≡ true → sum_over R f rs ≡ f a)
        → R.add (f b) (sum_over R f rs) ≡ f a
    by true e g later =
        let is : a ≡ b = same_true a b e in
        let zeros : sum_over R f rs ≡ R.zero =
        sum_over-same_each R f (λ c. R.zero) rs (All-weaker (λ c. same b c ≡ false) (λ c. f c ≡ R.zero) (λ c apart. others c (ap (λ x. same x c) is ∙ apart)) rs distinct.0) ∙ sum_over-zero R rs in
        ap (R.add (f b)) zeros ∙ add_zero R (f b) ∙ ap f (sym is)
    by false e g later = ap (λ x. R.add x (sum_over R f rs)) (others b e) ∙ zero_add R _ ∙ later g

module _ {F : Field} (L : IsField F) (e : ℕ) where
  -- The map of the ring with the values k a.
  abbrev pub map_with : (List ℕ → PolynomialOver F) → PolynomialOver F → PolynomialOver F
  map_with k h = ring_splitting.inverse_linear (polynomial-Parts L e) k h

  module _ (k : List ℕ → PolynomialOver F) where
    pub map_with-add : (g h : PolynomialOver F) → map_with k ((polynomial_ring L).add g h) ≡ (polynomial_ring L).add (map_with k g) (map_with k h)
    map_with-add g h =
        let R = polynomial_ring L in
        let T = polynomial-Trace L e in
        let u = ring_laws.multiplier T k in
        ring_laws.inverse_linear-multiplier T k (R.add g h)
        ∙ ap (λ x. (polynomial-Parts L e).part x T.top) (mul_add R u g h) ∙ part-add (polynomial-Parts L e) T.top T.top_listed (R.mul u g) (R.mul u h)
        ∙ sym (ap₂ R.add (ring_laws.inverse_linear-multiplier T k g) (ring_laws.inverse_linear-multiplier T k h))

    pub map_with-power_mul : (g h : PolynomialOver F)
        → map_with k ((polynomial_ring L).mul (ring.power (polynomial_ring L) g (F.characteristic ^ e)) h) ≡ (polynomial_ring L).mul g (map_with k h)
    map_with-power_mul g h =
        let R = polynomial_ring L in
        let T = polynomial-Trace L e in
        let u = ring_laws.multiplier T k in
        ring_laws.inverse_linear-multiplier T k (R.mul (ring.power R g (F.characteristic ^ e)) h)
        ∙ ap (λ x. (polynomial-Parts L e).part x T.top) (mul_left_comm R u (ring.power R g (F.characteristic ^ e)) h) ∙ part-power_mul (polynomial-Parts L e) T.top T.top_listed g (R.mul u h)
        ∙ ap (R.mul g) (sym (ring_laws.inverse_linear-multiplier T k h))

    pub map_with-zero : map_with k (polynomial_ring L).zero ≡ (polynomial_ring L).zero
    map_with-zero =
        let R = polynomial_ring L in
        let p = ring.power R R.zero (F.characteristic ^ e) in
        ap (map_with k) (sym (mul_comm R p R.zero ∙ zero_mul R p)) ∙ map_with-power_mul R.zero R.zero ∙ zero_mul R (map_with k R.zero)

  -- The parts of a basis element: one at its own residue, and else zero.
  delta : List ℕ → List ℕ → PolynomialOver F
  delta a b = cond (same a b) (polynomial_ring L).one (polynomial_ring L).zero

  delta_same : (a : List ℕ) → delta a a ≡ (polynomial_ring L).one
  unfolding delta
  delta_same a = ap (λ t. cond t (polynomial_ring L).one (polynomial_ring L).zero) (same_itself a)

  delta_other : (a b : List ℕ) → same a b ≡ false → delta a b ≡ (polynomial_ring L).zero
  unfolding delta
  delta_other a b apart = ap (λ t. cond t (polynomial_ring L).one (polynomial_ring L).zero) apart

  listed_any : {a : List ℕ} → Contains (polynomial-Parts L e).residues a → list_any (same a) (polynomial-Parts L e).residues ≡ true
  listed_any {a} listed = (is_member-Decides same-Decides (polynomial-Parts L e).residues a).1 listed

  part_of_basis : {a b : List ℕ} → Contains (polynomial-Parts L e).residues a → Contains (polynomial-Parts L e).residues b
      → (polynomial-Parts L e).part ((polynomial-Parts L e).basis a) b ≡ delta a b
  part_of_basis {a} {b} A B =
      let R = polynomial_ring L in
      let P = polynomial-Parts L e in
      let q : ℕ = F.characteristic ^ e in
      let f : List ℕ → PolynomialOver F = λ c. R.mul (ring.power R (delta a c) q) (P.basis c) in
      let others : (c : List ℕ) → same a c ≡ false → f c ≡ R.zero =
      λ c apart. ap (λ x. R.mul (ring.power R x q) (P.basis c)) (delta_other a c apart) ∙ ap (λ x. R.mul x (P.basis c)) P.frobenius.ring_map.keeps_zero ∙ zero_mul R (P.basis c) in
      let own : f a ≡ P.basis a =
      ap (λ x. R.mul (ring.power R x q) (P.basis a)) (delta_same a) ∙ ap (λ x. R.mul x (P.basis a)) P.frobenius.ring_map.keeps_one ∙ mul_comm R R.one (P.basis a) ∙ mul_one R (P.basis a) in
      part_from P (P.basis a) (delta a) (sym (sum_over-single R f a P.residues (residues_distinct L e) others (listed_any A) ∙ own)) b B

  -- The map's value at a basis element.
  pub map_with-basis : (k : List ℕ → PolynomialOver F) {a : List ℕ} → Contains (polynomial-Parts L e).residues a → map_with k ((polynomial-Parts L e).basis a) ≡ k a
  map_with-basis k {a} A =
      let R = polynomial_ring L in
      let P = polynomial-Parts L e in
      let f : List ℕ → PolynomialOver F = λ b. R.mul (delta a b) (k b) in
      sum_over-same_each R (λ b. R.mul (P.part (P.basis a) b) (k b)) f P.residues
      (All-weaker (Contains P.residues) (λ b. R.mul (P.part (P.basis a) b) (k b) ≡ f b) (λ b B. ap (λ x. R.mul x (k b)) (part_of_basis A B)) P.residues (All-contains_itself P.residues))
      ∙ sum_over-single R f a P.residues (residues_distinct L e) (λ b apart. ap (λ x. R.mul x (k b)) (delta_other a b apart) ∙ zero_mul R (k b)) (listed_any A)
      ∙ ap (λ x. R.mul x (k a)) (delta_same a) ∙ mul_comm R R.one (k a) ∙ mul_one R (k a)

  -- Its value at a sum of parts is their weighted sum.
  pub map_with-sum_of_parts : {k : List ℕ → Polynomial} (K : Family F (F.characteristic ^ e) k) (parts : List Part) (G : IsFamily F (F.characteristic ^ e) parts)
      → (map_with K.at (over (IsPolynomial-sum_of_parts L e parts G))).map ≡ weighted_sum F k parts
  unfolding sum_of_parts weighted_sum
  map_with-sum_of_parts K [] G = ap (λ x. (map_with K.at x).map) (over_equal (over (IsPolynomial-sum_of_parts L e [] G)) (polynomial_ring L).zero (sym (map_zero L))) ∙ ap (λ x. x.map) (map_with-zero K.at) ∙ map_zero L
  map_with-sum_of_parts {k} K (part ∷ parts) G =
      let R = polynomial_ring L in
      let P = polynomial-Parts L e in
      let q : ℕ = F.characteristic ^ e in
      let A = All-head (λ part. IsExponents part.residue) part parts G.residues in
      let below = All-head (λ part. All (λ i. i < q) part.residue) part parts G.below in
      let f : PolynomialOver F = over (All-head (λ part. IsPolynomial F part.polynomial) part parts G.polynomials) in
      let later = IsFamily-tail part parts G in
      let rest : PolynomialOver F = over (IsPolynomial-sum_of_parts L e parts later) in
      let x : PolynomialOver F = P.basis part.residue in
      let whole : over (IsPolynomial-sum_of_parts L e (part ∷ parts) G) ≡ R.add (R.mul (ring.power R f q) x) rest =
      over_equal _ _ (sym (map_add L _ rest ∙ ap (λ g. sum F g rest.map) (map_mul L _ x ∙ ap₂ (product F) (map_power L f q) (map_basis L e A)))) in
      ap (λ y. (map_with K.at y).map) whole
      ∙ ap (λ y. y.map) (map_with-add K.at (R.mul (ring.power R f q) x) rest ∙ ap (λ y. R.add y (map_with K.at rest)) (map_with-power_mul K.at f x ∙ ap (R.mul f) (map_with-basis K.at (residue_listed L e A below))))
      ∙ map_add L (R.mul f (K.at part.residue)) (map_with K.at rest) ∙ ap₂ (sum F) (map_mul L f _ ∙ ap (product F part.polynomial) (K.agrees A below)) (map_with-sum_of_parts K parts later)

  -- Its value at a polynomial is the weighted sum of the parts.
  pub map_with-weighted_sum : {k : List ℕ → Polynomial} (K : Family F (F.characteristic ^ e) k) (h : PolynomialOver F) (parts : List Part)
      → IsParts F (F.characteristic ^ e) h.map parts → (map_with K.at h).map ≡ weighted_sum F k parts
  map_with-weighted_sum K h parts D =
      let G = IsFamily-from_IsParts D in
      ap (λ x. (map_with K.at x).map) (over_equal h (over (IsPolynomial-sum_of_parts L e parts G)) D.whole) ∙ map_with-sum_of_parts K parts G

  -- What has parts is a polynomial.
  pub polynomial_of_parts : {h : Polynomial} {parts : List Part} → IsParts F (F.characteristic ^ e) h parts → IsPolynomial F h
  polynomial_of_parts {parts} D = subst (IsPolynomial F) (sym D.whole) (IsPolynomial-sum_of_parts L e parts (IsFamily-from_IsParts D))

  -- A p^-e-linear map of polynomials as a map of the ring.
  module _ {phi : Polynomial → Polynomial} (X : IsInverseLinear F (F.characteristic ^ e) phi) where
    pub values_over : Family F (F.characteristic ^ e) X.values
    values_over = family_over (F.characteristic ^ e) (power_positive L e) X.polynomials

    pub map_with-phi : (h : PolynomialOver F) → (map_with values_over.at h).map ≡ phi h.map
    map_with-phi h =
        let D = IsParts-parts_of L e h.is_polynomial in
        map_with-weighted_sum values_over h (parts_of F e h.map) D ∙ sym (X.is h.map (parts_of F e h.map) D)

    -- It is additive and linear over q-th powers.
    pub IsInverseLinear-laws : IsLinearOverPowers F (F.characteristic ^ e) phi
    IsInverseLinear-laws =
        let R = polynomial_ring L in
        let k = values_over.at in
        let q : ℕ = F.characteristic ^ e in
        record {
          polynomials = λ h H. subst (IsPolynomial F) (map_with-phi (over H)) (map_with k (over H)).is_polynomial;
          additive = λ g h G H.
              ap phi (sym (map_add L (over G) (over H))) ∙ sym (map_with-phi (R.add (over G) (over H))) ∙ ap (λ x. x.map) (map_with-add k (over G) (over H))
              ∙ map_add L _ _ ∙ ap₂ (sum F) (map_with-phi (over G)) (map_with-phi (over H));
          linear = λ g h G H.
              ap phi (sym (map_mul L (ring.power R (over G) q) (over H) ∙ ap (λ x. product F x h) (map_power L (over G) q))) ∙ sym (map_with-phi (R.mul (ring.power R (over G) q) (over H)))
              ∙ ap (λ x. x.map) (map_with-power_mul k (over G) (over H)) ∙ map_mul L (over G) _ ∙ ap (product F g) (map_with-phi (over H));
        }

  -- An additive map that is linear over q-th powers has its values at the monomials.
  module _ {phi : Polynomial → Polynomial} (Z : IsLinearOverPowers F (F.characteristic ^ e) phi) where
    phi-empty : phi empty ≡ empty
    phi-empty =
        let E = IsPolynomial-empty F in
        ap phi (sym (product_empty L (IsPolynomial-power L E (F.characteristic ^ e)))) ∙ Z.linear empty empty E E
        ∙ product_comm L E (Z.polynomials empty E) ∙ product_empty L (Z.polynomials empty E)

    phi-sum_of_parts : (parts : List Part) → IsFamily F (F.characteristic ^ e) parts → phi (sum_of_parts F (F.characteristic ^ e) parts) ≡ weighted_sum F (λ a. phi (term 1 a)) parts
    unfolding sum_of_parts weighted_sum
    phi-sum_of_parts [] G = phi-empty
    phi-sum_of_parts (part ∷ parts) G =
        let q : ℕ = F.characteristic ^ e in
        let H = All-head (λ part. IsPolynomial F part.polynomial) part parts G.polynomials in
        let T = IsPolynomial-term 1 (one_below L) (All-head (λ part. IsExponents part.residue) part parts G.residues) in
        let later = IsFamily-tail part parts G in
        Z.additive (product F (power F part.polynomial q) (term 1 part.residue)) (sum_of_parts F q parts) (IsPolynomial-product L (IsPolynomial-power L H q) T) (IsPolynomial-sum_of_parts L e parts later)
        ∙ ap₂ (sum F) (Z.linear part.polynomial (term 1 part.residue) H T) (phi-sum_of_parts parts later)

    pub IsInverseLinear-from_laws : IsInverseLinear F (F.characteristic ^ e) phi
    IsInverseLinear-from_laws = record {
      values = λ a. phi (term 1 a);
      polynomials = λ a A below. Z.polynomials (term 1 a) (IsPolynomial-term 1 (one_below L) A);
      is = λ h parts D. ap phi D.whole ∙ phi-sum_of_parts parts (IsFamily-from_IsParts D);
    }

  -- A map of the ring as a map of polynomials.
  unfoldable pub map_on_polynomials : (List ℕ → PolynomialOver F) → Polynomial → Polynomial
  map_on_polynomials k h = weighted_sum F (λ a. (k a).map) (parts_of F e h)

  module _ (k : List ℕ → PolynomialOver F) where
    -- its values as a family
    abbrev own : Family F (F.characteristic ^ e) (λ a. (k a).map)
    own = record { at = k; agrees = λ A below. refl }

    pub map_on_polynomials-IsInverseLinear : IsInverseLinear F (F.characteristic ^ e) (map_on_polynomials k)
    unfolding map_on_polynomials
    map_on_polynomials-IsInverseLinear = record {
      values = λ a. (k a).map;
      polynomials = λ a A below. (k a).is_polynomial;
      is = λ h parts D. ap (weighted_sum F (λ a. (k a).map)) (IsParts-unique L e (IsParts-parts_of L e (polynomial_of_parts D)) D);
    }

    pub map_with-map_on_polynomials : (h : PolynomialOver F) → (map_with k h).map ≡ map_on_polynomials k h.map
    unfolding map_on_polynomials
    map_with-map_on_polynomials h = map_with-weighted_sum own h (parts_of F e h.map) (IsParts-parts_of L e h.is_polynomial)

  -- The part of a list of parts at a residue is the ring's part.
  pub map_part-part_at : (x : PolynomialOver F) {parts : List Part} → IsParts F (F.characteristic ^ e) x.map parts
      → {a : List ℕ} → IsExponents a → All (λ i. i < F.characteristic ^ e) a → ((polynomial-Parts L e).part x a).map ≡ part_at parts a
  map_part-part_at x {parts} D {a} A below =
      let G = IsFamily-from_IsParts D in
      let H = IsPolynomial-part_at parts a G.polynomials in
      polynomial_equal ((polynomial-Parts L e).part x a).is_polynomial H (λ b B.
      coefficient-part L e x A below B ∙ ap (iterated_root F e) (sym (part_at-coefficient L e parts G D.whole A below B)) ∙ iterated_root-power L e _ (coefficient_below H (zero_below L) b))

  pub map_trace : (x : PolynomialOver F) {parts : List Part} → IsParts F (F.characteristic ^ e) x.map parts
      → ((polynomial-Parts L e).part x (polynomial-Trace L e).top).map ≡ part_at parts (top_residue (F.characteristic ^ e))
  map_trace x D =
      let q : ℕ = F.characteristic ^ e in
      ap (λ a. ((polynomial-Parts L e).part x a).map) (top_is L e) ∙ map_part-part_at x D (IsExponents-top_residue q) (top_residue-below q (power_positive L e))

  -- The q^-1-linear maps are the traces of polynomials.
  pub IsTraceOf-from_IsInverseLinear : {phi : Polynomial → Polynomial} → IsInverseLinear F (F.characteristic ^ e) phi → (u : Polynomial) × IsTraceOf F (F.characteristic ^ e) u phi
  IsTraceOf-from_IsInverseLinear {phi} X =
      let T = polynomial-Trace L e in
      let k = (values_over X).at in
      let u : PolynomialOver F = ring_laws.multiplier T k in (
        u.map,
        record {
          polynomial = u.is_polynomial;
          is = λ h H parts D.
              sym (map_with-phi X (over H)) ∙ ap (λ x. x.map) (ring_laws.inverse_linear-multiplier T k (over H))
              ∙ map_trace ((polynomial_ring L).mul u (over H)) (subst (λ f. IsParts F (F.characteristic ^ e) f parts) (sym (map_mul L u (over H))) D);
        },
      )

  pub IsInverseLinear-from_IsTraceOf : {phi : Polynomial → Polynomial} {u : Polynomial} → IsTraceOf F (F.characteristic ^ e) u phi → IsInverseLinear F (F.characteristic ^ e) phi
  IsInverseLinear-from_IsTraceOf {phi} {u} Y =
      let T = polynomial-Trace L e in
      let v : PolynomialOver F = over Y.polynomial in
      let k = ring_laws.values_of T v in
      record {
        values = λ a. (k a).map;
        polynomials = λ a A below. (k a).is_polynomial;
        is = λ h parts D.
            let H = polynomial_of_parts D in
            let x = (polynomial_ring L).mul v (over H) in
            let E = IsParts-parts_of L e x.is_polynomial in
            Y.is h H (parts_of F e x.map) (subst (λ f. IsParts F (F.characteristic ^ e) f (parts_of F e x.map)) (map_mul L v (over H)) E) ∙ sym (map_trace x E)
            ∙ ap (λ y. y.map) (ring_laws.trace_map-values_of T v (over H)) ∙ map_with-weighted_sum (own k) (over H) parts D;
      }
