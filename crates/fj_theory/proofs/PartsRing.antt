-- The polynomials are a ring with parts over p^e-th powers: the residues are the exponent lists with entries below p^e.
use Rattle.std.proofs.Common.{◌≡◌, ℕ, zero, suc, ◌^◌, ◌<◌, Bool, true, false, cond, List, [], ◌∷◌, length, map, get_or, All, Contains, refl, sym, ap, ap₂, ◌∙◌, subst, arith}
use Rattle.std.specs.List.{list_any}
use Rattle.std.specs.FinMap.{entries, from_entries}
use Rattle.std.proofs.lemmas.Map.Made.{is_member-Decides}
use Rattle.std.proofs.lemmas.List.Elements.{All-map, All-head, All-tail, All-weaker, All-from_recursion, All-contains}
use Rattle.fj_coeff.specs.Field.{Field, IsField}
use Rattle.fj_coeff.specs.Field as field
use Rattle.fj_algebra.specs.Parts as ring
use Rattle.fj_theory.specs.Exponents.{IsExponents, origin, plus, times, residue_by}
use Rattle.fj_theory.specs.Polynomial.{Polynomial, IsPolynomial, coefficient, term, sum, product, IsTerm}
use Rattle.fj_theory.specs.Parts.{Part, sum_of_parts, part_at}
use Rattle.fj_theory.specs.PartTerms.{part_terms, iterated_root}
use Rattle.fj_theory.proofs.Exponents.{IsExponents-origin, plus_origin, origin_plus, IsExponents-times, times_origin}
use Rattle.fj_theory.proofs.Product.{K}
use Rattle.fj_theory.proofs.Monomial.{rank_power}
use Rattle.fj_theory.proofs.Roots.{iterated_root_zero, iterated_root-power}
use Rattle.fj_theory.proofs.Frobenius.{power_positive, polynomial-IsFrobenius, field-IsFrobenius, same-times}
use Rattle.fj_theory.proofs.PartsExistence.{residues_of-map}
use Rattle.fj_theory.proofs.Residues.{residues_below, residues_below-exponents, in_residues_below, residues_below-entries, Distinct, Distinct-from_Rises, Rises-residues_below, IsExponents-residue_by, residue_by-below, residue_by-plus}
use Rattle.fj_theory.proofs.PartsList.{IsTerm-part_terms, coefficient-part_terms}
use Rattle.fj_theory.proofs.Field.{one_below, rank_one}
use Rattle.fj_theory.proofs.Terms.{IsPolynomial-from_entries, IsTerm-entries, from_entries-entries}
use Rattle.fj_theory.proofs.Polynomial.{IsPolynomial-term, polynomial_equal, coefficient-term}
use Rattle.fj_theory.proofs.Parts.{part_at_All, IsFamily, whole_from_roots, part_at_unique}
use Rattle.fj_theory.proofs.PolynomialRing.{PolynomialOver, polynomial_ring, map_zero, map_add, map_mul, over_equal, map_power, map_one}
use Rattle.fj_theory.proofs.FormalSum.{same, same-Decides}

-- A list cut or filled with zeros to n entries.
fit : ℕ → List ℕ → List ℕ
fit zero a = []
fit (suc n) [] = 0 ∷ fit n []
fit (suc n) (x ∷ a) = x ∷ fit n a

length-fit : (n : ℕ) (a : List ℕ) → length (fit n a) ≡ n
unfolding fit
length-fit zero a = refl
length-fit (suc n) [] = ap suc (length-fit n [])
length-fit (suc n) (x ∷ a) = ap suc (length-fit n a)

fit_same : (n : ℕ) (a : List ℕ) → length a ≡ n → fit n a ≡ a
unfolding fit
fit_same zero [] e = refl
fit_same zero (x ∷ a) e = absurd (omega arith)
fit_same (suc n) [] e = absurd (omega arith)
fit_same (suc n) (x ∷ a) e = ap (λ b. x ∷ b) (fit_same n a (omega arith))

-- The family of polynomials at the residues of a list.
abbrev family : (List ℕ → Polynomial) → List (List ℕ) → List Part
family f rs = map (λ a. record { residue = a; polynomial = f a }) rs

part_at-family : (f : List ℕ → Polynomial) (rs : List (List ℕ)) (a : List ℕ) → list_any (same a) rs ≡ true → part_at (family f rs) a ≡ f a
part_at-family f rs a h =
    part_at_All (λ b g. g ≡ f b) (family f rs) a (All-map (λ part. part.polynomial ≡ f part.residue) (λ b. record { residue = b; polynomial = f b }) rs (λ k d g. refl))
    (ap (list_any (same a)) (residues_of-map f rs) ∙ h)

module _ {F : Field} (L : IsField F) (e : ℕ) where
  -- The monomial of a residue.
  pub monomial_at : List ℕ → PolynomialOver F
  monomial_at a = record { map = term 1 (fit 8 a); is_polynomial = IsPolynomial-term 1 (one_below L) (record { eight = length-fit 8 a }) }

  -- The part of a polynomial at a residue.
  pub part_of : PolynomialOver F → List ℕ → PolynomialOver F
  part_of h a = record { map = from_entries (part_terms F e a (entries h.map)); is_polynomial = IsPolynomial-from_entries _ (IsTerm-part_terms L e a (entries h.map) (IsTerm-entries h.is_polynomial)) }

  -- The coefficient of the part at b is the root of that of the polynomial at q * b + a.
  pub coefficient-part_of : (h : PolynomialOver F) {a b : List ℕ} → IsExponents a → All (λ k. k < F.characteristic ^ e) a → IsExponents b
      → coefficient (part_of h a).map b ≡ iterated_root F e (coefficient h.map (plus (times (F.characteristic ^ e) b) a))
  unfolding part_of
  coefficient-part_of h {a} {b} A below B =
      coefficient-part_terms L e A below (entries h.map) (All-weaker (IsTerm F) (λ t. IsExponents t.0) (λ t D. D.exponents) (entries h.map) (IsTerm-entries h.is_polynomial)) B
      ∙ ap (λ f. iterated_root F e (coefficient f (plus (times (F.characteristic ^ e) b) a))) (from_entries-entries h.map)

  module _ (c : List ℕ → PolynomialOver F) where
    map-from_parts : (rs : List (List ℕ)) → All IsExponents rs
        → (ring.from_parts (polynomial_ring L) (F.characteristic ^ e) rs monomial_at c).map ≡ sum_of_parts F (F.characteristic ^ e) (family (λ a. (c a).map) rs)
    unfolding monomial_at sum_of_parts
    map-from_parts [] all = map_zero L
    map-from_parts (a ∷ rs) all =
        map_add L _ _
        ∙ ap₂ (sum F)
        (map_mul L _ _ ∙ ap₂ (product F) (map_power L (c a) (F.characteristic ^ e)) (ap (term 1) (fit_same 8 a (All-head IsExponents a rs all).eight)))
        (map-from_parts rs (All-tail IsExponents a rs all))

    family-IsFamily : IsFamily F (F.characteristic ^ e) (family (λ a. (c a).map) (residues_below (F.characteristic ^ e)))
    family-IsFamily =
        let q : ℕ = F.characteristic ^ e in
        let rs : List (List ℕ) = residues_below q in
        let make : List ℕ → Part = λ a. record { residue = a; polynomial = (c a).map } in
        record {
          residues = All-map (λ part. IsExponents part.residue) make rs (residues_below-exponents q);
          below = All-map (λ part. All (λ k. k < q) part.residue) make rs (residues_below-entries q);
          distinct = subst Distinct (sym (residues_of-map (λ a. (c a).map) rs)) (Distinct-from_Rises rs (Rises-residues_below q));
          polynomials = All-map (λ part. IsPolynomial F part.polynomial) make rs (λ k d h. (c (get_or rs k d)).is_polynomial);
        }

  from_part_of : (h : PolynomialOver F)
      → h ≡ ring.from_parts (polynomial_ring L) (F.characteristic ^ e) (residues_below (F.characteristic ^ e)) monomial_at (part_of h)
  from_part_of h =
      let q : ℕ = F.characteristic ^ e in
      let rs : List (List ℕ) = residues_below q in
      over_equal _ _ (whole_from_roots L e h.is_polynomial (family (λ a. (part_of h a).map) rs) (family-IsFamily (part_of h)) (λ a b A below B. roots a b A below B) ∙ sym (map-from_parts (part_of h) rs (residues_below-exponents q)))
    where
      roots : (a b : List ℕ) → IsExponents a → All (λ k. k < F.characteristic ^ e) a → IsExponents b
          → coefficient (part_at (family (λ a. (part_of h a).map) (residues_below (F.characteristic ^ e))) a) b ≡ iterated_root F e (coefficient h.map (plus (times (F.characteristic ^ e) b) a))
      roots a b A below B =
          ap (λ f. coefficient f b) (part_at-family (λ a. (part_of h a).map) (residues_below (F.characteristic ^ e)) a (in_residues_below (F.characteristic ^ e) A below))
          ∙ coefficient-part_of h A below B

  unique_parts : (c d : List ℕ → PolynomialOver F)
      → ring.from_parts (polynomial_ring L) (F.characteristic ^ e) (residues_below (F.characteristic ^ e)) monomial_at c ≡ ring.from_parts (polynomial_ring L) (F.characteristic ^ e) (residues_below (F.characteristic ^ e)) monomial_at d
      → (a : List ℕ) → Contains (residues_below (F.characteristic ^ e)) a → c a ≡ d a
  unique_parts c d same_sum a listed =
      let q : ℕ = F.characteristic ^ e in
      let rs : List (List ℕ) = residues_below q in
      let t = (is_member-Decides same-Decides rs a).1 listed in
      let A = All-contains IsExponents rs a (residues_below-exponents q) listed in
      let below = All-contains (λ b. All (λ k. k < q) b) rs a (residues_below-entries q) listed in
      over_equal _ _ (sym (part_at-family (λ b. (c b).map) rs a t)
      ∙ part_at_unique L e (family (λ b. (c b).map) rs) (family (λ b. (d b).map) rs) (family-IsFamily c) (family-IsFamily d)
      (map-from_parts c rs (residues_below-exponents q)) (ap (λ x. x.map) same_sum ∙ map-from_parts d rs (residues_below-exponents q)) A below
      ∙ part_at-family (λ b. (d b).map) rs a t)

  origin_below : All (λ k. k < F.characteristic ^ e) origin
  unfolding origin
  origin_below =
      let h = power_positive L e in
      All-from_recursion (λ k. k < F.characteristic ^ e) origin (h, (h, (h, (h, (h, (h, (h, (h, tt))))))))

  one_root : iterated_root F e 1 ≡ 1
  one_root = ap (iterated_root F e) (sym one_power) ∙ iterated_root-power L e 1 (one_below L)
    where
      one_power : field.power F 1 (F.characteristic ^ e) ≡ 1
      one_power = ap (λ c. field.power F c (F.characteristic ^ e)) (sym (rank_one L)) ∙ sym (rank_power L (K L).one (F.characteristic ^ e))
          ∙ ap (λ x. x.rank) (field-IsFrobenius L e).ring_map.keeps_one ∙ rank_one L

  part_of_one : part_of (polynomial_ring L).one origin ≡ (polynomial_ring L).one
  part_of_one = over_equal _ _ (polynomial_equal (part_of (polynomial_ring L).one origin).is_polynomial (polynomial_ring L).one.is_polynomial
      (λ b B. coefficient-part_of (polynomial_ring L).one IsExponents-origin origin_below B
      ∙ ap (iterated_root F e) (ap (coefficient (polynomial_ring L).one.map) (plus_origin (IsExponents-times (F.characteristic ^ e) B)) ∙ ap (λ f. coefficient f (times (F.characteristic ^ e) b)) (map_one L) ∙ coefficient-term 1 origin (times (F.characteristic ^ e) b)
      ∙ ap (λ t. cond t 1 0) (ap (same (times (F.characteristic ^ e) b)) (sym (times_origin (F.characteristic ^ e))) ∙ same-times (F.characteristic ^ e) b origin (power_positive L e)))
      ∙ choose (same b origin)
      ∙ sym (ap (λ f. coefficient f b) (map_one L) ∙ coefficient-term 1 origin b)))
    where
      choose : (t : Bool) → iterated_root F e (cond t 1 0) ≡ cond t 1 0
      choose true = one_root
      choose false = iterated_root_zero L e

  -- The ring of polynomials with its parts.
  pub polynomial-Parts : ring.Parts (polynomial_ring L) (List ℕ) (F.characteristic ^ e)
  polynomial-Parts = record {
    frobenius = polynomial-IsFrobenius L e;
    residues = residues_below (F.characteristic ^ e);
    basis = monomial_at;
    part = part_of;
    from = from_part_of;
    unique = unique_parts;
    origin = origin;
    origin_listed = (is_member-Decides same-Decides (residues_below (F.characteristic ^ e)) origin).0 (in_residues_below (F.characteristic ^ e) IsExponents-origin origin_below);
    origin_part = part_of_one;
  }

  -- Its parts as maps, and its residues.
  pub map_part : (h : PolynomialOver F) (a : List ℕ) → (polynomial-Parts.part h a).map ≡ from_entries (part_terms F e a (entries h.map))
  unfolding polynomial-Parts part_of
  map_part h a = refl

  pub residue_listed : {a : List ℕ} → IsExponents a → All (λ k. k < F.characteristic ^ e) a → Contains polynomial-Parts.residues a
  unfolding polynomial-Parts
  residue_listed {a} A below = (is_member-Decides same-Decides (residues_below (F.characteristic ^ e)) a).0 (in_residues_below (F.characteristic ^ e) A below)

  -- The residues are the exponent lists with entries below q, without repetition.
  pub residue_exponents : {a : List ℕ} → Contains polynomial-Parts.residues a → IsExponents a
  unfolding polynomial-Parts
  residue_exponents {a} listed = All-contains IsExponents (residues_below (F.characteristic ^ e)) a (residues_below-exponents (F.characteristic ^ e)) listed

  pub residue_below : {a : List ℕ} → Contains polynomial-Parts.residues a → All (λ k. k < F.characteristic ^ e) a
  unfolding polynomial-Parts
  residue_below {a} listed =
      All-contains (λ b. All (λ k. k < F.characteristic ^ e) b) (residues_below (F.characteristic ^ e)) a (residues_below-entries (F.characteristic ^ e)) listed

  pub residues_distinct : Distinct polynomial-Parts.residues
  unfolding polynomial-Parts
  residues_distinct = Distinct-from_Rises (residues_below (F.characteristic ^ e)) (Rises-residues_below (F.characteristic ^ e))

  -- The basis elements as maps, and the coefficients of the parts.
  pub map_basis : {a : List ℕ} → IsExponents a → (polynomial-Parts.basis a).map ≡ term 1 a
  unfolding polynomial-Parts monomial_at
  map_basis {a} A = ap (term 1) (fit_same 8 a A.eight)

  pub coefficient-part : (h : PolynomialOver F) {a b : List ℕ} → IsExponents a → All (λ k. k < F.characteristic ^ e) a → IsExponents b
      → coefficient (polynomial-Parts.part h a).map b ≡ iterated_root F e (coefficient h.map (plus (times (F.characteristic ^ e) b) a))
  unfolding polynomial-Parts
  coefficient-part h A below B = coefficient-part_of h A below B

-- A choice of a polynomial for each residue, as a family over all lists: each list is read as the residue of its first
-- eight entries.
pub record Family (F : Field) (q : ℕ) (k : List ℕ → Polynomial) : Type 0 where
  pub at : List ℕ → PolynomialOver F
  pub agrees : {a : List ℕ} → IsExponents a → All (λ i. i < q) a → (at a).map ≡ k a

pub family_over : {F : Field} (q : ℕ) → 0 < q → {k : List ℕ → Polynomial} → ((a : List ℕ) → IsExponents a → All (λ i. i < q) a → IsPolynomial F (k a)) → Family F q k
family_over q positive {k} K = record {
  at = λ a. record { map = k (residue_by q (fit 8 a)); is_polynomial = K (residue_by q (fit 8 a)) (IsExponents-residue_by q (record { eight = length-fit 8 a })) (residue_by-below q (fit 8 a) positive) };
  agrees = λ {a} A below.
      ap k (ap (residue_by q) (fit_same 8 a A.eight ∙ sym (ap (λ z. plus z a) (times_origin q) ∙ origin_plus A)) ∙ residue_by-plus q IsExponents-origin A below);
}
