-- Laws of Frobenius roots that rest on the parts of polynomials.
use Rattle.std.proofs.Common.{◌≡◌, ◌↔◌, ℕ, ◌+◌, ◌*◌, ◌^◌, List, [], ◌∷◌, map, flat_map, get_or, All, refl, sym, ap, ◌∙◌, subst}
use Rattle.std.proofs.lemmas.Nat.{pow-add}
use Rattle.std.specs.FinMap.{entries, from_entries}
use Rattle.std.proofs.lemmas.List.Elements.{All-map, All-head, All-tail}
use Rattle.fj_coeff.specs.Field.{Field, IsField}
use Rattle.fj_algebra.specs.Power as ring
use Rattle.fj_algebra.specs.Root as ring_root
use Rattle.fj_algebra.proofs.Root as ring_laws
use Rattle.fj_algebra.proofs.Lists.{All-map_back}
use Rattle.fj_theory.specs.Exponents.{IsExponents, origin}
use Rattle.fj_theory.specs.Parts.{Part, IsParts, sum_of_parts}
use Rattle.fj_theory.specs.PartTerms.{part_terms}
use Rattle.fj_theory.specs.Polynomial.{Polynomial, IsPolynomial, product, power, term}
use Rattle.fj_theory.specs.Ideal.{ArePolynomials, Member, Inside, multiples}
use Rattle.fj_theory.specs.FrobeniusPower.{frobenius_power}
use Rattle.fj_theory.specs.Root.{IsRoot}
use Rattle.fj_theory.specs.RootLaws.{WithParts}
use Rattle.fj_theory.proofs.PolynomialRing.{PolynomialOver, polynomial_ring, map_one, map_power, IsPolynomial-power, power_add, power_power, product_comm}
use Rattle.fj_theory.proofs.PartsList.{IsParts-unique}
use Rattle.fj_theory.proofs.PartsRing.{polynomial-Parts, map_part, residue_listed}
use Rattle.fj_theory.proofs.PartsExistence.{parts_of, IsParts-parts_of}
use Rattle.fj_theory.proofs.Ideal.{ArePolynomials-multiples, multiples-multiples, Member-empty, Member-sum, Member-product, Member-elements, Inside-single, Inside-head}
use Rattle.fj_theory.proofs.Field.{one_below}
use Rattle.fj_theory.proofs.Polynomial.{IsPolynomial-term}
use Rattle.fj_theory.proofs.IdealBridge.{over, maps, in_ring, InRing, InRing-maps, InRing-multiples, Member_map, Member_over, Inside_map, Inside_over, ArePolynomials-single, InRing-frobenius_power, Member_polynomial}
use Rattle.fj_theory.proofs.FrobeniusPower.{ArePolynomials-frobenius_power, Inside-frobenius_power, Member-frobenius_power}
use Rattle.fj_theory.proofs.Root.{Root_over, Root_map, IsRoot-IsRoot, IsRoot-nil, IsRoot-append}

module _ {F : Field} (L : IsField F) where
  module _ (e : ℕ) where
    module _ {M : List Polynomial} (P : ArePolynomials F M) where
      -- The root of a Frobenius power is the ideal itself.
      pub IsRoot-frobenius_power : IsRoot F (F.characteristic ^ e) (frobenius_power F (F.characteristic ^ e) M) M
      IsRoot-frobenius_power =
          let X = in_ring P in
          Root_map L (InRing-frobenius_power L (F.characteristic ^ e) X) X (ring_laws.Root-frobenius_power (polynomial-Parts L e) X.list)

      -- h^q is in (M^[q]) exactly where h is in (M).
      pub Member-power : {h : Polynomial} → IsPolynomial F h → Member F M h ↔ Member F (frobenius_power F (F.characteristic ^ e) M) (power F h (F.characteristic ^ e))
      Member-power {h} H =
          let q : ℕ = F.characteristic ^ e in
          let X = in_ring P in
          let Y = InRing-frobenius_power L q X in (
            Member-frobenius_power L e P,
            λ G. Member_map L X (ring_laws.Member-power (polynomial-Parts L e) {h = over H}
                (Member_over L Y (ring.power (polynomial_ring L) (over H) q).is_polynomial (subst (Member F (frobenius_power F q M)) (sym (map_power L (over H) q)) G))),
          )

      -- Every list has a root.
      pub root_exists : (N : List Polynomial) × IsRoot F (F.characteristic ^ e) M N
      root_exists =
          let X = in_ring P in
          let parts : List (PolynomialOver F) = ring_root.all_parts (polynomial-Parts L e) X.list in
          (maps parts, Root_map L X (InRing-maps parts) (ring_laws.Root-all_parts (polynomial-Parts L e) X.list))

      pub Inside-frobenius_power_exactly : {N : List Polynomial} → ArePolynomials F N → Inside F M N ↔ Inside F (frobenius_power F (F.characteristic ^ e) M) (frobenius_power F (F.characteristic ^ e) N)
      Inside-frobenius_power_exactly Q =
          let q : ℕ = F.characteristic ^ e in
          let X = in_ring P in
          let Y = in_ring Q in (
            Inside-frobenius_power L e P Q,
            λ I. Inside_map L X Y (ring_laws.Inside-frobenius_power_back (polynomial-Parts L e) (Inside_over L (InRing-frobenius_power L q X) (InRing-frobenius_power L q Y) I)),
          )

      -- A factor f^q comes out of the root as f.
      pub IsRoot-multiples : {f : Polynomial} → IsPolynomial F f → {N : List Polynomial} → IsRoot F (F.characteristic ^ e) M N
          → IsRoot F (F.characteristic ^ e) (multiples F (power F f (F.characteristic ^ e)) M) (multiples F f N)
      IsRoot-multiples {f} A {N} S =
          let q : ℕ = F.characteristic ^ e in
          let X = in_ring P in
          let Y = in_ring S.polynomials in
          let B = (ring.power (polynomial_ring L) (over A) q).is_polynomial in
          subst (λ g. IsRoot F q (multiples F g M) (multiples F f N)) (map_power L (over A) q)
          (Root_map L (InRing-multiples L B X) (InRing-multiples L A Y) (ring_laws.Root-multiples (polynomial-Parts L e) (over A) (Root_over L X Y S)))

    -- The root of (1) is (1).
    pub IsRoot-one : IsRoot F (F.characteristic ^ e) (term 1 origin ∷ []) (term 1 origin ∷ [])
    IsRoot-one =
        let X : InRing F (term 1 origin ∷ []) = record { list = (polynomial_ring L).one ∷ []; are = ap (λ f. f ∷ []) (map_one L) } in
        Root_map L X X (ring_laws.Root-one (polynomial-Parts L e))

    -- A factor f^(m q) comes out of the root of a power as f^m.
    pub IsRoot-power : {f : Polynomial} → IsPolynomial F f → (m n : ℕ) {N : List Polynomial} → IsRoot F (F.characteristic ^ e) (power F f n ∷ []) N
        → IsRoot F (F.characteristic ^ e) (power F f (m * F.characteristic ^ e + n) ∷ []) (multiples F (power F f m) N)
    IsRoot-power {f} A m n {N} S =
        let q : ℕ = F.characteristic ^ e in
        let single : (k : ℕ) → InRing F (power F f k ∷ []) = λ k. record { list = ring.power (polynomial_ring L) (over A) k ∷ []; are = ap (λ g. g ∷ []) (map_power L (over A) k) } in
        let Y = in_ring S.polynomials in
        let B = (ring.power (polynomial_ring L) (over A) m).is_polynomial in
        subst (λ g. IsRoot F q (power F f (m * q + n) ∷ []) (multiples F g N)) (map_power L (over A) m)
        (Root_map L (single (m * q + n)) (InRing-multiples L B Y) (ring_laws.Root-power_multiples (polynomial-Parts L e) (over A) m n (Root_over L (single n) Y S)))

  -- Where (M^[p^e]) is inside M', the root of M at d is inside the root of M' at d + e.
  pub IsRoot-rising : (d e : ℕ) {M M' N N' : List Polynomial} → ArePolynomials F M → ArePolynomials F M' → IsRoot F (F.characteristic ^ d) M N → IsRoot F (F.characteristic ^ (d + e)) M' N' → Inside F (frobenius_power F (F.characteristic ^ e) M) M' → Inside F N N'
  IsRoot-rising d e {M' = M'} {N' = N'} P P' S T I =
      let X = in_ring P in
      let X' = in_ring P' in
      let Y = in_ring S.polynomials in
      let Y' = in_ring T.polynomials in
      Inside_map L Y Y' (ring_laws.Root-rising (polynomial-Parts L e) (Root_over L X Y S)
      (Root_over L X' Y' (subst (λ q. IsRoot F q M' N') (pow-add F.characteristic d e) T)) (Inside_over L (InRing-frobenius_power L (F.characteristic ^ e) X) X' I))

  -- A root at d, after a factor f^b, of a root at e, after a factor f^a, is a root at d + e after the factor f^(b p^e + a).
  pub IsRoot-digit : (d e : ℕ) {f : Polynomial} → IsPolynomial F f → (a b : ℕ) {M N K : List Polynomial} → ArePolynomials F M
      → IsRoot F (F.characteristic ^ e) (multiples F (power F f a) M) N → IsRoot F (F.characteristic ^ d) (multiples F (power F f b) N) K
      → IsRoot F (F.characteristic ^ (d + e)) (multiples F (power F f (b * F.characteristic ^ e + a)) M) K
  IsRoot-digit d e {f} A a b {M} {N} {K} P S T =
      let q : ℕ = F.characteristic ^ e in
      let powers : (k : ℕ) → IsPolynomial F (power F f k) = λ k. IsPolynomial-power L A k in
      let Q = ArePolynomials-multiples L (powers a) P in
      let joined : multiples F (power F (power F f b) q) (multiples F (power F f a) M) ≡ multiples F (power F f (b * q + a)) M =
      multiples-multiples L (powers a) P (IsPolynomial-power L (powers b) q) ∙ ap (λ g. multiples F g M) (ap (λ g. product F g (power F f a)) (power_power L A b q) ∙ sym (power_add L A (b * q) a)) in
      let R = IsRoot-multiples e Q (powers b) S in
      IsRoot-IsRoot L e (ArePolynomials-multiples L (powers (b * q + a)) P) (subst (λ l. IsRoot F q l (multiples F (power F f b) N)) joined R) d T

  -- Parts.
  module _ (e : ℕ) {h : Polynomial} (H : IsPolynomial F h) {parts : List Part} (K : IsParts F (F.characteristic ^ e) h parts) where
    part_polynomials : All (λ part. part.polynomial ≡ from_entries (part_terms F e part.residue (entries h))) parts
    unfolding parts_of
    part_polynomials =
        subst (All (λ part. part.polynomial ≡ from_entries (part_terms F e part.residue (entries h)))) (IsParts-unique L e (IsParts-parts_of L e H) K)
        (All-map (λ part. part.polynomial ≡ from_entries (part_terms F e part.residue (entries h))) _ _ (λ k d g. refl))

    -- Where h is in (M^[q]), its parts are in (M).
    Member-each_part : {M : List Polynomial} → ArePolynomials F M → Member F (frobenius_power F (F.characteristic ^ e) M) h → All (λ part. Member F M part.polynomial) parts
    Member-each_part {M} P G k d g =
        let X = in_ring P in
        let a : List ℕ = (get_or parts k d).residue in
        let G' = Member_over L (InRing-frobenius_power L (F.characteristic ^ e) X) H G in
        subst (Member F M) (map_part L e (over H) a ∙ sym (part_polynomials k d g)) (Member_map L X (ring_laws.Member-part (polynomial-Parts L e) G' a (residue_listed L e (K.residues k d g) (K.below k d g))))

  -- A sum of parts is in (M^[q]) where the parts are in (M).
  Member-sum_of_parts : (e : ℕ) {M : List Polynomial} → ArePolynomials F M → (parts : List Part) → All (λ part. IsExponents part.residue) parts → All (λ part. Member F M part.polynomial) parts
      → Member F (frobenius_power F (F.characteristic ^ e) M) (sum_of_parts F (F.characteristic ^ e) parts)
  unfolding sum_of_parts
  Member-sum_of_parts e P [] residues each = Member-empty L (ArePolynomials-frobenius_power L P (F.characteristic ^ e))
  Member-sum_of_parts e {M} P (part ∷ parts) residues each =
      let q : ℕ = F.characteristic ^ e in
      let Q = ArePolynomials-frobenius_power L P q in
      let G = All-head (λ part. Member F M part.polynomial) part parts each in
      let A = All-head (λ part. IsExponents part.residue) part parts residues in
      let T = IsPolynomial-term 1 (one_below L) A in
      let first : Member F (frobenius_power F q M) (product F (power F part.polynomial q) (term 1 part.residue)) =
      subst (Member F (frobenius_power F q M)) (product_comm L T (IsPolynomial-power L (Member_polynomial L P G) q)) (Member-product L Q T (Member-frobenius_power L e P G)) in
      Member-sum L Q first (Member-sum_of_parts e P parts (All-tail (λ part. IsExponents part.residue) part parts residues) (All-tail (λ part. Member F M part.polynomial) part parts each))

  module _ (e : ℕ) {h : Polynomial} (H : IsPolynomial F h) {parts : List Part} (K : IsParts F (F.characteristic ^ e) h parts) where
    -- The adjunction: h is in (M^[q]) exactly where its parts are in (M).
    pub Member-parts : {M : List Polynomial} → ArePolynomials F M → Member F (frobenius_power F (F.characteristic ^ e) M) h ↔ All (λ part. Member F M part.polynomial) parts
    Member-parts {M} P = (
      Member-each_part e H K P,
      λ each. subst (Member F (frobenius_power F (F.characteristic ^ e) M)) (sym K.whole) (Member-sum_of_parts e P parts K.residues each),
    )

    -- The parts generate the root.
    pub IsRoot-parts : IsRoot F (F.characteristic ^ e) (h ∷ []) (map (λ part. part.polynomial) parts)
    IsRoot-parts =
        let polynomial : Part → Polynomial = λ part. part.polynomial in
        let M : List Polynomial = map polynomial parts in
        let P : ArePolynomials F M = record { each = All-map (IsPolynomial F) polynomial parts K.polynomials } in
        let own : All (λ part. Member F M part.polynomial) parts = All-map_back (Member F M) polynomial parts (Member-elements L P) in
        record {
          polynomials = P;
          inside = Inside-single ((Member-parts P).1 own);
          least = λ N Q I. record { each = All-map (Member F N) polynomial parts ((Member-parts Q).0 (Inside-head I)) };
        }

  -- The parts of all polynomials of a list generate its root.
  pub IsRoot-all_parts : (e : ℕ) (M : List WithParts) → All (λ h. IsPolynomial F h.polynomial) M → All (λ h. IsParts F (F.characteristic ^ e) h.polynomial h.parts) M
      → IsRoot F (F.characteristic ^ e) (map (λ h. h.polynomial) M) (flat_map (λ h. map (λ part. part.polynomial) h.parts) M)
  IsRoot-all_parts e [] polynomials parts = IsRoot-nil F (F.characteristic ^ e)
  IsRoot-all_parts e (h ∷ M) polynomials parts =
      let H = All-head (λ h. IsPolynomial F h.polynomial) h M polynomials in
      let rest = All-tail (λ h. IsPolynomial F h.polynomial) h M polynomials in
      IsRoot-append L e (ArePolynomials-single H) (IsRoot-parts e H (All-head (λ h. IsParts F (F.characteristic ^ e) h.polynomial h.parts) h M parts))
      (record { each = All-map (IsPolynomial F) (λ h. h.polynomial) M rest })
      (IsRoot-all_parts e M rest (All-tail (λ h. IsParts F (F.characteristic ^ e) h.polynomial h.parts) h M parts))
