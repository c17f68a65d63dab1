-- The parts of a polynomial over p^e-th powers: when a list is the list of parts, and that it is the only one.
use Rattle.std.proofs.Common.{◌≡◌, ℕ, ◌^◌, ◌<◌, Bool, true, false, cond, ◌||◌, if◌then◌else◌, List, [], ◌∷◌, length, map, All, refl, sym, ap, ap₂, ◌∙◌, subst, ⊎_elim, eq-zero-or-pos}
use Rattle.std.specs.List.{list_any}
use Rattle.std.specs.FinMap.{empty}
use Rattle.std.proofs.lemmas.Bool.{true≢false, or_parts}
use Rattle.std.proofs.lemmas.List.Elements.{All-head, All-tail, All-map}
use Rattle.fj_coeff.specs.Field.{Field, IsField}
use Rattle.fj_coeff.specs.Field as field
use Rattle.fj_theory.specs.Exponents.{IsExponents, plus, minus, times, divides, quotient_by, residue_by}
use Rattle.fj_theory.specs.Polynomial.{Polynomial, IsPolynomial, coefficient, term, product, power}
use Rattle.fj_theory.specs.Parts.{Part, IsParts, sum_of_parts, part_at}
use Rattle.fj_theory.specs.PartTerms.{iterated_root}
use Rattle.fj_theory.proofs.Exponents.{IsExponents-times, IsExponents-minus, plus_comm, plus-minus, length-times, IsExponents-plus}
use Rattle.fj_theory.proofs.Field.{zero_below, one_below}
use Rattle.fj_theory.proofs.FormalSum.{same, same_true, same_itself}
use Rattle.fj_theory.proofs.Polynomial.{coefficient_below, coefficient-empty, coefficient-sum, IsPolynomial-empty, IsPolynomial-term, IsPolynomial-sum, polynomial_equal}
use Rattle.fj_theory.proofs.Product.{IsPolynomial-product}
use Rattle.fj_theory.proofs.PolynomialRing.{product_comm, IsPolynomial-power}
use Rattle.fj_theory.proofs.Monomial.{power_below, coefficient-product_term, coefficient-product_term_plus}
use Rattle.fj_theory.proofs.Frobenius.{power_positive, coefficient-power, coefficient-power_other}
use Rattle.fj_theory.proofs.Residues.{quotient-residue, residue_by-plus, IsExponents-quotient_by, Distinct, Distinct-from_Rises, Rises-from_IsRising, quotient_by-plus, IsExponents-residue_by, residue_by-below}
use Rattle.fj_theory.proofs.Roots.{field_power_zero, power_injective, power-iterated_root}

-- The residues of a list of parts.
abbrev pub residues_of : List Part → List (List ℕ)
residues_of parts = map (λ part. part.residue) parts

-- A family of polynomials at distinct residues below q.
pub record IsFamily (F : Field) (q : ℕ) (parts : List Part) : Type 0 where
  pub residues : All (λ part. IsExponents part.residue) parts
  pub below : All (λ part. All (λ k. k < q) part.residue) parts
  pub distinct : Distinct (residues_of parts)
  pub polynomials : All (λ part. IsPolynomial F part.polynomial) parts

pub IsFamily-tail : {F : Field} {q : ℕ} (part : Part) (parts : List Part) → IsFamily F q (part ∷ parts) → IsFamily F q parts
IsFamily-tail {F} {q} part parts H = record {
  residues = All-tail (λ part. IsExponents part.residue) part parts H.residues;
  below = All-tail (λ part. All (λ k. k < q) part.residue) part parts H.below;
  distinct = H.distinct.1;
  polynomials = All-tail (λ part. IsPolynomial F part.polynomial) part parts H.polynomials;
}

pub IsFamily-from_IsParts : {F : Field} {q : ℕ} {h : Polynomial} {parts : List Part} → IsParts F q h parts → IsFamily F q parts
IsFamily-from_IsParts {parts} H = record {
  residues = H.residues;
  below = H.below;
  distinct = Distinct-from_Rises (residues_of parts) (Rises-from_IsRising (residues_of parts) (All-map IsExponents (λ part. part.residue) parts H.residues) H.rising);
  polynomials = H.polynomials;
}

-- Where no residue is the given one the part is zero, and else it is a listed one.
pub part_at_none : (parts : List Part) (a : List ℕ) → list_any (same a) (residues_of parts) ≡ false → part_at parts a ≡ empty
unfolding part_at
part_at_none [] a h = refl
part_at_none (part ∷ parts) a h =
    let apart = or_parts (same a part.residue) _ h in
    ap (λ t. if t then part.polynomial else part_at parts a) apart.0 ∙ part_at_none parts a apart.1

pub part_at_All : (P : List ℕ → Polynomial → Type 0) (parts : List Part) (a : List ℕ) → All (λ part. P part.residue part.polynomial) parts
    → list_any (same a) (residues_of parts) ≡ true → P a (part_at parts a)
unfolding part_at
part_at_All P [] a all h = absurd (true≢false (sym h))
part_at_All P (part ∷ parts) a all h = by (same a part.residue) refl h (part_at_All P parts a (All-tail (λ part. P part.residue part.polynomial) part parts all))
  where
    by : (t : Bool) → same a part.residue ≡ t → (t || list_any (same a) (residues_of parts)) ≡ true
        → (list_any (same a) (residues_of parts) ≡ true → P a (part_at parts a)) → P a (if t then part.polynomial else part_at parts a)
    by true e g later = subst (λ b. P b part.polynomial) (sym (same_true a part.residue e)) (All-head (λ part. P part.residue part.polynomial) part parts all)
    by false e g later = later g

pub IsPolynomial-part_at : {F : Field} (parts : List Part) (a : List ℕ) → All (λ part. IsPolynomial F part.polynomial) parts
    → IsPolynomial F (part_at parts a)
IsPolynomial-part_at {F} parts a all = by (list_any (same a) (residues_of parts)) refl
  where
    by : (t : Bool) → list_any (same a) (residues_of parts) ≡ t → IsPolynomial F (part_at parts a)
    by true e = part_at_All (λ b f. IsPolynomial F f) parts a all e
    by false e = subst (IsPolynomial F) (sym (part_at_none parts a e)) (IsPolynomial-empty F)

not_any : (a : List ℕ) (rs : List (List ℕ)) → All (λ b. same a b ≡ false) rs → list_any (same a) rs ≡ false
not_any a [] all = refl
not_any a (b ∷ rs) all = ap (λ t. t || list_any (same a) rs) (All-head (λ c. same a c ≡ false) b rs all)
    ∙ not_any a rs (All-tail (λ c. same a c ≡ false) b rs all)

module _ {F : Field} (L : IsField F) (e : ℕ) where
  -- One summand: the q-th power of a polynomial times a monomial.
  module _ {f : Polynomial} (P : IsPolynomial F f) {a : List ℕ} (A : IsExponents a) (below : All (λ k. k < F.characteristic ^ e) a) where
    IsPolynomial-summand : IsPolynomial F (product F (power F f (F.characteristic ^ e)) (term 1 a))
    IsPolynomial-summand = IsPolynomial-product L (IsPolynomial-power L P (F.characteristic ^ e)) (IsPolynomial-term 1 (one_below L) A)

    coefficient-summand : {m : List ℕ} → IsExponents m
        → coefficient (product F (power F f (F.characteristic ^ e)) (term 1 a)) m ≡ cond (same (residue_by (F.characteristic ^ e) m) a) (field.power F (coefficient f (quotient_by (F.characteristic ^ e) m)) (F.characteristic ^ e)) 0
    coefficient-summand {m} M = ap (λ g. coefficient g m) (product_comm L Q (IsPolynomial-term 1 (one_below L) A)) ∙ by (same (residue_by q m) a) refl
      where
        q : ℕ
        q = F.characteristic ^ e

        Q : IsPolynomial F (power F f (F.characteristic ^ e))
        Q = IsPolynomial-power L P (F.characteristic ^ e)

        one_times : (c : ℕ) → c < F.size → F.mul 1 c ≡ c
        one_times c h = L.mul_comm 1 c (one_below L) h ∙ L.mul_one c h

        other : same (residue_by q m) a ≡ false → divides a m ≡ true → (b : List ℕ) → minus m a ≡ times q b → ⊥
        other apart d b s =
            let B : IsExponents b = record { eight = sym (length-times q b) ∙ ap length (sym s) ∙ (IsExponents-minus M A).eight } in
            true≢false (sym (same_itself a) ∙ ap (λ c. same c a) (sym (ap (residue_by q) (sym (plus-minus A M d) ∙ plus_comm a (minus m a) ∙ ap (λ c. plus c a) s) ∙ residue_by-plus q B A below)) ∙ apart)

        by : (t : Bool) → same (residue_by q m) a ≡ t
            → coefficient (product F (term 1 a) (power F f q)) m ≡ cond t (field.power F (coefficient f (quotient_by q m)) q) 0
        by true s =
            let b : List ℕ = quotient_by q m in
            let B = IsExponents-quotient_by q M in
            let split : m ≡ plus a (times q b) =
            sym (quotient-residue q m (power_positive L e)) ∙ ap (plus (times q b)) (same_true _ a s) ∙ plus_comm (times q b) a in
            ap (coefficient (product F (term 1 a) (power F f q))) split ∙ coefficient-product_term_plus L Q 1 (one_below L) A (IsExponents-times q B)
            ∙ one_times _ (coefficient_below Q (zero_below L) (times q b)) ∙ coefficient-power L e P b
        by false s = coefficient-product_term L Q 1 (one_below L) A M ∙ inner (divides a m) refl
          where
            inner : (d : Bool) → divides a m ≡ d → cond d (F.mul 1 (coefficient (power F f q) (minus m a))) 0 ≡ 0
            inner true d = one_times _ (coefficient_below Q (zero_below L) (minus m a)) ∙ coefficient-power_other L e P (minus m a) (other s d)
            inner false d = refl

  pub IsPolynomial-sum_of_parts : (parts : List Part) → IsFamily F (F.characteristic ^ e) parts
      → IsPolynomial F (sum_of_parts F (F.characteristic ^ e) parts)
  unfolding sum_of_parts
  IsPolynomial-sum_of_parts [] H = IsPolynomial-empty F
  IsPolynomial-sum_of_parts (part ∷ parts) H =
      IsPolynomial-sum L
      (IsPolynomial-summand (All-head (λ part. IsPolynomial F part.polynomial) part parts H.polynomials) (All-head (λ part. IsExponents part.residue) part parts H.residues) (All-head (λ part. All (λ k. k < F.characteristic ^ e) part.residue) part parts H.below))
      (IsPolynomial-sum_of_parts parts (IsFamily-tail part parts H))

  -- The coefficient of the sum at q * b + a is the q-th power of the coefficient of the part at a.
  pub coefficient-sum_of_parts : (parts : List Part) → IsFamily F (F.characteristic ^ e) parts → {m : List ℕ} → IsExponents m
      → coefficient (sum_of_parts F (F.characteristic ^ e) parts) m ≡ field.power F (coefficient (part_at parts (residue_by (F.characteristic ^ e) m)) (quotient_by (F.characteristic ^ e) m)) (F.characteristic ^ e)
  unfolding sum_of_parts part_at
  coefficient-sum_of_parts [] H {m} M = coefficient-empty m
      ∙ sym (ap (λ c. field.power F c (F.characteristic ^ e)) (coefficient-empty (quotient_by (F.characteristic ^ e) m)) ∙ field_power_zero L e)
  coefficient-sum_of_parts (part ∷ parts) H {m} M =
      let q : ℕ = F.characteristic ^ e in
      let P = All-head (λ part. IsPolynomial F part.polynomial) part parts H.polynomials in
      let A = All-head (λ part. IsExponents part.residue) part parts H.residues in
      let B = All-head (λ part. All (λ k. k < F.characteristic ^ e) part.residue) part parts H.below in
      coefficient-sum L (product F (power F part.polynomial q) (term 1 part.residue)) (sum_of_parts F q parts) m
      ∙ ap₂ F.add (coefficient-summand P A B M) (coefficient-sum_of_parts parts (IsFamily-tail part parts H) M)
      ∙ by (same (residue_by q m) part.residue) refl
    where
      q : ℕ
      q = F.characteristic ^ e

      at : Polynomial → ℕ
      at f = field.power F (coefficient f (quotient_by (F.characteristic ^ e) m)) (F.characteristic ^ e)

      at_below : {f : Polynomial} → IsPolynomial F f → at f < F.size
      at_below P = power_below L _ (F.characteristic ^ e) (coefficient_below P (zero_below L) _)

      by : (t : Bool) → same (residue_by (F.characteristic ^ e) m) part.residue ≡ t
          → F.add (cond t (at part.polynomial) 0) (at (part_at parts (residue_by (F.characteristic ^ e) m))) ≡ at (if t then part.polynomial else part_at parts (residue_by (F.characteristic ^ e) m))
      by true s =
          let none : part_at parts (residue_by (F.characteristic ^ e) m) ≡ empty =
          ap (part_at parts) (same_true _ part.residue s) ∙ part_at_none parts part.residue (not_any part.residue (residues_of parts) H.distinct.0) in
          ap (F.add (at part.polynomial)) (ap at none ∙ ap (λ c. field.power F c (F.characteristic ^ e)) (coefficient-empty (quotient_by (F.characteristic ^ e) m)) ∙ field_power_zero L e)
          ∙ L.add_zero _ (at_below (All-head (λ part. IsPolynomial F part.polynomial) part parts H.polynomials))
      by false s =
          let b = at_below (IsPolynomial-part_at parts (residue_by (F.characteristic ^ e) m) (IsFamily-tail part parts H).polynomials) in
          L.add_comm 0 _ (zero_below L) b ∙ L.add_zero _ b

  module _ {h : Polynomial} (H : IsPolynomial F h) (parts : List Part) (G : IsFamily F (F.characteristic ^ e) parts) where
    -- A family sums to h where each coefficient of h is the q-th power of that of its part.
    pub whole_from_powers : ((m : List ℕ) → IsExponents m
        → coefficient h m ≡ field.power F (coefficient (part_at parts (residue_by (F.characteristic ^ e) m)) (quotient_by (F.characteristic ^ e) m)) (F.characteristic ^ e)) → h ≡ sum_of_parts F (F.characteristic ^ e) parts
    whole_from_powers each = polynomial_equal H (IsPolynomial-sum_of_parts parts G) (λ m M. each m M ∙ sym (coefficient-sum_of_parts parts G M))

    -- A family sums to h where each part's coefficients are roots of those of h.
    pub whole_from_roots : ((a b : List ℕ) → IsExponents a → All (λ k. k < F.characteristic ^ e) a → IsExponents b
        → coefficient (part_at parts a) b ≡ iterated_root F e (coefficient h (plus (times (F.characteristic ^ e) b) a))) → h ≡ sum_of_parts F (F.characteristic ^ e) parts
    whole_from_roots each = whole_from_powers (λ m M.
        let q : ℕ = F.characteristic ^ e in
        sym (ap (λ c. field.power F c q) (each (residue_by q m) (quotient_by q m) (IsExponents-residue_by q M) (residue_by-below q m (power_positive L e)) (IsExponents-quotient_by q M))
        ∙ power-iterated_root L e _ (coefficient_below H (zero_below L) _) ∙ ap (coefficient h) (quotient-residue q m (power_positive L e))))

    -- The same for the listed parts alone, where the residues of all terms of h are listed.
    pub whole_from_parts : All (λ part. (b : List ℕ) → IsExponents b → field.power F (coefficient part.polynomial b) (F.characteristic ^ e) ≡ coefficient h (plus (times (F.characteristic ^ e) b) part.residue)) parts
        → ((m : List ℕ) → IsExponents m → 0 < coefficient h m → list_any (same (residue_by (F.characteristic ^ e) m)) (residues_of parts) ≡ true) → h ≡ sum_of_parts F (F.characteristic ^ e) parts
    whole_from_parts each covered = whole_from_powers (λ m M. by m M (list_any (same (residue_by (F.characteristic ^ e) m)) (residues_of parts)) refl)
      where
        q : ℕ
        q = F.characteristic ^ e

        by : (m : List ℕ) → IsExponents m → (t : Bool) → list_any (same (residue_by (F.characteristic ^ e) m)) (residues_of parts) ≡ t
            → coefficient h m ≡ field.power F (coefficient (part_at parts (residue_by (F.characteristic ^ e) m)) (quotient_by (F.characteristic ^ e) m)) (F.characteristic ^ e)
        by m M true s =
            let r : List ℕ = residue_by (F.characteristic ^ e) m in
            ap (coefficient h) (sym (quotient-residue (F.characteristic ^ e) m (power_positive L e)))
            ∙ sym (part_at_All (λ a f. (b : List ℕ) → IsExponents b → field.power F (coefficient f b) (F.characteristic ^ e) ≡ coefficient h (plus (times (F.characteristic ^ e) b) a)) parts r each s
            (quotient_by (F.characteristic ^ e) m) (IsExponents-quotient_by (F.characteristic ^ e) M))
        by m M false s =
            let none : coefficient h m ≡ 0 = ⊎_elim (λ z. z) (λ p. absurd (true≢false (sym (covered m M p) ∙ s))) (eq-zero-or-pos (coefficient h m)) in
            none ∙ sym (ap (λ f. field.power F (coefficient f (quotient_by (F.characteristic ^ e) m)) (F.characteristic ^ e)) (part_at_none parts _ s)
            ∙ ap (λ c. field.power F c (F.characteristic ^ e)) (coefficient-empty (quotient_by (F.characteristic ^ e) m)) ∙ field_power_zero L e)

  -- The coefficients of the parts are determined by the sum.
  pub part_at-coefficient : {h : Polynomial} (parts : List Part) → IsFamily F (F.characteristic ^ e) parts
      → h ≡ sum_of_parts F (F.characteristic ^ e) parts
      → {a b : List ℕ} → IsExponents a → All (λ k. k < F.characteristic ^ e) a → IsExponents b → field.power F (coefficient (part_at parts a) b) (F.characteristic ^ e) ≡ coefficient h (plus (times (F.characteristic ^ e) b) a)
  part_at-coefficient {h} parts G whole {a} {b} A below B =
      let q : ℕ = F.characteristic ^ e in
      let m : List ℕ = plus (times q b) a in
      sym (ap (λ f. coefficient f m) whole ∙ coefficient-sum_of_parts parts G (IsExponents-plus (IsExponents-times q B) A)
      ∙ ap₂ (λ r c. field.power F (coefficient (part_at parts r) c) q) (residue_by-plus q B A below) (quotient_by-plus q B A below))

  pub part_at_unique : {h : Polynomial} (parts others : List Part) → IsFamily F (F.characteristic ^ e) parts
      → IsFamily F (F.characteristic ^ e) others
      → h ≡ sum_of_parts F (F.characteristic ^ e) parts → h ≡ sum_of_parts F (F.characteristic ^ e) others → {a : List ℕ} → IsExponents a → All (λ k. k < F.characteristic ^ e) a → part_at parts a ≡ part_at others a
  part_at_unique parts others G K whole whole' {a} A below =
      let P = IsPolynomial-part_at parts a G.polynomials in
      let Q = IsPolynomial-part_at others a K.polynomials in
      polynomial_equal P Q (λ b B. power_injective L e _ _ (coefficient_below P (zero_below L) b) (coefficient_below Q (zero_below L) b)
      (part_at-coefficient parts G whole A below B ∙ sym (part_at-coefficient others K whole' A below B)))
