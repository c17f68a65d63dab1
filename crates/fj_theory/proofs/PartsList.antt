-- The list of parts of a polynomial: it is the only one, it exists, and its terms come from those of the polynomial.
use Rattle.std.proofs.Common.{◌≡◌, ◌≢◌, ℕ, ◌^◌, ◌<◌, Bool, true, false, cond, ◌&&◌, ◌||◌, if◌then◌else◌, List, [], ◌∷◌, map, All, Some, None, nat_cmp, is_lt, Less, refl, sym, ap, ◌∙◌, subst, T, true≢false, arith, ap₂}
use Rattle.std.specs.List.{list_any}
use Rattle.std.specs.Cmp.Lexicographic.{slice_cmp}
use Rattle.std.specs.FinMap.{empty, find, is_sorted, from_entries, get-from_entries}
use Rattle.std.specs.FinMap.Entries.{below_all, same_entries}
use Rattle.std.proofs.lemmas.Cmp.{nat_list_cmp_total}
use Rattle.std.proofs.lemmas.Map.Lookups.{exact_bytes}
use Rattle.std.proofs.lemmas.List.Elements.{All-head, All-tail, All-map, All-nil, All-cons, All-weaker}
use Rattle.fj_coeff.specs.Field.{Field, IsField}
use Rattle.fj_coeff.specs.Field as field
use Rattle.fj_theory.specs.MonomialOrder.{IsRising, lex_key}
use Rattle.fj_theory.specs.Exponents.{IsExponents, residue_by, plus, quotient_by, times}
use Rattle.fj_theory.specs.Polynomial.{Polynomial, IsTerm, coefficient, IsPolynomial}
use Rattle.fj_theory.specs.Parts.{Part, IsParts, part_at}
use Rattle.fj_theory.specs.PartTerms.{part_terms, iterated_root}
use Rattle.fj_theory.proofs.Field.{zero_below}
use Rattle.fj_theory.proofs.Terms.{coefficient-from_entries_cons, IsPolynomial-from_entries, find_All}
use Rattle.fj_theory.proofs.Roots.{iterated_root_positive, iterated_root_below, iterated_root_zero, power-iterated_root}
use Rattle.fj_theory.proofs.Frobenius.{power_positive}
use Rattle.fj_theory.proofs.FormalSum.{same, same_false, same_true, same_itself}
use Rattle.fj_theory.proofs.Polynomial.{All_same, coefficient-empty, coefficient_below, get-coefficient}
use Rattle.fj_theory.proofs.Parts.{residues_of, IsFamily-from_IsParts, part_at_none, part_at_All, part_at_unique, IsFamily, whole_from_parts}
use Rattle.fj_theory.proofs.Residues.{Rises, Rises-from_IsRising, quotient-residue, IsExponents-quotient_by, residue_by-plus, quotient_by-plus, Distinct-from_Rises}

-- The parts as entries of a map from residues.
abbrev pairs_of : List Part → List (List ℕ × Polynomial)
pairs_of parts = map (λ part. (part.residue, part.polynomial)) parts

abbrev part_of_pair : List ℕ × Polynomial → Part
part_of_pair e = record { residue = e.0; polynomial = e.1 }

parts_of_pairs : (parts : List Part) → map part_of_pair (pairs_of parts) ≡ parts
parts_of_pairs [] = refl
parts_of_pairs (part ∷ parts) = ap (λ ps. part ∷ ps) (parts_of_pairs parts)

find-pairs_of : (parts : List Part) (a : List ℕ)
    → find (slice_cmp nat_cmp) a (pairs_of parts) ≡ cond (list_any (same a) (residues_of parts)) (Some (part_at parts a)) None
unfolding part_at
find-pairs_of [] a = refl
find-pairs_of (part ∷ parts) a = by (same a part.residue) (find-pairs_of parts a)
  where
    by : (t : Bool) → find (slice_cmp nat_cmp) a (pairs_of parts) ≡ cond (list_any (same a) (residues_of parts)) (Some (part_at parts a)) None
        → cond t (Some part.polynomial) (find (slice_cmp nat_cmp) a (pairs_of parts)) ≡ cond (t || list_any (same a) (residues_of parts)) (Some (if t then part.polynomial else part_at parts a)) None
    by true rest = refl
    by false rest = rest

T_both : (a b : Bool) → T a → T b → T (a && b)
T_both true b h g = g
T_both false b h g = absurd h

below_all-pairs_of : (a : List ℕ) (parts : List Part) → All (λ b. slice_cmp nat_cmp a b ≡ Less) (residues_of parts)
    → T (below_all (slice_cmp nat_cmp) a (pairs_of parts))
below_all-pairs_of a [] all = tt
below_all-pairs_of a (part ∷ parts) all =
    T_both _ _ (subst (λ r. T (is_lt r)) (sym (All-head (λ b. slice_cmp nat_cmp a b ≡ Less) part.residue (residues_of parts) all)) tt)
    (below_all-pairs_of a parts (All-tail (λ b. slice_cmp nat_cmp a b ≡ Less) part.residue (residues_of parts) all))

is_sorted-pairs_of : (parts : List Part) → Rises (residues_of parts) → T (is_sorted (slice_cmp nat_cmp) (pairs_of parts))
is_sorted-pairs_of [] h = tt
is_sorted-pairs_of (part ∷ parts) h = T_both _ _ (below_all-pairs_of part.residue parts h.0) (is_sorted-pairs_of parts h.1)

module _ {F : Field} (L : IsField F) (e : ℕ) where
  module _ {h : Polynomial} {parts others : List Part} (H : IsParts F (F.characteristic ^ e) h parts) (K : IsParts F (F.characteristic ^ e) h others) where
    rises : {ps : List Part} → IsParts F (F.characteristic ^ e) h ps → Rises (residues_of ps)
    rises {ps} G = Rises-from_IsRising (residues_of ps) (All-map IsExponents (λ part. part.residue) ps G.residues) G.rising

    same_part : {ps : List Part} → IsParts F (F.characteristic ^ e) h ps → (a : List ℕ) → list_any (same a) (residues_of ps) ≡ true
        → part_at parts a ≡ part_at others a
    same_part {ps} G a t =
        part_at_unique L e parts others (IsFamily-from_IsParts H) (IsFamily-from_IsParts K) H.whole K.whole
        (All_same IsExponents (residues_of ps) a (All-map IsExponents (λ part. part.residue) ps G.residues) t)
        (All_same (λ b. All (λ k. k < F.characteristic ^ e) b) (residues_of ps) a (All-map (λ b. All (λ k. k < F.characteristic ^ e) b) (λ part. part.residue) ps G.below) t)

    same_found : (a : List ℕ) (t s : Bool) → list_any (same a) (residues_of parts) ≡ t → list_any (same a) (residues_of others) ≡ s
        → cond t (Some (part_at parts a)) None ≡ cond s (Some (part_at others a)) None
    same_found a true true u v = ap Some (same_part H a u)
    same_found a true false u v = absurd (part_at_All (λ b f. f ≢ empty) parts a H.nonzero u (same_part H a u ∙ part_at_none others a v))
    same_found a false true u v = absurd (part_at_All (λ b f. f ≢ empty) others a K.nonzero v (sym (same_part K a v) ∙ part_at_none parts a u))
    same_found a false false u v = refl

    -- A polynomial has one list of parts.
    pub IsParts-unique : parts ≡ others
    IsParts-unique =
        sym (parts_of_pairs parts)
        ∙ ap (map part_of_pair) (same_entries (slice_cmp nat_cmp) nat_list_cmp_total exact_bytes (pairs_of parts) (pairs_of others) (is_sorted-pairs_of parts (rises H)) (is_sorted-pairs_of others (rises K))
        (λ a. find-pairs_of parts a ∙ same_found a _ _ refl refl ∙ sym (find-pairs_of others a)))
        ∙ parts_of_pairs others

-- The terms of a part.
module _ {F : Field} (L : IsField F) (e : ℕ) where
  same_split : {a : List ℕ} (b x : List ℕ) → IsExponents a → IsExponents b → All (λ k. k < F.characteristic ^ e) a → IsExponents x
      → same a (residue_by (F.characteristic ^ e) x) ≡ true
      → same (plus (times (F.characteristic ^ e) b) a) x ≡ same b (quotient_by (F.characteristic ^ e) x)
  same_split {a} b x A B below X s = by (same b (quotient_by q x)) refl
    where
      q : ℕ
      q = F.characteristic ^ e

      join : plus (times q (quotient_by q x)) a ≡ x
      join = ap (plus (times q (quotient_by q x))) (same_true a (residue_by q x) s) ∙ quotient-residue q x (power_positive L e)

      by : (t : Bool) → same b (quotient_by q x) ≡ t → same (plus (times q b) a) x ≡ t
      by true t = ap (same (plus (times q b) a)) (sym join ∙ ap (λ c. plus (times q c) a) (sym (same_true b (quotient_by q x) t)))
          ∙ same_itself (plus (times q b) a)
      by false t = same_false (plus (times q b) a) x (λ f. true≢false (sym (same_itself b) ∙ ap (same b) (sym (quotient_by-plus q B A below) ∙ ap (quotient_by q) f) ∙ t))

  same_split_not : {a : List ℕ} (b x : List ℕ) → IsExponents a → IsExponents b → All (λ k. k < F.characteristic ^ e) a
      → same a (residue_by (F.characteristic ^ e) x) ≡ false
      → same (plus (times (F.characteristic ^ e) b) a) x ≡ false
  same_split_not {a} b x A B below s =
      same_false _ x (λ f. true≢false (sym (same_itself a) ∙ ap (same a) (sym (residue_by-plus (F.characteristic ^ e) B A below) ∙ ap (residue_by (F.characteristic ^ e)) f) ∙ s))

  -- The terms of a part are terms.
  pub IsTerm-part_terms : (a : List ℕ) (ts : List (List ℕ × ℕ)) → All (IsTerm F) ts → All (IsTerm F) (part_terms F e a ts)
  unfolding part_terms
  IsTerm-part_terms a [] all = All-nil (IsTerm F)
  IsTerm-part_terms a (t ∷ ts) all = by (same a (residue_by (F.characteristic ^ e) t.0)) (IsTerm-part_terms a ts (All-tail (IsTerm F) t ts all))
    where
      B : IsTerm F t
      B = All-head (IsTerm F) t ts all

      by : (s : Bool) → All (IsTerm F) (part_terms F e a ts)
          → All (IsTerm F) (if s then (quotient_by (F.characteristic ^ e) t.0, iterated_root F e t.1) ∷ part_terms F e a ts else part_terms F e a ts)
      by true rest =
          All-cons (IsTerm F) (quotient_by (F.characteristic ^ e) t.0, iterated_root F e t.1) (part_terms F e a ts)
          (record { exponents = IsExponents-quotient_by (F.characteristic ^ e) B.exponents; nonzero = iterated_root_positive L e t.1 B.nonzero B.below; below = iterated_root_below L e t.1 B.below }) rest
      by false rest = rest

  module _ {a : List ℕ} (A : IsExponents a) (below : All (λ k. k < F.characteristic ^ e) a) where
    -- The coefficients of the part are roots of those of the polynomial.
    pub coefficient-part_terms : (ts : List (List ℕ × ℕ)) → All (λ t. IsExponents t.0) ts → {b : List ℕ} → IsExponents b
        → coefficient (from_entries (part_terms F e a ts)) b ≡ iterated_root F e (coefficient (from_entries ts) (plus (times (F.characteristic ^ e) b) a))
    unfolding part_terms
    coefficient-part_terms [] all {b} B = coefficient-empty b
        ∙ sym (ap (iterated_root F e) (coefficient-empty (plus (times (F.characteristic ^ e) b) a)) ∙ iterated_root_zero L e)
    coefficient-part_terms (t ∷ ts) all {b} B =
        by (same a (residue_by q t.0)) refl (coefficient-part_terms ts (All-tail (λ t. IsExponents t.0) t ts all) B)
        ∙ ap (iterated_root F e) (sym (coefficient-from_entries_cons t ts (plus (times q b) a)))
      where
        q : ℕ
        q = F.characteristic ^ e

        x : List ℕ
        x = plus (times (F.characteristic ^ e) b) a

        rest : List (List ℕ × ℕ)
        rest = part_terms F e a ts

        choose : (s : Bool) (c d : ℕ) → cond s (iterated_root F e c) (iterated_root F e d) ≡ iterated_root F e (cond s c d)
        choose true c d = refl
        choose false c d = refl

        by : (s : Bool) → same a (residue_by (F.characteristic ^ e) t.0) ≡ s
            → coefficient (from_entries rest) b ≡ iterated_root F e (coefficient (from_entries ts) x)
            → coefficient (from_entries (if s then (quotient_by (F.characteristic ^ e) t.0, iterated_root F e t.1) ∷ rest else rest)) b ≡ iterated_root F e (cond (same x t.0) t.1 (coefficient (from_entries ts) x))
        by true s rec =
            coefficient-from_entries_cons (quotient_by (F.characteristic ^ e) t.0, iterated_root F e t.1) rest b
            ∙ ap₂ (λ u c. cond u (iterated_root F e t.1) c) (sym (same_split b t.0 A B below (All-head (λ t. IsExponents t.0) t ts all) s)) rec
            ∙ choose (same x t.0) t.1 (coefficient (from_entries ts) x)
        by false s rec = rec ∙ ap (λ u. iterated_root F e (cond u t.1 (coefficient (from_entries ts) x))) (sym (same_split_not b t.0 A B below s))

    -- The residue of a term whose part is listed is not missed.
    pub part_terms_nonzero : (ts : List (List ℕ × ℕ)) → All (IsTerm F) ts → (t : List ℕ × ℕ) → coefficient (from_entries ts) t.0 ≡ t.1 → IsTerm F t
        → residue_by (F.characteristic ^ e) t.0 ≡ a → from_entries {R = slice_cmp nat_cmp} (part_terms F e a ts) ≢ empty
    part_terms_nonzero ts all t c B r z =
        let q : ℕ = F.characteristic ^ e in
        let b : List ℕ = quotient_by q t.0 in
        let positive = iterated_root_positive L e t.1 B.nonzero B.below in
        let value =
        sym (ap (λ f. coefficient f b) z ∙ coefficient-empty b)
        ∙ coefficient-part_terms ts (All-weaker (IsTerm F) (λ t. IsExponents t.0) (λ t D. D.exponents) ts all) (IsExponents-quotient_by q B.exponents)
        ∙ ap (iterated_root F e) (ap (coefficient (from_entries ts)) (ap (plus (times q b)) (sym r) ∙ quotient-residue q t.0 (power_positive L e)) ∙ c) in
        absurd (omega arith)

  -- The list of parts of the polynomial of a list of terms: the parts have the terms' roots, and each term's residue is listed.
  pub IsParts-from_part_terms : (ts : List (List ℕ × ℕ)) → All (IsTerm F) ts → (parts : List Part)
      → All (λ part. IsExponents part.residue) parts
      → All (λ part. All (λ k. k < F.characteristic ^ e) part.residue) parts
      → IsRising lex_key (residues_of parts)
      → All (λ part. part.polynomial ≡ from_entries (part_terms F e part.residue ts)) parts
      → All (λ part. part.polynomial ≢ empty) parts
      → All (λ t. list_any (same (residue_by (F.characteristic ^ e) t.0)) (residues_of parts) ≡ true) ts
      → IsParts F (F.characteristic ^ e) (from_entries ts) parts
  IsParts-from_part_terms ts all parts residues below rising each nonzero covered =
      record { whole = whole_from_parts L e H parts G roots listed; residues = residues; below = below; rising = rising; polynomials = G.polynomials; nonzero = nonzero }
    where
      H : IsPolynomial F (from_entries ts)
      H = IsPolynomial-from_entries ts all

      G : IsFamily F (F.characteristic ^ e) parts
      G = record {
        residues = residues;
        below = below;
        distinct = Distinct-from_Rises (residues_of parts) (Rises-from_IsRising (residues_of parts) (All-map IsExponents (λ part. part.residue) parts residues) rising);
        polynomials = λ k d h. subst (IsPolynomial F) (sym (each k d h)) (IsPolynomial-from_entries _ (IsTerm-part_terms _ ts all));
      }

      roots : All (λ part. (b : List ℕ) → IsExponents b → field.power F (coefficient part.polynomial b) (F.characteristic ^ e) ≡ coefficient (from_entries ts) (plus (times (F.characteristic ^ e) b) part.residue)) parts
      roots k d h b B =
          ap (λ c. field.power F c (F.characteristic ^ e)) (ap (λ f. coefficient f b) (each k d h) ∙ coefficient-part_terms (residues k d h) (below k d h) ts (All-weaker (IsTerm F) (λ t. IsExponents t.0) (λ t D. D.exponents) ts all) B)
          ∙ power-iterated_root L e _ (coefficient_below H (zero_below L) _)

      listed : (m : List ℕ) → IsExponents m → 0 < coefficient (from_entries ts) m
          → list_any (same (residue_by (F.characteristic ^ e) m)) (residues_of parts) ≡ true
      listed m M p =
          find_All (λ t. list_any (same (residue_by (F.characteristic ^ e) t.0)) (residues_of parts) ≡ true) ts m (coefficient (from_entries ts) m) covered
          (sym (get-from_entries nat_list_cmp_total ts m) ∙ get-coefficient (from_entries ts) m p)
