-- What is gathered from all terms of a polynomial is the list of its parts.
use Rattle.std.proofs.Common.{◌≡◌, ◌≢◌, ℕ, ◌<◌, ◌≤◌, ◌^◌, List, [], ◌∷◌, get_or, map, sum, All, Option, None, Some, Bool, true, false, ◌||◌, ◌%◌, refl, sym, ap, ◌∙◌, subst, arith, cond}
use Rattle.std.specs.BTreeMap.{BTreeMap, IsOrdered, get, is_at}
use Rattle.std.specs.Map.{lookup}
use Rattle.std.specs.List.{list_any}
use Rattle.std.specs.List.Sorted.{IsStrictlySortedBy}
use Rattle.std.specs.FinMap.{empty, from_entries, len-empty}
use Rattle.std.specs.Cmp.Lexicographic.{slice_cmp}
use Rattle.std.specs.Ordering.{nat_cmp}
use Rattle.std.proofs.lemmas.Cmp.{nat_list_cmp_total, on_total}
use Rattle.std.proofs.Math.Nat.{mod-le}
use Rattle.std.proofs.lemmas.List.{nil_from_length}
use Rattle.std.proofs.lemmas.List.Elements.{All-map}
use Rattle.std.proofs.lemmas.Option.{slice_get-get_or, none-some}
use Rattle.std.proofs.lemmas.Map.Entries.{btree_map_get_place}
use Rattle.fj_coeff.specs.Field.{Field, IsField}
use Rattle.fj_theory.specs.Exponents.{IsExponents, quotient_by, residue_by}
use Rattle.fj_theory.specs.MonomialOrder.{IsMonomialOrder, IsRising, lex_key}
use Rattle.fj_theory.specs.Polynomial.{Polynomial, IsPolynomial, IsTerm, terms_falling, coefficient}
use Rattle.fj_theory.specs.Parts.{Part, IsParts, part_terms, iterated_root}
use Rattle.fj_theory.proofs.Exponents.{total-cons}
use Rattle.fj_theory.proofs.FormalSum.{same, same_true}
use Rattle.fj_theory.proofs.Frobenius.{power_positive}
use Rattle.fj_theory.proofs.Residues.{compare_by-lex_key, residue_by-below, IsExponents-residue_by}
use Rattle.fj_theory.proofs.Parts.{residues_of}
use Rattle.fj_theory.proofs.PartsList.{part_terms_nonzero, IsParts-from_part_terms}
use Rattle.fj_theory.proofs.Terms.{IsTerm-terms_falling, from_entries-terms_falling, length-terms_falling, terms_falling-IsFalling, falling_coefficients}
use Rattle.fj_theory.proofs.Polynomial.{IsPolynomial-empty}
use Rattle.fj_mono.specs.Monomial.{Monomial}
use Rattle.fj_root.specs.Groups.{IsGroup, lex, gathered_parts}

-- the part that an entry of the map is
abbrev as_part : Monomial × Polynomial → Part
as_part group = record { residue = group.0.exponents; polynomial = group.1 }

rising_keys : (es : List (Monomial × Polynomial)) → IsStrictlySortedBy lex (map (λ e. e.0) es) → IsRising lex_key (residues_of (map as_part es))
unfolding IsStrictlySortedBy
rising_keys [] h = tt
rising_keys (a ∷ []) h = tt
rising_keys (a ∷ b ∷ es) h = (compare_by-lex_key (record { eight = a.0.eight }) (record { eight = b.0.eight }) ∙ h.0.0, rising_keys (b ∷ es) h.1)

-- A residue that is looked up with success is listed.
listed : (a : Monomial) (p : Polynomial) (es : List (Monomial × Polynomial)) → lookup (is_at (lex a)) es ≡ Some p → list_any (same a.exponents) (residues_of (map as_part es)) ≡ true
listed a p [] found = absurd (none-some p found)
listed a p (e ∷ es) found = by (same a.exponents e.0.exponents) found (listed a p es)
  where
    by : (b : Bool) → cond b (Some e.1) (lookup (is_at (lex a)) es) ≡ Some p → (lookup (is_at (lex a)) es ≡ Some p → list_any (same a.exponents) (residues_of (map as_part es)) ≡ true)
        → (b || list_any (same a.exponents) (residues_of (map as_part es))) ≡ true
    by true found rest = refl
    by false found rest = rest found

-- A part that has a term is at a residue.
residue_of_some : {F : Field} (L : IsField F) (e : ℕ) (a : List ℕ) (ts : List (List ℕ × ℕ)) → part_terms F e a ts ≢ [] → All (λ k. k < F.characteristic ^ e) a
unfolding part_terms
residue_of_some L e a [] some = absurd (some refl)
residue_of_some {F} L e a (t ∷ ts) some = by (same a (residue_by (F.characteristic ^ e) t.0)) refl some (residue_of_some L e a ts)
  where
    by : (b : Bool) → same a (residue_by (F.characteristic ^ e) t.0) ≡ b → cond b ((quotient_by (F.characteristic ^ e) t.0, iterated_root F e t.1) ∷ part_terms F e a ts) (part_terms F e a ts) ≢ [] → (part_terms F e a ts ≢ [] → All (λ k. k < F.characteristic ^ e) a)
        → All (λ k. k < F.characteristic ^ e) a
    by true s some rest = subst (All (λ k. k < F.characteristic ^ e)) (sym (same_true a _ s)) (residue_by-below (F.characteristic ^ e) t.0 (power_positive L e))
    by false s some rest = rest some

-- A residue's total is at most the monomial's.
total-residue_by : (q : ℕ) (a : List ℕ) → 0 < q → sum (residue_by q a) ≤ sum a
unfolding residue_by
total-residue_by q [] positive = omega arith
total-residue_by q (x ∷ a) positive = omega (arith, mod-le x q, total-residue_by q a positive, total-cons x a, total-cons (x % q) (residue_by q a))

module _ {F : Field} (L : IsField F) {key : List ℕ → List ℕ} (O : IsMonomialOrder key) (e : ℕ) {h : Polynomial} (H : IsPolynomial F h)
    (bounded : All (λ t. sum t.0 ≤ 2 ^ 40) (terms_falling key h)) (groups : BTreeMap Monomial Polynomial) (ordered : IsOrdered lex groups)
    (gathered : (a : Monomial) → IsGroup F key (get lex groups a) (part_terms F e a.exponents (terms_falling key h))) where
  ts : List (List ℕ × ℕ)
  ts = terms_falling key h

  terms : All (IsTerm F) (terms_falling key h)
  terms = IsTerm-terms_falling key H

  -- what the entry at a place holds
  group_at : All (λ group. IsGroup F key (Some group.1) (part_terms F e group.0.exponents (terms_falling key h))) groups.entries
  group_at k d below =
      subst (λ o. IsGroup F key o (part_terms F e (get_or groups.entries k d).0.exponents (terms_falling key h)))
      (btree_map_get_place (on_total (λ (m : Monomial). m.exponents) nat_list_cmp_total) groups k (get_or groups.entries k d).0 (get_or groups.entries k d).1 ordered (slice_get-get_or groups.entries k d below))
      (gathered (get_or groups.entries k d).0)

  covered : All (λ t. list_any (same (residue_by (F.characteristic ^ e) t.0)) (residues_of (gathered_parts groups)) ≡ true) (terms_falling key h)
  covered k d below =
      let t : List ℕ × ℕ = get_or (terms_falling key h) k d in
      let T : IsTerm F t = terms k d below in
      let q : ℕ = F.characteristic ^ e in
      let R : IsExponents (residue_by q t.0) = IsExponents-residue_by q T.exponents in
      let a : Monomial = record { exponents = residue_by q t.0; eight = R.eight; bounded = omega (arith, bounded k d below, total-residue_by q t.0 (power_positive L e)) } in
      let at : coefficient (from_entries (terms_falling key h)) t.0 ≡ t.1 = falling_coefficients O (terms_falling key h) (terms_falling-IsFalling O H) k d below in
      let some : from_entries {R = slice_cmp nat_cmp} (part_terms F e (residue_by q t.0) (terms_falling key h)) ≢ empty =
      part_terms_nonzero L e R (residue_by-below q t.0 (power_positive L e)) (terms_falling key h) terms t at T refl in
      by a (get lex groups a) refl (gathered a) (λ none. some (ap (from_entries {R = slice_cmp nat_cmp}) none))
    where
      by : (a : Monomial) (o : Option Polynomial) → get lex groups a ≡ o → IsGroup F key o (part_terms F e a.exponents (terms_falling key h)) → part_terms F e a.exponents (terms_falling key h) ≢ []
          → list_any (same a.exponents) (residues_of (gathered_parts groups)) ≡ true
      by a None found group some = absurd (some group)
      by a (Some p) found group some = listed a p groups.entries found

  -- The entries of the map are the parts.
  pub IsParts-gathered_parts : IsParts F (F.characteristic ^ e) h (gathered_parts groups)
  IsParts-gathered_parts =
      subst (λ f. IsParts F (F.characteristic ^ e) f (gathered_parts groups)) (from_entries-terms_falling O H)
      (IsParts-from_part_terms L e (terms_falling key h) terms (gathered_parts groups)
      (All-map (λ part. IsExponents part.residue) as_part groups.entries (λ k d below. record { eight = (get_or groups.entries k d).0.eight }))
      (All-map (λ part. All (λ j. j < F.characteristic ^ e) part.residue) as_part groups.entries (λ k d below. residue_of_some L e _ (terms_falling key h) (group_at k d below).2))
      (rising_keys groups.entries ordered)
      (All-map (λ part. part.polynomial ≡ from_entries (part_terms F e part.residue (terms_falling key h))) as_part groups.entries
      (λ k d below. let group = group_at k d below in sym (from_entries-terms_falling O group.0) ∙ ap from_entries group.1))
      (All-map (λ part. part.polynomial ≢ empty) as_part groups.entries
      (λ k d below zero. let group = group_at k d below in group.2 (sym group.1 ∙ ap (terms_falling key) zero ∙ terms_falling-empty)))
      covered)
    where
      terms_falling-empty : terms_falling key empty ≡ []
      terms_falling-empty = nil_from_length _ (length-terms_falling O (IsPolynomial-empty F) ∙ len-empty (slice_cmp nat_cmp) ℕ)
