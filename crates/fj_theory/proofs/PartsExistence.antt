-- Each polynomial has a list of parts, and the terms of a part fall where the polynomial's do.
use Rattle.std.proofs.Common.{◌≡◌, ℕ, ◌^◌, ◌<◌, Bool, true, false, cond, if◌then◌else◌, List, [], ◌∷◌, ◌++◌, map, get_or, All, nat_cmp, Greater, refl, sym, ap, ap₂, ◌∙◌, subst, ◌≢◌, arith}
use Rattle.std.specs.Cmp.Lexicographic.{slice_cmp}
use Rattle.std.specs.List.{list_any}
use Rattle.std.specs.FinMap.{empty, entries, from_entries}
use Rattle.std.proofs.lemmas.Cmp.{eq_by_cmp_equiv, nat_list_cmp_total}
use Rattle.std.proofs.lemmas.Map.Made.{All-is_member}
use Rattle.std.proofs.lemmas.List.Elements.{All-nil, All-cons, All-head, All-tail, All-map, All-weaker}
use Rattle.fj_coeff.specs.Field.{Field, IsField}
use Rattle.fj_theory.specs.Exponents.{IsExponents, plus, times, quotient_by, residue_by}
use Rattle.fj_theory.specs.MonomialOrder.{compare_by, IsMonomialOrder, IsRising, lex_key}
use Rattle.fj_theory.specs.Polynomial.{Polynomial, IsPolynomial, IsFalling, coefficient, support, with_coefficients}
use Rattle.fj_theory.specs.Parts.{Part, IsParts}
use Rattle.fj_theory.specs.PartTerms.{part_terms, iterated_root}
use Rattle.fj_theory.proofs.Product.{entries_coefficients}
use Rattle.fj_theory.proofs.PartsList.{part_terms_nonzero, IsParts-from_part_terms}
use Rattle.fj_theory.proofs.Polynomial.{support-with_coefficients, coefficient-with_coefficients, support_listed}
use Rattle.fj_theory.proofs.Parts.{residues_of}
use Rattle.fj_theory.proofs.Exponents.{IsExponents-times}
use Rattle.fj_theory.proofs.MonomialOrder.{compare_by-plus, compare_by-times}
use Rattle.fj_theory.proofs.Residues.{IsExponents-quotient_by, quotient-residue, IsExponents-residue_by, residue_by-below, IsRising-from_Rises, Rises-support}
use Rattle.fj_theory.proofs.Frobenius.{power_positive}
use Rattle.fj_theory.proofs.FormalSum.{same, same_true}
use Rattle.fj_theory.proofs.Terms.{Falls, Falls-from_IsFalling, IsFalling-from_Falls, IsTerm-entries, from_entries-entries, IsFalling-last}

-- A term at the end of the list comes to the end of its part.
pub part_terms_push : (F : Field) (e : ℕ) (a : List ℕ) (ts : List (List ℕ × ℕ)) (t : List ℕ × ℕ)
    → part_terms F e a (ts ++ t ∷ []) ≡ (if same a (residue_by (F.characteristic ^ e) t.0) then part_terms F e a ts ++ (quotient_by (F.characteristic ^ e) t.0, iterated_root F e t.1) ∷ [] else part_terms F e a ts)
unfolding part_terms
part_terms_push F e a [] t = refl
part_terms_push F e a (u ∷ ts) t = ap (λ r. if same a (residue_by (F.characteristic ^ e) u.0) then (quotient_by (F.characteristic ^ e) u.0, iterated_root F e u.1) ∷ r else r) (part_terms_push F e a ts t)
    ∙ by (same a (residue_by (F.characteristic ^ e) u.0)) (same a (residue_by (F.characteristic ^ e) t.0)) _ _
  where
    rest : List (List ℕ × ℕ)
    rest = part_terms F e a ts

    by : (s r : Bool) (v w : List ℕ × ℕ)
        → (if s then v ∷ (if r then rest ++ w ∷ [] else rest) else (if r then rest ++ w ∷ [] else rest)) ≡ (if r then (if s then v ∷ rest else rest) ++ w ∷ [] else (if s then v ∷ rest else rest))
    by true true v w = refl
    by true false v w = refl
    by false true v w = refl
    by false false v w = refl

module _ {key : List ℕ → List ℕ} (O : IsMonomialOrder key) {F : Field} (L : IsField F) (e : ℕ) (a : List ℕ) where
  greater_quotient : {x y : List ℕ} → IsExponents x → IsExponents y → same a (residue_by (F.characteristic ^ e) x) ≡ true
      → same a (residue_by (F.characteristic ^ e) y) ≡ true
      → compare_by key (quotient_by (F.characteristic ^ e) x) (quotient_by (F.characteristic ^ e) y) ≡ compare_by key x y
  greater_quotient {x} {y} X Y s r =
      let q : ℕ = F.characteristic ^ e in
      let h = power_positive L e in
      let U = IsExponents-quotient_by q X in
      let V = IsExponents-quotient_by q Y in
      sym (ap₂ (compare_by key) (sym (quotient-residue q x h)) (sym (quotient-residue q y h) ∙ ap (plus (times q (quotient_by q y))) (sym (same_true a _ r) ∙ same_true a _ s))
      ∙ compare_by-plus O (IsExponents-times q U) (IsExponents-times q V) (IsExponents-residue_by q X) ∙ compare_by-times O q h U V)

  above_part_terms : {x : List ℕ} → IsExponents x → same a (residue_by (F.characteristic ^ e) x) ≡ true → (ts : List (List ℕ × ℕ))
      → All (λ t. IsExponents t.0) ts
      → All (λ u. compare_by key x u.0 ≡ Greater) ts → All (λ u. compare_by key (quotient_by (F.characteristic ^ e) x) u.0 ≡ Greater) (part_terms F e a ts)
  unfolding part_terms
  above_part_terms {x} X s [] all above = All-nil (λ u. compare_by key (quotient_by (F.characteristic ^ e) x) u.0 ≡ Greater)
  above_part_terms {x} X s (t ∷ ts) all above =
      by (same a (residue_by (F.characteristic ^ e) t.0)) refl (above_part_terms X s ts (All-tail (λ t. IsExponents t.0) t ts all) (All-tail (λ u. compare_by key x u.0 ≡ Greater) t ts above))
    where
      by : (r : Bool) → same a (residue_by (F.characteristic ^ e) t.0) ≡ r
          → All (λ u. compare_by key (quotient_by (F.characteristic ^ e) x) u.0 ≡ Greater) (part_terms F e a ts)
          → All (λ u. compare_by key (quotient_by (F.characteristic ^ e) x) u.0 ≡ Greater) (if r then (quotient_by (F.characteristic ^ e) t.0, iterated_root F e t.1) ∷ part_terms F e a ts else part_terms F e a ts)
      by true r rest =
          All-cons (λ u. compare_by key (quotient_by (F.characteristic ^ e) x) u.0 ≡ Greater) (quotient_by (F.characteristic ^ e) t.0, iterated_root F e t.1) (part_terms F e a ts)
          (greater_quotient X (All-head (λ t. IsExponents t.0) t ts all) s r ∙ All-head (λ u. compare_by key x u.0 ≡ Greater) t ts above) rest
      by false r rest = rest

  Falls-part_terms : (ts : List (List ℕ × ℕ)) → All (λ t. IsExponents t.0) ts → Falls key ts → Falls key (part_terms F e a ts)
  unfolding part_terms
  Falls-part_terms [] all h = tt
  Falls-part_terms (t ∷ ts) all h = by (same a (residue_by (F.characteristic ^ e) t.0)) refl (Falls-part_terms ts later h.1)
    where
      later : All (λ t. IsExponents t.0) ts
      later = All-tail (λ t. IsExponents t.0) t ts all

      by : (r : Bool) → same a (residue_by (F.characteristic ^ e) t.0) ≡ r → Falls key (part_terms F e a ts)
          → Falls key (if r then (quotient_by (F.characteristic ^ e) t.0, iterated_root F e t.1) ∷ part_terms F e a ts else part_terms F e a ts)
      by true r rest = (above_part_terms (All-head (λ t. IsExponents t.0) t ts all) r ts later h.0, rest)
      by false r rest = rest

  -- The terms of a part fall in the order in which the polynomial's terms do.
  pub IsFalling-part_terms : (ts : List (List ℕ × ℕ)) → All (λ t. IsExponents t.0) ts → IsFalling key ts → IsFalling key (part_terms F e a ts)
  IsFalling-part_terms ts all h = IsFalling-from_Falls key (part_terms F e a ts) (Falls-part_terms ts all (Falls-from_IsFalling key ts h))

  -- The last term of the list, where it is in the part, is below the part's other terms.
  pub part_terms-last : (ts : List (List ℕ × ℕ)) (t : List ℕ × ℕ) → All (λ u. IsExponents u.0) (ts ++ t ∷ []) → IsFalling key (ts ++ t ∷ [])
      → same a (residue_by (F.characteristic ^ e) t.0) ≡ true → All (λ u. compare_by key u.0 (quotient_by (F.characteristic ^ e) t.0) ≡ Greater) (part_terms F e a ts)
  part_terms-last ts t all h s =
      let b : List ℕ × ℕ = (quotient_by (F.characteristic ^ e) t.0, iterated_root F e t.1) in
      IsFalling-last key (part_terms F e a ts) b
      (subst (IsFalling key) (part_terms_push F e a ts t ∙ ap (λ r. if r then part_terms F e a ts ++ b ∷ [] else part_terms F e a ts) s)
      (IsFalling-part_terms (ts ++ t ∷ []) all h))

-- The list of parts: the residues of the terms in Lex, each with the terms of its part.
unfoldable pub parts_of : Field → ℕ → Polynomial → List Part
parts_of F e h =
    map (λ a. record { residue = a; polynomial = from_entries (part_terms F e a (entries h)) }) (support (with_coefficients (λ _. 1) (map (λ t. residue_by (F.characteristic ^ e) t.0) (entries h))))

pub residues_of-map : (f : List ℕ → Polynomial) (rs : List (List ℕ)) → residues_of (map (λ a. record { residue = a; polynomial = f a }) rs) ≡ rs
residues_of-map f [] = refl
residues_of-map f (a ∷ rs) = ap (λ ss. a ∷ ss) (residues_of-map f rs)

All_from_map : {X : Type 0} (P : List ℕ → Type 0) (f : X → List ℕ) (xs : List X) → All P (map f xs) → All (λ x. P (f x)) xs
All_from_map P f [] all = All-nil (λ x. P (f x))
All_from_map P f (x ∷ xs) all = All-cons (λ y. P (f y)) x xs (All-head P (f x) (map f xs) all) (All_from_map P f xs (All-tail P (f x) (map f xs) all))

module _ {F : Field} (L : IsField F) (e : ℕ) {h : Polynomial} (H : IsPolynomial F h) where
  -- the residues of the terms, and the same without repetition
  term_residues : List (List ℕ)
  term_residues = map (λ t. residue_by (F.characteristic ^ e) t.0) (entries h)

  residues : List (List ℕ)
  residues = support (with_coefficients (λ _. 1) (map (λ t. residue_by (F.characteristic ^ e) t.0) (entries h)))

  of_residues : (P : List ℕ → Type 0) → All (λ t. P (residue_by (F.characteristic ^ e) t.0)) (entries h) → All P residues
  unfolding residues
  of_residues P all = support-with_coefficients (λ _. 1) P _ (All-map P (λ t. residue_by (F.characteristic ^ e) t.0) (entries h) all)

  residues_exponents : All IsExponents residues
  residues_exponents = of_residues IsExponents (λ k d g. IsExponents-residue_by (F.characteristic ^ e) (IsTerm-entries H k d g).exponents)

  residues_below : All (λ a. All (λ k. k < F.characteristic ^ e) a) residues
  residues_below = of_residues (λ a. All (λ k. k < F.characteristic ^ e) a) (λ k d g. residue_by-below (F.characteristic ^ e) _ (power_positive L e))

  residues_nonzero : All (λ a. from_entries {R = slice_cmp nat_cmp} (part_terms F e a (entries h)) ≢ empty) residues
  residues_nonzero = of_residues (λ a. from_entries {R = slice_cmp nat_cmp} (part_terms F e a (entries h)) ≢ empty)
      (λ k d g. let B = IsTerm-entries H k d g in
      part_terms_nonzero L e (IsExponents-residue_by (F.characteristic ^ e) B.exponents) (residue_by-below (F.characteristic ^ e) _ (power_positive L e)) (entries h) (IsTerm-entries H)
      (get_or (entries h) k d) (ap (λ f. coefficient f (get_or (entries h) k d).0) (from_entries-entries h) ∙ entries_coefficients h k d g) B refl)

  residues_listed : All (λ t. list_any (same (residue_by (F.characteristic ^ e) t.0)) residues ≡ true) (entries h)
  unfolding residues term_residues
  residues_listed = All_from_map (λ a. list_any (same a) residues ≡ true) (λ t. residue_by (F.characteristic ^ e) t.0) (entries h)
      (All-weaker (λ a. list_any (same a) term_residues ≡ true) (λ a. list_any (same a) residues ≡ true)
      (λ a t. let c = coefficient-with_coefficients (λ _. 1) a term_residues ∙ ap (λ s. cond s 1 0) t in support_listed (with_coefficients (λ _. 1) term_residues) a (omega arith))
      term_residues (All-is_member (eq_by_cmp_equiv nat_list_cmp_total) term_residues))

  -- Each polynomial has parts.
  pub IsParts-parts_of : IsParts F (F.characteristic ^ e) h (parts_of F e h)
  unfolding parts_of residues term_residues
  IsParts-parts_of =
      let f : List ℕ → Polynomial = λ a. from_entries (part_terms F e a (entries h)) in
      let make : List ℕ → Part = λ a. record { residue = a; polynomial = f a } in
      let own : residues_of (parts_of F e h) ≡ residues = residues_of-map f residues in
      subst (λ g. IsParts F (F.characteristic ^ e) g (parts_of F e h)) (from_entries-entries h)
      (IsParts-from_part_terms L e (entries h) (IsTerm-entries H) (parts_of F e h)
      (All-map (λ part. IsExponents part.residue) make residues residues_exponents)
      (All-map (λ part. All (λ k. k < F.characteristic ^ e) part.residue) make residues residues_below)
      (subst (IsRising lex_key) (sym own) (IsRising-from_Rises residues residues_exponents (Rises-support (with_coefficients (λ _. 1) term_residues))))
      (All-map (λ part. part.polynomial ≡ from_entries (part_terms F e part.residue (entries h))) make residues (λ k d g. refl))
      (All-map (λ part. part.polynomial ≢ empty) make residues residues_nonzero)
      (subst (λ rs. All (λ t. list_any (same (residue_by (F.characteristic ^ e) t.0)) rs ≡ true) (entries h)) (sym own) residues_listed))
