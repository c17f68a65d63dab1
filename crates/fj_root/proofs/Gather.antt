-- Gathering the terms of a polynomial by the residues of their monomials: one term more, and what has come together.
use Rattle.std.proofs.Common.{◌≡◌, ◌≢◌, ℕ, ◌+◌, ◌<◌, ◌^◌, List, [], ◌∷◌, ◌++◌, length, take, drop, get_or, slice_get, All, Option, None, Some, Bool, true, false, refl, sym, ap, ◌∙◌, subst, arith}
use Rattle.std.proofs.lemmas.List.{take_more, length_push, get_or_append_left, get_or_push}
use Rattle.std.proofs.lemmas.List.Elements.{All-take}
use Rattle.std.proofs.lemmas.Option.{get_or_from_slice_get}
use Rattle.std.proofs.lemmas.Bool.{true≢false, cond-true, cond-false}
use Rattle.std.proofs.Math.ListN.{take-append-drop}
use Rattle.std.specs.declared.cmp.Ordering.TheVariants.{Greater}
use Rattle.fj_coeff.specs.Field.{Field, IsField}
use Rattle.fj_theory.specs.Exponents.{IsExponents, plus, times, quotient_by, residue_by}
use Rattle.fj_theory.specs.MonomialOrder.{IsMonomialOrder, compare_by}
use Rattle.fj_theory.specs.Polynomial.{Polynomial, IsTerm, IsFalling}
use Rattle.fj_theory.specs.Parts.{part_terms, iterated_root}
use Rattle.fj_theory.proofs.FormalSum.{same, same_true, same_itself}
use Rattle.fj_theory.proofs.Residues.{residue_by-plus, quotient_by-plus}
use Rattle.fj_theory.proofs.PartsExistence.{part_terms_push, IsFalling-part_terms}
use Rattle.fj_mono.specs.Monomial.{Monomial, same_monomial}
use Rattle.fj_poly.proofs.Falling.{falling-front, falling-places}
use Rattle.fj_root.specs.Groups.{IsGroup, optional_terms}

-- What is gathered has these terms.
pub optional_terms-IsGroup : (F : Field) (key : List ℕ → List ℕ) (o : Option Polynomial) (ts : List (List ℕ × ℕ)) → IsGroup F key o ts → optional_terms key o ≡ ts
optional_terms-IsGroup F key None ts h = sym h
optional_terms-IsGroup F key (Some p) ts h = h.1

pub part_terms-nil : (F : Field) (e : ℕ) (a : List ℕ) → part_terms F e a [] ≡ []
unfolding part_terms
part_terms-nil F e a = refl

-- The last of a falling list is below the others.
above_last : (key : List ℕ → List ℕ) (us : List (List ℕ × ℕ)) (u : List ℕ × ℕ) → IsFalling key (us ++ u ∷ []) → All (λ t. compare_by key t.0 u.0 ≡ Greater) us
above_last key us u falls k d below =
    subst (λ t. compare_by key t.0 u.0 ≡ Greater) (get_or_append_left us (u ∷ []) d k below)
    (subst (λ t. compare_by key (get_or (us ++ u ∷ []) k d).0 t.0 ≡ Greater) (get_or_push us u d (length us) refl)
    (falling-places key (us ++ u ∷ []) falls k (length us) d below (omega (arith, length_push us u))))

-- A front of a falling list falls.
falling-take : (key : List ℕ → List ℕ) (ts : List (List ℕ × ℕ)) (i : ℕ) → IsFalling key ts → IsFalling key (take i ts)
falling-take key ts i falls = falling-front key (take i ts) (drop i ts) (subst (IsFalling key) (sym (take-append-drop i ts)) falls)

module _ {F : Field} (L : IsField F) {key : List ℕ → List ℕ} (O : IsMonomialOrder key) (e : ℕ) (ts : List (List ℕ × ℕ)) (falls : IsFalling key ts) (exponents : All (λ t. IsExponents t.0) ts) where
  -- One term more comes to the part of its residue, and to no other.
  more_same : (a : List ℕ) (i : ℕ) (d : List ℕ × ℕ) → i < length ts → same a (residue_by (F.characteristic ^ e) (get_or ts i d).0) ≡ true
      → part_terms F e a (take (i + 1) ts) ≡ part_terms F e a (take i ts) ++ (quotient_by (F.characteristic ^ e) (get_or ts i d).0, iterated_root F e (get_or ts i d).1) ∷ []
  more_same a i d below s = ap (part_terms F e a) (take_more ts i d below) ∙ part_terms_push F e a (take i ts) (get_or ts i d) ∙ cond-true _ _ _ s

  more_other : (a : List ℕ) (i : ℕ) (d : List ℕ × ℕ) → i < length ts → same a (residue_by (F.characteristic ^ e) (get_or ts i d).0) ≡ false
      → part_terms F e a (take (i + 1) ts) ≡ part_terms F e a (take i ts)
  more_other a i d below s = ap (part_terms F e a) (take_more ts i d below) ∙ part_terms_push F e a (take i ts) (get_or ts i d) ∙ cond-false _ _ _ s

  -- The next term of a part is below those that are there.
  pub next_below : (a : Monomial) (o : Option Polynomial) (i : ℕ) (d : List ℕ × ℕ) → i < length ts → a.exponents ≡ residue_by (F.characteristic ^ e) (get_or ts i d).0
      → IsGroup F key o (part_terms F e a.exponents (take i ts))
      → All (λ t. compare_by key t.0 (quotient_by (F.characteristic ^ e) (get_or ts i d).0) ≡ Greater) (optional_terms key o)
  next_below a o i d below at group =
      let s : same a.exponents (residue_by (F.characteristic ^ e) (get_or ts i d).0) ≡ true = ap (same a.exponents) (sym at) ∙ same_itself a.exponents in
      let whole : IsFalling key (part_terms F e a.exponents (take (i + 1) ts)) = IsFalling-part_terms O L e a.exponents (take (i + 1) ts) (All-take (λ t. IsExponents t.0) (i + 1) ts exponents) (falling-take key ts (i + 1) falls) in
      subst (All (λ t. compare_by key t.0 (quotient_by (F.characteristic ^ e) (get_or ts i d).0) ≡ Greater)) (sym (optional_terms-IsGroup F key o _ group))
      (above_last key (part_terms F e a.exponents (take i ts)) _ (subst (IsFalling key) (more_same a.exponents i d below s) whole))

  -- What is gathered after one term more.
  pub gathered_more : (a residue : Monomial) (old new : Option Polynomial) (i : ℕ) (d : List ℕ × ℕ) → i < length ts
      → residue.exponents ≡ residue_by (F.characteristic ^ e) (get_or ts i d).0
      → IsGroup F key old (part_terms F e a.exponents (take i ts))
      → (a ≡ residue → IsGroup F key new (optional_terms key old ++ (quotient_by (F.characteristic ^ e) (get_or ts i d).0, iterated_root F e (get_or ts i d).1) ∷ []))
      → (a ≢ residue → new ≡ old)
      → IsGroup F key new (part_terms F e a.exponents (take (i + 1) ts))
  gathered_more a residue old new i d below at group there others = by (same a.exponents residue.exponents) refl
    where
      by : (b : Bool) → same a.exponents residue.exponents ≡ b → IsGroup F key new (part_terms F e a.exponents (take (i + 1) ts))
      by true s =
          let is : a ≡ residue = same_monomial a residue (same_true a.exponents residue.exponents s) in
          subst (IsGroup F key new) (ap (λ us. us ++ (quotient_by (F.characteristic ^ e) (get_or ts i d).0, iterated_root F e (get_or ts i d).1) ∷ []) (optional_terms-IsGroup F key old (part_terms F e a.exponents (take i ts)) group) ∙ sym (more_same a.exponents i d below (ap (same a.exponents) (sym at) ∙ s))) (there is)
      by false s =
          let apart : a ≢ residue = λ is. true≢false (sym (same_itself residue.exponents) ∙ ap (λ m. same m.exponents residue.exponents) (sym is) ∙ s) in
          subst (IsGroup F key new) (sym (more_other a.exponents i d below (ap (same a.exponents) (sym at) ∙ s))) (subst (λ o. IsGroup F key o (part_terms F e a.exponents (take i ts))) (sym (others apart)) group)

-- A monomial that is split has these exponents as its quotient and its residue.
pub residue-split : (q : ℕ) (m b a : List ℕ) → IsExponents b → IsExponents a → All (λ k. k < q) a → m ≡ plus (times q b) a → a ≡ residue_by q m
residue-split q m b a B A below whole = sym (ap (residue_by q) whole ∙ residue_by-plus q B A below)

pub quotient-split : (q : ℕ) (m b a : List ℕ) → IsExponents b → IsExponents a → All (λ k. k < q) a → m ≡ plus (times q b) a → b ≡ quotient_by q m
quotient-split q m b a B A below whole = sym (ap (quotient_by q) whole ∙ quotient_by-plus q B A below)

-- Nothing is gathered in an empty map.
pub nothing_gathered : (F : Field) (key : List ℕ → List ℕ) (o : Option Polynomial) (ts : List (List ℕ × ℕ)) → o ≡ None → ts ≡ [] → IsGroup F key o ts
nothing_gathered F key o ts e none = subst (λ o. IsGroup F key o ts) (sym e) none

-- The term at a place of a list of terms, split into its quotient and its residue.
pub record IsSplitAt (F : Field) (e : ℕ) (ts : List (List ℕ × ℕ)) (i : ℕ) (t : List ℕ × ℕ) (b a : List ℕ) : Type 0 where
  pub within : i < length ts
  pub term : get_or ts i t ≡ t
  pub is_term : IsTerm F t
  pub residue : a ≡ residue_by (F.characteristic ^ e) t.0
  pub quotient : b ≡ quotient_by (F.characteristic ^ e) t.0

pub is_split_at : {F : Field} {e : ℕ} {ts : List (List ℕ × ℕ)} {i : ℕ} {t : List ℕ × ℕ} (b a : Monomial) → All (IsTerm F) ts → i < length ts → slice_get ts i ≡ Some t
    → t.0 ≡ plus (times (F.characteristic ^ e) b.exponents) a.exponents → All (λ k. k < F.characteristic ^ e) a.exponents
    → IsSplitAt F e ts i t b.exponents a.exponents
is_split_at {F} {e} {ts} {i} {t} b a terms within found whole below =
    let term : get_or ts i t ≡ t = get_or_from_slice_get ts i t t found in
    record {
      within = within;
      term = term;
      is_term = subst (IsTerm F) term (terms i t within);
      residue = residue-split (F.characteristic ^ e) t.0 b.exponents a.exponents (record { eight = b.eight }) (record { eight = a.eight }) below whole;
      quotient = quotient-split (F.characteristic ^ e) t.0 b.exponents a.exponents (record { eight = b.eight }) (record { eight = a.eight }) below whole;
    }

module _ {F : Field} (L : IsField F) {key : List ℕ → List ℕ} (O : IsMonomialOrder key) {e : ℕ} {ts : List (List ℕ × ℕ)} (falls : IsFalling key ts) (exponents : All (λ t. IsExponents t.0) ts) {i : ℕ} {t : List ℕ × ℕ} {b : List ℕ} where
  -- The quotient of the next term is below the terms that are gathered at its residue.
  pub split_below : (residue : Monomial) (o : Option Polynomial) → IsSplitAt F e ts i t b residue.exponents → IsGroup F key o (part_terms F e residue.exponents (take i ts))
      → All (λ u. compare_by key u.0 b ≡ Greater) (optional_terms key o)
  split_below residue o at group =
      let here : quotient_by (F.characteristic ^ e) (get_or ts i t).0 ≡ b = ap (λ u. quotient_by (F.characteristic ^ e) u.0) at.term ∙ sym at.quotient in
      subst (λ x. All (λ u. compare_by key u.0 x ≡ Greater) (optional_terms key o)) here
      (next_below L O e ts falls exponents residue o i t at.within (at.residue ∙ ap (λ u. residue_by (F.characteristic ^ e) u.0) (sym at.term)) group)

  -- What is gathered after it.
  pub split_gathered : (a residue : Monomial) (old new : Option Polynomial) → IsSplitAt F e ts i t b residue.exponents
      → IsGroup F key old (part_terms F e a.exponents (take i ts))
      → (a ≡ residue → IsGroup F key new (optional_terms key old ++ (b, iterated_root F e t.1) ∷ []))
      → (a ≢ residue → new ≡ old)
      → IsGroup F key new (part_terms F e a.exponents (take (i + 1) ts))
  split_gathered a residue old new at group there others =
      let pushed : (quotient_by (F.characteristic ^ e) (get_or ts i t).0, iterated_root F e (get_or ts i t).1) ≡ (b, iterated_root F e t.1) =
      ap (λ u. (quotient_by (F.characteristic ^ e) u.0, iterated_root F e u.1)) at.term ∙ ap (λ x. (x, iterated_root F e t.1)) (sym at.quotient) in
      gathered_more L O e ts falls exponents a residue old new i t at.within (at.residue ∙ ap (λ u. residue_by (F.characteristic ^ e) u.0) (sym at.term)) group
      (λ is. subst (λ u. IsGroup F key new (optional_terms key old ++ u ∷ [])) (sym pushed) (there is)) others
