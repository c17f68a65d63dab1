-- Members of lists of exponent lists, and polynomials whose exponent lists are all in a list.
use Rattle.std.proofs.Common.{◌≡◌, ℕ, suc, ◌+◌, ◌<◌, ◌≤◌, Bool, true, false, cond, eqb, List, [], ◌∷◌, ◌++◌, length, map, All, nat_cmp, ◌⊎◌, inl, inr, refl, sym, ap, ◌∙◌, subst, arith, ⊎_elim, eq-zero-or-pos}
use Rattle.std.specs.Cmp.Lexicographic.{slice_cmp}
use Rattle.std.specs.FinMap.{contains_key, insert, len, len-empty, len-insert}
use Rattle.std.specs.List.{list_any}
use Rattle.std.proofs.lemmas.Bool.{true≢false}
use Rattle.std.proofs.lemmas.Cmp.{nat_list_cmp_total}
use Rattle.std.proofs.lemmas.List.Elements.{All-nil, All-cons, All-head, All-tail, All-weaker}
use Rattle.fj_coeff.specs.Field.{Field, IsField}
use Rattle.fj_theory.specs.Exponents.{IsExponents, plus}
use Rattle.fj_theory.specs.Polynomial.{Polynomial, IsPolynomial, coefficient, support, with_coefficients}
use Rattle.fj_theory.proofs.Field.{zero_below}
use Rattle.fj_theory.proofs.FormalSum.{same, same_itself}
use Rattle.fj_theory.proofs.Polynomial.{All_same, IsPolynomial-with_coefficients, coefficient-with_coefficients, coefficient_below, polynomial_equal, support_listed}
use Rattle.fj_text.proofs.Values.{or_true}

-- The list has this member.
unfoldable pub Has : List (List ℕ) → List ℕ → Type 0
Has [] b = ⊥
Has (x ∷ xs) b = (x ≡ b) ⊎ Has xs b

pub has_left : (xs ys : List (List ℕ)) (b : List ℕ) → Has xs b → Has (xs ++ ys) b
unfolding Has
has_left [] ys b h = absurd h
has_left (x ∷ xs) ys b (inl e) = inl e
has_left (x ∷ xs) ys b (inr h) = inr (has_left xs ys b h)

pub has_right : (xs ys : List (List ℕ)) (b : List ℕ) → Has ys b → Has (xs ++ ys) b
unfolding Has
has_right [] ys b h = h
has_right (x ∷ xs) ys b h = inr (has_right xs ys b h)

pub has_either : (xs ys : List (List ℕ)) (b : List ℕ) → Has (xs ++ ys) b → Has xs b ⊎ Has ys b
unfolding Has
has_either [] ys b h = inr h
has_either (x ∷ xs) ys b (inl e) = inl (inl e)
has_either (x ∷ xs) ys b (inr h) = ⊎_elim (λ l. inl (inr l)) (λ r. inr r) (has_either xs ys b h)

pub has_mapped : (f : List ℕ → List ℕ) (xs : List (List ℕ)) (b : List ℕ) → Has xs b → Has (map f xs) (f b)
unfolding Has
has_mapped f [] b h = absurd h
has_mapped f (x ∷ xs) b (inl e) = inl (ap f e)
has_mapped f (x ∷ xs) b (inr h) = inr (has_mapped f xs b h)

pub moved_from : (a : List ℕ) (xs : List (List ℕ)) (b : List ℕ) → Has (map (plus a) xs) b → (c : List ℕ) × Has xs c × (plus a c ≡ b)
unfolding Has
moved_from a [] b h = absurd h
moved_from a (x ∷ xs) b (inl e) = (x, inl refl, e)
moved_from a (x ∷ xs) b (inr h) = let c = moved_from a xs b h in (c.0, inr c.1, c.2)

-- What holds of all members holds of each.
pub has_all : (P : List ℕ → Type 0) (xs : List (List ℕ)) (b : List ℕ) → All P xs → Has xs b → P b
unfolding Has
has_all P [] b all h = absurd h
has_all P (x ∷ xs) b all (inl e) = subst P e (All-head P x xs all)
has_all P (x ∷ xs) b all (inr h) = has_all P xs b (All-tail P x xs all) h

has_listed : (xs : List (List ℕ)) (b : List ℕ) → Has xs b → list_any (same b) xs ≡ true
unfolding Has
has_listed [] b h = absurd h
has_listed (x ∷ xs) b (inl e) = rw (ap (same b) e ∙ same_itself b) refl
has_listed (x ∷ xs) b (inr h) = rw (has_listed xs b h) (or_true (same b x))

pub own_members : (us : List (List ℕ)) → All (Has us) us
unfolding Has
own_members [] = All-nil (Has [])
own_members (a ∷ us) = All-cons (Has (a ∷ us)) a us (inl refl) (All-weaker (Has us) (Has (a ∷ us)) (λ b h. inr h) us (own_members us))

-- No more terms than exponent lists that are named.
len_made : (c : List ℕ → ℕ) (es : List (List ℕ)) → len (with_coefficients c es) ≤ length es
unfolding with_coefficients
len_made c [] = let none = len-empty (slice_cmp nat_cmp) ℕ in omega arith
len_made c (a ∷ es) = by (eqb (c a) 0) (len_made c es)
  where
    rest : Polynomial
    rest = with_coefficients c es

    one_more : (b : Bool) → cond b (len rest) (len rest + 1) ≤ len rest + 1
    one_more true = omega arith
    one_more false = omega arith

    by : (b : Bool) → len rest ≤ length es → len (cond b rest (insert rest a (c a))) ≤ suc (length es)
    by true h = omega arith
    by false h = let one = len-insert nat_list_cmp_total rest a (c a) in let more = one_more (contains_key rest a) in omega (arith, one, more)

module _ {F : Field} (L : IsField F) {f : Polynomial} (P : IsPolynomial F f) where
  -- A polynomial whose exponent lists are all in a list has at most as many terms as the list has members.
  pub len_among : (xs : List (List ℕ)) → All IsExponents xs → All (Has xs) (support f) → len f ≤ length xs
  len_among xs exponents among =
      subst (λ g. len g ≤ length xs) (sym same_polynomial) (len_made (coefficient f) xs)
    where
      by : (a : List ℕ) (t : Bool) → list_any (same a) xs ≡ t → (coefficient f a ≡ 0) ⊎ (0 < coefficient f a) → coefficient f a ≡ cond t (coefficient f a) 0
      by a true e c = refl
      by a false e (inl z) = z
      by a false e (inr p) = absurd (true≢false (sym (has_listed xs a (All_same (Has xs) (support f) a among (support_listed f a p))) ∙ e))

      same_polynomial : f ≡ with_coefficients (coefficient f) xs
      same_polynomial =
          polynomial_equal P (IsPolynomial-with_coefficients (coefficient f) xs exponents (λ k d h. coefficient_below P (zero_below L) _))
          (λ a A. by a (list_any (same a) xs) refl (eq-zero-or-pos (coefficient f a)) ∙ sym (coefficient-with_coefficients (coefficient f) a xs))
