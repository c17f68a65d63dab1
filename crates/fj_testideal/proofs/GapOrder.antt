-- The order of the gaps of a rising list, and of its members.
use Rattle.std.proofs.Common.{◌≡◌, ◌⊎◌, inl, inr, List, [], ◌∷◌, Contains, sym, ap, ◌∙◌, subst, arith}
use Rattle.std.specs.declared.cmp.Ordering.TheVariants.{Less}
use Rattle.std.specs.List.{AllByRecursion}
use Rattle.std.specs.List.Sorted.{IsStrictlySortedBy}
use Rattle.std.proofs.lemmas.List.Elements.{All-contains, All-from_recursion}
use Rattle.fj_algebra.proofs.Pairs.{contains_cons, contains_head, contains_tail, contains_nil}
use Rattle.fj_theory.specs.Fraction.{IsAtMost, Fraction, compare}
use Rattle.fj_theory.specs.Candidates.{Gap, neighbours}
use Rattle.fj_testideal.proofs.ConstantInside.{at_most_from_less}

-- The ends of a gap among the members of the list.
pub lower_end : (s : Fraction) (ts : List Fraction) (gap : Gap) → Contains (neighbours s ts) gap → (s ≡ gap.lower) ⊎ Contains ts gap.lower
unfolding neighbours
lower_end s [] gap c = absurd (contains_nil gap c)
lower_end s (t ∷ ts) gap c = elim (contains_cons (record { lower = s; upper = t }) (neighbours t ts) gap c) [
  | inl e ↦ inl (ap (λ g. g.lower) e)
  | inr d ↦ inr (elim (lower_end t ts gap d) [ inl e ↦ subst (Contains (t ∷ ts)) e (contains_head t ts) | inr h ↦ contains_tail t ts gap.lower h ])
]

pub upper_end : (s : Fraction) (ts : List Fraction) (gap : Gap) → Contains (neighbours s ts) gap → Contains ts gap.upper
unfolding neighbours
upper_end s [] gap c = absurd (contains_nil gap c)
upper_end s (t ∷ ts) gap c = elim (contains_cons (record { lower = s; upper = t }) (neighbours t ts) gap c) [
  | inl e ↦ subst (Contains (t ∷ ts)) (ap (λ g. g.upper) e) (contains_head t ts)
  | inr d ↦ contains_tail t ts gap.upper (upper_end t ts gap d)
]

-- The first member of a rising list is at most each gap after it, and each later member.
module _ (t : Fraction) (ts : List Fraction) (rising : IsStrictlySortedBy compare (t ∷ ts)) where
  first_least : (v : Fraction) → (t ≡ v) ⊎ Contains ts v → IsAtMost t v
  unfolding IsStrictlySortedBy
  first_least v (inl e) = subst (IsAtMost t) e (omega arith)
  first_least v (inr c) = at_most_from_less t v (All-contains (λ u. compare t u ≡ Less) ts v (All-from_recursion (λ u. compare t u ≡ Less) ts rising.0) c)

  rest_rises : IsStrictlySortedBy compare ts
  unfolding IsStrictlySortedBy
  rest_rises = rising.1

-- A member of the list is at most the lower end of a gap, or at least the upper end.
pub outside_gap : (s : Fraction) (ts : List Fraction) → IsStrictlySortedBy compare ts → (gap : Gap) → Contains (neighbours s ts) gap → (v : Fraction) → Contains ts v
    → IsAtMost v gap.lower ⊎ IsAtMost gap.upper v
unfolding neighbours
outside_gap s [] rising gap c v d = absurd (contains_nil v d)
outside_gap s (t ∷ ts) rising gap c v d = go (contains_cons (record { lower = s; upper = t }) (neighbours t ts) gap c) (contains_cons t ts v d)
    (λ k. outside_gap t ts (rest_rises t ts rising) gap k v)
  where
    go : (record { lower = s; upper = t } ≡ gap) ⊎ Contains (neighbours t ts) gap → (t ≡ v) ⊎ Contains ts v
        → (Contains (neighbours t ts) gap → Contains ts v → IsAtMost v gap.lower ⊎ IsAtMost gap.upper v) → IsAtMost v gap.lower ⊎ IsAtMost gap.upper v
    go (inl e) h later = inr (subst (λ u. IsAtMost u v) (ap (λ g. g.upper) e) (first_least t ts rising v h))
    go (inr k) (inl e) later = inl (subst (λ u. IsAtMost u gap.lower) e (first_least t ts rising gap.lower (lower_end t ts gap k)))
    go (inr k) (inr h) later = later k h

-- Of two gaps one lies before the other, or they are one.
pub gaps_apart : (s : Fraction) (ts : List Fraction) → IsStrictlySortedBy compare ts → (g h : Gap) → Contains (neighbours s ts) g → Contains (neighbours s ts) h
    → (g ≡ h) ⊎ (IsAtMost g.upper h.lower ⊎ IsAtMost h.upper g.lower)
unfolding neighbours
gaps_apart s [] rising g h c d = absurd (contains_nil g c)
gaps_apart s (t ∷ ts) rising g h c d =
    go (contains_cons (record { lower = s; upper = t }) (neighbours t ts) g c) (contains_cons (record { lower = s; upper = t }) (neighbours t ts) h d)
    (gaps_apart t ts (rest_rises t ts rising) g h)
  where
    after : (g : Gap) → Contains (neighbours t ts) g → IsAtMost t g.lower
    after g k = first_least t ts rising g.lower (lower_end t ts g k)

    go : (record { lower = s; upper = t } ≡ g) ⊎ Contains (neighbours t ts) g → (record { lower = s; upper = t } ≡ h) ⊎ Contains (neighbours t ts) h
        → (Contains (neighbours t ts) g → Contains (neighbours t ts) h → (g ≡ h) ⊎ (IsAtMost g.upper h.lower ⊎ IsAtMost h.upper g.lower))
        → (g ≡ h) ⊎ (IsAtMost g.upper h.lower ⊎ IsAtMost h.upper g.lower)
    go (inl e) (inl f) later = inl (sym e ∙ f)
    go (inl e) (inr k) later = inr (inl (subst (λ u. IsAtMost u h.lower) (ap (λ g. g.upper) e) (after h k)))
    go (inr k) (inl f) later = inr (inr (subst (λ u. IsAtMost u g.lower) (ap (λ g. g.upper) f) (after g k)))
    go (inr k) (inr m) later = later k m

-- Each member of the list is the upper end of a gap.
pub gap_below : (s : Fraction) (ts : List Fraction) (v : Fraction) → Contains ts v → (gap : Gap) × Contains (neighbours s ts) gap × (gap.upper ≡ v)
unfolding neighbours
gap_below s [] v c = absurd (contains_nil v c)
gap_below s (t ∷ ts) v c = elim (contains_cons t ts v c) [
  | inl e ↦ (record { lower = s; upper = t }, contains_head (record { lower = s; upper = t }) (neighbours t ts), e)
  | inr d ↦ (let found = gap_below t ts v d in (found.0, contains_tail (record { lower = s; upper = t }) (neighbours t ts) found.0 found.1, found.2))
]

-- The lower end of a gap is below the upper end.
pub gap_rises : (s : Fraction) (ts : List Fraction) → AllByRecursion (λ t. compare s t ≡ Less) ts → IsStrictlySortedBy compare ts → (gap : Gap) → Contains (neighbours s ts) gap
    → compare gap.lower gap.upper ≡ Less
unfolding neighbours IsStrictlySortedBy
gap_rises s [] below rising gap c = absurd (contains_nil gap c)
gap_rises s (t ∷ ts) below rising gap c = elim (contains_cons (record { lower = s; upper = t }) (neighbours t ts) gap c) [
  | inl e ↦ subst (λ g. compare g.lower g.upper ≡ Less) e below.0
  | inr d ↦ gap_rises t ts rising.0 rising.1 gap d
]
