-- Where a fraction of (0, 1] lies among the candidates.
use Rattle.std.proofs.Common.{◌≡◌, ℕ, ◌+◌, ◌*◌, ◌<◌, ◌≤◌, List, [], ◌∷◌, All, Any, refl, sym, ap, ◌∙◌, add-one, arith, inl, inr, ◌⊎◌, lit<}
use Rattle.std.specs.Ordering.{ordering_reverse}
use Rattle.std.specs.declared.cmp.Ordering.{Ordering}
use Rattle.std.specs.declared.cmp.Ordering.TheVariants.{Less, Equal, Greater}
use Rattle.std.proofs.lemmas.List.Elements.{All-nil, All-cons, All-head, All-tail, All-weaker, All-contains, recursion_from_All}
use Rattle.std.specs.List.{AllByRecursion}
use Rattle.std.specs.List.Sorted.{IsStrictlySortedBy}
use Rattle.std.proofs.Math.Nat.{mul-le-mul_left}
use Rattle.fj_theory.specs.Fraction.{Fraction, SameValue, IsInUnitInterval, compare}
use Rattle.fj_theory.specs.Candidates.{IsCandidate, AreCandidates, Gap, IsInside, neighbours, gaps}
use Rattle.fj_theory.proofs.Fraction.{SameValue-from_compare, compare-IsTotalOrder, compare-less, less_from_compare}
use Rattle.fj_theory.proofs.Candidates.{IsCandidate-one, IsInUnitInterval-from_candidate}

Any-cons : {X : Type 0} (P : X → Type 0) (x : X) (xs : List X) → Any P xs → Any P (x ∷ xs)
Any-cons P x xs h = (h.0 + 1, h.1, omega (arith, h.2), rw add-one h.3, h.4)

located_by : (t s x : Fraction) (ts : List Fraction) (r : Ordering) → r ≡ compare t x → compare s t ≡ Less
    → (compare x t ≡ Less → Any (SameValue t) ts ⊎ (Any (IsInside t) (neighbours x ts) ⊎ All (λ u. compare u t ≡ Less) ts))
    → Any (SameValue t) (x ∷ ts) ⊎ (Any (IsInside t) (neighbours s (x ∷ ts)) ⊎ All (λ u. compare u t ≡ Less) (x ∷ ts))
unfolding neighbours
located_by t s x ts Less e above later = inr (inl (0, record { lower = s; upper = x }, omega arith, refl, record { above = above; below = sym e }))
located_by t s x ts Equal e above later = inl (0, x, omega arith, refl, SameValue-from_compare t x (sym e))
located_by t s x ts Greater e above later =
    let under : compare x t ≡ Less = compare-IsTotalOrder.antisymm x t ∙ ap ordering_reverse (sym e) in
    elim (later under) [
      | inl same ↦ inl (Any-cons (SameValue t) x ts same)
      | inr (inl inside) ↦ inr (inl (Any-cons (IsInside t) (record { lower = s; upper = x }) (neighbours x ts) inside))
      | inr (inr all) ↦ inr (inr (All-cons (λ u. compare u t ≡ Less) x ts under all))
    ]

located : (t s : Fraction) (ts : List Fraction) → compare s t ≡ Less
    → Any (SameValue t) ts ⊎ (Any (IsInside t) (neighbours s ts) ⊎ All (λ u. compare u t ≡ Less) ts)
located t s [] above = inr (inr (All-nil (λ u. compare u t ≡ Less)))
located t s (x ∷ ts) above = located_by t s x ts (compare t x) refl above (λ under. located t x ts under)

-- A fraction of (0, 1] is a candidate or lies strictly inside a gap.
pub candidate_or_inside : (p E : ℕ) (ts : List Fraction) (t : Fraction) → 1 < p → 1 ≤ E → AreCandidates p E ts → IsInUnitInterval t
    → Any (SameValue t) ts ⊎ Any (IsInside t) (gaps ts)
unfolding gaps
candidate_or_inside p E ts t large some h unit =
    let zero_fraction : Fraction = record { numerator = 0; denominator = 1; positive = lit< tt } in
    let one : Fraction = record { numerator = 1; denominator = 1; positive = lit< tt } in
    let found : Any (SameValue one) ts = h.complete one (IsCandidate-one p E one large some refl) in
    elim (located t zero_fraction ts (compare-less zero_fraction t (omega (arith, unit.above_zero)))) [
      | inl same ↦ inl same
      | inr (inl inside) ↦ inr inside
      | inr (inr all) ↦
          let less = less_from_compare found.1 t (All-contains (λ u. compare u t ≡ Less) ts found.1 all (found.0, found.2, found.3)) in
          let same : found.1.denominator ≡ found.1.numerator = omega (arith, found.4) in
          let at_most : found.1.denominator * t.numerator ≤ found.1.denominator * t.denominator = mul-le-mul_left found.1.denominator unit.at_most_one in
          absurd (omega (arith, ap (λ n. n * t.denominator) same))
    ]

-- The ends of a gap: 0 or a candidate, and a greater candidate.
pub record HasEnds (p E : ℕ) (gap : Gap) : Type 0 where
  pub lower : (gap.lower.numerator ≡ 0) ⊎ IsCandidate p E gap.lower
  pub upper : IsCandidate p E gap.upper
  pub rising : compare gap.lower gap.upper ≡ Less

neighbours_ends : (p E : ℕ) (s : Fraction) (ts : List Fraction) → (s.numerator ≡ 0) ⊎ IsCandidate p E s → All (IsCandidate p E) ts
    → AllByRecursion (λ t. compare s t ≡ Less) ts → IsStrictlySortedBy compare ts → All (HasEnds p E) (neighbours s ts)
unfolding neighbours IsStrictlySortedBy
neighbours_ends p E s [] start all below rising = All-nil (HasEnds p E)
neighbours_ends p E s (t ∷ ts) start all below rising =
    let here : IsCandidate p E t = All-head (IsCandidate p E) t ts all in
    All-cons (HasEnds p E) (record { lower = s; upper = t }) (neighbours t ts) (record { lower = start; upper = here; rising = below.0 })
    (neighbours_ends p E t ts (inr here) (All-tail (IsCandidate p E) t ts all) rising.0 rising.1)

pub gaps_ends : (p E : ℕ) (ts : List Fraction) → 0 < p → AreCandidates p E ts → All (HasEnds p E) (gaps ts)
unfolding gaps
gaps_ends p E ts positive h =
    let zero_fraction : Fraction = record { numerator = 0; denominator = 1; positive = lit< tt } in
    neighbours_ends p E zero_fraction ts (inl refl) h.sound
    (recursion_from_All (λ t. compare zero_fraction t ≡ Less) ts
    (All-weaker (IsCandidate p E) (λ t. compare zero_fraction t ≡ Less) (λ t candidate. compare-less zero_fraction t (omega (arith, (IsInUnitInterval-from_candidate p E t positive candidate).above_zero))) ts h.sound))
    h.rising
