-- The list of candidates as it is made: rows of fractions with one denominator each, then a sort and a removal of repeats.
use Rattle.std.proofs.Common.{◌≡◌, ℕ, suc, ◌+◌, ◌-◌, ◌*◌, ◌^◌, ◌<◌, ◌≤◌, List, [], ◌∷◌, ◌++◌, All, Any, Contains, refl, sym, ap, ◌∙◌, subst, arith, inl, inr, true, append_assoc, append-nil}
use Rattle.std.specs.Cmp.{eq_by_cmp_equiv, Equal-is}
use Rattle.std.specs.Ordering.{eq_by_cmp}
use Rattle.std.specs.List.{dedup}
use Rattle.std.specs.List.Sorted.{IsSorted, IsPermutation}
use Rattle.std.proofs.lemmas.Bool.{cases_lt}
use Rattle.std.proofs.lemmas.List.Elements.{All-nil, All-push, All-append, All-weaker, Contains-append_left, Contains-append_right}
use Rattle.std.proofs.lemmas.List.Filters.{All-dedup}
use Rattle.std.proofs.lemmas.List.Kept.{Any-dedup, IsStrictlySortedBy-dedup}
use Rattle.std.proofs.lemmas.List.Quantifiers.{Any-push}
use Rattle.std.proofs.lemmas.List.Sorted.{All-permutation, Contains-permutation}
use Rattle.std.proofs.Math.Nat.{one-le-pow, pow-suc, pow-le-pow_right, mul-le-mul_left, eq_of_mul-eq-mul_right}
use Rattle.fj_theory.specs.Fraction.{Fraction, SameValue, compare}
use Rattle.fj_theory.specs.Candidates.{IsCandidate, AreCandidates}
use Rattle.fj_theory.proofs.Fraction.{compare-IsTotalOrder, SameValue-from_compare, SameValue-trans}
use Rattle.fj_theory.proofs.Candidates.{IsMultiple, IsCandidate-from_row, row_from_IsCandidate}
use Rattle.fj_ratio.specs.Lowest.{IsLowestForm}
use Rattle.fj_ratio.specs.Multiples.{IsQuotient, AddsMultiples}

Any-append_left : {X : Type 0} (P : X → Type 0) (xs ys : List X) → Any P xs → Any P (xs ++ ys)
Any-append_left P xs ys h = let at = Contains-append_left xs ys h.1 (h.0, h.2, h.3) in (at.0, h.1, at.1, at.2, h.4)

Any-append_right : {X : Type 0} (P : X → Type 0) (xs ys : List X) → Any P ys → Any P (xs ++ ys)
Any-append_right P xs ys h = let at = Contains-append_right xs ys h.1 (h.0, h.2, h.3) in (at.0, h.1, at.1, at.2, h.4)

Any-weaker : {X : Type 0} (P Q : X → Type 0) → ((x : X) → P x → Q x) → (xs : List X) → Any P xs → Any Q xs
Any-weaker P Q weaker xs h = (h.0, h.1, h.2, h.3, weaker h.1 h.4)

-- No fraction yet.
pub AddsMultiples-first : (d : ℕ) (old : List Fraction) → AddsMultiples d 1 old old
AddsMultiples-first d old = record {
  added = [];
  appended = sym (append-nil old);
  sound = All-nil (IsMultiple d);
  complete = λ k some below. absurd (omega arith);
}

-- One more fraction.
pub AddsMultiples-more : (d m : ℕ) (old new : List Fraction) (t : Fraction) → 0 < m → m ≤ d → AddsMultiples d m old new → IsLowestForm m d t
    → AddsMultiples d (m + 1) old (new ++ t ∷ [])
AddsMultiples-more d m old new t some at_most h form = record {
  added = h.added ++ t ∷ [];
  appended = ap (λ xs. xs ++ t ∷ []) h.appended ∙ append_assoc old h.added (t ∷ []);
  sound = All-push (IsMultiple d) h.added t h.sound (record { numerator = m; above_zero = some; at_most_one = at_most; value = form.value });
  complete = λ k positive below. elim (cases_lt k m) [
    | inl before ↦ Any-append_left (IsQuotient k d) h.added (t ∷ []) (h.complete k positive before)
    | inr last ↦ let same : m ≡ k = omega arith in Any-push (IsQuotient k d) h.added t (subst (λ n. IsQuotient n d t) same form.value)
  ];
}

-- The powers of p below p^e.
pub record IsPowerBelow (p e c : ℕ) : Type 0 where
  pub positive : 0 < p ^ c
  pub below : p ^ c < p ^ e
  pub next : p ^ c * p ≤ p ^ e

pub power_below : (p e c : ℕ) → 1 < p → c < e → IsPowerBelow p e c
power_below p e c large below =
    let some : 0 < p ^ c = one-le-pow c p (omega arith) in
    let next : p ^ suc c ≤ p ^ e = pow-le-pow_right {n = p} (omega arith) below in
    let twice : p ^ c * 2 ≤ p ^ c * p = mul-le-mul_left (p ^ c) large in
    let step : p ^ suc c ≡ p ^ c * p = pow-suc p c in
    record { positive = some; below = omega arith; next = omega arith }

-- The list has candidates alone, and those of the first c rows.
pub record HasRows (p e c : ℕ) (list : List Fraction) : Type 0 where
  pub sound : All (IsCandidate p e) list
  pub complete : (i : ℕ) (t : Fraction) → i < c → IsMultiple (p ^ e - p ^ i) t → Any (SameValue t) list

pub HasRows-none : (p e : ℕ) → HasRows p e 0 []
HasRows-none p e = record { sound = All-nil (IsCandidate p e); complete = λ i t below _. absurd (omega arith) }

same_from_quotients : (k d : ℕ) (s t : Fraction) → 0 < d → IsQuotient k d s → IsQuotient k d t → SameValue s t
same_from_quotients k d s t positive first second =
    eq_of_mul-eq-mul_right d positive (s.numerator * t.denominator) (t.numerator * s.denominator)
    (omega (arith, ap (λ n. n * t.denominator) first, ap (λ n. n * s.denominator) second))

-- One more row.
pub HasRows-more : (p e c : ℕ) (old new : List Fraction) → 1 < p → c < e → HasRows p e c old → AddsMultiples (p ^ e - p ^ c) (p ^ e - p ^ c + 1) old new
    → HasRows p e (c + 1) new
HasRows-more p e c old new large below h adds =
    let row = power_below p e c large below in
    record {
      sound = rw adds.appended (All-append (IsCandidate p e) old adds.added h.sound (All-weaker (IsMultiple (p ^ e - p ^ c)) (IsCandidate p e) (λ t. IsCandidate-from_row p e c t (omega arith) below) adds.added adds.sound));
      complete = λ i t before multiple. rw adds.appended (elim (cases_lt i c) [
        | inl earlier ↦ Any-append_left (SameValue t) old adds.added (h.complete i t earlier multiple)
        | inr last ↦
            let same : i ≡ c = omega arith in
            let here : IsMultiple (p ^ e - p ^ c) t = subst (λ j. IsMultiple (p ^ e - p ^ j) t) same multiple in
            Any-append_right (SameValue t) old adds.added (Any-weaker (IsQuotient here.numerator (p ^ e - p ^ c)) (SameValue t) (λ s quotient. same_from_quotients here.numerator (p ^ e - p ^ c) t s (omega (arith, row.below)) here.value quotient) adds.added (adds.complete here.numerator here.above_zero (omega (arith, here.at_most_one))))
      ]);
    }

-- All rows, sorted and without repeats, are the candidates.
pub AreCandidates-from_rows : (p e : ℕ) (list sorted : List Fraction) → 1 < p → HasRows p e e list → IsPermutation list sorted → IsSorted compare sorted
    → AreCandidates p e (dedup (eq_by_cmp compare) sorted)
AreCandidates-from_rows p e list sorted large h moved rises =
    record {
      sound = All-dedup (eq_by_cmp compare) (IsCandidate p e) sorted (All-permutation (IsCandidate p e) list sorted moved h.sound);
      complete = λ t candidate.
          let row = row_from_IsCandidate p e t (omega arith) candidate in
          let found : Any (SameValue t) list = h.complete row.0 t row.1 row.2 in
          let at : Contains sorted found.1 = Contains-permutation list sorted found.1 moved (found.0, found.2, found.3) in
          Any-weaker (λ s. eq_by_cmp compare found.1 s ≡ true) (SameValue t) (λ s tied. SameValue-trans t found.1 s found.4 (SameValue-from_compare found.1 s ((Equal-is (compare found.1 s)).0 tied)))
          (dedup (eq_by_cmp compare) sorted) (Any-dedup (eq_by_cmp_equiv compare-IsTotalOrder) sorted found.1 at);
      rising = IsStrictlySortedBy-dedup compare-IsTotalOrder (λ s t. refl) sorted rises;
    }
