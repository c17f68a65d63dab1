-- Lists in which no two elements are related, read from the front and as terms.
use Rattle.std.proofs.Common.{◌≡◌, ◌≢◌, ℕ, suc, ◌+◌, ◌<◌, ◌≤◌, ◌^◌, sum, List, [], ◌∷◌, ◌++◌, All, AllPairs, length, length-take, get_or, take, subst, sym, ap, ◌∙◌, arith}
use Rattle.std.proofs.lemmas.List.{take_more, get_or-take}
use Rattle.std.proofs.lemmas.List.Quantifiers.{all_pairs_push}
use Rattle.std.proofs.lemmas.List.Kept.{AllPairs-cons}
use Rattle.std.proofs.lemmas.Option.{slice_get-get_or, get_or_from_slice_get}
use Rattle.fj_theory.specs.Exponents.{IsExponents}
use Rattle.fj_theory.specs.Plain.{IsPlain}
use Rattle.fj_plain.specs.declared.term.PlainTerm.{PlainTerm}
use Rattle.fj_plain.specs.Terms.{entry, entries}
use Rattle.fj_plain.proofs.Entries.{All-entries, All-entries_back}

module _ {X : Type 0} (R : X → X → Type 0) where
  -- One element more, which is related to no earlier one.
  pub pairs_more : (xs : List X) (i : ℕ) (x : X) → i < length xs → x ≡ get_or xs i x → All (λ s. R s x) (take i xs) → AllPairs R (take i xs) → AllPairs R (take (i + 1) xs)
  pairs_more xs i x h is here before = subst (λ ys. AllPairs R ys) (sym (take_more xs i x h ∙ ap (λ y. take i xs ++ y ∷ []) (sym is))) (all_pairs_push R (take i xs) x before here)

  -- The elements before a place, against the one there.
  pub pairs_before : (xs : List X) (i : ℕ) (x : X) → i < length xs → x ≡ get_or xs i x → AllPairs R xs → All (λ s. R s x) (take i xs)
  pairs_before xs i x h is pairs k d l =
      let short : length (take i xs) ≤ i = omega (arith, length-take i xs) in
      let early : k < i = omega arith in
      let same : get_or xs i d ≡ x = get_or_from_slice_get xs i (get_or xs i x) d (slice_get-get_or xs i x h) ∙ sym is in
      subst (λ y. R y x) (sym (get_or-take i xs k d early)) (subst (λ y. R (get_or xs k d) y) same (pairs k i d early h))

-- Exponents that differ, of terms and of their pairs.
pub AllPairs-entries : (ts : List PlainTerm) → AllPairs (λ s t. s.exps ≢ t.exps) ts → AllPairs (λ s t. s.0 ≢ t.0) (entries ts)
AllPairs-entries [] pairs = λ i j d h g. absurd (omega arith)
AllPairs-entries (t ∷ ts) pairs =
    AllPairs-cons (λ (s u : List ℕ × ℕ). s.0 ≢ u.0) (entry t) (entries ts)
    (All-entries (λ u. t.exps ≢ u.0) ts (λ k d h. pairs 0 (suc k) d (omega arith) (omega arith)))
    (AllPairs-entries ts (λ i j d h g. pairs (suc i) (suc j) d (omega arith) (omega arith)))

pub AllPairs-entries_back : (ts : List PlainTerm) → AllPairs (λ s t. s.0 ≢ t.0) (entries ts) → AllPairs (λ s t. s.exps ≢ t.exps) ts
AllPairs-entries_back [] pairs = λ i j d h g. absurd (omega arith)
AllPairs-entries_back (t ∷ ts) pairs =
    AllPairs-cons (λ (s u : PlainTerm). s.exps ≢ u.exps) t ts
    (All-entries_back (λ u. t.exps ≢ u.0) ts (λ k d h. pairs 0 (suc k) d (omega arith) (omega arith)))
    (AllPairs-entries_back ts (λ i j d h g. pairs (suc i) (suc j) d (omega arith) (omega arith)))

-- What is tested of a list of terms is what makes it plain.
module _ (p : ℕ) (ts : List PlainTerm) where
  pub IsPlain-from_tests : All (λ t. (sum t.exps ≤ 2 ^ 41) × (0 < t.rank) × (t.rank < p)) ts → AllPairs (λ s t. s.exps ≢ t.exps) ts → IsPlain (entries ts)
  IsPlain-from_tests tested pairs = record {
    exponents = All-entries (λ t. IsExponents t.0) ts (λ k d h. record { eight = (get_or ts k d).eight });
    bounded = All-entries (λ t. sum t.0 ≤ 2 ^ 41) ts (λ k d h. (tested k d h).0);
    nonzero = All-entries (λ t. 0 < t.1) ts (λ k d h. (tested k d h).1);
    distinct = AllPairs-entries ts pairs;
  }

  pub HasRanksBelow-from_tests : All (λ t. (sum t.exps ≤ 2 ^ 41) × (0 < t.rank) × (t.rank < p)) ts → All (λ t. t.1 < p) (entries ts)
  HasRanksBelow-from_tests tested = All-entries (λ t. t.1 < p) ts (λ k d h. (tested k d h).2)

  pub tests-from_IsPlain : IsPlain (entries ts) → All (λ t. t.rank < p) ts → All (λ t. (sum t.exps ≤ 2 ^ 41) × (0 < t.rank) × (t.rank < p)) ts
  tests-from_IsPlain plain below k d h = (
    All-entries_back (λ t. sum t.0 ≤ 2 ^ 41) ts plain.bounded k d h,
    All-entries_back (λ t. 0 < t.1) ts plain.nonzero k d h,
    below k d h,
  )
