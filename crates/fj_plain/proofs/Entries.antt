-- What holds of the terms of a list, as pairs of exponents and rank.
use Rattle.std.proofs.Common.{ℕ, List, [], ◌∷◌, All}
use Rattle.std.proofs.lemmas.List.Elements.{All-nil, All-cons, All-head, All-tail, All-map}
use Rattle.fj_plain.specs.declared.term.PlainTerm.{PlainTerm}
use Rattle.fj_plain.specs.Terms.{entry, entries}

module _ (P : List ℕ × ℕ → Type 0) where
  pub All-entries : (ts : List PlainTerm) → All (λ t. P (entry t)) ts → All P (entries ts)
  All-entries ts all = All-map P entry ts all

  pub All-entries_back : (ts : List PlainTerm) → All P (entries ts) → All (λ t. P (entry t)) ts
  All-entries_back [] all = All-nil (λ t. P (entry t))
  All-entries_back (t ∷ ts) all = All-cons (λ u. P (entry u)) t ts (All-head P (entry t) (entries ts) all) (All-entries_back ts (All-tail P (entry t) (entries ts) all))
